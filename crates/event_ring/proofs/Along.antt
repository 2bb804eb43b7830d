-- What an add and a take come to where the segment has a slot after the present one. Assumes nothing.
use Rattle.std.proofs.Common.{◌≡◌, ℕ, ◌+◌, ◌%◌, ◌^◌, true, false, refl, eq-eqb, ne_eqb}
use Rattle.guest.specs.Judge.{judge}
use Rattle.guest.specs.Memory.{Memory, inside, trb_at, write}
use Rattle.trb.specs.Events.{valid, event_bytes}
use Rattle.trb.specs.declared.event.EventTrb.{EventTrb}
use Rattle.event_ring.specs.Ring.{ok_state, last, along, moved_to, next_tests, next_state, added, added_memory, reader_at, fresh_of, nothing_at, taken_at, take}
use Rattle.event_ring.specs.declared.EventRing.{EventRing}

module _ (m : Memory) (s : EventRing) (ok : ok_state s ≡ true) (l : last s ≡ false) (i : inside m s.place 16 ≡ true) where
  pub along_added : (e : EventTrb) (report : ℕ) → valid e ≡ true → report % 16 ≡ 0 → ((s.place + 16) % 2 ^ 64 ≡ report → ⊥)
      → (added m s e report ≡ moved_to (along s)) × (added_memory m s e report ≡ write m s.place (event_bytes e s.cycle))
  unfolding added added_memory next_tests next_state judge
  along_added e report v r f = rw (v, ok, eq-eqb _ _ r, i, l, ne_eqb _ _ f) (refl, refl)

  pub along_nothing : fresh_of m s ≡ false → take m (reader_at s) ≡ nothing_at (reader_at s)
  unfolding take next_tests judge
  along_nothing f = rw (ok, i, f)

  pub along_taken : fresh_of m s ≡ true → take m (reader_at s) ≡ taken_at (trb_at m s.place) (along s)
  unfolding take next_tests next_state judge
  along_taken f = rw (ok, i, f, l)
