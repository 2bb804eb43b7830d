-- An add and a take in the usual case, by words. Assumes nothing.
use Rattle.std.proofs.Common.{◌≡◌, ℕ, ◌+◌, ◌-◌, ◌%◌, ◌^◌, ◌≤◌, true, eqb, List, [], ◌∷◌, get_or, sym, refl, ap, ◌∙◌, arith}
use Rattle.guest.specs.Judge.{judge}
use Rattle.guest.specs.Memory.{Memory, inside, trb_at, write}
use Rattle.guest.specs.Fields.{dword, low_of, high_of, whole_of}
use Rattle.guest.specs.Answers.{write_memory}
use Rattle.trb.specs.Events.{event_bytes}
use Rattle.event_ring.specs.Ring.{reader_at, take}
use Rattle.event_ring.specs.declared.EventRing.{EventRing}
use Rattle.event_ring.specs.Answers.{TakeMoved}
use Rattle.event_ring.proofs.Along.{along_added, along_nothing, along_taken}
use Rattle.words.specs.Events.{event_in, bytes_from, written}
use Rattle.words.specs.declared.event.CTrb.{CTrb}
use Rattle.words.proofs.Apart.{Accepted, accepted, event_whole}
use Rattle.lomvigast_ffi.specs.Rings.{fields_of, state_of, plain, stepped, added_from, memory_from, ring_from, take_number, taken_from, put_taken}
use Rattle.lomvigast_ffi.proofs.Slots.{fresh_yes, fresh_no}
use Rattle.lomvigast_ffi.proofs.States.{numbers, fields, okay, not_last, step}

module _ (m : Memory) (ws : List ℕ) (h : plain ws ≡ true) (i : inside m (get_or ws 1 0) 16 ≡ true) where
  abbrev w : ℕ → ℕ
  w j = get_or ws j 0

  abbrev s : EventRing
  s = fields_of ws

  cycle_is : eqb (w 6 % 2) 1 ≡ eqb (w 6) 1
  cycle_is = let small : w 6 % 2 ≡ w 6 = omega (arith, (numbers ws h).cycle) in rw small

  -- ---- add

  module _ (es : List ℕ) (report : ℕ) (r : report % 16 ≡ 0) (f : (w 1 + 16) % 2 ^ 64 ≡ report → ⊥) (t : CTrb) (e : t ≡ written (bytes_from (event_in es) (eqb (w 6 % 2) 1))) (a : 2 ^ 8 ≤ t.high) where
    was : Accepted (event_in es) (eqb (w 6 % 2) 1)
    was = accepted es (eqb (w 6 % 2) 1) (rw e at a)

    bytes : whole_of t.low t.high ≡ event_bytes was.event s.cycle
    bytes =
        ap (λ (x : CTrb). whole_of x.low x.high) (e ∙ was.trb)
        ∙ event_whole was.event (eqb (w 6 % 2) 1)
        ∙ ap (event_bytes was.event) cycle_is

    pub usual_add : (after : List ℕ) → after ≡ (write_memory m (w 1) (whole_of t.low t.high)).bytes
        → (0 ≡ (added_from m (state_of ws) (event_in es) report).refusal)
        × (after ≡ (memory_from m (state_of ws) (event_in es) report).bytes)
        × (stepped ((w 1 + 16) % 2 ^ 64) (w 2 - 1) ws ≡ ring_from m ws (event_in es) report)
    unfolding judge
    usual_add after g =
        let q = along_added m s (okay ws h) (not_last ws h) i was.event report was.good r f in
        rw (was.given, fields ws h, q.0, q.1) (refl, (rw i at g) ∙ ap (λ (v : List ℕ). (write m (w 1) v).bytes) bytes, sym (step ws h))

  -- ---- take

  abbrev taken : TakeMoved
  taken = take m (reader_at (state_of ws))

  pub usual_nothing : (dword (trb_at m (w 1)) 3 % 2 ≡ w 6 → ⊥) → (out : List ℕ)
      → (255 ≡ take_number taken.answer) × (ws ≡ taken_from taken ws) × (out ≡ put_taken taken out)
  usual_nothing n out =
      rw (fields ws h, along_nothing m s (okay ws h) (not_last ws h) i (fresh_no (trb_at m (w 1)) (w 6) (numbers ws h).cycle n))
      (refl, refl, refl)

  pub usual_take : dword (trb_at m (w 1)) 3 % 2 ≡ w 6 → (out : List ℕ)
      → (0 ≡ take_number taken.answer)
      × (stepped ((w 1 + 16) % 2 ^ 64) (w 2 - 1) ws ≡ taken_from taken ws)
      × (low_of (trb_at m (w 1)) ∷ high_of (trb_at m (w 1)) ∷ [] ≡ put_taken taken out)
  usual_take y out =
      rw (fields ws h, along_taken m s (okay ws h) (not_last ws h) i (fresh_yes (trb_at m (w 1)) (w 6) y))
      (refl, sym (step ws h), refl)
