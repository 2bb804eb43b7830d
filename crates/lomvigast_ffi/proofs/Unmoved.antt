-- A refused call leaves every word that it was lent as it was, and every byte: whatever is behind the words and in memory. Assumes nothing.
use Rattle.std.proofs.Common.{◌≡◌, ℕ, List, refl, ap}
use Rattle.guest.specs.Memory.{Memory}
use Rattle.guest.specs.Answers as guest
use Rattle.guest.specs.declared.refusal.Refusal.{Refusal}
use Rattle.std.specs.Prelude.{Result, Ok, Err}
use Rattle.guest.proofs.Tests.{differs}
use Rattle.words.specs.Events.{Given}
use Rattle.event_ring.specs.Ring.{empty, reader_at}
use Rattle.event_ring.specs.Answers.{Moved, ReaderMoved, Take, TakeMoved}
use Rattle.event_ring.proofs.Unchanged.{State, adds, refusal_changes_nothing}
use Rattle.linked_ring.specs.Chase.{number_of}
use Rattle.linked_ring.specs.declared.Chase.{Chase}
use Rattle.lomvigast_ffi.specs.Memory.{trb_words, put_trb}
use Rattle.lomvigast_ffi.specs.Linked as linked
use Rattle.lomvigast_ffi.specs.Rings.{words_of, state_of, ring_after, reader_after, added_from, memory_from, ring_from, take_number, of_event, put_taken, taken_from}

pub read_leaves : (a : Result (List ℕ) Refusal) (ws : List ℕ) → (guest.number_of a ≡ 0 → ⊥) → put_trb a ws ≡ ws
read_leaves (Ok trb) ws h = absurd (h refl)
read_leaves (Err r) ws h = refl

pub chase_leaves : (c : Result Chase Refusal) (ws : List ℕ) → (number_of c ≡ 0 → ⊥) → linked.ring_after c ws ≡ ws
chase_leaves (Ok c) ws h = absurd (h refl)
chase_leaves (Err r) ws h = refl

pub configure_leaves : (x : Moved) (ws : List ℕ) → (x.refusal ≡ 0 → ⊥) → ring_after x ws ≡ ws
configure_leaves x ws h = rw (differs refl h)

pub reader_leaves : (x : ReaderMoved) (ws : List ℕ) → (x.refusal ≡ 0 → ⊥) → reader_after x ws ≡ ws
reader_leaves x ws h = rw (differs refl h)

pub add_leaves : (m : Memory) (ws : List ℕ) (v : Given) (report : ℕ) → ((added_from m (state_of ws) v report).refusal ≡ 0 → ⊥)
    → (ring_from m ws v report ≡ ws) × (memory_from m (state_of ws) v report ≡ m)
add_leaves m ws (Ok e) report h =
    let w : State = record { mem = m; ring = state_of ws; reader = reader_at empty } in
    (rw (differs refl h), ap (λ (x : State). x.mem) (refusal_changes_nothing w (adds e report) h))
add_leaves m ws (Err x) report h = (refl, refl)

-- neither a refusal of a take nor "nothing" changes a word
pub take_leaves : (t : TakeMoved) (reader out : List ℕ) → (take_number t.answer ≡ 0 → ⊥) → (taken_from t reader ≡ reader) × (put_taken t out ≡ out)
take_leaves t reader out h = (by (words_of t.reader.state) reader t.answer h, by (trb_words t.trb) out t.answer h)
  where
    by : (x y : List ℕ) (a : Take) → (take_number a ≡ 0 → ⊥) → of_event a x y ≡ y
    by x y Take.Event n = absurd (n refl)
    by x y Take.Nothing n = refl
    by x y (Take.Refused k) n = refl
