-- A refusal changes no byte and no ring, whatever the operation, the memory and the states. Assumes nothing.
use Rattle.std.proofs.Common.{◌≡◌, ℕ, refl, ap}
use Rattle.guest.specs.Judge.{judge}
use Rattle.guest.specs.Memory.{Memory, write}
use Rattle.guest.proofs.Judge.{answer_stops}
use Rattle.trb.specs.Events.{event_bytes}
use Rattle.trb.specs.declared.event.EventTrb.{EventTrb}
use Rattle.event_ring.specs.Ring.{empty, configured, add_tests, next_state, refused_at, moved_to, added, added_memory, reader_at, reader_configured, take, take_tests, take_refused, fresh_of, number_of}
use Rattle.event_ring.specs.Answers.{Moved, TakeMoved}
use Rattle.event_ring.specs.declared.EventRing.{EventRing}
use Rattle.event_ring.specs.declared.EventReader.{EventReader}
use Rattle.event_ring.proofs.Laws.{configured_stops, add_numbered}
use Rattle.event_ring.proofs.Standard.{given, given_number, take_numbered}

-- all that an operation can change
pub record State : Type 0 where
  pub mem : Memory
  pub ring : EventRing
  pub reader : EventReader

pub data Op : Type 0 where
  resets : Op
  configures : ℕ → ℕ → Op
  adds : EventTrb → ℕ → Op
  resets_reader : Op
  configures_reader : ℕ → ℕ → Op
  takes : Op

-- the number that an operation answers, 0 for no refusal
abbrev pub answers : State → Op → ℕ
answers w resets = 0
answers w (configures table entries) = (configured w.mem w.ring table entries).refusal
answers w (adds e report) = (added w.mem w.ring e report).refusal
answers w resets_reader = 0
answers w (configures_reader table entries) = (reader_configured w.mem w.reader table entries).refusal
answers w takes = number_of (take w.mem w.reader).answer

-- and what it leaves
abbrev pub leaves : State → Op → State
leaves w resets = record { mem = w.mem; ring = empty; reader = w.reader }
leaves w (configures table entries) = record { mem = w.mem; ring = (configured w.mem w.ring table entries).ring; reader = w.reader }
leaves w (adds e report) =
    record { mem = added_memory w.mem w.ring e report; ring = (added w.mem w.ring e report).ring; reader = w.reader }
leaves w resets_reader = record { mem = w.mem; ring = w.ring; reader = reader_at empty }
leaves w (configures_reader table entries) = record { mem = w.mem; ring = w.ring; reader = (reader_configured w.mem w.reader table entries).reader }
leaves w takes = record { mem = w.mem; ring = w.ring; reader = (take w.mem w.reader).reader }

configure_stops : (m : Memory) (s : EventRing) (table entries : ℕ) → ((configured m s table entries).refusal ≡ 0 → ⊥) → (configured m s table entries).ring ≡ s
configure_stops m s table entries h = ap (λ (x : Moved). x.ring) (configured_stops m s s table entries (configured m s table entries) refl h)

module _ (m : Memory) (s : EventRing) (e : EventTrb) (report : ℕ) (h : (added m s e report).refusal ≡ 0 → ⊥) where
  add_stops : {B : Type 0} (r : ℕ → B) (b : B) → judge (add_tests m s e report) r b ≡ r (added m s e report).refusal
  unfolding added
  add_stops = answer_stops (λ (x : Moved). x.refusal) (add_tests m s e report) (add_numbered m s e report) (refused_at s) (moved_to (next_state m s)) (λ n. refl) refl (added m s e report) refl h

  add_keeps_ring : (added m s e report).ring ≡ s
  unfolding added
  add_keeps_ring = ap (λ (x : Moved). x.ring) (add_stops (refused_at s) (moved_to (next_state m s)))

  add_keeps_memory : added_memory m s e report ≡ m
  unfolding added_memory
  add_keeps_memory = add_stops (λ n. m) (write m s.place (event_bytes e s.cycle))

take_stops : (m : Memory) (r : EventReader) → (number_of (take m r).answer ≡ 0 → ⊥) → (take m r).reader ≡ r
unfolding take
take_stops m r h =
    ap (λ (x : TakeMoved). x.reader)
    (answer_stops (λ (x : TakeMoved). number_of x.answer) (take_tests m r.state) (take_numbered m r) (take_refused r) (given m r (fresh_of m r.state)) (λ n. refl) (given_number m r (fresh_of m r.state)) (take m r) refl h (take_refused r) (given m r (fresh_of m r.state)))

pub refusal_changes_nothing : (w : State) (o : Op) → (answers w o ≡ 0 → ⊥) → leaves w o ≡ w
unfolding reader_configured
refusal_changes_nothing w resets h = absurd (h refl)
refusal_changes_nothing w (configures table entries) h = rw (configure_stops w.mem w.ring table entries h)
refusal_changes_nothing w (adds e report) h =
    rw (add_keeps_ring w.mem w.ring e report h, add_keeps_memory w.mem w.ring e report h)
refusal_changes_nothing w resets_reader h = absurd (h refl)
refusal_changes_nothing w (configures_reader table entries) h = rw (configure_stops w.mem w.reader.state table entries h)
refusal_changes_nothing w takes h = rw (take_stops w.mem w.reader h)
