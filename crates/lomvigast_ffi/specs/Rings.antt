-- The event ring and its reader by words: the state is seven of them, a field each. A new field is a word more, here and in `CEventRing`
-- of src/rings.rt.
use Rattle.std.specs.Prelude.{ℕ, ◌%◌, ◌^◌, Bool, cond, ◌&&◌, List, [], ◌∷◌, ◌==◌, nat_le, nat_lt, slice_index, Ok, Err}
use Rattle.guest.specs.Memory.{Memory}
use Rattle.trb.specs.Trb.{bit}
use Rattle.guest.specs.Refusals.{number_of}
use Rattle.words.specs.Events.{Given}
use Rattle.event_ring.specs.Ring.{empty, refused_at, added, added_memory}
use Rattle.event_ring.specs.Answers.{Moved, ReaderMoved, Take, TakeMoved}
use Rattle.event_ring.specs.declared.EventRing.{EventRing}
use Rattle.lomvigast_ffi.specs.Memory.{trb_words}

-- ---- the state

abbrev pub words_of : EventRing → List ℕ
words_of s =
    s.table ∷ s.place ∷ s.remaining ∷ s.index ∷ s.entries ∷ bit s.ready ∷ bit s.cycle ∷ []

-- each word is one that its field can hold
unfoldable pub fits : List ℕ → Bool
fits ws =
    nat_lt (slice_index ws 2) (2 ^ 32) && nat_lt (slice_index ws 3) (2 ^ 16) && nat_lt (slice_index ws 4) (2 ^ 16)
    && nat_lt (slice_index ws 5) 2 && nat_lt (slice_index ws 6) 2

abbrev pub fields_of : List ℕ → EventRing
fields_of ws =
    record {
      ready = (slice_index ws 5 == 1);
      table = slice_index ws 0;
      entries = slice_index ws 4;
      index = slice_index ws 3;
      place = slice_index ws 1;
      remaining = slice_index ws 2;
      cycle = (slice_index ws 6 == 1);
    }

-- words that no state has are read as a ring that was never configured, which is refused with 4
unfoldable pub state_of : List ℕ → EventRing
state_of ws = cond (fits ws) (fields_of ws) empty

-- a ring within its limits whose segment has a slot after the present one: what nearly every call finds
unfoldable pub plain : List ℕ → Bool
plain ws =
    (slice_index ws 0 % 64 == 0) && slice_index ws 1 % 16 == 0 && nat_le 2 (slice_index ws 2) && nat_le (slice_index ws 2) 4096
    && nat_lt (slice_index ws 3) (slice_index ws 4) && nat_le (slice_index ws 4) 16 && slice_index ws 5 == 1 && nat_lt (slice_index ws 6) 2

-- the words with another place in the same segment
abbrev pub stepped : ℕ → ℕ → List ℕ → List ℕ
stepped place remaining ws =
    slice_index ws 0 ∷ place ∷ remaining ∷ slice_index ws 3 ∷ slice_index ws 4 ∷ slice_index ws 5 ∷ slice_index ws 6 ∷ []

-- ---- what a call leaves: a refusal leaves the words as they were

abbrev pub ring_after : Moved → List ℕ → List ℕ
ring_after m ws = cond (m.refusal == 0) (words_of m.ring) ws

abbrev pub reader_after : ReaderMoved → List ℕ → List ℕ
reader_after m ws = cond (m.refusal == 0) (words_of m.reader.state) ws

-- an event added as it was given: what refuses the given event comes first, and changes nothing
abbrev pub added_from : Memory → EventRing → Given → ℕ → Moved
added_from m s (Ok e) report = added m s e report
added_from m s (Err x) report = refused_at s (number_of x.refusal)

abbrev pub memory_from : Memory → EventRing → Given → ℕ → Memory
memory_from m s (Ok e) report = added_memory m s e report
memory_from m s (Err x) report = m

abbrev pub ring_from : Memory → List ℕ → Given → ℕ → List ℕ
ring_from m ws (Ok e) report = ring_after (added m (state_of ws) e report) ws
ring_from m ws (Err x) report = ws

-- ---- a take: 0 for an event, 255 for nothing, or the refusal's number

abbrev pub take_number : Take → ℕ
take_number Take.Event = 0
take_number Take.Nothing = 255
take_number (Take.Refused n) = n

-- x where an event was taken, else y
abbrev pub of_event : Take → List ℕ → List ℕ → List ℕ
of_event Take.Event x y = x
of_event Take.Nothing x y = y
of_event (Take.Refused n) x y = y

abbrev pub put_taken : TakeMoved → List ℕ → List ℕ
put_taken t ws = of_event t.answer (trb_words t.trb) ws

abbrev pub taken_from : TakeMoved → List ℕ → List ℕ
taken_from t ws = of_event t.answer (words_of t.reader.state) ws
