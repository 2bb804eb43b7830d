-- The event ring, xHCI 4.9.4 and 6.5, with document 01's limits and refusals: a step along the segments, and what configure, add and
-- take answer. The refusals of each are a list of numbered tests in their order.
use Rattle.std.specs.Prelude.{ℕ, ◌+◌, ◌-◌, ◌*◌, ◌%◌, ◌^◌, Bool, true, false, cond, not, ◌&&◌, List, [], ◌∷◌, ◌++◌, replicate, ◌==◌, nat_le, nat_lt, Result, Ok, Err}
use Rattle.std.specs.Bool.{beq}
use Rattle.guest.specs.Refusals as refusal
use Rattle.guest.specs.Refusals.{by_number}
use Rattle.guest.specs.declared.refusal.Refusal.{Refusal}
use Rattle.guest.specs.Judge.{Tests, judge}
use Rattle.guest.specs.Memory.{Memory, inside, le, trb_at, write}
use Rattle.guest.specs.Fields.{dword, low_of}
use Rattle.trb.specs.Trb.{cycle_of}
use Rattle.trb.specs.Events.{event_tests, event_bytes}
use Rattle.trb.specs.declared.event.EventTrb.{EventTrb}
use Rattle.event_ring.specs.declared.Entry.{Entry}
use Rattle.event_ring.specs.declared.EventRing.{EventRing}
use Rattle.event_ring.specs.declared.EventReader.{EventReader}
use Rattle.event_ring.specs.Answers.{Moved, ReaderMoved, Take, TakeMoved}

-- ---- the segment table, 6.5

-- the entry at an address: base in dwords 0 and 1, size in dword 2, which document 01 reads whole
unfoldable pub entry_at : Memory → ℕ → Entry
entry_at m a = record { base = le m a 8; size = le m (a + 8) 4 }

-- that of sixteen bytes
abbrev pub entry_of_bytes : List ℕ → Entry
entry_of_bytes trb = record { base = low_of trb; size = dword trb 2 }

-- entry j of a table
abbrev pub entry_of : Memory → ℕ → ℕ → Entry
entry_of m table j = entry_at m (table + 16 * j)

-- refusal 5
unfoldable pub good_entry : Memory → Entry → Bool
good_entry m e = e.base % 64 == 0 && nat_le 1 e.size && nat_le e.size 4096 && inside m e.base (16 * e.size)

-- an entry as it is read: 1, then 5
abbrev pub read_tests : Memory → ℕ → Tests
read_tests m a = (refusal.outside, inside m a 16) ∷ (refusal.segment, good_entry m (entry_at m a)) ∷ []

abbrev pub entry_read : Memory → ℕ → Result Entry Refusal
entry_read m a = judge (read_tests m a) (λ n. Err (by_number n)) (Ok (entry_at m a))

-- refusal 3
abbrev pub count_ok : ℕ → Bool
count_ok n = nat_le 1 n && nat_le n 16

-- ---- the ring's state

-- never configured, or reset
abbrev pub empty : EventRing
empty = record { ready = false; table = 0; entries = 0; index = 0; place = 0; remaining = 0; cycle = false }

-- refusal 4
unfoldable pub ok_state : EventRing → Bool
ok_state s =
    s.ready && count_ok s.entries && nat_lt s.index s.entries
    && nat_le 1 s.remaining && nat_le s.remaining 4096 && s.table % 64 == 0 && s.place % 16 == 0

-- ---- the slot after the present one

-- one slot remains: the next is in the next entry's segment
abbrev pub last : EventRing → Bool
last s = s.remaining == 1

-- entry 0 comes after the last
unfoldable pub next_index : EventRing → ℕ
next_index s = cond (s.index + 1 == s.entries) 0 (s.index + 1)

abbrev pub next_entry : Memory → EventRing → Entry
next_entry m s = entry_of m s.table (next_index s)

-- the ring at the start of entry j, which is e; the cycle flips where entry 0 is entered again
abbrev pub entered : EventRing → ℕ → Entry → EventRing
entered s j e =
    record {
      ready = s.ready;
      table = s.table;
      entries = s.entries;
      index = j;
      place = e.base;
      remaining = e.size;
      cycle = cond (j == 0) (not s.cycle) s.cycle;
    }

-- the ring one slot on in its segment, modulo 2 ^ 64
abbrev pub along : EventRing → EventRing
along s =
    record {
      ready = s.ready;
      table = s.table;
      entries = s.entries;
      index = s.index;
      place = (s.place + 16) % 2 ^ 64;
      remaining = s.remaining - 1;
      cycle = s.cycle;
    }

-- where the ring moves to
unfoldable pub next_state : Memory → EventRing → EventRing
next_state m s = cond (last s) (entered s (next_index s) (next_entry m s)) (along s)

-- and what can refuse that: the next entry, where one slot remains
abbrev pub entry_tests : Memory → EventRing → Tests
entry_tests m s =
    (refusal.outside, inside m (s.table + 16 * next_index s) 16) ∷ (refusal.segment, good_entry m (next_entry m s)) ∷ []

unfoldable pub next_tests : Memory → EventRing → Tests
next_tests m s = cond (last s) (entry_tests m s) []

-- ---- answers: a refusal leaves the ring as it was

abbrev pub refused_at : EventRing → ℕ → Moved
refused_at s n = record { refusal = n; ring = s }

abbrev pub moved_to : EventRing → Moved
moved_to s = record { refusal = 0; ring = s }

abbrev pub enter_next : Memory → EventRing → Moved
enter_next m s = judge (entry_tests m s) (refused_at s) (moved_to (entered s (next_index s) (next_entry m s)))

abbrev pub next : Memory → EventRing → Moved
next m s = judge (next_tests m s) (refused_at s) (moved_to (next_state m s))

-- ---- configure: 2, 3, 1 (all entries), 5 (entry 0)

abbrev pub configure_tests : Memory → ℕ → ℕ → Tests
configure_tests m table entries =
    (refusal.table_base, (table % 64 == 0))
    ∷ (refusal.table_entries, count_ok entries)
    ∷ (refusal.outside, inside m table (16 * entries))
    ∷ (refusal.segment, good_entry m (entry_at m table))
    ∷ []

abbrev pub started : Memory → ℕ → ℕ → EventRing
started m table entries =
    record {
      ready = true;
      table = table;
      entries = entries;
      index = 0;
      place = (entry_at m table).base;
      remaining = (entry_at m table).size;
      cycle = true;
    }

unfoldable pub configured : Memory → EventRing → ℕ → ℕ → Moved
configured m s table entries = judge (configure_tests m table entries) (refused_at s) (moved_to (started m table entries))

-- ---- add: 8, 4, 6, 1 (slot, then next entry), 5 (that entry), 7

-- full: the reported place equals the slot after the present one
abbrev pub full : Memory → EventRing → ℕ → Bool
full m s report = (next_state m s).place == report

abbrev pub step_tests : Memory → EventRing → ℕ → Tests
step_tests m s report =
    (refusal.state, ok_state s)
    ∷ (refusal.report, (report % 16 == 0))
    ∷ (refusal.outside, inside m s.place 16)
    ∷ (next_tests m s ++ ((refusal.full, not (full m s report)) ∷ []))

abbrev pub add_tests : Memory → EventRing → EventTrb → ℕ → Tests
add_tests m s e report = event_tests e ++ step_tests m s report

unfoldable pub add_step : Memory → EventRing → ℕ → Moved
add_step m s report = judge (step_tests m s report) (refused_at s) (moved_to (next_state m s))

unfoldable pub added : Memory → EventRing → EventTrb → ℕ → Moved
added m s e report = judge (add_tests m s e report) (refused_at s) (moved_to (next_state m s))

-- the memory afterwards: the event's sixteen bytes with the ring's cycle bit stand in the present slot, and no other byte changes
unfoldable pub added_memory : Memory → EventRing → EventTrb → ℕ → Memory
added_memory m s e report = judge (add_tests m s e report) (λ n. m) (write m s.place (event_bytes e s.cycle))

-- ---- the reader

abbrev pub reader_at : EventRing → EventReader
reader_at s = record { state = s }

abbrev pub of_reader : Moved → ReaderMoved
of_reader r = record { refusal = r.refusal; reader = reader_at r.ring }

-- configured and refused as the ring is
unfoldable pub reader_configured : Memory → EventReader → ℕ → ℕ → ReaderMoved
reader_configured m r table entries = of_reader (configured m r.state table entries)

-- ---- take: 4, 1 (slot), and, only if the slot is fresh and last, 1 and 5 (next entry)

-- a slot is fresh if its cycle bit equals the reader's
abbrev pub fresh_of : Memory → EventRing → Bool
fresh_of m s = beq (cycle_of (trb_at m s.place)) s.cycle

abbrev pub take_tests : Memory → EventRing → Tests
take_tests m s = (refusal.state, ok_state s) ∷ (refusal.outside, inside m s.place 16) ∷ cond (fresh_of m s) (next_tests m s) []

abbrev pub take_refused : EventReader → ℕ → TakeMoved
take_refused r n = record { answer = Take.Refused n; trb = replicate 16 0; reader = r }

abbrev pub nothing_at : EventReader → TakeMoved
nothing_at r = record { answer = Take.Nothing; trb = replicate 16 0; reader = r }

abbrev pub taken_at : List ℕ → EventRing → TakeMoved
taken_at trb s = record { answer = Take.Event; trb = trb; reader = reader_at s }

unfoldable pub take : Memory → EventReader → TakeMoved
take m r =
    judge (take_tests m r.state) (take_refused r)
    (cond (fresh_of m r.state) (taken_at (trb_at m r.state.place) (next_state m r.state)) (nothing_at r))

-- document 01's number of an answer, 0 for one that is no refusal, and its values: 1 beside an event, 0 beside none
abbrev pub number_of : Take → ℕ
number_of Take.Event = 0
number_of Take.Nothing = 0
number_of (Take.Refused n) = n

abbrev pub values_of : Take → List ℕ
values_of Take.Event = 1 ∷ []
values_of Take.Nothing = 0 ∷ []
values_of (Take.Refused n) = []
