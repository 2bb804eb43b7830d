-- Demand 3, a late reader loses nothing: under the premises the ring in guest memory and a reader answer, operation by operation and for
-- every finite list of operations, as a plain list with two counters does (Plain.antt, `list_machine`).
use Rattle.std.specs.Prelude.{ℕ, zero, suc, ◌+◌, ◌*◌, ◌%◌, ◌≤◌, ◌<◌, ◌≡◌, ◌≢◌, ◌⊎◌, true, List, [], ◌∷◌, length}
use Rattle.guest.specs.Memory.{Memory, byte, inside}
use Rattle.trb.specs.Events.{Typed}
use Rattle.event_ring.specs.Ring.{entry_of, configured, reader_configured}
use Rattle.event_ring.specs.declared.EventRing.{EventRing}
use Rattle.event_ring.specs.declared.EventReader.{EventReader}
use Rattle.delivery.specs.Plain.{Op, adds, takes, reports, changes, answers, final, Plain, list_machine}
use Rattle.delivery.specs.World.{Reader, World, ring_machine, standard_reader, port_reader}

-- ---- the set-up: memory, a table by its base and its number of entries, whatever ring and reader were before, and the memories in which
-- they were configured, one after the other

pub record Setup : Type 0 where
  pub mem : Memory
  pub table : ℕ
  pub entries : ℕ
  pub ring : EventRing
  pub ring_mem : Memory
  pub reader : EventReader
  pub reader_mem : Memory

abbrev pub base : Setup → ℕ → ℕ
base s j = (entry_of s.mem s.table j).base

abbrev pub size : Setup → ℕ → ℕ
size s j = (entry_of s.mem s.table j).size

-- the slots of the first j segments; of all
unfoldable pub slots_before : Setup → ℕ → ℕ
slots_before s zero = 0
slots_before s (suc j) = slots_before s j + size s j

abbrev pub slots : Setup → ℕ
slots s = slots_before s s.entries

-- the k bytes from a and the l bytes from b have none in common
abbrev pub Apart : ℕ → ℕ → ℕ → ℕ → Type 0
Apart a k b l = (a + k ≤ b) ⊎ (b + l ≤ a)

-- entry j is as refusal 5 allows
pub record Segment (s : Setup) (j : ℕ) : Type 0 where
  pub aligned : base s j % 64 ≡ 0
  pub some : 1 ≤ size s j
  pub most : size s j ≤ 4096
  pub within : inside s.mem (base s j) (16 * size s j) ≡ true

-- the same window with the same table; what stands elsewhere then is not asked
pub record Earlier (s : Setup) (m : Memory) : Type 0 where
  pub start : m.start ≡ s.mem.start
  pub long : length m.bytes ≡ length s.mem.bytes
  pub table : (i : ℕ) → i < 16 * s.entries → byte m (s.table + i) ≡ byte s.mem (s.table + i)

-- said in numbers, and of memory by `inside` alone, and not by the ring's own tests, so that a slip in those is a slip on one side only
pub record Premises (s : Setup) : Type 0 where
  -- the table is as refusals 2, 3 and 1 allow
  pub aligned : s.table % 64 ≡ 0
  pub some : 1 ≤ s.entries
  pub most : s.entries ≤ 16
  pub within : inside s.mem s.table (16 * s.entries) ≡ true
  pub good : (j : ℕ) → j < s.entries → Segment s j
  -- the segments are zero, and apart from each other; that they are apart from the table follows
  pub zeros : (j : ℕ) → j < s.entries → (i : ℕ) → i < 16 * size s j → byte s.mem (base s j + i) ≡ 0
  pub segments : (j k : ℕ) → j < s.entries → k < s.entries → j ≢ k → Apart (base s j) (16 * size s j) (base s k) (16 * size s k)
  -- other bytes may have changed since ring and reader were configured, and between the two; the segments are zero by now
  pub ring_earlier : Earlier s s.ring_mem
  pub reader_earlier : Earlier s s.reader_mem

-- ---- what may be done

-- bytes of memory outside table and segments; those of a slice that would stand past 2 ^ 64 have no address to be changed at
pub record Outside (s : Setup) (a k : ℕ) : Type 0 where
  pub memory : inside s.mem a k ≡ true
  pub table : Apart a k s.table (16 * s.entries)
  pub segment : (j : ℕ) → j < s.entries → Apart a k (base s j) (16 * size s j)

-- an event's fields are of their types
abbrev pub Allowed : Setup → Op → Type 0
Allowed s (adds e) = Typed e
Allowed s takes = Unit {0}
Allowed s reports = Unit {0}
Allowed s (changes a bytes) = Outside s a (length bytes)

abbrev pub AllAllowed : Setup → List Op → Type 0
AllAllowed s [] = Unit {0}
AllAllowed s (o ∷ os) = Allowed s o × AllAllowed s os

-- ---- the claims

-- both configured on the same table, nothing added or taken yet, the last report as entry 0's base
abbrev pub started : (s : Setup) (R : Reader) → World R.State
started s R =
    record {
      mem = s.mem;
      ring = (configured s.ring_mem s.ring s.table s.entries).ring;
      reader = R.start;
      report = base s 0;
    }

abbrev pub empty_list : Plain
empty_list = record { events = []; taken = 0; reported = 0 }

pub record Delivers (s : Setup) (R : Reader) (ops : List Op) : Type 0 where
  -- taken events, decoded, are the accepted ones, once each, in order, unaltered; an event is refused with 8 exactly if it is not valid, a
  -- valid one with 7 exactly if all slots but one hold events not yet reported as taken, and with no other number; a take says nothing
  -- exactly if every accepted event is taken
  pub answered : answers (ring_machine R) (started s R) ops ≡ answers (list_machine (slots s)) empty_list ops
  -- drained ends agree on place and cycle
  pub drained :
      let w = final (ring_machine R) (started s R) ops in
      let l = final (list_machine (slots s)) empty_list ops in
      l.taken ≡ length l.events → (R.place w.mem w.reader ≡ w.ring.place) × (R.cycle w.reader ≡ w.ring.cycle)

-- ring and reader are configured, and the reader is the standard's or the port's
pub record Demand3 (s : Setup) : Type 0 where
  pub ring_configured : (configured s.ring_mem s.ring s.table s.entries).refusal ≡ 0
  pub reader_is_configured : (reader_configured s.reader_mem s.reader s.table s.entries).refusal ≡ 0
  pub standard : (ops : List Op) → AllAllowed s ops → Delivers s (standard_reader s.table s.entries) ops
  pub port : (ops : List Op) → AllAllowed s ops → Delivers s (port_reader (reader_configured s.reader_mem s.reader s.table s.entries).reader) ops

unfoldable pub Statement : Type 0
Statement = (s : Setup) → Premises s → Demand3 s
