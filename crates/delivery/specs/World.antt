-- The ring in guest memory with a reader, as a machine: the ring's side is what event_ring's contracts cite.
use Rattle.std.specs.Prelude.{ℕ, Bool, cond, List, eqb, Ok, Err}
use Rattle.guest.specs.Memory.{Memory, write}
use Rattle.trb.specs.Trb.{Parsed}
use Rattle.trb.specs.Events.{event_of}
use Rattle.trb.specs.declared.event.EventTrb.{EventTrb}
use Rattle.event_ring.specs.Answers.{Take, TakeMoved}
use Rattle.event_ring.specs.Ring.{added, added_memory, take}
use Rattle.event_ring.specs.Consumer as standard
use Rattle.event_ring.specs.Consumer.{Consumer, Consumed}
use Rattle.event_ring.specs.declared.EventRing.{EventRing}
use Rattle.event_ring.specs.declared.EventReader.{EventReader}
use Rattle.delivery.specs.Plain.{Op, adds, takes, reports, changes, Answer, accepted, refused, gives, nothing, garbled, done, Turn, turn}

-- ---- a reader: its state at the start, what it finds, and its place and cycle

pub data Found (S : Type 0) : Type 0 where
  found : List ℕ → S → Found S
  none : S → Found S
  refuses : ℕ → S → Found S

pub record Reader : Type 1 where
  pub State : Type 0
  pub start : State
  pub look : Memory → State → Found State
  pub place : Memory → State → ℕ
  pub cycle : State → Bool

-- ---- the world

pub record World (S : Type 0) : Type 0 where
  pub mem : Memory
  pub ring : EventRing
  pub reader : S
  pub report : ℕ

-- raw bytes that were taken, decoded
abbrev pub decoded : Parsed EventTrb → Answer
decoded (Ok e) = gives e
decoded (Err x) = garbled

abbrev pub taking : {S : Type 0} → World S → Found S → Turn (World S)
taking w (found trb r) = turn (decoded (event_of trb)) (record { mem = w.mem; ring = w.ring; reader = r; report = w.report })
taking w (none r) = turn nothing (record { mem = w.mem; ring = w.ring; reader = r; report = w.report })
taking w (refuses n r) = turn (refused n) (record { mem = w.mem; ring = w.ring; reader = r; report = w.report })

unfoldable pub ring_machine : (R : Reader) → World R.State → Op → Turn (World R.State)
ring_machine R w (adds e) =
    let r = added w.mem w.ring e w.report in
    turn (cond (eqb r.refusal 0) accepted (refused r.refusal))
    (record { mem = added_memory w.mem w.ring e w.report; ring = r.ring; reader = w.reader; report = w.report })
ring_machine R w takes = taking w (R.look w.mem w.reader)
ring_machine R w reports =
    turn done (record { mem = w.mem; ring = w.ring; reader = w.reader; report = R.place w.mem w.reader })
ring_machine R w (changes a bytes) =
    turn done (record { mem = write w.mem a bytes; ring = w.ring; reader = w.reader; report = w.report })

-- ---- the two readers, on a table by its base and its number of entries

-- the consumer of xHCI 4.9.4
abbrev pub consumed : Consumer → Consumed → Found Consumer
consumed c (standard.event trb k) = found trb k
consumed c standard.none = none c

abbrev pub standard_reader : ℕ → ℕ → Reader
standard_reader table entries =
    record {
      State = Consumer;
      start = standard.first;
      look = λ m k. consumed k (standard.consume m table entries k);
      place = λ m k. standard.dequeue m table entries k;
      cycle = λ k. k.cycle;
    }

-- the port's, as it was configured
abbrev pub took_as : TakeMoved → Take → Found EventReader
took_as t Take.Event = found t.trb t.reader
took_as t Take.Nothing = none t.reader
took_as t (Take.Refused n) = refuses n t.reader

abbrev pub port_reader : EventReader → Reader
port_reader configured =
    record {
      State = EventReader;
      start = configured;
      look = λ m r. took_as (take m r) (take m r).answer;
      place = λ m r. r.state.place;
      cycle = λ r. r.state.cycle;
    }
