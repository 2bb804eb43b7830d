-- xHCI 4.9.4, the consumer of an event ring: which TRB is an event, and where the next one stands. It is the standard's rule as it
-- stands there, with no refusals: the dequeue pointer is a slot of a segment, and the cycle state starts as 1.
use Rattle.std.specs.Prelude.{ℕ, ◌+◌, ◌*◌, Bool, true, cond, not, List, nat_lt}
use Rattle.std.specs.Bool.{beq}
use Rattle.guest.specs.Memory.{Memory, trb_at}
use Rattle.trb.specs.Trb.{cycle_of}
use Rattle.event_ring.specs.Ring.{entry_of}

pub record Consumer : Type 0 where
  pub segment : ℕ
  pub slot : ℕ
  pub cycle : Bool

-- at first the first slot of segment 0
abbrev pub first : Consumer
first = record { segment = 0; slot = 0; cycle = true }

-- the segment table is given by its base and its number of entries
module _ (m : Memory) (table entries : ℕ) where
  -- the dequeue pointer
  abbrev pub dequeue : Consumer → ℕ
  dequeue k = (entry_of m table k.segment).base + 16 * k.slot

  -- the TRB there is an event if its cycle bit equals the cycle state; else the ring is empty
  abbrev pub event? : Consumer → Bool
  event? k = beq (cycle_of (trb_at m (dequeue k))) k.cycle

  -- the next slot of the segment, or the first of the next segment; after the last segment the first, with the cycle state toggled
  unfoldable pub onward : Consumer → Consumer
  onward k =
      cond (nat_lt (k.slot + 1) (entry_of m table k.segment).size)
      (record { segment = k.segment; slot = k.slot + 1; cycle = k.cycle })
      (cond (nat_lt (k.segment + 1) entries)
      (record { segment = k.segment + 1; slot = 0; cycle = k.cycle })
      (record { segment = 0; slot = 0; cycle = not k.cycle }))

-- what the consumer does at its dequeue pointer: it takes the event and goes on, or finds none
pub data Consumed : Type 0 where
  event : List ℕ → Consumer → Consumed
  none : Consumed

abbrev pub consume : Memory → ℕ → ℕ → Consumer → Consumed
consume m table entries k =
    cond (event? m table entries k) (event (trb_at m (dequeue m table entries k)) (onward m table entries k)) none
