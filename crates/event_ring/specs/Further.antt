-- The event ring in a window d further up: what is moved with it.
use Rattle.std.specs.Prelude.{◌≡◌, ℕ, ◌+◌, true}
use Rattle.guest.specs.Memory.{Memory, inside, trb_at}
use Rattle.event_ring.specs.Ring.{entry_at, reader_at}
use Rattle.event_ring.specs.Answers.{Moved, TakeMoved}
use Rattle.event_ring.specs.declared.EventRing.{EventRing}
use Rattle.event_ring.specs.declared.EventReader.{EventReader}

module _ (d : ℕ) where
  -- ---- states and answers: table and place are addresses

  abbrev pub ring_up : EventRing → EventRing
  ring_up s =
      record {
        ready = s.ready;
        table = s.table + d;
        entries = s.entries;
        index = s.index;
        place = s.place + d;
        remaining = s.remaining;
        cycle = s.cycle;
      }

  abbrev pub answer_up : Moved → Moved
  answer_up r = record { refusal = r.refusal; ring = ring_up r.ring }

  abbrev pub reader_up : EventReader → EventReader
  reader_up r = reader_at (ring_up r.state)

  abbrev pub taken_up : TakeMoved → TakeMoved
  taken_up t = record { answer = t.answer; trb = t.trb; reader = reader_up t.reader }

  -- ---- bytes: an entry's base is an address, and a slot has none that the ring reads. What is outside is not asked

  abbrev pub EntryUp : Memory → Memory → ℕ → Type 0
  EntryUp m m' a = inside m a 16 ≡ true → entry_at m' (a + d) ≡ record { base = (entry_at m a).base + d; size = (entry_at m a).size }

  abbrev pub SlotUp : Memory → Memory → ℕ → Type 0
  SlotUp m m' a = inside m a 16 ≡ true → trb_at m' (a + d) ≡ trb_at m a
