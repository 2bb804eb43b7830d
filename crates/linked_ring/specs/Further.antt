-- A ring in a window d further up: what is moved with it.
use Rattle.std.specs.Prelude.{◌≡◌, ℕ, ◌+◌, true, List, Option, Some, None, Result, Ok, Err}
use Rattle.guest.specs.declared.refusal.Refusal.{Refusal}
use Rattle.guest.specs.Memory.{Memory, inside, trb_at}
use Rattle.guest.specs.Further.{Further}
use Rattle.trb.specs.Trb.{cycle_of}
use Rattle.trb.specs.Links.{link_of}
use Rattle.trb.specs.declared.link.LinkTrb.{LinkTrb}
use Rattle.linked_ring.specs.Chase.{ring_at}
use Rattle.linked_ring.specs.declared.LinkedRing.{LinkedRing}
use Rattle.linked_ring.specs.declared.Found.{Found}
use Rattle.linked_ring.specs.declared.Chase.{Chase}

module _ (d : ℕ) where
  -- ---- rings and answers: the place is an address, and so is where a TRB stands

  abbrev pub ring_up : LinkedRing → LinkedRing
  ring_up r = ring_at (r.place + d) r.cycle

  abbrev pub found_up : Found → Found
  found_up (Found.Trb t) = Found.Trb (record { address = t.address + d; buffer = t.buffer })
  found_up Found.NothingNew = Found.NothingNew
  found_up Found.TooManyLinks = Found.TooManyLinks

  abbrev pub chase_up : Result Chase Refusal → Result Chase Refusal
  chase_up (Ok c) = Ok (record { found = found_up c.found; ring = ring_up c.ring; notes = c.notes })
  chase_up (Err r) = Err r

  -- ---- bytes: a Link's pointer is an address

  abbrev pub link_up : LinkTrb → LinkTrb
  link_up l =
      record {
        ring_segment_pointer = l.ring_segment_pointer + d;
        pointer_bits_cleared = l.pointer_bits_cleared;
        toggle_cycle = l.toggle_cycle;
        interrupt_on_completion = l.interrupt_on_completion;
      }

  -- a slot's bytes, and those of the slot d further up: the same, or those of the Link that is moved, with the same cycle bit. A Link leads
  -- to a place of P
  abbrev pub SlotUp : (ℕ → Type 0) → List ℕ → List ℕ → Option LinkTrb → Type 0
  SlotUp P trb trb' None = trb' ≡ trb
  SlotUp P trb trb' (Some l) = (link_of trb' ≡ Some (link_up l)) × (cycle_of trb' ≡ cycle_of trb) × P l.ring_segment_pointer

  -- the window m and, d further up, m': alike at the places P, of which those outside are not asked
  pub record WindowUp (m m' : Memory) (P : ℕ → Type 0) : Type 0 where
    pub further : Further d m m'
    pub slots : (a : ℕ) → P a → inside m a 16 ≡ true → SlotUp P (trb_at m a) (trb_at m' (a + d)) (link_of (trb_at m a))
