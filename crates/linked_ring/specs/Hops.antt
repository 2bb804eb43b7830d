-- The way that a chase goes, told hop by hop, and its notes a second time: over the list of the links that were followed. Nothing of Chase.antt
-- is cited here, so that a slip there is a slip on one side only.
use Rattle.std.specs.Prelude.{◌≡◌, ℕ, zero, suc, cond, not, List, [], ◌∷◌, ◌++◌, length, Option, Some, None}
use Rattle.std.specs.List.{list_any}
use Rattle.guest.specs.Memory.{Memory, trb_at}
use Rattle.trb.specs.Links.{link_of}
use Rattle.trb.specs.declared.link.LinkTrb.{LinkTrb}
use Rattle.trb.specs.Trb.{cycle_of}
use Rattle.linked_ring.specs.declared.LinkedRing.{LinkedRing}
use Rattle.linked_ring.specs.declared.Notes.{Notes}

-- what stands at the ring's place is fresh if its cycle bit equals the state
abbrev pub IsFresh : Memory → LinkedRing → Type 0
IsFresh m r = cycle_of (trb_at m r.place) ≡ r.cycle

-- a hop by the Link that stands there: to its pointer, with the state flipped if toggle is set
abbrev pub hop : Option LinkTrb → LinkedRing → LinkedRing
hop (Some l) r = record { place = l.ring_segment_pointer; cycle = cond l.toggle_cycle (not r.cycle) r.cycle }
hop None r = r

-- the ring after k hops from e
unfoldable pub after : Memory → ℕ → LinkedRing → LinkedRing
after m zero e = e
after m (suc k) e = hop (link_of (trb_at m (after m k e).place)) (after m k e)

-- the links of k hops from e, in their order
abbrev pub as_list : Option LinkTrb → List LinkTrb
as_list (Some l) = l ∷ []
as_list None = []

unfoldable pub links_of : Memory → ℕ → LinkedRing → List LinkTrb
links_of m zero e = []
links_of m (suc k) e = links_of m k e ++ as_list (link_of (trb_at m (after m k e).place))

-- how many they are, whether any of them had pointer bits cleared, whether any had the completion bit
abbrev pub notes_over : List LinkTrb → Notes
notes_over ls = record { links = length ls; cleared = list_any (λ l. l.pointer_bits_cleared) ls; completion = list_any (λ l. l.interrupt_on_completion) ls }
