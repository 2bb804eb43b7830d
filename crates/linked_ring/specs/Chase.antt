-- Following links, xHCI 4.9.2 and 4.11.5.1 with document 01's limit: what the reader answers at a place, by the number of links that
-- may still be followed.
use Rattle.std.specs.Prelude.{ℕ, zero, suc, ◌+◌, ◌%◌, ◌^◌, Bool, true, false, not, ◌||◌, List, [], ◌∷◌, Option, Some, None, Result, Ok, Err, replicate}
use Rattle.std.specs.Bool.{beq}
use Rattle.guest.specs.declared.refusal.Refusal.{Refusal}
use Rattle.guest.specs.Refusals.{outside, by_number}
use Rattle.guest.specs.Answers as answers
use Rattle.guest.specs.Memory.{Memory, inside, trb_at}
use Rattle.trb.specs.Trb.{cycle_of}
use Rattle.trb.specs.Links.{link_of}
use Rattle.trb.specs.declared.link.LinkTrb.{LinkTrb}
use Rattle.linked_ring.specs.declared.LinkedRing.{LinkedRing}
use Rattle.linked_ring.specs.declared.Notes.{Notes}
use Rattle.linked_ring.specs.declared.Found.{Found}
use Rattle.linked_ring.specs.declared.Chase.{Chase}

-- ---- the ring

abbrev pub ring_at : ℕ → Bool → LinkedRing
ring_at place cycle = record { place = place; cycle = cycle }

-- one TRB further, modulo 2 ^ 64
abbrev pub advanced : LinkedRing → LinkedRing
advanced r = ring_at ((r.place + 16) % 2 ^ 64) r.cycle

-- a TRB is fresh if its cycle bit equals the state
abbrev pub fresh_of : Bool → List ℕ → Bool
fresh_of cycle trb = beq (cycle_of trb) cycle

-- a Link moves the place to its pointer, and flips the state if toggle is set
abbrev pub followed : LinkedRing → LinkTrb → LinkedRing
followed r l = ring_at l.ring_segment_pointer (not (beq r.cycle l.toggle_cycle))

-- ---- notes

abbrev pub unnoted : Notes
unnoted = record { links = 0; cleared = false; completion = false }

-- one link more, and what it showed
abbrev pub noted : Notes → LinkTrb → Notes
noted n l =
    record {
      links = n.links + 1;
      cleared = n.cleared || l.pointer_bits_cleared;
      completion = n.completion || l.interrupt_on_completion;
    }

-- ---- answers

abbrev pub ended : Found → LinkedRing → Notes → Result Chase Refusal
ended f r n = Ok (record { found = f; ring = r; notes = n })

-- the TRB's address and its sixteen bytes; 0s where there is none
abbrev pub address_of : Found → ℕ
address_of Found.NothingNew = 0
address_of (Found.Trb t) = t.address
address_of Found.TooManyLinks = 0

abbrev pub bytes_of : Found → List ℕ
bytes_of Found.NothingNew = replicate 16 0
bytes_of (Found.Trb t) = t.buffer
bytes_of Found.TooManyLinks = replicate 16 0

-- a TRB stands at the ring's place
abbrev pub found : List ℕ → LinkedRing → Notes → Result Chase Refusal
found trb r n = ended (Found.Trb (record { address = r.place; buffer = trb })) r n

-- what is seen: sixteen bytes outside memory are refused, and no ring is handed out; a stale TRB is nothing new; a fresh TRB is found,
-- unless it is a Link, at which the chase goes onward
abbrev pub seen : Bool → Bool → Option LinkTrb → List ℕ → LinkedRing → Notes → (LinkTrb → Result Chase Refusal) → Result Chase Refusal
seen false fresh link trb r n onward = Err (by_number outside)
seen true false link trb r n onward = ended Found.NothingNew r n
seen true true None trb r n onward = found trb r n
seen true true (Some l) trb r n onward = onward l

-- a look at the ring's place
abbrev pub look : Memory → LinkedRing → Notes → (LinkTrb → Result Chase Refusal) → Result Chase Refusal
look m r n onward =
    let trb : List ℕ = trb_at m r.place in
    seen (inside m r.place 16) (fresh_of r.cycle trb) (link_of trb) trb r n onward

-- at a fresh Link, with so many links left to follow: too many, or follow it and look again
unfoldable pub onward : Memory → ℕ → LinkedRing → Notes → LinkTrb → Result Chase Refusal
onward m zero r n l = ended Found.TooManyLinks r n
onward m (suc left) r n l = look m (followed r l) (noted n l) (onward m left (followed r l) (noted n l))

-- the chase with so many links left
abbrev pub chase_from : Memory → ℕ → LinkedRing → Notes → Result Chase Refusal
chase_from m left r n = look m r n (onward m left r n)

-- the chase: 256 links are followed
unfoldable pub chase : Memory → LinkedRing → Result Chase Refusal
chase m r = chase_from m 256 r unnoted

-- ---- document 01's number of an answer, 0 where nothing is refused, and its values: 0 for nothing new, 1 for a TRB, 2 for too many links

abbrev pub number_of : Result Chase Refusal → ℕ
number_of = answers.number_of

abbrev pub found_value : Found → ℕ
found_value Found.NothingNew = 0
found_value (Found.Trb t) = 1
found_value Found.TooManyLinks = 2

abbrev pub values_of : Result Chase Refusal → List ℕ
values_of (Ok c) = found_value c.found ∷ []
values_of (Err r) = []
