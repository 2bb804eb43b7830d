-- The link-following reader by words: the ring is two, its place and its cycle state, 0 or 1.
use Rattle.std.specs.Prelude.{ℕ, ◌+◌, ◌*◌, ◌%◌, ◌^◌, List, [], ◌∷◌, ◌==◌, slice_index, Result, Ok, Err}
use Rattle.guest.specs.Refusals as refusals
use Rattle.guest.specs.Fields.{low_of, high_of}
use Rattle.guest.specs.declared.refusal.Refusal.{Refusal}
use Rattle.trb.specs.Trb.{bit}
use Rattle.linked_ring.specs.Chase.{ring_at, address_of, bytes_of}
use Rattle.linked_ring.specs.declared.LinkedRing.{LinkedRing}
use Rattle.linked_ring.specs.declared.Notes.{Notes}
use Rattle.linked_ring.specs.declared.Found.{Found}
use Rattle.linked_ring.specs.declared.Chase.{Chase}
use Rattle.lomvigast_ffi.specs.declared.linked.CChase.{CChase}

abbrev pub ring_of : List ℕ → LinkedRing
ring_of ws = ring_at (slice_index ws 0) (slice_index ws 1 % 2 == 1)

abbrev pub ring_words : LinkedRing → List ℕ
ring_words r = r.place ∷ bit r.cycle ∷ []

-- the words after a chase: a refusal leaves them as they were
abbrev pub ring_after : Result Chase Refusal → List ℕ → List ℕ
ring_after (Ok c) ws = ring_words c.ring
ring_after (Err r) ws = ws

-- the answers by number, of which 3 is a refusal's, with the number that it has above
abbrev pub kind_of : Found → ℕ
kind_of Found.NothingNew = 0
kind_of (Found.Trb t) = 1
kind_of Found.TooManyLinks = 2

abbrev pub refused_kind : ℕ → ℕ
refused_kind n = 3 + n * 2 ^ 8

abbrev pub notes_word : Notes → ℕ
notes_word n = n.links + bit n.cleared * 2 ^ 16 + bit n.completion * 2 ^ 24

-- the five words of a chase as Rust and C hold it: byte 0 is the kind, byte 1 a refusal's number; the address and the sixteen bytes; in
-- the last word the notes, two bytes of links and a byte for each flag
abbrev pub flat_chase : Result Chase Refusal → CChase
flat_chase (Ok c) =
    record {
      kind = kind_of c.found;
      address = address_of c.found;
      low = low_of (bytes_of c.found);
      high = high_of (bytes_of c.found);
      notes = notes_word c.notes;
    }
flat_chase (Err r) = record { kind = refused_kind (refusals.number_of r); address = 0; low = 0; high = 0; notes = 0 }
