-- Link TRBs, xHCI 6.4.4.1: dword 0 bits 31:4 and dword 1 are the ring segment pointer, whose low four bits are reserved;
-- dword 3 has toggle cycle in bit 1 and interrupt on completion in bit 5.
use Rattle.std.specs.Prelude.{ℕ, List, [], ◌∷◌, not, eqb, Option, Some, None}
use Rattle.guest.specs.Fields.{field}
use Rattle.codes.specs.Types.{link}
use Rattle.trb.specs.Trb.{type_of, aligned_of, flag_of, bit, when, ◌or◌}
use Rattle.trb.specs.declared.link.LinkTrb.{LinkTrb}

abbrev pub link_trb : List ℕ → LinkTrb
link_trb trb =
    record {
      ring_segment_pointer = aligned_of trb;
      pointer_bits_cleared = not (eqb (field trb 0 0 4) 0);
      toggle_cycle = flag_of trb 3 1;
      interrupt_on_completion = flag_of trb 3 5;
    }

unfoldable pub link_of : List ℕ → Option LinkTrb
link_of trb = when (eqb (type_of trb) link) (Some (link_trb trb)) or None

-- ---- document 01's number of an answer, 0 since nothing is refused, and its values: the type, then the fields

abbrev pub number_of : Option LinkTrb → ℕ
number_of (Some l) = 0
number_of None = 0

abbrev pub values_of : Option LinkTrb → List ℕ
values_of (Some l) =
    link ∷ l.ring_segment_pointer ∷ bit l.pointer_bits_cleared ∷ bit l.toggle_cycle
    ∷ bit l.interrupt_on_completion ∷ []
values_of None = []

-- ---- the same from the TRB itself, in document 01's numbers; proofs/Shown.antt proves that every answer has these

abbrev pub link_values : List ℕ → List ℕ
link_values trb =
    when (eqb (type_of trb) 6)
    (6 ∷ aligned_of trb ∷ bit (not (eqb (field trb 0 0 4) 0)) ∷ field trb 3 1 1 ∷ field trb 3 5 1 ∷ []) or
    []
