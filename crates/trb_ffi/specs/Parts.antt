-- Links, flat, and the part of guest memory that a TRB's data is.
use Rattle.std.specs.Prelude.{ℕ, Bool, true, false, length, Option, Some, None}
use Rattle.guest.specs.Memory.{Memory}
use Rattle.trb.specs.Data.{data_refusal, data_of, data_offset}
use Rattle.trb.specs.declared.link.LinkTrb.{LinkTrb}
use Rattle.trb.specs.declared.data.TrbDmaInfo.{TrbDmaInfo}
use Rattle.trb_ffi.specs.declared.parts.CLink.{CLink}
use Rattle.trb_ffi.specs.declared.parts.CPart.{CPart}

abbrev pub flat_link : Option LinkTrb → CLink
flat_link (Some l) =
    record {
      pointer = l.ring_segment_pointer;
      link = true;
      cleared = l.pointer_bits_cleared;
      toggle = l.toggle_cycle;
      completion = l.interrupt_on_completion;
    }
flat_link None = record { pointer = 0; link = false; cleared = false; toggle = false; completion = false }

abbrev pub info_of : ℕ → ℕ → Bool → TrbDmaInfo
info_of p n b = record { data_pointer = p; transfer_length = n; immediate_data = b }

-- how far from the window's start the data begins, and its length; 0s beside a refusal
abbrev pub part_of : Memory → TrbDmaInfo → CPart
part_of m i = record { offset = data_offset m i; length = length (data_of m i); refusal = data_refusal m i }
