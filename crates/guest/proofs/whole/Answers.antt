-- The bytes of each number, one division at a time.
use native.Mathlib.Nat.{div-div-eq-div-mul}
use Rattle.guest.specs.Fields.{bytes_of}
use Rattle.guest.proofs.whole.Goals as goal

pub returns : goal.returns
unfolding bytes_of
returns c =
    rw (c.copy_from_slice-2.ensures.after, c.copy_from_slice.ensures.after, c.to_le_bytes-2.ensures, c.to_le_bytes.ensures)
    (simp div-div-eq-div-mul)
