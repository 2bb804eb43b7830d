-- By the refusal: what is withheld beside one, and what is given beside none.
use Rattle.std.proofs.Common.{sym, ◌∙◌}
use Rattle.guest.specs.Memory.{window}
use Rattle.guest.proofs.Judge.{judge_passes}
use Rattle.guest.proofs.Memory.{within_inside}
use Rattle.guest.proofs.Bytes.{part_length}
use Rattle.guest.proofs.Numbers.{as_result_ok, as_result_err}
use Prim.{tt}
use Rattle.trb.specs.Data.{data_refusal}
use Rattle.trb.proofs.Parts.{data_number, given, withheld}
use Rattle.trb_ffi.specs.Parts.{info_of}
use Rattle.trb_ffi.proofs.parts.lomvigast_data.Goals as goal

pub returns-in-Ok : goal.returns-in-Ok
returns-in-Ok c =
    let a = c.args in
    let m = window a.start a.mem.now in
    let i = info_of a.pointer a.length a.immediate in
    let z = (as_result_ok (data_refusal m i) tt _ (rw (c.at-window.ensures, c.info_of.ensures) at (sym c.data_refusal.ensures ∙ c.in-Ok.is))).0 in
    let g = given m i z in
    rw (
      rw c.at-window.ensures at c.offset.ensures ∙ judge_passes _ _ _ (within_inside _ _ _ g.within, tt),
      g.offset,
      g.bytes,
      z,
      part_length _ _ _ g.within.fits,
    )

pub returns-in-Err : goal.returns-in-Err
returns-in-Err c =
    let a = c.args in
    let m = window a.start a.mem.now in
    let i = info_of a.pointer a.length a.immediate in
    let e = rw (c.at-window.ensures, c.info_of.ensures) at (sym c.data_refusal.ensures ∙ c.in-Err.is) in
    let none = withheld m i (as_result_err (data_refusal m i) tt c.in-Err.refusal e).0 in
    rw (none.offset, none.bytes, c.number.ensures, data_number m i c.in-Err.refusal e)
