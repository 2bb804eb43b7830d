-- The number of what refuses the add, which leaves the words.
use Rattle.std.proofs.Common.{sym, ◌∙◌}
use Rattle.guest.specs.Memory.{window}
use Rattle.event_ring.specs.Ring.{added}
use Rattle.lomvigast_ffi.proofs.Unmoved.{configure_leaves}
use Rattle.lomvigast_ffi.proofs.Refused.{added_shown}
use Rattle.lomvigast_ffi.proofs.rings.add.Goals as goal

pub returns-in-Err : goal.returns-in-Err
returns-in-Err c =
    let a = c.args in
    let m = window a.start a.mem.now in
    let told = added_shown m c.state.result c.in-Ok.e a.report c.in-Err.refusal (sym c.add.ensures.0 ∙ c.in-Err.is) in
    rw (sym c.given-given.ensures ∙ c.in-Ok.is, ← c.state.ensures)
    (c.number-in-Err.ensures ∙ told.number, c.add.ensures.1, sym (configure_leaves (added m c.state.result c.in-Ok.e a.report) a.ring.now told.some))
