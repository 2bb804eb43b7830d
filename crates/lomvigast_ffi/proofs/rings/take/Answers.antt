-- The number of what refuses the take, which leaves the words.
use Rattle.std.proofs.Common.{sym, ◌∙◌}
use Rattle.guest.specs.Memory.{window}
use Rattle.event_ring.specs.Ring.{reader_at, take}
use Rattle.lomvigast_ffi.proofs.Unmoved.{take_leaves}
use Rattle.lomvigast_ffi.proofs.Refused.{take_shown}
use Rattle.lomvigast_ffi.proofs.rings.take.Goals as goal

pub returns-in-Err : goal.returns-in-Err
returns-in-Err c =
    let a = c.args in
    let m = window a.start a.mem.now in
    let q = reader_at c.state.result in
    let told = take_shown m q c.in-Err.refusal (rw c.at.ensures at (sym c.take.ensures ∙ c.in-Err.is)) in
    let left = take_leaves (take m q) a.reader.now a.out.now told.some in
    rw (← c.state.ensures) (c.number.ensures ∙ told.number, sym left.0, sym left.1)
