-- Configured of an empty ring says what it is of the ring that the words are.
use Rattle.std.proofs.Common.{sym, refl, ap, ◌∙◌}
use Rattle.guest.specs.Memory.{window}
use Rattle.guest.proofs.Numbers.{as_result_ok}
use Rattle.event_ring.specs.Ring.{configured, refused_at}
use Rattle.event_ring.proofs.Laws.{configured_given, configured_stops}
use Rattle.lomvigast_ffi.specs.Rings.{words_of, state_of}
use Rattle.lomvigast_ffi.proofs.Unmoved.{configure_leaves}
use Rattle.lomvigast_ffi.proofs.Refused.{configured_shown}
use Rattle.lomvigast_ffi.proofs.rings.lomvigast_configure.Goals as goal

pub returns-in-Ok : goal.returns-in-Ok
returns-in-Ok c =
    let a = c.args in
    let m = window a.start a.mem.now in
    let x = configured m c.new.result a.table a.entries in
    let p = as_result_ok x.refusal x.ring c.in-Ok.after (rw c.at.ensures at (sym c.configure.ensures ∙ c.in-Ok.is)) in
    rw (configured_given m c.new.result (state_of a.ring.now) a.table a.entries x refl p.0, p.0) (refl, c.put.ensures ∙ ap words_of p.1)

pub returns-in-Err : goal.returns-in-Err
returns-in-Err c =
    let a = c.args in
    let m = window a.start a.mem.now in
    let x = configured m c.new.result a.table a.entries in
    let s = state_of a.ring.now in
    let told = configured_shown m c.new.result a.table a.entries c.in-Err.refusal (rw c.at.ensures at (sym c.configure.ensures ∙ c.in-Err.is)) in
    rw (configured_stops m c.new.result s a.table a.entries x refl told.some)
    (c.number.ensures ∙ told.number, sym (configure_leaves (refused_at s x.refusal) a.ring.now told.some))
