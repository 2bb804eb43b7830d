-- Configured of an empty reader says what it is of the reader that the words are.
use Rattle.std.proofs.Common.{sym, refl, ap, ◌∙◌}
use Rattle.guest.specs.Memory.{window}
use Rattle.guest.proofs.Numbers.{as_result_ok}
use Rattle.event_ring.specs.Ring.{configured, refused_at, of_reader, reader_configured}
use Rattle.event_ring.specs.declared.EventReader.{EventReader}
use Rattle.event_ring.proofs.Laws.{configured_given, configured_stops}
use Rattle.lomvigast_ffi.specs.Rings.{words_of, state_of}
use Rattle.lomvigast_ffi.proofs.Unmoved.{reader_leaves}
use Rattle.lomvigast_ffi.proofs.Refused.{reader_shown}
use Rattle.lomvigast_ffi.proofs.rings.lomvigast_configure_reader.Goals as goal

pub returns-in-Ok : goal.returns-in-Ok
unfolding reader_configured
returns-in-Ok c =
    let a = c.args in
    let m = window a.start a.mem.now in
    let x = configured m c.new.result.state a.table a.entries in
    let p = as_result_ok x.refusal (of_reader x).reader c.in-Ok.after (rw c.at.ensures at (sym c.configure.ensures ∙ c.in-Ok.is)) in
    rw (configured_given m c.new.result.state (state_of a.reader.now) a.table a.entries x refl p.0, p.0)
    (refl, c.put.ensures ∙ ap (λ (r : EventReader). words_of r.state) p.1)

pub returns-in-Err : goal.returns-in-Err
unfolding reader_configured
returns-in-Err c =
    let a = c.args in
    let m = window a.start a.mem.now in
    let x = configured m c.new.result.state a.table a.entries in
    let s = state_of a.reader.now in
    let told = reader_shown m c.new.result a.table a.entries c.in-Err.refusal (rw c.at.ensures at (sym c.configure.ensures ∙ c.in-Err.is)) in
    rw (configured_stops m c.new.result.state s a.table a.entries x refl told.some)
    (c.number.ensures ∙ told.number, sym (reader_leaves (of_reader (refused_at s x.refusal)) a.reader.now told.some))
