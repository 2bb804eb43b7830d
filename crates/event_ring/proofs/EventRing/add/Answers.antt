-- By what the bytes, the step and the write answered.
use Rattle.std.proofs.Common.{sym, ◌∙◌, arith}
use Rattle.std.proofs.lemmas.Result.{err_from_is_err_and}
use Rattle.guest.specs.Memory.{window}
use Rattle.event_ring.proofs.Laws.{add_unwritten, add_refused, add_writes_ok, add_accepted}
use Rattle.event_ring.proofs.EventRing.add.Goals as goal

pub returns-in_err-trb : goal.returns-in_err-trb
returns-in_err-trb c =
    let x = c.args in
    let p = err_from_is_err_and c.from_residual.result c.from_residual.ensures.1 in
    rw (p.1, p.2) (add_unwritten (window x.start x.mem.now) x.self x.event x.report _ (sym c.to_bytes.ensures ∙ c.in_err-trb.was))

pub returns-in_err-step : goal.returns-in_err-step
returns-in_err-step c =
    let x = c.args in
    let p = err_from_is_err_and c.from_residual-in_err-step.result c.from_residual-in_err-step.ensures.1 in
    let step = sym c.add_step.ensures ∙ c.in_err-step.was in
    rw (p.1, p.2)
    (add_refused (window x.start x.mem.now) x.self x.event x.report _ (sym c.to_bytes.ensures ∙ c.in_ok-trb.was) _ (rw c.at.ensures at step))

pub returns-in_err-write_trb : goal.returns-in_err-write_trb
returns-in_err-write_trb c =
    let x = c.args in
    let step = sym c.add_step.ensures ∙ c.in_ok-step.was in
    let wrote = add_writes_ok (window x.start x.mem.now) x.self x.event x.report _ (sym c.to_bytes.ensures ∙ c.in_ok-trb.was) _ (rw c.at.ensures at step) in
    absurd (grind (arith, wrote, c.write_trb.ensures.0, c.in_err-write_trb.was))

pub returns : goal.returns
returns c =
    let x = c.args in
    let step = sym c.add_step.ensures ∙ c.in_ok-step.was in
    add_accepted (window x.start x.mem.now) x.self x.event x.report _ (sym c.to_bytes.ensures ∙ c.in_ok-trb.was) _ (rw c.at.ensures at step) _
    c.write_trb.ensures.1
