-- By whether one slot remains.
use Rattle.std.proofs.Common.{ap, eq-eqb, ne_eqb}
use Rattle.std.specs.Prelude.{Ok}
use Rattle.guest.specs.Judge.{judge}
use Rattle.event_ring.specs.Ring.{next_tests, next_state}
use Rattle.event_ring.proofs.Checked.next.Goals as goal

pub returns-then-self-eq1 : goal.returns-then-self-eq1
unfolding judge next_tests next_state
returns-then-self-eq1 c = rw (eq-eqb _ _ c.if-self-eq1.true) c.enter_next.ensures

pub returns : goal.returns
unfolding judge next_tests next_state
returns c = rw (ne_eqb _ _ c.if-self-eq1.false) (ap Ok c.step.ensures)
