-- That a slot remains; the check finds what is answered.
use Rattle.event_ring.proofs.Laws.{limits}
use Rattle.event_ring.proofs.Checked.step.Goals as goal

pub overflow_sub-result : goal.overflow_sub-result
overflow_sub-result c = (limits c.args.self.ring c.args.self.limits).left
