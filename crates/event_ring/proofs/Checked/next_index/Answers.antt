-- That the index is below 16; the check finds what is answered.
use Rattle.std.proofs.Common.{arith}
use Rattle.event_ring.proofs.Laws.{limits}
use Rattle.event_ring.proofs.Checked.next_index.Goals as goal

pub overflow_add-ring : goal.overflow_add-ring
overflow_add-ring c = omega (arith, limits c.args.self.ring c.args.self.limits)

pub overflow_add-result : goal.overflow_add-result
overflow_add-result c = omega (arith, limits c.args.self.ring c.args.self.limits)
