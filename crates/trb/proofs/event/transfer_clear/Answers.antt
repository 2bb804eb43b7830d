-- The same tests, of the dwords that were split. Without it the check finds this too, and of must-fail/reserved_bit_let_through it would
-- say that it gave up, and not which bits are not tested.
use mathlib.Core.Bool.{and-true}
use Rattle.trb.proofs.event.transfer_clear.Goals as goal

pub returns : goal.returns
returns c = rw (c.from-d.ensures, and-true)
