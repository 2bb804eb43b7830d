-- By the test that `inside` made. Without it the check finds this too, and of must-fail/window_from_zero it would say that it gave up, and not
-- which place differs.
use Rattle.std.proofs.Common.{arith}
use Rattle.guest.proofs.Tests.{told}
use Rattle.guest.proofs.Memory.{inside_within}
use Rattle.guest.proofs.Window.array.Goals as goal

pub array-requires : goal.array-requires
array-requires g c =
    let test = told c.inside.ensures c.if-not-inside.false in
    let w = inside_within _ _ _ (rw (← c.self.view_is) at test) in
    (omega (arith, w.fits), w.fits)
