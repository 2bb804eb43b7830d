-- By the test that `inside` made. Without it the check finds this too, and of must-fail/part_from_the_start it would say that it gave up, and
-- not which place differs.
use Rattle.std.proofs.Common.{refl}
use native.Mathlib.Nat.{add-sub_cancel_left}
use Rattle.guest.specs.Judge.{judge}
use Rattle.guest.specs.Bytes.{part}
use Rattle.guest.proofs.Tests.{told}
use Rattle.guest.proofs.part.Goals as goal

pub returns : goal.returns
unfolding judge part
returns c =
    let test = told c.inside.ensures c.if-not-inside.false in
    rw (rw c.at.ensures at test, add-sub_cancel_left) (refl, refl)
