-- By the three facts.
use Rattle.std.proofs.Common.{sym, arith}
use Rattle.guest.proofs.Memory.{inside_no, inside_none, inside_last}
use Rattle.guest.proofs.Window.inside.Goals as goal

pub returns-then-address-self : goal.returns-then-address-self
returns-then-address-self c = rw (← c.self.view_is) (sym (inside_no _ _ _ (λ w. omega (arith, w.from))))

pub returns-then-length-eq0 : goal.returns-then-length-eq0
returns-then-length-eq0 c = rw (← c.self.view_is) (inside_none _ _ _ (omega arith) (omega arith) (omega arith))

pub returns-then-address-length : goal.returns-then-address-length
returns-then-address-length c = rw (← c.self.view_is) (sym (inside_no _ _ _ (λ w. omega (arith, w.below))))

pub returns : goal.returns
returns c = rw (← c.self.view_is) (inside_last _ _ _ (omega arith) (omega arith) (omega arith))
