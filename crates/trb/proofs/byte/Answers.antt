-- The whole byte of its dword.
use Rattle.std.proofs.Common.{arith, rules, lit≤, add-zero}
use Rattle.trb.proofs.Raw.{Raw, byte_field}
use Rattle.trb.proofs.byte.Goals as goal

pub returns : goal.returns
returns c = let b : Raw c.args.raw = λ i. search rules in omega (arith, (b c.args.at).fits, simp add-zero at (byte_field c.args.raw b c.args.at 0 8 (lit≤ tt)))
