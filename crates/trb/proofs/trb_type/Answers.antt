-- Bits of one byte.
use Rattle.std.proofs.Common.{arith, rules, lit≤}
use Rattle.trb.proofs.Raw.{Raw, byte_field}
use Rattle.trb.proofs.trb_type.Goals as goal

pub returns : goal.returns
returns c = let b : Raw c.args.raw = λ i. search rules in omega (arith, (b 13).fits, byte_field c.args.raw b 13 2 6 (lit≤ tt))
