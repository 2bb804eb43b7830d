-- Bits of one byte. A line at the function does not find them, and their numbers are this answer's own.
use Rattle.std.proofs.Common.{arith, rules, lit≤}
use Rattle.trb.proofs.Raw.{Raw, byte_field}
use Rattle.trb.proofs.endpoint_id.Goals as goal

pub returns : goal.returns
returns c = let b : Raw c.args.raw = λ i. search rules in omega (arith, byte_field c.args.raw b 14 0 5 (lit≤ tt))
