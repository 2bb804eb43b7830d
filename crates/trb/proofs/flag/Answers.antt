-- The bit of its byte.
use Rattle.std.proofs.Common.{ℕ, eqb, sym, ap, rules, arith}
use Rattle.trb.proofs.Raw.{byte_field}
use Rattle.trb.proofs.flag.Goals as goal

pub returns : goal.returns
returns c =
    ap (λ (n : ℕ). eqb n 1) (sym (byte_field c.args.raw (λ i. search rules) c.args.at c.args.lo 1 (omega (arith, c.requires.1))))
