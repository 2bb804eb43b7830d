-- Bytes, and pairs of bytes in one dword.
use Rattle.std.proofs.Common.{rules, lit≤}
use Rattle.trb.proofs.Raw.{Raw, two_field}
use Rattle.trb.proofs.transfer.setup_stage.Goals as goal

pub returns : goal.returns
returns c =
    let raw = c.args.raw in
    let b : Raw raw = λ i. search rules in
    rw (
      c.flag.ensures,
      c.two-3.ensures,
      c.two-2.ensures,
      c.two.ensures,
      two_field raw b 6 (lit≤ tt),
      two_field raw b 4 (lit≤ tt),
      two_field raw b 2 (lit≤ tt),
      c.byte-2.ensures,
      c.byte.ensures,
    )
