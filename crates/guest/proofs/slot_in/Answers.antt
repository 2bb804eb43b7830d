-- Each number is one in the sixteen bytes.
use Rattle.std.proofs.Common.{◌+◌, add-zero, arith}
use Rattle.guest.proofs.Bytes.{le_part, le_four, le_eight}
use Rattle.guest.proofs.slot_in.Goals as goal

pub returns : goal.returns
returns c =
    let m = c.args.bytes.now in
    let a = c.args.at in
    rw (
      c.from.ensures,
      c.from_le_bytes.ensures,
      c.from_le_bytes-2.ensures,
      c.from_le_bytes-3.ensures,
      c.array.ensures,
      c.array-2.ensures,
      c.array-3.ensures,
      le_four m (a + 12),
      le_eight m a,
      le_eight m (a + 8),
      le_part 4 m a 16 12 (omega arith),
      le_part 8 m a 16 0 (omega arith),
      le_part 8 m a 16 8 (omega arith),
      add-zero,
    )
