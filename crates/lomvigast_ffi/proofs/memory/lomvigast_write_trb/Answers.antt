-- The number of what refuses the write.
use Prim.{tt}
use Rattle.std.proofs.Common.{sym, ◌∙◌, lit<}
use Rattle.guest.specs.Memory.{window}
use Rattle.guest.specs.Answers.{touches}
use Rattle.guest.proofs.Numbers.{refusal_lt, as_result_number}
use Rattle.lomvigast_ffi.proofs.memory.lomvigast_write_trb.Goals as goal

pub returns-in-Err : goal.returns-in-Err
returns-in-Err c =
    let tests = touches (window c.args.start c.args.mem.now) c.args.address 16 in (
      c.number.ensures ∙ as_result_number _ tt c.in-Err.refusal (refusal_lt tests (lit< tt, tt)) (sym c.write_trb.ensures.0 ∙ c.in-Err.is),
      rw c.whole.ensures at c.write_trb.ensures.1,
    )
