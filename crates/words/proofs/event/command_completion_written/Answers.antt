-- By the tests in their order.
use Rattle.std.proofs.Common.{◌∙◌}
use Rattle.guest.proofs.Tests.{told}
use Rattle.words.proofs.Listed.{listed_yes, listed_back}
use Rattle.words.proofs.Written.{command_yes}
use Rattle.words.proofs.event.command_completion_written.Goals as goal

pub returns : goal.returns
returns c =
    let y = told c.listed.ensures c.if-not-listed.false in
    c.joined.ensures.0
    ∙ command_yes c.args.event.now c.args.cycle _ (listed_yes _ y) (listed_back _ y) c.joined.ensures.1 c.if-length-ge16777216.false
    c.if-pointer-ne0.false
