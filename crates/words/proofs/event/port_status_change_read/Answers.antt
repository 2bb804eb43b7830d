-- By the tests in their order.
use Rattle.std.proofs.Common.{◌∙◌, eq-eqb}
use Rattle.words.proofs.Read.{port_put}
use Rattle.words.proofs.event.port_status_change_read.Goals as goal

pub returns : goal.returns
returns c =
    let q = port_put c.args.low c.args.high (eq-eqb _ _ c.if-d2-ne1.false) c.if-not-d0-d1.false c.args.out.now in
    (q.0, c.put.ensures ∙ q.1)
