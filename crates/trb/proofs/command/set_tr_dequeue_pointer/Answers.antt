-- Flags, bytes, and the two bytes of the stream id.
use Rattle.std.proofs.Common.{rules, lit≤}
use Rattle.trb.proofs.Raw.{two_field}
use Rattle.trb.proofs.command.set_tr_dequeue_pointer.Goals as goal

pub returns : goal.returns
returns c =
    rw (
      c.slot_id.ensures,
      c.endpoint_id.ensures,
      c.two.ensures,
      two_field c.args.raw (λ i. search rules) 10 (lit≤ tt),
      c.aligned_pointer.ensures,
      c.stream_context_type.ensures,
      c.flag.ensures,
    )
