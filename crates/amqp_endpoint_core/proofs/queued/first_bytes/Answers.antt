use Rattle.std.proofs.Common.{refl, arith}
use Rattle.amqp_endpoint_core.proofs.BatchLaws.{first_within}
use Rattle.amqp_endpoint_core.proofs.queued.first_bytes.Goals as goal

pub bytes_of-requires-2-clause-within : goal.bytes_of-requires-2-clause-within
bytes_of-requires-2-clause-within c =
    first_within c.args.limit c.args.queue.now.items c.args.out.now.items c.in-Some-front.first.now c.requires.within
    (omega (arith, c.args.out.now.ok.0, c.in-Some-front.ensures.variant.0 refl)) c.in-Some-front.ensures.lookup
