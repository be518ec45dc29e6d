use Rattle.std.proofs.Common.{arith, ◌<◌, ◌≤◌, ap, length, take, length-append, length-take-le}
use Rattle.serde_amqp_read.specs.Fetching.{left_of}
use Rattle.serde_amqp_read.specs.Reads.{faultless}
use Rattle.serde_amqp_read.proofs.Refusals.{carried, refusal_of}
use Rattle.serde_amqp_read.proofs.fetching.IoReader.take_onto.Goals as goal

pub returns-in_err-take_into-clause-end : goal.returns-in_err-take_into-clause-end
returns-in_err-take_into-clause-end g c =
    let room : c.min-wanted.result ≤ length c.loop-missing.piece = omega (arith, c.min-wanted.ensures, c.loop-missing.invariant.piece) in
    carried faultless c.from_residual.result c.in_err-take_into.field-0.0 _ (length (left_of c.args.self.now) < c.args.count) c.from_residual.ensures.1
    (λ h. omega (arith, h, c.loop-missing.invariant.long, ap length c.loop-missing.invariant.split, length-append c.loop-missing.bytes.items (left_of c.loop-missing.self), length-append c.args.bytes.now.items (left_of c.args.self.now), c.min-wanted.ensures, length-take-le c.min-wanted.result c.loop-missing.piece room))
    (refusal_of faultless c.in_err-take_into.field-0.0 (length (left_of c.loop-missing.self) < length (take c.min-wanted.result c.loop-missing.piece)) c.in_err-take_into.ensures.end.1)
