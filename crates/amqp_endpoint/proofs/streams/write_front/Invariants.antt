use Rattle.amqp_endpoint.specs.Streams.{TakesFront}
use Rattle.amqp_endpoint.proofs.streams.write_front.Given as goal

abbrev pub invariant-loop-turn : goal.invariant-loop-turn
invariant-loop-turn g l =
    TakesFront (g.W.Write.contents l.fn.writer) l.fn.text (g.W.Write.contents l.writer) l.rest
