use Rattle.amqp_endpoint.proofs.Writing.{more_taken}
use Rattle.amqp_endpoint.proofs.streams.write_front.Goals as goal

pub loop-turn-preserved : goal.loop-turn-preserved
loop-turn-preserved g c =
    more_taken (g.W.Write.contents c.args.writer.now) (g.W.Write.contents c.loop-turn.writer)
    (g.W.Write.contents c.write_some.new.writer) c.args.text.now c.loop-turn.rest.now c.bytes_behind-rest.result.now
    c.in_ok-count.count c.loop-turn.invariant c.in_ok-count.ensures.ok c.bytes_behind-rest.ensures
