use Rattle.std.proofs.Common.{rules}
use Rattle.amqp_session_outgoing.specs.Touched.{number_at}
use Rattle.amqp_session_outgoing.proofs.Gathering.{taken-more, touched-all}
use Rattle.amqp_session_outgoing.proofs.unsettled.Unsettled.gathered.Goals as goal

pub loop-distance-preserved : goal.loop-distance-preserved
loop-distance-preserved c =
    taken-more (number_at (c.args.range).first) c.in_ok-distances.distances.keys c.loop-distance.distances.keys c.pop_first.new.self.keys c.loop-distance.numbers.items c.push.new.self.items c.in-Some.distance
    c.loop-distance.invariant c.in-Some.ensures.removal c.in_ok-push.ensures.items

pub returns : goal.returns
returns c =
    touched-all c.args.range (c.args.self.now).table c.in_ok-distances.distances c.loop-distance.distances.keys c.loop-distance.numbers.items
    c.in_ok-distances.ensures.ordered c.in_ok-distances.ensures.each c.loop-distance.invariant (search rules)
