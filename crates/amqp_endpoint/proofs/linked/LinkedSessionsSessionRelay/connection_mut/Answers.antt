use Rattle.std.proofs.Common.{refl}
use Rattle.amqp_endpoint_conversation.proofs.Calls.{wider-within}
use Rattle.amqp_endpoint.proofs.linked.LinkedSessionsSessionRelay.connection_mut.Goals as goal

pub returns : goal.returns
returns c = (
  (refl, λ w. refl),
  record {
    writes_back = tt;
    value = c.connection_mut.ensures.value;
    moved = λ connection. refl;
    same = refl;
    within = λ limit wider connection more within number session live.
        wider-within limit wider c.args.self.now.talk within more number session live;
    idle = λ connection none number. none number;
  },
)
