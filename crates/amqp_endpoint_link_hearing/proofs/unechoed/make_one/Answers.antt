use Rattle.std.proofs.Common.{arith}
use Rattle.amqp_endpoint_link_hearing.proofs.unechoed.make_one.Goals as goal

pub returns-clause-made : goal.returns-clause-made
returns-clause-made c =
    record {
      says = c.in_ok-answer.ensures.1;
      place = c.in_ok-answer.ensures.2;
      most = omega (arith, c.open_in-count.ensures);
    }
