use Rattle.amqp_endpoint_tables.proofs.Once.{never, once}
use Rattle.amqp_endpoint_tables.proofs.link_laws.numbers_are_given_once.Goals as goal

pub returns : goal.returns
returns g c =
    record {
      once = λ n start end steps h. once n start end steps h;
      used = λ n start end steps h below. never n start steps end h below;
    }
