use Rattle.amqp_endpoint_laws.proofs.Counted.{counts}
use Rattle.amqp_endpoint_laws.proofs.laws.numbers_of_messages_are_serials.Goals as goal

pub returns : goal.returns
returns c = λ sessions settings calls told end new run.
    (counts sessions settings calls told end new run).numbers_are
