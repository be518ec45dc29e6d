use Rattle.amqp_endpoint_laws.specs.CallsDone.{events_told}
use Rattle.amqp_endpoint_laws.specs.Telling.{numbers_told}
use Rattle.amqp_endpoint_laws.proofs.Counted.{numbers-apart}
use Rattle.amqp_endpoint_laws.proofs.laws.numbers_of_messages_are_apart.Goals as goal

pub returns : goal.returns
returns c = λ sessions settings calls told end new run.
    numbers-apart (numbers_told (events_told told)) end.sessions.given
    (c.numbers_of_messages_are_serials.ensures sessions settings calls told end new run)
