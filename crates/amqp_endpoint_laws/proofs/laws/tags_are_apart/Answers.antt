use Rattle.amqp_endpoint_laws.specs.CallsDone.{events_told}
use Rattle.amqp_endpoint_laws.specs.Telling.{tags_given}
use Rattle.amqp_endpoint_laws.proofs.Counted.{counts, tags-apart}
use Rattle.amqp_endpoint_laws.proofs.laws.tags_are_apart.Goals as goal

pub returns : goal.returns
returns c = λ sessions settings calls told end new run.
    tags-apart (events_told told) (tags_given told) end.sessions (counts sessions settings calls told end new run)
