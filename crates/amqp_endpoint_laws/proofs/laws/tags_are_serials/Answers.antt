use Rattle.amqp_endpoint_laws.proofs.Counted.{counts}
use Rattle.amqp_endpoint_laws.proofs.laws.tags_are_serials.Goals as goal

pub returns : goal.returns
returns c = λ sessions settings calls told end new run.
    (counts sessions settings calls told end new run).tags_are
