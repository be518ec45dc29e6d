use Rattle.amqp_endpoint_laws.proofs.Runs.{is-done}
use Rattle.amqp_endpoint_laws.proofs.deeds.runs_are_deeds.Goals as goal

pub returns : goal.returns
returns g c = λ sessions settings calls told end run.
    is-done g.S.SessionRelay.does sessions settings calls told end run
