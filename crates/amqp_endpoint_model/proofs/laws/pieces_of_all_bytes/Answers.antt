use Rattle.amqp_endpoint_model.proofs.Keeping.{pieces}
use Rattle.amqp_endpoint_model.proofs.laws.pieces_of_all_bytes.Goals as goal

pub returns : goal.returns
returns g c = λ sessions settings calls told end run.
    pieces g.S.SessionRelay.does sessions settings calls told end run
