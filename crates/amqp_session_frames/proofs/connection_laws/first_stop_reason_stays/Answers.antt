use Rattle.amqp_session_frames.specs.State.{fresh}
use Rattle.amqp_session_frames.proofs.Reasons.{history_reasons, first_stays}
use Rattle.amqp_session_frames.proofs.connection_laws.first_stop_reason_stays.Goals as goal

pub returns-clause-given : goal.returns-clause-given
returns-clause-given c = λ state opening end steps run. history_reasons steps (fresh state opening) end run

pub returns-clause-stays : goal.returns-clause-stays
returns-clause-stays c = first_stays
