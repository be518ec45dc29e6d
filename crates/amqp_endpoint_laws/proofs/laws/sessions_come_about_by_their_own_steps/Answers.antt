use Rattle.amqp_endpoint_laws.proofs.PassedSteps.{session-come}
use Rattle.amqp_endpoint_laws.proofs.laws.sessions_come_about_by_their_own_steps.Goals as goal

pub returns : goal.returns
returns c = λ sessions end settings deeds number passings session new p live.
    session-come sessions end settings deeds number passings session new p live
