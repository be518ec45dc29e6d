use Rattle.amqp_endpoint_attached.proofs.Frames.{sends_at_most, says_at_most}
use Rattle.amqp_endpoint_attached.proofs.laws.what_is_sent_is_the_frame.Goals as goal

pub returns-clause-sends : goal.returns-clause-sends
returns-clause-sends c = λ old new handle before after frame frames sends.
    sends_at_most old new handle before after frame frames sends

pub returns-clause-says : goal.returns-clause-says
returns-clause-says c = λ old new handle frame frames says. says_at_most old new handle frame frames says
