use Rattle.amqp_endpoint_laws.proofs.Beside.{channels-tell, reaches-it}
use Rattle.amqp_endpoint_laws.proofs.reading.channels_tell_the_sessions.Goals as goal

pub returns-clause-goes_on : goal.returns-clause-goes_on
returns-clause-goes_on g c = λ base r start end steps h on stands agrees.
    channels-tell base r start end steps h on stands agrees

pub returns-clause-reached : goal.returns-clause-reached
returns-clause-reached g c = λ base r s channel agrees. reaches-it base r s channel agrees
