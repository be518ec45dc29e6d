use Rattle.amqp_endpoint_laws.proofs.Coming.{all-come}
use Rattle.amqp_endpoint_laws.proofs.reading.what_comes_in_a_session_is_read_off_its_channel.Goals as goal

pub returns : goal.returns
returns g = λ number channel first later frame begin on is begun none after turns answers.
    all-come number channel first later frame begin on is begun none after turns answers
