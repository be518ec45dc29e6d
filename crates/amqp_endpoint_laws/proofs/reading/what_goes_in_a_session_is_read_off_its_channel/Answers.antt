use Rattle.amqp_endpoint_laws.proofs.Going.{going-read}
use Rattle.amqp_endpoint_laws.proofs.reading.what_goes_in_a_session_is_read_off_its_channel.Goals as goal

pub returns : goal.returns
returns c = λ number channel first later frame begin on is begun.
    going-read number channel first later frame begin on is begun
