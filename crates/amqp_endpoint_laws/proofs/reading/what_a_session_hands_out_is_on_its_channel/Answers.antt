use Rattle.amqp_endpoint_laws.proofs.Handing.{hears-of, plain-of, step-of}
use Rattle.amqp_endpoint_laws.proofs.reading.what_a_session_hands_out_is_on_its_channel.Goals as goal

pub returns-clause-steps : goal.returns-clause-steps
returns-clause-steps g c = λ old new step s. step-of g.R.LinkRelay.gives step old new s

pub returns-clause-hears : goal.returns-clause-hears
returns-clause-hears g c = λ old new said told frames h. hears-of g.R.LinkRelay.gives said told old new frames h

pub returns-clause-plain : goal.returns-clause-plain
returns-clause-plain g c = λ channel frames are. plain-of channel frames are
