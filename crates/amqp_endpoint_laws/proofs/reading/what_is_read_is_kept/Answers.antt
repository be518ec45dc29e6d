use Rattle.amqp_endpoint_laws.proofs.Beginning.{speaks-there}
use Rattle.amqp_endpoint_laws.proofs.Following.{followed-on, follows-keeps}
use Rattle.amqp_endpoint_laws.proofs.reading.what_is_read_is_kept.Goals as goal

pub returns-clause-further : goal.returns-clause-further
returns-clause-further g c = λ old mid new frames more f h. followed-on old mid new frames more f h

pub returns-clause-kept : goal.returns-clause-kept
returns-clause-kept g c = λ base r old new frames f stands agrees. follows-keeps base r old new frames f stands agrees

pub returns-clause-speaks : goal.returns-clause-speaks
returns-clause-speaks g c = λ frames. speaks-there frames
