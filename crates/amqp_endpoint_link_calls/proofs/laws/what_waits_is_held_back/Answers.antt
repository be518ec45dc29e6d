use Rattle.amqp_endpoint_link_calls.proofs.Counting.{all-counted, most-counted}
use Rattle.amqp_endpoint_link_calls.proofs.laws.what_waits_is_held_back.Goals as goal

pub returns-clause-all : goal.returns-clause-all
returns-clause-all c = all-counted

pub returns-clause-most : goal.returns-clause-most
returns-clause-most c = most-counted
