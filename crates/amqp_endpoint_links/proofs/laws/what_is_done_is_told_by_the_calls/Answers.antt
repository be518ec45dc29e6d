use Rattle.amqp_endpoint_links.proofs.Calls.{freed-of, kept-of}
use Rattle.amqp_endpoint_links.proofs.laws.what_is_done_is_told_by_the_calls.Goals as goal

pub returns-clause-freed : goal.returns-clause-freed
returns-clause-freed g c = λ steps done are link. freed-of link steps done are

pub returns-clause-kept : goal.returns-clause-kept
returns-clause-kept g c = λ steps done are kept. kept-of g.O.LinkOwner.keeps steps done are kept
