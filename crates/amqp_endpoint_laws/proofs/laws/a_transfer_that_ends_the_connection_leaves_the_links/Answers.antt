use Rattle.std.proofs.Common.{subst}
use Rattle.amqp_endpoint_linking.specs.Ending.{Finishes}
use Rattle.amqp_endpoint_linking.specs.Linking.{Links}
use Rattle.amqp_endpoint_laws.proofs.BrokenAlike.{finishes-alike}
use Rattle.amqp_endpoint_laws.proofs.RefusedAlike.{transfer-alike}
use Rattle.amqp_endpoint_laws.proofs.laws.a_transfer_that_ends_the_connection_leaves_the_links.Goals as goal

pub returns : goal.returns
returns c = λ old refused over over_before limit channel transfer payload e refuses finishes finishes_before.
    let r = refuses.0 in
    finishes-alike refused.talk old.talk old.links over.talk over_before.talk over.links over_before.links
    (transfer-alike transfer payload old.talk (record { 0 = channel }) old.given e refused.talk r.refuses)
    (subst (λ (l : Links). Finishes refused.talk l over.talk over.links) r.same finishes.0) finishes_before.0
