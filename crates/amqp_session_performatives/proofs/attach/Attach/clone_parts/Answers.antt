use Rattle.std.proofs.Common.{◌≡◌}
use Rattle.amqp_session_performatives.proofs.Clones.{both_are}
use Rattle.amqp_session_performatives.proofs.attach.Attach.clone_parts.Goals as goal

pub returns : goal.returns
returns c =
    let attach = c.args.self.now in
    both_are c.both-3.result c.both.result c.both-2.result
    (λ s. ((s.0.0 ≡ attach.name) × (s.0.1 ≡ attach.properties)) × ((s.1.0 ≡ attach.offered_capabilities) × (s.1.1 ≡ attach.desired_capabilities)))
    (λ l. (l.0 ≡ attach.unsettled) × ((l.1.0 ≡ attach.source) × (l.1.1 ≡ attach.target)))
    (both_are c.both.result c.clone_name.result c.clone_capabilities.result (λ n. (n.0 ≡ attach.name) × (n.1 ≡ attach.properties)) (λ s. (s.0 ≡ attach.offered_capabilities) × (s.1 ≡ attach.desired_capabilities)) c.clone_name.ensures c.clone_capabilities.ensures c.both.ensures)
    (both_are c.both-2.result c.clone_unsettled.result c.clone_termini.result (λ u. u ≡ attach.unsettled) (λ t. (t.0 ≡ attach.source) × (t.1 ≡ attach.target)) c.clone_unsettled.ensures c.clone_termini.ensures c.both-2.ensures)
    c.both-3.ensures
