use Rattle.std.proofs.Common.{◌≡◌}
use Rattle.amqp_link_sections.proofs.Clones.{both_are}
use Rattle.amqp_link_sections.proofs.properties.Properties.clone_parts.Goals as goal

pub returns : goal.returns
returns c =
    let p = c.args.self.now in
    both_are c.both-4.result c.both.result c.both-3.result
    (λ i. ((i.0.0 ≡ p.message_id) × (i.0.1 ≡ p.correlation_id)) × ((i.1.0 ≡ p.user_id) × (i.1.1 ≡ p.subject)))
    (λ a. ((a.0.0 ≡ p.to) × (a.0.1 ≡ p.reply_to)) × (((a.1.0.0 ≡ p.content_type) × (a.1.0.1 ≡ p.content_encoding)) × ((a.1.1.0 ≡ p.group_id) × (a.1.1.1 ≡ p.reply_to_group_id))))
    (both_are c.both.result c.clone_ids.result c.clone_user.result (λ i. (i.0 ≡ p.message_id) × (i.1 ≡ p.correlation_id)) (λ u. (u.0 ≡ p.user_id) × (u.1 ≡ p.subject)) c.clone_ids.ensures c.clone_user.ensures c.both.ensures)
    (both_are c.both-3.result c.clone_addresses.result c.both-2.result (λ a. (a.0 ≡ p.to) × (a.1 ≡ p.reply_to)) (λ b. ((b.0.0 ≡ p.content_type) × (b.0.1 ≡ p.content_encoding)) × ((b.1.0 ≡ p.group_id) × (b.1.1 ≡ p.reply_to_group_id)))
    c.clone_addresses.ensures
    (both_are c.both-2.result c.clone_content.result c.clone_groups.result (λ t. (t.0 ≡ p.content_type) × (t.1 ≡ p.content_encoding)) (λ g. (g.0 ≡ p.group_id) × (g.1 ≡ p.reply_to_group_id)) c.clone_content.ensures c.clone_groups.ensures c.both-2.ensures)
    c.both-3.ensures)
    c.both-4.ensures
