use Rattle.std.proofs.Common.{◌≡◌, length, rules, sym, subst, true≢false}
use Rattle.amqp_session_outgoing.specs.Table.{Deliveries, IsUnsettled}
use Rattle.amqp_session_outgoing.proofs.Tables.{none-unsettled}
use Rattle.amqp_session_outgoing.proofs.unsettled.Unsettled.contains.Goals as goal

pub returns-then-is_empty : goal.returns-then-is_empty
returns-then-is_empty c =
    let none : length c.self.inside.deliveries.entries ≡ 0 = search rules in
    (λ f. absurd (true≢false (sym f)), λ u. none-unsettled c.self.inside.deliveries.entries c.args.number none (subst (λ (d : Deliveries). IsUnsettled d.table c.args.number) (sym c.self.view_is) u))
