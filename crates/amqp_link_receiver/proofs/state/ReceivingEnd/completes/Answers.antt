use Rattle.std.proofs.Common.{◌≡◌, ◌==◌, ◌∙◌, ℕ, sym, ap, subst}
use Rattle.std.proofs.lemmas.Bool.{ne_eqb}
use Rattle.amqp_link_receiver.specs.Foreseen.{is_message}
use Rattle.amqp_link_receiver.specs.Receiving.{Receiving, received}
use Rattle.amqp_link_receiver.proofs.Foresight.{foresees-held}
use Rattle.amqp_link_receiver.proofs.state.ReceivingEnd.completes.Goals as goal

pub returns-in-Some : goal.returns-in-Some
returns-in-Some c =
    let before : Receiving =
    record {
      flow = c.self.inside.flow;
      held = c.self.inside.held;
      unsettled = c.self.inside.unsettled.entries;
    } in
    subst
    (λ (s : Receiving).
    c.finishes.result ≡ is_message (received c.args.attachment s c.args.transfer.now c.args.payload.now).0.told)
    c.self.view_is
    (foresees-held c.args.attachment before c.args.transfer.now c.args.payload.now c.in-Some.held c.finishes.result
    c.if-transfer.false c.if-transfer-2.false
    (ap (λ (n : ℕ). n == 0) (sym c.link_credit.ensures) ∙ ne_eqb c.link_credit.result 0 c.if-link_credit-eq0.false) c.in-Some.is
    c.finishes.ensures)
