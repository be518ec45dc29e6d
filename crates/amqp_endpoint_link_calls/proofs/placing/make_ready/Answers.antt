use Rattle.std.proofs.Common.{All, List, refl, subst, sym}
use Rattle.amqp_link_sender.specs.declared.sending_on.PreparedSendOn.{PreparedSendOn}
use Rattle.amqp_link_unsettled.specs.declared.exchanging.Abort.{Abort}
use Rattle.amqp_endpoint_messages.specs.GoingOn.{AreOnReady}
use Rattle.amqp_endpoint_messages.specs.MadeReady.{IsMadeReady}
use Rattle.amqp_endpoint_messages.specs.SendingOn.{IsOn}
use Rattle.amqp_endpoint_link_calls.proofs.CreditAnswered.{on-planned-are}
use Rattle.amqp_endpoint_link_calls.proofs.placing.make_ready.Goals as goal

pub make_on_ready-requires : goal.make_on_ready-requires
make_on_ready-requires c =
    subst (λ (l : List PreparedSendOn). All IsOn l) (sym c.in_ok-ons.ensures)
    (on-planned-are c.args.link.now c.args.prepared.now.taken c.args.prepared.now.kept)

pub returns-clause-ready : goal.returns-clause-ready
returns-clause-ready c =
    record {
      closing = refl;
      giving =
          subst (λ (l : List Abort). IsMadeReady c.args.limit c.args.closing.handle l c.in_ok-giving.giving)
          c.aborts.ensures c.in_ok-giving.ensures;
      on =
          subst (λ (l : List PreparedSendOn). AreOnReady c.args.limit c.args.closing.handle l c.in_ok-on.on)
          c.in_ok-ons.ensures c.in_ok-on.ensures.ready;
    }
