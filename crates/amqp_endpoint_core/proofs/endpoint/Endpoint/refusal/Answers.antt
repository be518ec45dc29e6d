use Rattle.std.proofs.Common.{inr, refl, ap, subst}
use Rattle.std.specs.Prelude.{unwrap_or}
use Rattle.amqp_endpoint_model.specs.declared.call.Call.TheVariants as call
use Rattle.amqp_endpoint_model.specs.declared.error.EndpointError.TheVariants.{Memory}
use Rattle.amqp_endpoint_model.specs.State.{State, limit_of}
use Rattle.amqp_endpoint_core.proofs.endpoint.Endpoint.refusal.Goals as goal

pub returns : goal.returns
returns g c message is =
    let limit = limit_of c.args.self.now.peer_limit in
    inr (
      refl,
      subst
          (λ (s : g.row.S.Denot). g.S.SessionRelay.does.bars s limit (call.Send c.args.link message)
          (unwrap_or c.send_refusal.result Memory))
          (ap (λ (s : State g.row.S.Denot). s.sessions) c.self.view_is) (c.send_refusal.ensures limit message is),
    )
