use Rattle.std.proofs.Common.{◌++◌, refl, ap, ◌∙◌}
use Rattle.amqp_endpoint_model.specs.declared.call.Call.TheVariants as call
use Rattle.amqp_endpoint_model.specs.Said.{refusal_in, tried_end}
use Rattle.amqp_endpoint_model.specs.State.{State}
use Rattle.amqp_endpoint_core.specs.Queue.{frames_waiting}
use Rattle.amqp_endpoint_core.proofs.CallLaws.{answered}
use Rattle.amqp_endpoint_core.proofs.ConnectedLaws.{seen_still}
use Rattle.amqp_endpoint_core.proofs.endpoint.Endpoint.try_end.Goals as goal

pub returns-clause-done : goal.returns-clause-done
returns-clause-done g c =
    let more = c.self.inside.queue.items ++ frames_waiting c.self.inside.out.items in
    answered g.S.SessionRelay.does c.args.self.now (call.TryEnd c.args.session)
    (tried_end (refusal_in c.try_end.result))
    c.self.inside.sessions c.try_end.new.self _ refl (ap (λ (s : State g.row.S.Denot). s.sessions) c.self.view_is)
    c.try_end.ensures.called
    (seen_still g.S.SessionRelay.does c.self.inside.settings c.self.inside.phase c.self.inside.peer_limit
    c.self.inside.close_told c.self.inside.input.items more more c.self.inside.sessions c.try_end.new.self refl
    c.try_end.ensures.still.state
    ∙ ap (λ (s : State g.row.S.Denot). record s { sessions = c.try_end.new.self }) c.self.view_is)
