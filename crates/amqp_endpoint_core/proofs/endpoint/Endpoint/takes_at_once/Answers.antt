use Rattle.std.proofs.Common.{◌≡◌, ◌++◌, refl, sym, ap, ◌∙◌}
use Rattle.amqp_endpoint_model.specs.State.{State, limit_of}
use Rattle.amqp_endpoint_core.specs.Queue.{frames_waiting}
use Rattle.amqp_endpoint_core.proofs.ArrivalLaws.{arrived_taken, arrived_within, left_alone}
use Rattle.amqp_endpoint_core.proofs.ConnectedLaws.{seen_still, stands_still}
use Rattle.amqp_endpoint_core.proofs.IdleLaws.{idle_running}
use Rattle.amqp_endpoint_core.proofs.WithinLaws.{wait_told}
use Rattle.amqp_endpoint_core.proofs.endpoint.Endpoint.takes_at_once.Goals as goal

pub invariant_of-self : goal.invariant_of-self
invariant_of-self g c =
    let (stands, fits, least, within, waits, idle) = c.self.invariant in
    let call = c.takes_at_once in
    let limit = limit_of c.self.inside.peer_limit in
    let limit_is : c.limit-limit.result ≡ limit =
    c.limit-limit.ensures ∙ ap (λ (s : State g.row.S.Denot). limit_of s.peer_limit) (sym c.self.view_is) in
    let running = ap (λ (s : State g.row.S.Denot). s.phase) c.self.view_is ∙ c.requires in (
      stands_still g.S.SessionRelay.does c.self.inside.settings c.self.inside.phase c.self.inside.phase
          c.self.inside.peer_limit c.self.inside.peer_limit c.self.inside.sessions call.new.self stands
          call.ensures.still stands.agrees,
      fits,
      least,
      arrived_within g.S.SessionRelay.does c.args.channel.0 c.args.transfer.now c.args.payload.now c.limit-limit.result
          limit limit_is c.self.inside.queue.items c.self.inside.out.items call.new.out.items c.self.inside.sessions
          call.new.self call.result call.ensures.taken call.ensures.none within,
      wait_told g.S.SessionRelay.does c.self.inside.phase c.self.inside.peer_limit c.self.inside.sessions
          call.new.self c.limit-limit.result limit_is running call.ensures.within,
      idle_running g.S.SessionRelay.does c.self.inside.phase c.self.inside.sessions call.new.self running,
    )

pub returns-clause-taken : goal.returns-clause-taken
returns-clause-taken g c =
    let call = c.takes_at_once in
    let more = c.self.inside.queue.items ++ frames_waiting call.new.out.items in
    arrived_taken g.S.SessionRelay.does c.args.channel.0 c.args.transfer.now c.args.payload.now c.args.self.now _
    c.limit-limit.result c.self.inside.queue.items c.self.inside.out.items call.new.out.items c.self.inside.sessions
    call.new.self (ap (λ (s : State g.row.S.Denot). s.sessions) c.self.view_is) c.limit-limit.ensures
    (ap (λ (s : State g.row.S.Denot). s.queue) c.self.view_is)
    (seen_still g.S.SessionRelay.does c.self.inside.settings c.self.inside.phase c.self.inside.peer_limit
    c.self.inside.close_told c.self.inside.input.items more more c.self.inside.sessions call.new.self refl
    call.ensures.still.state
    ∙ ap (λ (s : State g.row.S.Denot). record s { sessions = call.new.self; queue = more }) c.self.view_is)
    call.result c.args.events.now.items call.ensures.taken

pub returns-clause-none : goal.returns-clause-none
returns-clause-none g c =
    let call = c.takes_at_once in
    let more = c.self.inside.queue.items ++ frames_waiting call.new.out.items in
    left_alone g.S.SessionRelay.does c.args.channel.0 c.args.transfer.now c.args.payload.now c.args.self.now _
    c.limit-limit.result c.self.inside.queue.items c.self.inside.out.items call.new.out.items c.self.inside.sessions
    call.new.self (ap (λ (s : State g.row.S.Denot). s.sessions) c.self.view_is) c.limit-limit.ensures
    (ap (λ (s : State g.row.S.Denot). s.queue) c.self.view_is)
    (seen_still g.S.SessionRelay.does c.self.inside.settings c.self.inside.phase c.self.inside.peer_limit
    c.self.inside.close_told c.self.inside.input.items more more c.self.inside.sessions call.new.self refl
    call.ensures.still.state
    ∙ ap (λ (s : State g.row.S.Denot). record s { sessions = call.new.self; queue = more }) c.self.view_is)
    call.result call.ensures.none
