use Rattle.std.proofs.Common.{◌≡◌, inr, refl, ◌∙◌, ap}
use Rattle.amqp_session_frames.specs.State.{State as ConnectionFields}
use Rattle.amqp_session_frames.specs.declared.state.ConnectionState.TheVariants.{HeaderExchange, OpenSent}
use Rattle.amqp_endpoint_model.specs.declared.phase.Phase.TheVariants.{Greeting, Running}
use Rattle.amqp_endpoint_model.specs.State.{State, limit_of, own_open}
use Rattle.amqp_endpoint_model.specs.Step.{at_state}
use Rattle.amqp_endpoint_core.proofs.ConnectedLaws.{agrees_exchanged, greeting_of, runs_sent, seen_greeted, stands_at}
use Rattle.amqp_endpoint_core.proofs.IdleLaws.{idle_running, idle_still}
use Rattle.amqp_endpoint_core.proofs.QueueLaws.{frame-within, gathered-same, within-pushed, within-same}
use Rattle.amqp_endpoint_core.proofs.WithinLaws.{wait_opened, wait_still}
use Rattle.amqp_endpoint_core.proofs.endpoint.Endpoint.send_open.Goals as goal

pub invariant_of-self-in-Err : goal.invariant_of-self-in-Err
invariant_of-self-in-Err g c =
    let (stands, fits, least, within, waits, idle) = c.self.invariant in
    let (gathered, none, room) = c.in_ok-gather.ensures.ok in
    let at : c.self.inside.phase ≡ Greeting = ap (λ (s : State g.row.S.Denot). s.phase) c.self.view_is ∙ c.requires in
    let greets = greeting_of c.self.inside.phase c.self.inside.peer_limit _ at stands.agrees in
    let agrees =
    agrees_exchanged c.self.inside.phase c.self.inside.peer_limit HeaderExchange at greets.0 refl in (
      stands_at g.S.SessionRelay.does c.self.inside.settings c.self.inside.phase c.self.inside.phase
          c.self.inside.peer_limit c.self.inside.sessions c.open.new.sessions HeaderExchange stands
          c.in-Err.ensures.still agrees,
      fits,
      least,
      within-same (limit_of c.self.inside.peer_limit) _ _ (gathered-same _ _ _ _ gathered none) within,
      wait_still g.S.SessionRelay.does c.self.inside.phase c.self.inside.peer_limit c.self.inside.sessions
          c.open.new.sessions c.in-Err.ensures.within waits,
      idle_still g.S.SessionRelay.does c.self.inside.phase c.self.inside.sessions c.open.new.sessions
          c.in-Err.ensures.idle idle,
    )

pub returns-in-Err : goal.returns-in-Err
returns-in-Err g c =
    let (stands, fits, least, within, waits, idle) = c.self.invariant in
    let (gathered, none, room) = c.in_ok-gather.ensures.ok in
    let does = g.S.SessionRelay.does in
    let at : c.self.inside.phase ≡ Greeting = ap (λ (s : State g.row.S.Denot). s.phase) c.self.view_is ∙ c.requires in
    let greets = greeting_of c.self.inside.phase c.self.inside.peer_limit _ at stands.agrees in
    let exchanged = ap (λ (x : ConnectionFields). x.local_state) c.in-Err.ensures.still in
    let seen =
    seen_greeted does c.self.inside.settings c.self.inside.phase c.self.inside.peer_limit c.self.inside.close_told
    c.self.inside.input.items _ _ c.self.inside.sessions c.open.new.sessions (gathered-same _ _ _ _ gathered none)
    greets.1
    exchanged in
    record {
      ok = tt;
      err = (
        refl,
        inr (
            seen
            ∙ ap (λ (s : State g.row.S.Denot). record s { sessions = c.open.new.sessions }) c.self.view_is
            ∙ ap (λ (x : g.row.S.Denot). record c.args.self.now { sessions = x }) c.in-Err.ensures.kept
            ∙ ap (λ (s : State g.row.S.Denot). record c.args.self.now
            { sessions = at_state does s.sessions HeaderExchange })
            c.self.view_is
            ),
      );
    }

pub invariant_of-self-2 : goal.invariant_of-self-2
invariant_of-self-2 g c =
    let (stands, fits, least, within, waits, idle) = c.self.invariant in
    let (gathered, none, room) = c.in_ok-gather.ensures.ok in
    let limit = limit_of c.self.inside.peer_limit in
    let own = own_open c.self.inside.settings in
    let one = frame-within limit _ own c.in-Ok.open c.in-Ok.ensures.frame stands.opening least fits in
    let at : c.self.inside.phase ≡ Greeting = ap (λ (s : State g.row.S.Denot). s.phase) c.self.view_is ∙ c.requires in
    let greets = greeting_of c.self.inside.phase c.self.inside.peer_limit _ at stands.agrees in
    let runs = runs_sent c.self.inside.peer_limit OpenSent greets.0 refl in (
      stands_at g.S.SessionRelay.does c.self.inside.settings c.self.inside.phase Running c.self.inside.peer_limit
          c.self.inside.sessions c.open.new.sessions OpenSent stands c.in-Ok.ensures.connection runs,
      fits,
      least,
      within-pushed limit _ _ _ _ _ _ within gathered none one c.push_back_reserved.ensures.items,
      wait_opened g.S.SessionRelay.does c.self.inside.phase c.self.inside.peer_limit c.self.inside.sessions
          c.open.new.sessions c.in-Ok.ensures.within waits,
      idle_running g.S.SessionRelay.does Running c.self.inside.sessions c.open.new.sessions refl,
    )
