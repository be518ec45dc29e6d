-- Sessions did what they were called for: what holds of an endpoint holds behind it too, and it did the call.
use Rattle.std.proofs.Common.{◌≡◌, ◌≤◌, ℕ, Bool, true, false, Option, None, Some, List, ◌++◌}
use Rattle.std.proofs.Common.{refl, sym, ap, ◌∙◌, if◌then◌else◌}
use Rattle.amqp_session_performatives.specs.declared.session_frame.SessionFrame.{SessionFrame}
use Rattle.amqp_endpoint_model.specs.declared.call.Call.{Call}
use Rattle.amqp_endpoint_model.specs.declared.error.EndpointError.TheVariants.{NotConnected}
use Rattle.amqp_endpoint_model.specs.declared.phase.Phase.{Phase}
use Rattle.amqp_endpoint_model.specs.declared.phase.Phase.TheVariants.{Running}
use Rattle.amqp_endpoint_model.specs.declared.settings.Settings.{Settings}
use Rattle.amqp_endpoint_model.specs.Relay.{Called, Relations, StandsStill}
use Rattle.amqp_endpoint_model.specs.Said.{Said}
use Rattle.amqp_endpoint_model.specs.State.{State, Waiting, fits, is_running, limit_of, own_open}
use Rattle.amqp_endpoint_model.specs.Step.{SessionsDo, goes_on, refusal}
use Rattle.amqp_endpoint_core.specs.Connected.{RestIdle, Stands, StayIdle, WaitWithin}
use Rattle.amqp_endpoint_core.specs.Queue.{AllWithin, frames_waiting}
use Rattle.amqp_endpoint_core.proofs.CallLaws.{called, queue_called}
use Rattle.amqp_endpoint_core.proofs.ConnectedLaws.{seen, seen_still, stands_still}
use Rattle.amqp_endpoint_core.proofs.IdleLaws.{goes_running, idle_running, idle_still}
use Rattle.amqp_endpoint_core.proofs.WithinLaws.{wait_least, wait_sent, wait_told}

-- what holds of an endpoint of these parts between two calls
abbrev pub Whole : {S : Type 0} → Relations S → Settings → Phase → Option ℕ → List Waiting → List SessionFrame → S
    → Type 0
Whole does settings phase limit queue out s =
    Stands does settings phase limit s
    × (fits 512 (own_open settings) ≡ true)
    × (512 ≤ limit_of limit)
    × AllWithin (limit_of limit) (queue ++ frames_waiting out)
    × WaitWithin does phase limit s
    × RestIdle does phase s

-- an endpoint of these parts is seen as old; its sessions were told its limit and did a call, and stand still
module _ {S : Type 0} (does : Relations S) {settings : Settings} {phase : Phase} {limit : Option ℕ} {close_told : Bool}
    {rest : List ℕ} {out out_new : List SessionFrame} {s new : S} {old : State S} {told : ℕ}
    {call : Call} {answer : Said} (queue : List Waiting)
    (view_is : seen does settings phase limit close_told rest (queue ++ frames_waiting out) s ≡ old)
    (whole : Whole does settings phase limit queue out s) (told_is : told ≡ limit_of old.peer_limit)
    (does_call : Called does s told call answer out new out_new)
    (still : StandsStill (does.connection s) (does.connection new)) where
  phase_is : phase ≡ old.phase
  phase_is = ap (λ (x : State S). x.phase) view_is

  limit_is : told ≡ limit_of limit
  limit_is = told_is ∙ ap (λ (x : State S). limit_of x.peer_limit) (sym view_is)

  running : goes_on old ≡ true → phase ≡ Running
  running goes = phase_is ∙ goes_running old.phase old.own_close goes

  whole_behind : WaitWithin does phase limit new → RestIdle does phase new
      → Whole does settings phase limit queue out_new new
  whole_behind waits_new idle_new =
      let (stands, fits, least, within, waits, idle) = whole in (
        stands_still does settings phase phase limit limit s new stands still stands.agrees,
        fits,
        least,
        queue_called does (limit_of limit) told call answer queue out out_new s new limit_is does_call within,
        waits_new,
        idle_new,
      )

  -- what they let wait is within the limit that they were told, and where none went on nothing waits
  pub whole_told : does.within told new → (does.idle s → (any : ℕ) → does.within any new) → StayIdle does s new
      → Whole does settings phase limit queue out_new new
  whole_told within_new none stay =
      let (stands, fits, least, within, waits, idle) = whole in
      whole_behind
      (wait_sent does phase limit s new told limit_is within_new
      (λ unconnected. none (idle (ap (λ (p : Phase). is_running p) unconnected))))
      (idle_still does phase s new stay idle)

  -- what they let wait stays within each limit that a peer may set
  pub whole_least : ((any : ℕ) → 512 ≤ any → does.within any s → does.within any new) → StayIdle does s new
      → Whole does settings phase limit queue out_new new
  whole_least within_new stay =
      let (stands, fits, least, within, waits, idle) = whole in
      whole_behind (wait_least does phase limit s new within_new least waits) (idle_still does phase s new stay idle)

  -- the connection goes on, and what they let wait is within the limit that they were told
  pub whole_running : goes_on old ≡ true → does.within told new → Whole does settings phase limit queue out_new new
  whole_running goes within_new =
      whole_behind (wait_told does phase limit s new told limit_is (running goes) within_new)
      (idle_running does phase s new (running goes))

  did : refusal old call ≡ None → (is_running old.phase ≡ false → out_new ≡ out)
      → SessionsDo does old call answer
      (seen does settings phase limit close_told rest (queue ++ frames_waiting out_new) new)
  did allowed quiet =
      let more = queue ++ frames_waiting out_new in
      called does old told call answer queue out out_new s new _ (ap (λ (x : State S). x.sessions) view_is) told_is
      (ap (λ (x : State S). x.queue) view_is) allowed quiet does_call
      (seen_still does settings phase limit close_told rest more more s new refl still.state
      ∙ ap (λ (x : State S). record x { sessions = new; queue = more }) view_is)

  -- nothing is sent where no session went on
  pub did_quiet : refusal old call ≡ None → (does.idle s → out_new ≡ out)
      → SessionsDo does old call answer
      (seen does settings phase limit close_told rest (queue ++ frames_waiting out_new) new)
  did_quiet allowed quiet =
      let (stands, fits, least, within, waits, idle) = whole in
      did allowed (λ outside. quiet (idle (ap (λ (p : Phase). is_running p) phase_is ∙ outside)))

  -- the call is refused where the connection doesn't go on, and it goes on
  pub did_running : goes_on old ≡ true → refusal old call ≡ (if goes_on old then None else Some NotConnected)
      → SessionsDo does old call answer
      (seen does settings phase limit close_told rest (queue ++ frames_waiting out_new) new)
  did_running goes refused =
      did (refused ∙ ap (λ (b : Bool). if b then None else Some NotConnected) goes)
      (λ outside.
      let wrong : true ≡ false =
      sym (ap (λ (p : Phase). is_running p) (goes_running old.phase old.own_close goes)) ∙ outside in absurd (cc))
