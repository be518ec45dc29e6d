-- Where nothing waits in a session, nothing leaves by the peer's Begin, nor by a Flow without a handle and without an echo.
use Rattle.std.proofs.Common.{◌≡◌, ◌≢◌, ℕ, List, [], ◌∷◌, ◌++◌, true, false, Option, Some, None, Result, Ok, Err, refl, sym, ap, subst, ◌∙◌}
use Rattle.std.specs.Prelude.{⊤, OnOk, is_ok}
use Rattle.amqp_session_types.specs.declared.channels.IncomingChannel.{IncomingChannel}
use Rattle.amqp_session_types.specs.declared.channels.OutgoingChannel.{OutgoingChannel}
use Rattle.amqp_session_types.specs.declared.refusals.SessionError.{SessionError}
use Rattle.amqp_session_types.specs.declared.refusals.SessionError.TheVariants as session
use Rattle.amqp_session_performatives.specs.declared.begin.Begin.{Begin}
use Rattle.amqp_session_performatives.specs.declared.flow.Flow.{Flow}
use Rattle.amqp_session_performatives.specs.declared.link_flow.LinkFlow.{LinkFlow}
use Rattle.amqp_session_performatives.specs.declared.session_frame.SessionFrame.{SessionFrame}
use Rattle.amqp_session_outgoing.specs.Queues.{TakesTurn}
use Rattle.amqp_session_outgoing.specs.State as sending
use Rattle.amqp_session_outgoing.specs.History as sending_history
use Rattle.amqp_session_core.specs.declared.batch.TransferFrame.{TransferFrame}
use Rattle.amqp_session_core.specs.declared.batch.BehindFrame.{BehindFrame}
use Rattle.amqp_session_core.specs.declared.relay.RelayError.{RelayError}
use Rattle.amqp_session_core.specs.Frames.{Left, frames_left}
use Rattle.amqp_session_core.specs.Relay.{Relations}
use Rattle.amqp_session_core.specs.History.{History}
use Rattle.amqp_session_core.specs.State.{State, fresh, leads}
use Rattle.amqp_session_core.specs.Steps.{Step, SendsBegin, TakesBegin, TakesFlow, Reply, NoReply, OfSession, OfLink}
use Rattle.amqp_session_core.specs.Steps.{IsReply, Replies, FlowAt, reply_frames, taken_behind}
use Rattle.amqp_session_core.specs.Tables.{RouteTable}
use Rattle.amqp_session_core.specs.Told.{BeginTaken, FlowTaken}
use Rattle.amqp_endpoint_links.specs.declared.session.SessionFlow.{SessionFlow}
use Rattle.amqp_endpoint_links.specs.AskedSession.{flow_of}
use Rattle.amqp_endpoint_links.specs.Beginning.{IsIdle, TakesBeginAlone, TakesKept, TakesAsked, base_behind, kept_steps}

abbrev Side : Type 0
Side = sending.State TransferFrame BehindFrame

abbrev Told : Type 0
Told = Option (ℕ × Result (Option LinkFlow) RelayError)

none-leaves : (old new : Side) (left : Left) → old.queues ≡ [] → sending.Leaves old left new → (left ≡ []) × (new ≡ old)
none-leaves old new [] empty run = (refl, run)
none-leaves old new (s ∷ more) empty (mid, sends, rest) =
    absurd (subst (λ (qs : List _). TakesTurn qs (s.handle).0 sends.taken mid.queues) empty sends.turn)

-- a Flow without an echo, of which no link is told, has no answer
not-answered : (flow : Flow) (told : Told) (reply : Reply) → flow.echo ≡ false → told ≡ None → IsReply flow told reply → reply ≡ NoReply
not-answered flow None NoReply quiet none is = refl
not-answered flow None OfSession quiet none (alone, echo) = absurd (let e : false ≡ true = sym quiet ∙ echo in cc)
not-answered flow None (OfLink handle f left) quiet none is = absurd is
not-answered flow (Some told) reply quiet none is = absurd (let e : Some told ≡ None = none in cc)

module _ {R A T D : Type 0} (gives : Relations R A T D) where
  none-told : (old : List (Option R)) (routes : RouteTable) (flow : Flow) (told : Told) (new : List (Option R))
      → FlowAt gives old routes flow None told new → (told ≡ None) × (new ≡ old)
  none-told old routes flow None new at = (refl, at)
  none-told old routes flow (Some told) new at = absurd at

  pub begin-alone : (old new : State R) (out out_new : List SessionFrame) (incoming : IncomingChannel) (begin : Begin)
      → IsIdle old out → BeginTaken gives old out incoming begin new out_new
      → TakesBeginAlone gives old incoming begin new × IsIdle new out_new
  begin-alone old new out out_new incoming begin idle t =
      let none = none-leaves (sending.with_window old.outgoing t.base begin.incoming_window) new.outgoing t.left idle.0 (t.stepped.2.0) in
      let based : t.base ≡ (old.outgoing).next_outgoing_id = t.stepped.1 in
      let frames : t.frames ≡ [] = t.stepped.3 ∙ ap (λ (left : Left). frames_left new.fields left) none.0 in
      let opens : new.outgoing ≡ sending.with_window old.outgoing (old.outgoing).next_outgoing_id begin.incoming_window =
      none.1 ∙ ap (λ (base : ℕ). sending.with_window old.outgoing base begin.incoming_window) based in
      let counted : new.taken ≡ old.taken = t.stepped.4 ∙ ap (λ (fs : List SessionFrame). taken_behind fs old.taken) frames in (
        (t.stepped.0, refl, (opens, t.stepped.2.1), refl, counted, t.stepped.5),
        (ap (λ (s : Side). s.queues) opens ∙ idle.0, t.added ∙ ap (λ (fs : List SessionFrame). out ++ fs) frames ∙ ap (λ (fs : List SessionFrame). fs ++ []) idle.1),
      )

  pub flow-alone : (old new : State R) (out out_new : List SessionFrame) (flow : SessionFlow)
      → IsIdle old out → FlowTaken gives old out (flow_of flow) (Ok tt) new out_new
      → TakesKept gives old (Some flow) new
  flow-alone old new out out_new flow idle t =
      let step = t.stepped in
      let told = none-told old.links old.routes (flow_of flow) t.told new.links step.link in
      let reply : t.reply ≡ NoReply = not-answered (flow_of flow) t.told t.reply refl told.0 step.is_reply in
      let mid : step.mid ≡ old.outgoing = subst (λ (r : Reply). Replies old.outgoing r step.mid) reply step.replied in
      let waits : (step.mid).queues ≡ [] = ap (λ (s : Side). s.queues) mid ∙ idle.0 in
      let none = none-leaves (sending.with_window step.mid t.base flow.incoming_window) new.outgoing t.left waits (step.window.0) in
      let opens : new.outgoing ≡ sending.with_window old.outgoing (sending.base_of old.outgoing flow.next_incoming_id) flow.incoming_window =
      none.1 ∙ ap (λ (s : Side). sending.with_window s t.base flow.incoming_window) mid
      ∙ ap (λ (base : ℕ). sending.with_window old.outgoing base flow.incoming_window) step.base_is in
      let frames : t.frames ≡ [] =
      step.frames_are
      ∙ ap (λ (r : Reply). reply_frames new.fields (old.outgoing).next_outgoing_id r ++ frames_left new.fields t.left) reply
      ∙ ap (λ (left : Left). frames_left new.fields left) none.0 in
      record {
        link = told.1;
        is_reply = refl;
        mid = old.outgoing;
        replied = refl;
        base_is = refl;
        window = (opens, step.window.1);
        frames_are = refl;
        becomes = step.becomes ∙ ap (λ (fs : List SessionFrame). record old {
          fields = record old.fields { next_incoming_id = Some flow.next_outgoing_id };
          taken = taken_behind fs old.taken;
          links = new.links;
          outgoing = new.outgoing;
        }) frames;
      }

  -- the number here that the peer's window begins with
  based : (first width : ℕ) (side : Side) (next : Option ℕ) → side ≡ sending.with_window (sending_history.fresh first) first width
      → sending.base_of side next ≡ base_behind first next
  based first width side None is = ap (λ (s : Side). s.initial_outgoing_id) is
  based first width side (Some number) is = refl

  pub accepted-history : (channel : OutgoingChannel) (first window : ℕ) (incoming : IncomingChannel) (begin : Begin)
      (flow : Option SessionFlow) (frame : SessionFrame) (mid new : State R)
      → TakesAsked gives (fresh channel first window) incoming begin flow mid → Step gives mid (SendsBegin frame) new
      → History gives (fresh channel first window) (TakesBegin incoming begin first [] [] ∷ (kept_steps first flow ++ SendsBegin frame ∷ [])) new
  accepted-history channel first window incoming begin None frame mid new t sent =
      (t.mid, t.begun, (new, subst (λ (s : State R). Step gives s (SendsBegin frame) new) t.told sent, refl))
  accepted-history channel first window incoming begin (Some flow) frame mid new t sent =
      let base = based first begin.incoming_window (t.mid).outgoing flow.next_incoming_id (t.begun.2.0) in (
        t.mid,
        t.begun,
        (
          mid,
          subst (λ (b : ℕ). Step gives t.mid (TakesFlow (flow_of flow) None NoReply b [] []) mid)
              base t.told,
          (new, sent, refl),
        ),
      )

  pub flow-kept : {Y F : Type 0} (old new : State R) (out out_new : List SessionFrame) (flow : SessionFlow) (said : Flow)
      (r : Result ⊤ SessionError) (s : Result Y F) → said ≡ flow_of flow → is_ok s ≡ is_ok r → IsIdle old out
      → (leads old said.handle ≡ true → r ≢ Err session.Memory → FlowTaken gives old out said r new out_new)
      → OnOk s (TakesKept gives old (Some flow) new)
  flow-kept old new out out_new flow said r (Err e) is same idle taken = tt
  flow-kept old new out out_new flow said (Err e) (Ok y) is same idle taken = absurd cc
  flow-kept old new out out_new flow said (Ok x) (Ok y) is same idle taken =
      flow-alone old new out out_new flow idle
      (subst (λ (f : Flow). FlowTaken gives old out f (Ok tt) new out_new) is
      (taken (ap (λ (f : Flow). leads old f.handle) is) (λ e. absurd (let clash : Ok x ≡ Err session.Memory = e in cc))))

pub on-ok : {X E P Q : Type 0} (r : Result X E) → (P → Q) → OnOk r P → OnOk r Q
on-ok (Ok x) f p = f p
on-ok (Err e) f p = tt

-- of two answers one is as the other
pub on-ok-as : {X Y E F P Q : Type 0} (r : Result X E) (s : Result Y F) → is_ok s ≡ is_ok r → (P → Q) → OnOk r P → OnOk s Q
on-ok-as r (Err e) same f p = tt
on-ok-as (Err e) (Ok y) same f p = absurd cc
on-ok-as (Ok x) (Ok y) same f p = f p
