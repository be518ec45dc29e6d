-- How a session stands once it began.
use Rattle.std.proofs.Common.{◌≡◌, ℕ, List, [], ◌∷◌, ◌++◌, Option, Some, None, refl, sym, ap, ◌∙◌}
use Rattle.amqp_session_types.specs.declared.channels.IncomingChannel.{IncomingChannel}
use Rattle.amqp_session_types.specs.declared.channels.OutgoingChannel.{OutgoingChannel}
use Rattle.amqp_session_performatives.specs.declared.begin.Begin.{Begin}
use Rattle.amqp_session_performatives.specs.declared.session_frame.SessionFrame.{SessionFrame}
use Rattle.amqp_session_performatives.specs.declared.session_frame.SessionFrameBody.TheVariants as body
use Rattle.amqp_session_outgoing.specs.State as sending
use Rattle.amqp_session_outgoing.specs.History as sending_history
use Rattle.amqp_session_core.specs.declared.batch.TransferFrame.{TransferFrame}
use Rattle.amqp_session_core.specs.declared.batch.BehindFrame.{BehindFrame}
use Rattle.amqp_session_core.specs.declared.state.SessionState.{SessionState}
use Rattle.amqp_session_core.specs.declared.state.SessionState.TheVariants.{BeginSent, BeginReceived, Mapped}
use Rattle.amqp_session_core.specs.Frames.{frame_of}
use Rattle.amqp_session_core.specs.History.{History}
use Rattle.amqp_session_core.specs.Relay.{Relations}
use Rattle.amqp_session_core.specs.State.{State, fresh}
use Rattle.amqp_session_core.specs.Steps.{Step, SendsBegin, TakesBegin, TakesFlow, NoReply, own_begin}
use Rattle.amqp_session_core.specs.Table.{after_send_begin}
use Rattle.amqp_endpoint_links.specs.declared.session.AskedSession.{AskedSession}
use Rattle.amqp_endpoint_links.specs.declared.session.SessionFlow.{SessionFlow}
use Rattle.amqp_endpoint_links.specs.AskedSession.{flow_of}
use Rattle.amqp_endpoint_links.specs.declared.asking.AskingSession.{AskingSession}
use Rattle.amqp_endpoint_links.specs.Beginning.{Begun, Accepted, base_behind, begin_frame, begun_state, accepted_with, kept_steps}

abbrev Side : Type 0
Side = sending.State TransferFrame BehindFrame

module _ {R A T D : Type 0} (gives : Relations R A T D) where
  -- the own Begin leaves a session that stands so
  sends : (old mid end : State R) (next : SessionState) (frame : SessionFrame) → mid ≡ old → after_send_begin old.local_state ≡ Some next
      → History gives mid (SendsBegin frame ∷ []) end
      → (frame ≡ frame_of old.fields (body.Begin (own_begin old))) × (end ≡ record old { local_state = next })
  sends old mid end next frame is goes (last, sent, same) =
      let states : Some next ≡ Some last.local_state = sym goes ∙ ap (λ (s : State R). after_send_begin s.local_state) (sym is) ∙ sent.1 in
      let state : last.local_state ≡ next = cc in (
        sent.0 ∙ ap (λ (s : State R). frame_of s.fields (body.Begin (own_begin s))) is,
        same ∙ sent.2 ∙ ap (λ (s : State R). record s { local_state = last.local_state }) is
            ∙ ap (λ (l : SessionState). record old { local_state = l }) state,
      )

  pub begun-stands : (channel : OutgoingChannel) (first window : ℕ) (frame : SessionFrame) (new : AskingSession R) → Begun gives channel first window frame new
      → (new.session ≡ begun_state channel first window) × (frame ≡ begin_frame channel None first window)
  begun-stands channel first window frame new b =
      let sent = sends (fresh channel first window) (fresh channel first window) new.session BeginSent frame refl refl b.history in
      (sent.1, sent.0)

  -- a fresh session with the peer's Begin and its window
  abbrev with_peer : (channel : OutgoingChannel) (incoming : IncomingChannel) (begin : Begin) (first window : ℕ) (next : ℕ) (state : SessionState) (taken : ℕ) (side : Side) → State R
  with_peer channel incoming begin first window next state taken side =
      record (fresh channel first window) {
        local_state = state;
        incoming_channel = Some incoming;
        handle_max = begin.handle_max;
        fields = record { channel = channel; next_incoming_id = Some next; incoming_window = window };
        taken = taken;
        outgoing = side;
      }

  received : (channel : OutgoingChannel) (incoming : IncomingChannel) (begin : Begin) (first window : ℕ) (mid : State R)
      → Step gives (fresh channel first window) (TakesBegin incoming begin first [] []) mid
      → mid ≡ with_peer channel incoming begin first window begin.next_outgoing_id BeginReceived 0 (sending.with_window (sending_history.fresh first) first begin.incoming_window)
  received channel incoming begin first window mid (goes, based, (opens, held), frames, counted, becomes) =
      let states : Some BeginReceived ≡ Some mid.local_state = goes in
      let state : mid.local_state ≡ BeginReceived = cc in
      becomes
      ∙ ap (λ (l : SessionState). with_peer channel incoming begin first window begin.next_outgoing_id l mid.taken mid.outgoing) state
      ∙ ap (λ (t : ℕ). with_peer channel incoming begin first window begin.next_outgoing_id BeginReceived t mid.outgoing) counted
      ∙ ap (λ (o : Side). with_peer channel incoming begin first window begin.next_outgoing_id BeginReceived 0 o) opens

  told-after : (flow : SessionFlow) (base : ℕ) (mid told : State R)
      → Step gives mid (TakesFlow (flow_of flow) None NoReply base [] []) told
      → told ≡ record mid {
        fields = record mid.fields { next_incoming_id = Some flow.next_outgoing_id };
        outgoing = sending.with_window mid.outgoing base flow.incoming_window;
      }
  told-after flow base mid told s =
      s.becomes
      ∙ ap (λ (ls : List (Option R)). record mid {
        fields = record mid.fields { next_incoming_id = Some flow.next_outgoing_id };
        links = ls;
        outgoing = told.outgoing;
      }) s.link
      ∙ ap (λ (o : Side). record mid { fields = record mid.fields { next_incoming_id = Some flow.next_outgoing_id }; outgoing = o })
      (s.window.0 ∙ ap (λ (side : Side). sending.with_window side base flow.incoming_window) s.replied)

  answered : (channel : OutgoingChannel) (incoming : IncomingChannel) (begin : Begin) (flow : Option SessionFlow) (first window : ℕ) (frame : SessionFrame) (mid end : State R)
      → mid ≡ with_peer channel incoming begin first window begin.next_outgoing_id BeginReceived 0 (sending.with_window (sending_history.fresh first) first begin.incoming_window)
      → History gives mid (kept_steps first flow ++ SendsBegin frame ∷ []) end
      → (end ≡ accepted_with channel incoming begin flow first window) × (frame ≡ begin_frame channel (Some incoming.0) first window)
  answered channel incoming begin None first window frame mid end is run =
      let sent = sends _ mid end Mapped frame is refl run in
      (sent.1, sent.0)
  answered channel incoming begin (Some flow) first window frame mid end is (told, takes, run) =
      let stands : told ≡ with_peer channel incoming begin first window flow.next_outgoing_id BeginReceived 0 (sending.with_window (sending_history.fresh first) (base_behind first flow.next_incoming_id) flow.incoming_window) =
      told-after flow (base_behind first flow.next_incoming_id) mid told takes
      ∙ ap (λ (s : State R). record s {
        fields = record s.fields { next_incoming_id = Some flow.next_outgoing_id };
        outgoing = sending.with_window s.outgoing (base_behind first flow.next_incoming_id) flow.incoming_window;
      }) is in
      let sent = sends _ told end Mapped frame stands refl run in
      (sent.1, sent.0)

  pub accepted-stands : (wanted : AskedSession) (channel : OutgoingChannel) (incoming : IncomingChannel) (first window : ℕ) (frame : SessionFrame) (new : AskingSession R)
      → Accepted gives wanted channel incoming first window frame new
      → (new.session ≡ accepted_with channel incoming wanted.begin wanted.flow first window) × (frame ≡ begin_frame channel (Some incoming.0) first window)
  accepted-stands wanted channel incoming first window frame new a = by a.history
    where
      by : History gives (fresh channel first window) (TakesBegin incoming wanted.begin first [] [] ∷ (kept_steps first wanted.flow ++ SendsBegin frame ∷ [])) new.session
          → (new.session ≡ accepted_with channel incoming wanted.begin wanted.flow first window) × (frame ≡ begin_frame channel (Some incoming.0) first window)
      by (mid, begun, run) =
          answered channel incoming wanted.begin wanted.flow first window frame mid new.session (received channel incoming wanted.begin first window mid begun) run
