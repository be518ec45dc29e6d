-- How a session begins: by its own Begin, or by that of the peer, which it accepts (part 2, 2.5.1).
use Rattle.std.specs.Prelude.{◌≡◌, ℕ, ◌-◌, ◌^◌, List, [], ◌∷◌, ◌++◌, Option, Some, None}
use Rattle.std.specs.FinMap as map
use Rattle.amqp_session_types.specs.declared.channels.IncomingChannel.{IncomingChannel}
use Rattle.amqp_session_types.specs.declared.channels.OutgoingChannel.{OutgoingChannel}
use Rattle.amqp_session_performatives.specs.declared.begin.Begin.{Begin}
use Rattle.amqp_session_performatives.specs.declared.session_frame.SessionFrame.{SessionFrame}
use Rattle.amqp_session_performatives.specs.declared.session_frame.SessionFrameBody.TheVariants as body
use Rattle.amqp_session_outgoing.specs.History as sending
use Rattle.amqp_session_outgoing.specs.State.{base_of, with_window}
use Rattle.amqp_session_core.specs.declared.state.SessionState.TheVariants.{BeginSent, Mapped}
use Rattle.amqp_session_core.specs.History.{History}
use Rattle.amqp_session_core.specs.Relay.{Relations}
use Rattle.amqp_session_core.specs.State.{State, fresh}
use Rattle.amqp_session_core.specs.Steps.{Act, Step, SendsBegin, TakesBegin, TakesFlow, NoReply}
use Rattle.amqp_endpoint_links.specs.declared.session.AskedSession.{AskedSession}
use Rattle.amqp_endpoint_links.specs.declared.session.SessionFlow.{SessionFlow}
use Rattle.amqp_endpoint_links.specs.AskedSession.{flow_of}
use Rattle.amqp_endpoint_links.specs.declared.asking.AskingSession.{AskingSession}

-- where the peer's window begins, by the first number here where the peer knows none (part 2, 2.5.6)
abbrev pub base_behind : ℕ → Option ℕ → ℕ
base_behind first None = first
base_behind first (Some number) = number

module _ {R A T D : Type 0} where
  -- what was kept of a Flow is taken. Nothing answers it, and nothing leaves
  abbrev pub kept_steps : ℕ → Option SessionFlow → List (Act R A T D)
  kept_steps first None = []
  kept_steps first (Some flow) =
      TakesFlow (flow_of flow) None NoReply (base_behind first flow.next_incoming_id) [] [] ∷ []

  -- the peer's Begin is taken and what was kept of a Flow, and the own Begin leaves. No other frame does
  abbrev pub accept_steps : ℕ → IncomingChannel → Begin → Option SessionFlow → SessionFrame → List (Act R A T D)
  accept_steps first incoming begin flow frame =
      TakesBegin incoming begin first [] [] ∷ (kept_steps first flow ++ SendsBegin frame ∷ [])

-- the own Begin on this channel (part 2, 2.7.2)
abbrev pub begin_frame : OutgoingChannel → Option ℕ → ℕ → ℕ → SessionFrame
begin_frame channel remote first window =
    record {
      channel = channel.0;
      body =
          body.Begin (record {
            remote_channel = remote;
            next_outgoing_id = first;
            incoming_window = window;
            outgoing_window = 2048;
            handle_max = 2 ^ 32 - 1;
            offered_capabilities = [];
            desired_capabilities = [];
            properties = None;
          });
    }

module _ {R : Type 0} where
  -- a session whose own Begin was sent
  abbrev pub begun_state : OutgoingChannel → ℕ → ℕ → State R
  begun_state channel first window = record (fresh channel first window) { local_state = BeginSent }

  -- a session that answered the peer's Begin: the number of the peer's next transfer, and the peer's window
  abbrev pub answered_state : OutgoingChannel → IncomingChannel → Begin → ℕ → ℕ → ℕ → ℕ → ℕ → State R
  answered_state channel incoming begin first window next base width =
      record (fresh channel first window) {
        local_state = Mapped;
        incoming_channel = Some incoming;
        fields = record { channel = channel; next_incoming_id = Some next; incoming_window = window };
        handle_max = begin.handle_max;
        outgoing = with_window (sending.fresh first) base width;
      }

  -- these are by the Begin, or by what was kept of a Flow
  abbrev pub accepted_with : OutgoingChannel → IncomingChannel → Begin → Option SessionFlow → ℕ → ℕ → State R
  accepted_with channel incoming begin None first window =
      answered_state channel incoming begin first window begin.next_outgoing_id first begin.incoming_window
  accepted_with channel incoming begin (Some flow) first window =
      answered_state channel incoming begin first window flow.next_outgoing_id
      (base_behind first flow.next_incoming_id) flow.incoming_window

-- nothing waits, and nothing was handed out
abbrev pub IsIdle : {R : Type 0} → State R → List SessionFrame → Type 0
IsIdle s out = ((s.outgoing).queues ≡ []) × (out ≡ [])

module _ {R A T D : Type 0} (gives : Relations R A T D) where
  -- the peer's Begin is taken, and nothing leaves
  abbrev pub TakesBeginAlone : State R → IncomingChannel → Begin → State R → Type 0
  TakesBeginAlone old incoming begin new =
      Step gives old (TakesBegin incoming begin (old.outgoing).next_outgoing_id [] []) new

  -- what was kept of a Flow is taken, and nothing leaves
  abbrev pub TakesKept : State R → Option SessionFlow → State R → Type 0
  TakesKept old None new = new ≡ old
  TakesKept old (Some flow) new =
      Step gives old (TakesFlow (flow_of flow) None NoReply (base_of old.outgoing flow.next_incoming_id) [] []) new

  -- first the one, and then the other
  pub record TakesAsked (old : State R) (incoming : IncomingChannel) (begin : Begin) (flow : Option SessionFlow)
      (new : State R) : Type 0 where
    pub mid : State R
    pub begun : TakesBeginAlone old incoming begin mid
    pub told : TakesKept mid flow new

  -- the own side began
  pub record Begun (channel : OutgoingChannel) (first window : ℕ) (frame : SessionFrame) (new : AskingSession R)
      : Type 0 where
    pub history : History gives (fresh channel first window) (SendsBegin frame ∷ []) new.session
    pub links : new.asked ≡ map.empty

  -- a session that the peer asked for is accepted
  pub record Accepted (wanted : AskedSession) (channel : OutgoingChannel) (incoming : IncomingChannel)
      (first window : ℕ) (frame : SessionFrame) (new : AskingSession R) : Type 0 where
    pub history :
        History gives (fresh channel first window) (accept_steps first incoming wanted.begin wanted.flow frame)
        new.session
    pub links : new.asked ≡ map.empty
