-- What the peer says in a session that has begun, or that it asks for (part 2, 2.5.1, 2.5.2, 2.5.6).
use Rattle.std.specs.Prelude.{◌≡◌, ◌≢◌, ◌⊎◌, ◌+◌, ◌≤◌, ℕ, ◌*◌, List, [], ◌∷◌, ◌++◌, Bool, true, false}
use Rattle.std.specs.Prelude.{Option, Some, None, Result, Ok, Err, nat_le}
use Rattle.std.specs.Global.{Box}
use Rattle.amqp_session_types.specs.declared.channels.IncomingChannel.{IncomingChannel}
use Rattle.amqp_session_types.specs.declared.refusals.SessionError.{SessionError}
use Rattle.amqp_session_types.specs.declared.refusals.SessionError.TheVariants.{Memory as NoMemory}
use Rattle.amqp_session_performatives.specs.declared.session_frame.SessionFrame.{SessionFrame}
use Rattle.amqp_session_outgoing.specs.Queues.{frames_in}
use Rattle.amqp_session_core.specs.Relay.{Relations}
use Rattle.amqp_session_core.specs.Steps as session_steps
use Rattle.amqp_endpoint_links.specs.declared.session.AskedSession.{AskedSession}
use Rattle.amqp_endpoint_links.specs.declared.asking.AskingSession.{AskingSession}
use Rattle.amqp_endpoint_links.specs.declared.hearing.LinkPerformative.{LinkPerformative}
use Rattle.amqp_endpoint_links.specs.declared.hearing.PerformativeTaken.{PerformativeTaken}
use Rattle.amqp_endpoint_links.specs.Hearing.{Hears, HearsAsked}
use Rattle.amqp_endpoint_tables.specs.State.{asked_at, live_at, reached}
use Rattle.amqp_endpoint_tables.specs.Steps.{Step, ChangesAsked, ChangesLive}
use Rattle.amqp_endpoint_conversation.specs.declared.conversation.Conversation.{Conversation}
use Rattle.amqp_endpoint_conversation.specs.declared.hearing.Heard.{Heard}
use Rattle.amqp_endpoint_conversation.specs.declared.hearing.Heard.TheVariants.{Asked, Live, Dropped}
use Rattle.amqp_endpoint_conversation.specs.declared.hearing.HearRefusal.{HearRefusal}
use Rattle.amqp_endpoint_conversation.specs.declared.hearing.HearRefusal.TheVariants.{Memory, NotFound}
use Rattle.amqp_endpoint_conversation.specs.declared.hearing.HearRefusal.TheVariants.{Asked as AskedRefuses, Session}
use Rattle.amqp_endpoint_conversation.specs.Beginning.{Sessions}
use Rattle.amqp_endpoint_conversation.specs.Ending.{EndsHere}
use Rattle.amqp_endpoint_conversation.specs.Faults.{fault_error}

module _ {R : Type 0} where
  -- a session that the peer asks for takes it
  pub record AskedTakes (old : Conversation R) (number : ℕ) (before : Box AskedSession) (said : LinkPerformative)
      (new : Conversation R) : Type 0 where
    pub after : Box AskedSession
    pub heard : HearsAsked before.value said (Ok tt) after.value
    pub stepped : Step old.sessions (ChangesAsked number before after) new.sessions
    pub rest : new ≡ record old { sessions = new.sessions }

  -- it refuses it, and stays as it is
  abbrev pub AskedStays : Conversation R → Box AskedSession → LinkPerformative → SessionError → Conversation R → Type 0
  AskedStays old before said e new = HearsAsked before.value said (Err e) before.value × (new ≡ old)

  -- how a session that the peer asks for answers. Its fault is the connection's, which isn't for it to end
  abbrev pub AskedAnswered : {A T D : Type 0} → Conversation R → ℕ → Box AskedSession → LinkPerformative
      → Result (Heard A T D) (HearRefusal R) → Conversation R → Type 0
  AskedAnswered old number before said (Ok (Asked n)) new = (n ≡ number) × AskedTakes old number before said new
  AskedAnswered old number before said (Ok heard) new = ⊥
  AskedAnswered old number before said (Err Memory) new = AskedStays old before said NoMemory new
  AskedAnswered old number before said (Err (AskedRefuses n e)) new =
      (n ≡ number) × (e ≢ NoMemory) × AskedStays old before said e new
  AskedAnswered old number before said (Err e) new = ⊥

  -- a session that has begun refused it, by this state: for a fault its End is to be sent, where there is memory for it
  abbrev pub Refuses : Conversation R → List SessionFrame → ℕ → SessionError → HearRefusal R → Conversation R
      → List SessionFrame → Type 0
  Refuses old out number e Memory new out_new = (new ≡ old) × (out_new ≡ out)
  Refuses old out number e (Session n fault session) new out_new =
      (n ≡ number) × (fault ≡ e) × (fault ≢ NoMemory)
      × EndsHere old out number (Some (fault_error fault)) session new out_new
  Refuses old out number e refusal new out_new = ⊥

module _ {R A T D : Type 0} (gives : Relations R A T D) where
  -- a session that has begun hears it, and this is its answer
  pub record LiveHears (old : Sessions R) (out : List SessionFrame) (number : ℕ) (before : Box (AskingSession R))
      (said : LinkPerformative) (told : Result (PerformativeTaken A T D) SessionError) (after : Box (AskingSession R))
      (new : Sessions R) (out_new : List SessionFrame) : Type 0 where
    pub heard : Hears gives before.value out said told after.value out_new
    pub stepped : Step old (ChangesLive number before after) new

  -- it takes it
  pub record LiveTakes (old : Conversation R) (out : List SessionFrame) (number : ℕ) (before : Box (AskingSession R))
      (said : LinkPerformative) (taken : PerformativeTaken A T D) (new : Conversation R) (out_new : List SessionFrame)
      : Type 0 where
    pub after : Box (AskingSession R)
    pub hears : LiveHears old.sessions out number before said (Ok taken) after new.sessions out_new
    pub rest : new ≡ record old { sessions = new.sessions }

  -- it refuses it for this fault
  pub record LiveRefuses (old : Conversation R) (out : List SessionFrame) (number : ℕ) (before : Box (AskingSession R))
      (said : LinkPerformative) (fault : SessionError) (after : Box (AskingSession R)) (new : Conversation R)
      (out_new : List SessionFrame) : Type 0 where
    pub hears : LiveHears old.sessions out number before said (Err fault) after new.sessions out_new
    pub is_fault : fault ≢ NoMemory
    pub rest : new ≡ record old { sessions = new.sessions }

  -- and its End that says so is to be sent behind what it had leave: it is handed out, and is ending (part 2, 2.5.2)
  pub record LiveFails (old : Conversation R) (out : List SessionFrame) (number : ℕ) (before : Box (AskingSession R))
      (said : LinkPerformative) (fault : SessionError) (session : Box (AskingSession R)) (new : Conversation R)
      (out_new : List SessionFrame) : Type 0 where
    pub mid : Conversation R
    pub out_mid : List SessionFrame
    pub refuses : LiveRefuses old out number before said fault session mid out_mid
    pub ends : EndsHere mid out_mid number (Some (fault_error fault)) session new out_new

  -- there is no memory for it, and nothing changes
  abbrev pub LiveStays : Conversation R → List SessionFrame → Box (AskingSession R) → LinkPerformative
      → Conversation R → List SessionFrame → Type 0
  LiveStays old out before said new out_new =
      Hears gives before.value out said (Err NoMemory) before.value out × (new ≡ old) × (out_new ≡ out)

  -- it refuses it for a fault, and there is no memory for its End
  pub record LiveGoesOn (old : Conversation R) (out : List SessionFrame) (number : ℕ) (before : Box (AskingSession R))
      (said : LinkPerformative) (new : Conversation R) (out_new : List SessionFrame) : Type 0 where
    pub fault : SessionError
    pub after : Box (AskingSession R)
    pub refuses : LiveRefuses old out number before said fault after new out_new

  -- how a session that has begun answers
  abbrev pub LiveAnswered : Conversation R → List SessionFrame → ℕ → Box (AskingSession R) → LinkPerformative
      → Result (Heard A T D) (HearRefusal R) → Conversation R → List SessionFrame → Type 0
  LiveAnswered old out number before said (Ok (Live n taken)) new out_new =
      (n ≡ number) × LiveTakes old out number before said taken new out_new
  LiveAnswered old out number before said (Ok heard) new out_new = ⊥
  LiveAnswered old out number before said (Err Memory) new out_new =
      LiveStays old out before said new out_new ⊎ LiveGoesOn old out number before said new out_new
  LiveAnswered old out number before said (Err (Session n fault session)) new out_new =
      (n ≡ number) × LiveFails old out number before said fault session new out_new
  LiveAnswered old out number before said (Err e) new out_new = ⊥

  -- how a session answers that the peer asks for, or that has begun. For one that is ending it comes to nothing
  abbrev pub AnsweredAt : Option (Box AskedSession) → Option (Box (AskingSession R)) → Conversation R
      → List SessionFrame → ℕ → LinkPerformative → Result (Heard A T D) (HearRefusal R) → Conversation R
      → List SessionFrame → Type 0
  AnsweredAt (Some asked) live old out number said result new out_new =
      AskedAnswered old number asked said result new × (out_new ≡ out)
  AnsweredAt None (Some session) old out number said result new out_new =
      LiveAnswered old out number session said result new out_new
  AnsweredAt None None old out number said result new out_new =
      (result ≡ Ok (Dropped number)) × (new ≡ old) × (out_new ≡ out)

  -- and with whether one is reached
  abbrev pub AnsweredIn : Option ℕ → Conversation R → List SessionFrame → LinkPerformative
      → Result (Heard A T D) (HearRefusal R) → Conversation R → List SessionFrame → Type 0
  AnsweredIn None old out said result new out_new = (result ≡ Err NotFound) × (new ≡ old) × (out_new ≡ out)
  AnsweredIn (Some number) old out said result new out_new =
      AnsweredAt (asked_at old.sessions number) (live_at old.sessions number) old out number said result new out_new

  -- how the session that the peer's channel reaches answers what is said on it
  abbrev pub Answered : Conversation R → List SessionFrame → IncomingChannel → LinkPerformative
      → Result (Heard A T D) (HearRefusal R) → Conversation R → List SessionFrame → Type 0
  Answered old out channel said result new out_new =
      AnsweredIn (reached old.sessions channel.0) old out said result new out_new

  -- a Flow of the session is due: half of the own window or more is used up since one left (part 2, 2.5.6)
  abbrev pub is_due : AskingSession R → Bool
  is_due s = nat_le ((s.session).fields).incoming_window (2 * (s.session).taken)

  -- it is to be sent
  pub record TellsDue (old : Conversation R) (out : List SessionFrame) (number : ℕ) (before : Box (AskingSession R))
      (new : Conversation R) (out_new : List SessionFrame) : Type 0 where
    pub after : Box (AskingSession R)
    pub frame : SessionFrame
    pub tells : session_steps.Step gives before.value.session (session_steps.TellsFlow frame) after.value.session
    pub links : after.value ≡ record before.value { session = after.value.session }
    pub stepped : Step old.sessions (ChangesLive number before after) new.sessions
    pub rest : new ≡ record old { sessions = new.sessions }
    pub queued : out_new ≡ out ++ frame ∷ []

  abbrev pub TellsIf : Bool → Conversation R → List SessionFrame → ℕ → Box (AskingSession R) → Conversation R
      → List SessionFrame → Type 0
  TellsIf true old out number before new out_new = TellsDue old out number before new out_new
  TellsIf false old out number before new out_new = (new ≡ old) × (out_new ≡ out)

  -- the Flow of the session with this number is sent where one has begun, and its Flow is due
  abbrev pub TellsAt : Option (Box (AskingSession R)) → Conversation R → List SessionFrame → ℕ → Conversation R
      → List SessionFrame → Type 0
  TellsAt None old out number new out_new = (new ≡ old) × (out_new ≡ out)
  TellsAt (Some session) old out number new out_new = TellsIf (is_due session.value) old out number session new out_new

  abbrev pub FlowTold : Conversation R → List SessionFrame → ℕ → Conversation R → List SessionFrame → Type 0
  FlowTold old out number new out_new = TellsAt (live_at old.sessions number) old out number new out_new

module _ {R A T D : Type 0} where
  -- what a session that takes it hands out, and what waits there then, is what waited before and at most one frame
  -- more, and its room for transfers stays; of so many frames before, there are so many then
  abbrev pub KeepsRoom : Sessions R → ℕ → Heard A T D → Sessions R → ℕ → Type 0
  KeepsRoom old len (Live n taken) new len_new =
      (before after : Box (AskingSession R)) → live_at old n ≡ Some before → live_at new n ≡ Some after
      → (len_new + frames_in after.value.session.outgoing.queues
      ≤ len + frames_in before.value.session.outgoing.queues + 1)
      × (after.value.session.outgoing.room ≡ before.value.session.outgoing.room)
  KeepsRoom old len heard new len_new = Unit {0}
