-- What the sessions make of what the peer says in one of them, of its Begin and of its End.
use Rattle.std.proofs.Common.{◌≡◌, inl, inr, ℕ, List, [], ◌∷◌, ◌++◌, Bool, true, false, Option, Some, None, Result, Ok, Err, refl, sym, ap, ◌∙◌, append-nil}
use Rattle.std.specs.Prelude.{All, ⊤}
use Rattle.std.specs.Global.{Box}
use Rattle.amqp_session_types.specs.declared.channels.IncomingChannel.{IncomingChannel}
use Rattle.amqp_session_types.specs.declared.channels.OutgoingChannel.{OutgoingChannel}
use Rattle.amqp_session_types.specs.declared.refusals.ConnectionError.{ConnectionError}
use Rattle.amqp_session_types.specs.declared.refusals.ConnectionError.TheVariants as connection
use Rattle.amqp_session_types.specs.declared.refusals.SessionError.{SessionError}
use Rattle.amqp_session_types.specs.declared.refusals.SessionError.TheVariants.{IllegalState, Memory as NoMemory}
use Rattle.amqp_session_performatives.specs.declared.begin.Begin.{Begin}
use Rattle.amqp_session_performatives.specs.declared.end.End.{End}
use Rattle.amqp_session_performatives.specs.declared.flow.Flow.{Flow as FlowFrame}
use Rattle.amqp_session_performatives.specs.declared.session_frame.SessionFrame.{SessionFrame}
use Rattle.amqp_session_core.specs.Relay.{Relations}
use Rattle.amqp_session_core.specs.State.{State, leads}
use Rattle.amqp_session_core.specs.Told.{BeginTaken}
use Rattle.amqp_endpoint_links.specs.declared.session.AskedSession.{AskedSession}
use Rattle.amqp_endpoint_links.specs.Asked.{is_asked}
use Rattle.amqp_endpoint_links.specs.declared.asking.AskingSession.{AskingSession}
use Rattle.amqp_endpoint_links.specs.declared.hearing.LinkPerformative.{LinkPerformative}
use Rattle.amqp_endpoint_links.specs.declared.hearing.LinkPerformative.TheVariants.{Attach, Flow, Transfer, Disposition, Detach}
use Rattle.amqp_endpoint_links.specs.declared.hearing.PerformativeTaken.{PerformativeTaken}
use Rattle.amqp_endpoint_links.specs.declared.hearing.PerformativeTaken.TheVariants as taken
use Rattle.amqp_endpoint_links.specs.Asking.{FlowAt, FlowInSession}
use Rattle.amqp_endpoint_links.specs.Hearing.{Hears, HearsFlow}
use Rattle.amqp_endpoint_tables.specs.declared.place.Place.{Place}
use Rattle.amqp_endpoint_tables.specs.declared.place.Place.TheVariants as place
use Rattle.amqp_endpoint_tables.specs.State.{asked_at, live_at, live_of, reached}
use Rattle.amqp_endpoint_tables.specs.Steps.{Step, TakesBegin, TakesEnd}
use Rattle.amqp_endpoint_conversation.specs.declared.beginning.BeginHeard.{BeginHeard}
use Rattle.amqp_endpoint_conversation.specs.declared.beginning.BeginHeard.TheVariants as begun
use Rattle.amqp_endpoint_conversation.specs.declared.beginning.BeginRefusal.{BeginRefusal}
use Rattle.amqp_endpoint_conversation.specs.declared.beginning.BeginRefusal.TheVariants as unbegun
use Rattle.amqp_endpoint_conversation.specs.declared.conversation.Conversation.{Conversation}
use Rattle.amqp_endpoint_conversation.specs.declared.ending.EndHeard.{EndHeard}
use Rattle.amqp_endpoint_conversation.specs.declared.hearing.Heard.{Heard}
use Rattle.amqp_endpoint_conversation.specs.declared.hearing.Heard.TheVariants.{Asked, Live, Dropped}
use Rattle.amqp_endpoint_conversation.specs.declared.hearing.HearRefusal.{HearRefusal}
use Rattle.amqp_endpoint_conversation.specs.declared.hearing.HearRefusal.TheVariants.{Memory, NotFound, Asked as AskedRefuses, Session}
use Rattle.amqp_endpoint_conversation.specs.Beginning.{BeginAnswered, Sessions}
use Rattle.amqp_endpoint_conversation.specs.Ending.{EndAnswered, EndReply, end_frame}
use Rattle.amqp_endpoint_conversation.specs.Faults.{fault_error}
use Rattle.amqp_endpoint_conversation.specs.Hearing.{Answered, AnsweredAt, AnsweredIn, AskedAnswered, LiveAnswered, LiveHears}
use Rattle.amqp_endpoint_fitting.specs.Read.{IsRead}
use Rattle.amqp_endpoint_conversation.proofs.Handing.{Hands, Holds, end-handed, none-handed, one, then-handed}
use Rattle.amqp_endpoint_conversation.proofs.Places.{Keeps, asks, changes_asked, changes_live, stays, takes_begin}
use Rattle.amqp_endpoint_conversation.proofs.Places.{takes_end}

-- frames that were handed out behind others
abbrev pub IsBehind : List SessionFrame → List SessionFrame → Type 0
IsBehind out out_new = (frames : List SessionFrame) × (out_new ≡ out ++ frames)

none-behind : (out out_new : List SessionFrame) → out_new ≡ out → IsBehind out out_new
none-behind out out_new same = ([], same ∙ sym (append-nil out))

module _ {R A T D : Type 0} (gives : Relations R A T D) where
  -- a Flow has frames leave, if anything does
  flow-in : (leads : Bool) (old new : State R) (flow : FlowFrame) (r : Result ⊤ SessionError)
      (out out_new : List SessionFrame) → FlowInSession gives leads old out flow r new out_new → IsBehind out out_new
  flow-in false old new flow r out out_new t = none-behind out out_new t.same
  flow-in true old new flow (Err NoMemory) out out_new t = none-behind out out_new t.1
  flow-in true old new flow (Ok done) out out_new t = (t.frames, t.added)
  flow-in true old new flow (Err e) out out_new t = (t.frames, t.added)

  flow-at : (asked : Bool) (old new : AskingSession R) (flow : FlowFrame) (r : Result ⊤ SessionError)
      (out out_new : List SessionFrame) → FlowAt gives asked old out flow r new out_new → IsBehind out out_new
  flow-at true old new flow (Ok done) out out_new t = ((t.0).frames, (t.0).added)
  flow-at true old new flow (Err e) out out_new t = none-behind out out_new t.2
  flow-at false old new flow r out out_new t =
      flow-in (leads old.session flow.handle) old.session new.session flow r out out_new t.0

  flow-heard : (old new : AskingSession R) (flow : FlowFrame) (r : Result (PerformativeTaken A T D) SessionError)
      (out out_new : List SessionFrame) → HearsFlow gives old out flow r new out_new → IsBehind out out_new
  flow-heard old new flow (Ok taken.Flow) out out_new h =
      flow-at (is_asked old.asked flow.handle) old new flow (Ok tt) out out_new h
  flow-heard old new flow (Ok other) out out_new h = absurd h
  flow-heard old new flow (Err e) out out_new h =
      flow-at (is_asked old.asked flow.handle) old new flow (Err e) out out_new h

  pub heard-behind : (old new : AskingSession R) (said : LinkPerformative)
      (r : Result (PerformativeTaken A T D) SessionError) (out out_new : List SessionFrame)
      → Hears gives old out said r new out_new → IsBehind out out_new
  heard-behind old new (Attach attach named) r out out_new h = none-behind out out_new h.1
  heard-behind old new (Flow flow) r out out_new h = flow-heard old new flow r out out_new h
  heard-behind old new (Transfer transfer payload) r out out_new h = none-behind out out_new h.1
  heard-behind old new (Disposition disposition) r out out_new h = none-behind out out_new h.1
  heard-behind old new (Detach detach) r out out_new h = none-behind out out_new h.1

module _ {R A T D : Type 0} (gives : Relations R A T D) (P : State R → Type 0) (F : SessionFrame → Type 0) where
  -- what a session makes of this keeps it, and so it is of what leaves
  abbrev pub HearsSo : LinkPerformative → Type 0
  HearsSo said =
      (before after : AskingSession R) (out out_new : List SessionFrame)
      (told : Result (PerformativeTaken A T D) SessionError) → Hears gives before out said told after out_new
      → P before.session
      → P after.session
      × ((frames : List SessionFrame) → out_new ≡ out ++ frames → All IsRead frames → All F frames)

  -- likewise of the peer's Begin
  abbrev pub BeginsSo : IncomingChannel → Begin → Type 0
  BeginsSo channel begin =
      (before after : State R) (out out_new : List SessionFrame)
      (t : BeginTaken gives before out channel begin after out_new) → P before
      → P after × (All IsRead t.frames → All F t.frames)

  -- the own End that a fault has leave
  abbrev pub FailsSo : Type 0
  FailsSo = (s : State R) (channel : OutgoingChannel) (fault : SessionError) → P s
      → F (end_frame channel (Some (fault_error fault)))

  -- that which answers the peer's
  abbrev pub EndsSo : Type 0
  EndsSo = (s : State R) (channel : OutgoingChannel) → P s → F (end_frame channel None)

  abbrev Handed : Conversation R → Conversation R → List SessionFrame → List SessionFrame → Type 0
  Handed old new out out_new = Hands P F old.sessions new.sessions out out_new

  kept : (old new : Conversation R) (out out_new : List SessionFrame) → new ≡ old → out_new ≡ out
      → Handed old new out out_new
  kept old new out out_new is same =
      none-handed P F old.sessions new.sessions out out_new
      (stays (Holds P) old.sessions new.sessions (ap (λ (c : Conversation R). c.sessions) is)) same

  -- one that the peer asks for
  asked-keeps : (old new : Conversation R) (number : ℕ) (asked : Box AskedSession) (said : LinkPerformative)
      (result : Result (Heard A T D) (HearRefusal R)) → AskedAnswered old number asked said result new
      → Keeps (Holds P) old.sessions new.sessions
  asked-keeps old new number asked said (Ok (Asked n)) t =
      changes_asked (Holds P) old.sessions new.sessions number asked (t.1).after (t.1).stepped
  asked-keeps old new number asked said (Ok (Live n told)) t = absurd t
  asked-keeps old new number asked said (Ok (Dropped n)) t = absurd t
  asked-keeps old new number asked said (Err Memory) t =
      stays (Holds P) old.sessions new.sessions (ap (λ (c : Conversation R). c.sessions) t.1)
  asked-keeps old new number asked said (Err NotFound) t = absurd t
  asked-keeps old new number asked said (Err (AskedRefuses n e)) t =
      stays (Holds P) old.sessions new.sessions (ap (λ (c : Conversation R). c.sessions) (t.2).1)
  asked-keeps old new number asked said (Err (Session n e s)) t = absurd t

  module _ (said : LinkPerformative) (hears : HearsSo said) where
    -- one that has begun
    live-heard : (old new : Sessions R) (number : ℕ) (before after : Box (AskingSession R))
        (told : Result (PerformativeTaken A T D) SessionError) (out out_new : List SessionFrame)
        → live_at old number ≡ Some before → LiveHears gives old out number before said told after new out_new
        → Hands P F old new out out_new
    live-heard old new number before after told out out_new live h =
        let (frames, queued) = heard-behind gives before.value after.value said told out out_new h.heard in
        let so = hears before.value after.value out out_new told h.heard in
        record {
          keeps = changes_live (Holds P) old new number before after h.stepped (λ holds. (so holds).0);
          frames = frames;
          queued = queued;
          suit = λ all reads. (so (all number before live)).1 frames queued reads;
        }

    live-answered : (old new : Conversation R) (number : ℕ) (before : Box (AskingSession R))
        (result : Result (Heard A T D) (HearRefusal R)) (out out_new : List SessionFrame)
        → live_at old.sessions number ≡ Some before → FailsSo
        → LiveAnswered gives old out number before said result new out_new → Handed old new out out_new
    live-answered old new number before (Ok (Live n told)) out out_new live fails t =
        live-heard old.sessions new.sessions number before (t.1).after (Ok told) out out_new live (t.1).hears
    live-answered old new number before (Ok (Asked n)) out out_new live fails t = absurd t
    live-answered old new number before (Ok (Dropped n)) out out_new live fails t = absurd t
    live-answered old new number before (Err Memory) out out_new live fails (inl t) =
        kept old new out out_new t.1 t.2
    live-answered old new number before (Err Memory) out out_new live fails (inr t) =
        live-heard old.sessions new.sessions number before t.after (Err t.fault) out out_new live (t.refuses).hears
    live-answered old new number before (Err NotFound) out out_new live fails t = absurd t
    live-answered old new number before (Err (AskedRefuses n e)) out out_new live fails t = absurd t
    live-answered old new number before (Err (Session n fault session)) out out_new live fails t =
        let f = t.1 in
        then-handed P F old.sessions (f.mid).sessions new.sessions out f.out_mid out_new
        (live-heard old.sessions (f.mid).sessions number before session (Err fault) out f.out_mid live
        (f.refuses).hears)
        (end-handed P F f.mid new number (Some (fault_error fault)) session f.out_mid out_new
        (λ channel holds. fails (session.value).session channel fault holds) f.ends)

    at : (old new : Conversation R) (number : ℕ) (asked : Option (Box AskedSession))
        (live : Option (Box (AskingSession R))) (result : Result (Heard A T D) (HearRefusal R))
        (out out_new : List SessionFrame) → live_at old.sessions number ≡ live → FailsSo
        → AnsweredAt gives asked live old out number said result new out_new → Handed old new out out_new
    at old new number (Some asked) live result out out_new is fails t =
        none-handed P F old.sessions new.sessions out out_new (asked-keeps old new number asked said result t.0) t.1
    at old new number None (Some session) result out out_new is fails t =
        live-answered old new number session result out out_new is fails t
    at old new number None None result out out_new is fails t = kept old new out out_new t.1 t.2

    within : (old new : Conversation R) (number : Option ℕ) (result : Result (Heard A T D) (HearRefusal R))
        (out out_new : List SessionFrame) → FailsSo → AnsweredIn gives number old out said result new out_new
        → Handed old new out out_new
    within old new None result out out_new fails t = kept old new out out_new t.1 t.2
    within old new (Some number) result out out_new fails t =
        at old new number (asked_at old.sessions number) (live_at old.sessions number) result out out_new refl fails t

    -- the session that the channel reaches
    pub answer-handed : (old new : Conversation R) (channel : IncomingChannel)
        (result : Result (Heard A T D) (HearRefusal R)) (out out_new : List SessionFrame) → FailsSo
        → Answered gives old out channel said result new out_new → Handed old new out out_new
    answer-handed old new channel result out out_new fails t =
        within old new (reached old.sessions channel.0) result out out_new fails t

  -- the peer's Begin
  module _ (channel : IncomingChannel) (begin : Begin) (begins : BeginsSo channel begin) where
    led : (old : Conversation R) (new : Sessions R) (number : ℕ) (out out_new : List SessionFrame)
        → Step old.sessions (TakesBegin number channel begin) new → out_new ≡ out
        → Hands P F old.sessions new out out_new
    led old new number out out_new stepped same =
        none-handed P F old.sessions new out out_new
        (takes_begin (Holds P) old.sessions new number channel begin stepped) same

    pub begin-handed : (old new : Conversation R) (result : Result BeginHeard BeginRefusal)
        (out out_new : List SessionFrame) → BeginAnswered gives old out channel begin result new out_new
        → Handed old new out out_new
    begin-handed old new (Ok (begun.Asked number)) out out_new t =
        none-handed P F old.sessions new.sessions out out_new
        (asks (Holds P) old.sessions new.sessions number channel (t.0).asked (t.0).stepped) t.1
    begin-handed old new (Ok (begun.Begun number)) out out_new t =
        let took = t.takes in
        let first = led old t.mid number out out (t.led).stepped refl in
        let so =
        begins ((took.before).value).session ((took.after).value).session out out_new (took.taken).0 in
        then-handed P F old.sessions t.mid new.sessions out out out_new first
        (record {
          keeps =
              changes_live (Holds P) t.mid new.sessions number took.before took.after took.stepped
              (λ holds. (so holds).0);
          frames = ((took.taken).0).frames;
          queued = ((took.taken).0).added;
          suit = λ all reads. (so (all number took.before (took.stepped).0)).1 reads;
        })
    begin-handed old new (Ok begun.Dropped) out out_new t =
        led old new.sessions (t.0).number out out_new (((t.0).led).stepped) t.1
    begin-handed old new (Err (unbegun.Connection connection.Memory)) out out_new (same, inl is) =
        kept old new out out_new is same
    begin-handed old new (Err (unbegun.Connection connection.Memory)) out out_new (same, inr (number, leads)) =
        led old new.sessions number out out_new (leads.led).stepped same
    begin-handed old new (Err (unbegun.Connection e)) out out_new t = kept old new out out_new t.1 t.2
    begin-handed old new (Err (unbegun.Session number IllegalState)) out out_new t =
        led old new.sessions number out out_new (((t.0).led).stepped) t.1
    begin-handed old new (Err (unbegun.Session number e)) out out_new t = absurd t

  -- the peer's End
  module _ (channel : IncomingChannel) (end : End) (replies : EndsSo) where
    end-heard : (old new : Conversation R) (number : ℕ) (stood : Place (Box AskedSession) (Box (AskingSession R)))
        (ended : Option (Box (AskingSession R))) (out out_new : List SessionFrame)
        → Step old.sessions (TakesEnd number channel end stood) new.sessions → EndReply stood ended out out_new
        → Handed old new out out_new
    end-heard old new number (place.Live outgoing session) ended out out_new stepped reply =
        record {
          keeps =
              takes_end (Holds P) old.sessions new.sessions number channel end (place.Live outgoing session) stepped;
          frames = end_frame outgoing None ∷ [];
          queued = reply.1;
          suit = λ all reads.
              one F (end_frame outgoing None)
              (replies (session.value).session outgoing (all number session (ap live_of stepped.1)));
        }
    end-heard old new number stood ended out out_new stepped reply =
        none-handed P F old.sessions new.sessions out out_new
        (takes_end (Holds P) old.sessions new.sessions number channel end stood stepped) reply.1

    pub end-answered : (old new : Conversation R) (result : Result (EndHeard R) ConnectionError)
        (out out_new : List SessionFrame) → EndAnswered old out channel end result new out_new
        → Handed old new out out_new
    end-answered old new (Ok heard) out out_new t =
        end-heard old new heard.number t.stood heard.ended out out_new t.stepped t.reply
    end-answered old new (Err connection.NotFound) out out_new t = kept old new out out_new t.1 t.2
    end-answered old new (Err connection.Memory) out out_new t = kept old new out out_new t.0 t.1
    end-answered old new (Err e) out out_new t = absurd t
