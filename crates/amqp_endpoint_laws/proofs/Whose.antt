-- Each frame by which a session begins or ends, and each that comes, is read as its session's.
use Rattle.std.proofs.Common.{◌≡◌, ℕ, List, [], ◌∷◌, Option, Some, None, Ok, ap, refl, sym, subst, ◌∙◌}
use Rattle.std.specs.FinMap as map
use Rattle.std.specs.Global.{Box}
use Rattle.std.proofs.lemmas.Option.{none-some}
use Rattle.amqp_session_types.specs.declared.channels.IncomingChannel.{IncomingChannel}
use Rattle.amqp_session_types.specs.declared.error.Error.{Error}
use Rattle.amqp_session_performatives.specs.declared.begin.Begin.{Begin}
use Rattle.amqp_session_performatives.specs.declared.end.End.{End}
use Rattle.amqp_session_performatives.specs.declared.session_frame.SessionFrame.{SessionFrame}
use Rattle.amqp_session_frames.specs.declared.frame.FrameBody.{FrameBody}
use Rattle.amqp_session_frames.specs.declared.frame.FrameBody.TheVariants as body
use Rattle.amqp_session_frames.specs.Steps.{named_session}
use Rattle.amqp_session_core.specs.Relay.{Relations}
use Rattle.amqp_endpoint_links.specs.declared.session.AskedSession.{AskedSession}
use Rattle.amqp_endpoint_links.specs.declared.asking.AskingSession.{AskingSession}
use Rattle.amqp_endpoint_links.proofs.Standing.{accepted-stands, begun-stands}
use Rattle.amqp_endpoint_tables.specs.State.{State, reached}
use Rattle.amqp_endpoint_conversation.specs.declared.beginning.BeginHeard.TheVariants as begin_heard
use Rattle.amqp_endpoint_conversation.specs.declared.conversation.Conversation.{Conversation}
use Rattle.amqp_endpoint_conversation.specs.declared.ending.EndHeard.{EndHeard}
use Rattle.amqp_endpoint_conversation.specs.Beginning.{AcceptsHere, BeginAnswered, BeginsHere, Leads}
use Rattle.amqp_endpoint_conversation.specs.Ending.{EndAnswered, EndsHere, end_frame}
use Rattle.amqp_endpoint_laws.specs.Beside.{Agrees, InTables, from, role_of}
use Rattle.amqp_endpoint_laws.specs.Following.{AreFor, IsForReached, comes, goes}
use Rattle.amqp_endpoint_laws.specs.Reading.{Reader, Speaks, begun_there, comes_for}
use Rattle.amqp_endpoint_laws.proofs.Beside.{reaches-it}

module _ (base : ℕ) (r : Reader) where
  -- one frame goes
  one-goes : (number : ℕ) (frames : List SessionFrame) (frame said : SessionFrame) → frames ≡ frame ∷ [] → frame ≡ said
      → AreFor base number r (goes (said ∷ [])) → AreFor base number r (goes frames)
  one-goes number frames frame said is says are =
      subst (λ (fs : List SessionFrame). AreFor base number r (goes fs))
      (sym (is ∙ ap (λ (f : SessionFrame). f ∷ []) says)) are

  module _ {R X T D : Type 0} (gives : Relations R X T D) where
    pub begins-for : (old new : Conversation R) (number : ℕ) (frames : List SessionFrame)
        → BeginsHere gives old [] number new frames → Agrees base r old.sessions → AreFor base number r (goes frames)
    begins-for old new number frames b agrees =
        let (stands, says) =
        begun-stands gives b.channel old.first_transfer_number old.incoming_window b.frame b.session.value b.begun in
        one-goes number frames b.frame _ b.queued says (ap Some (sym agrees.count ∙ sym (b.stepped).1), tt)

    pub accepts-for : (old new : Conversation R) (channel : IncomingChannel) (number : ℕ) (frames : List SessionFrame)
        → AcceptsHere gives old [] channel number new frames → Agrees base r old.sessions
        → AreFor base number r (goes frames)
    accepts-for old new channel number frames a agrees =
        let (stands, says) =
        accepted-stands gives a.wanted.value a.outgoing channel old.first_transfer_number old.incoming_window a.frame
        a.session.value a.accepted in
        one-goes number frames a.frame _ a.queued says (sym (agrees.asked channel.0) ∙ a.asked, tt)

    -- the session that has the channel which the peer's Begin names
    pub named-for : (old : Conversation R) (channel : IncomingChannel) (begin : Begin) (number : ℕ)
        (mid : State (Box AskedSession) (Box (AskingSession R))) → Leads gives old channel begin number mid
        → Agrees base r old.sessions → from base (begun_there r begin.remote_channel) ≡ Some number
    named-for old channel begin number mid l agrees = by begin.remote_channel refl
      where
        by : (o : Option ℕ) → begin.remote_channel ≡ o → from base (begun_there r begin.remote_channel) ≡ Some number
        by None e =
            absurd (none-some number (sym (ap (named_session old.sessions.connection) e) ∙ ((l.stepped).0).0))
        by (Some named) e =
            ap (λ (o : Option ℕ). from base (begun_there r o)) e ∙ sym (agrees.own named)
            ∙ sym (ap (named_session old.sessions.connection) e) ∙ ((l.stepped).0).0

    pub asked-for : (old new : Conversation R) (channel : IncomingChannel) (begin : Begin) (number : ℕ)
        (frames : List SessionFrame)
        → BeginAnswered gives old [] channel begin (Ok (begin_heard.Asked number)) new frames
        → Agrees base r old.sessions → AreFor base number r (comes channel.0 (body.Begin begin) ∷ [])
    asked-for old new channel begin number frames (a, none) agrees = (
      ap (λ (o : Option ℕ). from base (begun_there r o)) a.names_none
          ∙ ap Some (sym agrees.count ∙ sym (a.stepped).1),
      tt,
    )

    pub begun-for : (old new : Conversation R) (channel : IncomingChannel) (begin : Begin) (number : ℕ)
        (frames : List SessionFrame)
        → BeginAnswered gives old [] channel begin (Ok (begin_heard.Begun number)) new frames
        → Agrees base r old.sessions → AreFor base number r (comes channel.0 (body.Begin begin) ∷ [])
    begun-for old new channel begin number frames b agrees =
        (named-for old channel begin number b.mid b.led agrees, tt)

  -- the session that has an own channel speaks on it
  pub speaks-for : {A S : Type 0} (s : State A S) (number channel : ℕ)
      → map.get s.connection.live channel ≡ Some number
      → Agrees base r s → Speaks r → from base (r.speaks channel) ≡ Some number
  speaks-for s number channel here agrees speaks = by (r.own channel) refl
    where
      by : (o : Option ℕ) → r.own channel ≡ o → from base (r.speaks channel) ≡ Some number
      by None e =
          absurd (none-some number (sym (agrees.own channel ∙ ap (from base) e) ∙ here))
      by (Some k) e =
          ap (from base) (speaks channel k e) ∙ sym (ap (from base) e) ∙ sym (agrees.own channel) ∙ here

  module _ {R : Type 0} where
    pub ends-for : (old new : Conversation R) (number : ℕ) (error : Option Error) (session : Box (AskingSession R))
        (frames : List SessionFrame) → EndsHere old [] number error session new frames → InTables old.sessions
        → Agrees base r old.sessions → Speaks r → AreFor base number r (goes frames)
    ends-for old new number error session frames e tables agrees speaks =
        one-goes number frames (end_frame e.channel error) (end_frame e.channel error) e.queued refl (
          speaks-for old.sessions number (e.channel).0 (tables.has number (e.channel).0 (ap role_of (e.stepped).0))
              agrees speaks,
          tt,
        )

    pub end-for : (old new : Conversation R) (channel : IncomingChannel) (end : End) (h : EndHeard R)
        (frames : List SessionFrame) → EndAnswered old [] channel end (Ok h) new frames → Agrees base r old.sessions
        → AreFor base h.number r (comes channel.0 (body.End end) ∷ [])
    end-for old new channel end h frames e agrees =
        (sym (reaches-it base r old.sessions channel.0 agrees) ∙ (e.stepped).0, tt)

  -- what else comes is read as the frame of the session that its channel reaches
  pub heard-for : {A S : Type 0} (s : State A S) (channel : ℕ) (it : FrameBody) → IsForReached it → Agrees base r s
      → from base (comes_for r channel it) ≡ reached s channel
  heard-for s channel body.Empty is agrees = absurd is
  heard-for s channel (body.Open opening) is agrees = absurd is
  heard-for s channel (body.Close closing) is agrees = absurd is
  heard-for s channel (body.Begin begin) is agrees = absurd is
  heard-for s channel (body.Attach attach) is agrees = sym (reaches-it base r s channel agrees)
  heard-for s channel (body.Flow flow) is agrees = sym (reaches-it base r s channel agrees)
  heard-for s channel (body.Transfer transfer payload) is agrees = sym (reaches-it base r s channel agrees)
  heard-for s channel (body.Disposition disposition) is agrees = sym (reaches-it base r s channel agrees)
  heard-for s channel (body.Detach detach) is agrees = sym (reaches-it base r s channel agrees)
  heard-for s channel (body.End end) is agrees = sym (reaches-it base r s channel agrees)
