-- What an endpoint's sessions do, one thing after the other, and which frames pass by it.
use Rattle.std.proofs.Common.{◌≡◌, ℕ, List, [], ◌∷◌, ◌++◌, Option, Some, None, Ok}
use Rattle.std.specs.Prelude.{Result, ⊤}
use Rattle.std.specs.Global.{Box}
use Rattle.amqp_session_types.specs.declared.channels.IncomingChannel.{IncomingChannel}
use Rattle.amqp_session_types.specs.declared.error.Error.{Error}
use Rattle.amqp_session_types.specs.declared.refusals.SessionError.{SessionError}
use Rattle.amqp_session_types.specs.declared.refusals.TryEndError.{TryEndError}
use Rattle.amqp_session_performatives.specs.declared.attach.Attach.{Attach}
use Rattle.amqp_session_performatives.specs.declared.begin.Begin.{Begin}
use Rattle.amqp_session_performatives.specs.declared.end.End.{End}
use Rattle.amqp_session_performatives.specs.declared.session_frame.SessionFrame.{SessionFrame}
use Rattle.amqp_session_frames.specs.declared.frame.FrameBody.TheVariants as body
use Rattle.amqp_link_base.specs.declared.detached.Detached.{Detached}
use Rattle.amqp_link.specs.declared.relay.AttachTold.{AttachTold}
use Rattle.amqp_link_receiver.specs.declared.answer.Told.{Told}
use Rattle.amqp_endpoint_links.specs.declared.session.AskedSession.{AskedSession}
use Rattle.amqp_endpoint_attached.specs.Linked.{gives}
use Rattle.amqp_endpoint_attached.specs.Links.{attach_frame}
use Rattle.amqp_endpoint_links.specs.declared.hearing.LinkPerformative.{LinkPerformative}
use Rattle.amqp_endpoint_links.specs.declared.hearing.PerformativeTaken.{PerformativeTaken}
use Rattle.amqp_endpoint_tables.specs.State.{asked_at, live_at, reached}
use Rattle.amqp_endpoint_tables.specs.Steps.{ChangesLive, EndTold, Step}
use Rattle.amqp_endpoint_conversation.specs.declared.ending.EndHeard.{EndHeard}
use Rattle.amqp_endpoint_conversation.specs.Beginning.{AcceptsHere, AsksFor, BeginBarred, BeginDropped, BeginsHere}
use Rattle.amqp_endpoint_conversation.specs.Beginning.{BeginsThere}
use Rattle.amqp_endpoint_conversation.specs.Ending.{EndsHere, EndsThere, end_frame}
use Rattle.amqp_endpoint_conversation.specs.Hearing.{AskedTakes, LiveFails, LiveHears}
use Rattle.amqp_endpoint_linking.specs.Linking.{Link, Session, Talk}
use Rattle.amqp_endpoint_laws.specs.Following.{comes, goes}
use Rattle.amqp_endpoint_laws.specs.Reading.{Wired}
use Rattle.amqp_endpoint_conversation.specs.Inside.{AcceptsInside, AreOn, Batches, said_in}
use Rattle.amqp_endpoint_conversation.specs.Windows.{body_said}
use Rattle.amqp_endpoint_laws.specs.Passed.{begun_by}
use Rattle.amqp_endpoint_laws.proofs.GivenUp.{GiveUp}
use Rattle.amqp_endpoint_laws.proofs.PassedPlaces.{KeepsAsked}

-- the same sessions with others in their place
abbrev pub IsRest : Talk → Talk → Type 0
IsRest old new = new ≡ record old { sessions = new.sessions }

-- an Attach goes in a session, and nothing changes
abbrev pub AttachGoes : (ℕ → List Wired → Talk → Talk → Type 0) → Type 0
AttachGoes P =
    (m : ℕ) (attach : Attach) (session : Session) (talk : Talk) → live_at talk.sessions m ≡ Some session
    → P m (goes (attach_frame session.value.session attach ∷ [])) talk talk

-- P says of the session with a number, by which these frames pass, and Q of the session to which frames belong, if they
-- belong to one, what is so of the sessions before and behind. It is so by each thing that is done
pub record Walk (Allows : Batches → Type 0) (P : ℕ → List Wired → Talk → Talk → Type 0)
    (Q : Option ℕ → List Wired → Talk → Talk → Type 0) : Type 0 where
  pub quiet : (accepted : Batches) → GiveUp accepted → Allows accepted
  pub none : (m : ℕ) (old new : Talk) → new ≡ old → P m [] old new
  pub on : (m : ℕ) (ws more : List Wired) (old mid new : Talk) → P m ws old mid → P m more mid new
      → P m (ws ++ more) old new
  -- they belong to it, or none passes
  pub at : (m : ℕ) (ws : List Wired) (old new : Talk) → P m ws old new → Q (Some m) ws old new
  pub silent : (o : Option ℕ) (m : ℕ) (old new : Talk) → P m [] old new → Q o [] old new
  -- frames on a session's channel by which no link attaches or says anything pass, and nothing changes
  pub free : (m : ℕ) (frames : List SessionFrame) (session : Session) (talk : Talk)
      → live_at talk.sessions m ≡ Some session → said_in frames ≡ []
      → AreOn session.value.session.fields.channel.0 frames → P m (goes frames) talk talk
  -- a session goes on by itself, and no link is asked for by that
  pub inside : (m : ℕ) (accepted : Batches) (frames : List SessionFrame) (before after : Session) (old new : Talk)
      → Allows accepted → Step old.sessions (ChangesLive m before after) new.sessions → IsRest old new
      → AcceptsInside gives accepted before.value.session frames after.value.session
      → KeepsAsked before.value after.value → P m (goes frames) old new
  -- the one that a channel reaches hears its peer: one that has begun, one that is asked for, or one that is over
  pub hears : (m channel : ℕ) (it : LinkPerformative) (told : PerformativeTaken AttachTold Told Detached)
      (frames : List SessionFrame) (before after : Session) (old new : Talk)
      → reached old.sessions channel ≡ Some m
      → LiveHears gives old.sessions [] m before it (Ok told) after new.sessions frames → IsRest old new
      → P m (comes channel (body_said it) ∷ goes frames) old new
  -- or one that refuses what it hears, and ends by its fault
  pub fails : (m channel : ℕ) (it : LinkPerformative) (fault : SessionError) (frames : List SessionFrame)
      (before session : Session) (old new : Talk) → reached old.sessions channel ≡ Some m
      → LiveFails gives old [] m before it fault session new frames
      → P m (comes channel (body_said it) ∷ goes frames) old new
  pub asked : (m channel : ℕ) (it : LinkPerformative) (before : Box AskedSession) (old new : Talk)
      → reached old.sessions channel ≡ Some m → AskedTakes old m before it new
      → P m (comes channel (body_said it) ∷ []) old new
  pub unheard : (m channel : ℕ) (it : LinkPerformative) (talk : Talk) → reached talk.sessions channel ≡ Some m
      → asked_at talk.sessions m ≡ None → live_at talk.sessions m ≡ None
      → P m (comes channel (body_said it) ∷ []) talk talk
  -- the peer's Begin asks for one, is taken by one, is dropped by one that is ending, or barred by one that ends
  pub asks : (channel : IncomingChannel) (begin : Begin) (number : ℕ) (old new : Talk)
      → AsksFor gives old channel begin number new → P number (comes channel.0 (body.Begin begin) ∷ []) old new
  pub begun : (channel : IncomingChannel) (begin : Begin) (number : ℕ) (frames : List SessionFrame) (old new : Talk)
      → BeginsThere gives old [] channel begin number new frames
      → P number (comes channel.0 (body.Begin begin) ∷ goes frames) old new
  pub dropped : (channel : IncomingChannel) (begin : Begin) (old new : Talk) → BeginDropped gives old channel begin new
      → Q (begun_by old.sessions begin.remote_channel) (comes channel.0 (body.Begin begin) ∷ []) old new
  pub barred : (channel : IncomingChannel) (begin : Begin) (number : ℕ) (error : Option Error) (session : Session)
      (frames : List SessionFrame) (old mid new : Talk) → BeginBarred gives old channel begin number mid
      → EndsHere mid [] number error session new frames
      → P number (comes channel.0 (body.Begin begin) ∷ goes frames) old new
  -- the peer's End
  pub ended : (channel : IncomingChannel) (end : End) (h : EndHeard Link) (frames : List SessionFrame) (old new : Talk)
      → EndsThere old [] channel end h new frames
      → P h.number (comes channel.0 (body.End end) ∷ goes frames) old new
  -- the own Begin, the own End, and what the caller is told of the peer's
  pub begins : (number : ℕ) (frames : List SessionFrame) (old new : Talk)
      → BeginsHere gives old [] number new frames → P number (goes frames) old new
  pub accepts : (channel : IncomingChannel) (number : ℕ) (frames : List SessionFrame) (old new : Talk)
      → AcceptsHere gives old [] channel number new frames → P number (goes frames) old new
  pub ends : (number : ℕ) (error : Option Error) (session : Session) (out out_new : List SessionFrame)
      (old new : Talk) (e : EndsHere old out number error session new out_new)
      → P number (goes (end_frame e.channel error ∷ [])) old new
  pub told : (number : ℕ) (result : Result ⊤ TryEndError) (old new : Talk)
      → EndTold old.sessions number result new.sessions → IsRest old new → P number [] old new
