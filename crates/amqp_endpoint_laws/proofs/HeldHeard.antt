-- Links stand where they are held behind each frame of the peer's.
use Rattle.std.proofs.Common.{◌≡◌, inl, inr, ℕ, Bool, true, false, List, [], Option, Some, None, Ok, Err}
use Rattle.std.proofs.Common.{ap, refl, subst, sym, ◌∙◌, ◌∷◌}
use Rattle.std.proofs.lemmas.Bool.{eq-eqb}
use Rattle.std.proofs.lemmas.Option.{none-some, same_Some}
use Rattle.std.specs.Prelude.{Result}
use Rattle.std.specs.Global.{Box}
use Rattle.smallvec.specs.SmallVec.{SmallVec}
use Rattle.amqp_session_types.specs.declared.channels.IncomingChannel.{IncomingChannel}
use Rattle.amqp_session_types.specs.declared.error.Error.{Error}
use Rattle.amqp_session_types.specs.declared.handles.OutputHandle.{OutputHandle}
use Rattle.amqp_session_types.specs.declared.refusals.ConnectionError.{ConnectionError}
use Rattle.amqp_session_types.specs.declared.refusals.ConnectionError.TheVariants as connection
use Rattle.amqp_session_types.specs.declared.refusals.SessionError.{SessionError}
use Rattle.amqp_session_types.specs.declared.refusals.SessionError.TheVariants.{IllegalState}
use Rattle.amqp_session_performatives.specs.declared.attach.Attach.{Attach}
use Rattle.amqp_session_performatives.specs.declared.begin.Begin.{Begin}
use Rattle.amqp_session_performatives.specs.declared.detach.Detach.{Detach}
use Rattle.amqp_session_performatives.specs.declared.disposition.Disposition.{Disposition}
use Rattle.amqp_session_performatives.specs.declared.end.End.{End as EndFrame}
use Rattle.amqp_session_performatives.specs.declared.session_frame.SessionFrame.{SessionFrame}
use Rattle.amqp_session_performatives.specs.declared.session_frame.SessionFrameBody.{SessionFrameBody}
use Rattle.amqp_session_performatives.specs.declared.session_frame.SessionFrameBody.TheVariants as session_body
use Rattle.amqp_session_performatives.specs.declared.transfer.Transfer.{Transfer}
use Rattle.amqp_session_frames.specs.declared.frame.FrameBody.{FrameBody}
use Rattle.amqp_session_frames.specs.declared.frame.FrameBody.TheVariants as body
use Rattle.amqp_session_core.specs.State.{link_at}
use Rattle.amqp_session_core.specs.Steps.{TakesBegin as SessionBegins}
use Rattle.amqp_session_core.specs.declared.incoming.TransferTaken.{TransferTaken}
use Rattle.amqp_link_base.specs.declared.state.LinkState.{LinkState}
use Rattle.amqp_link_base.specs.declared.state.LinkState.TheVariants as state
use Rattle.amqp_link_base.specs.declared.detached.Detached.{Detached}
use Rattle.amqp_link.specs.Ends.{state_of}
use Rattle.amqp_link.specs.declared.relay.AttachTold.{AttachTold}
use Rattle.amqp_link_receiver.specs.declared.answer.Told.{Told}
use Rattle.amqp_link_receiver.specs.declared.answer.Told.TheVariants as told
use Rattle.amqp_endpoint_links.specs.declared.session.AskedSession.{AskedSession}
use Rattle.amqp_endpoint_links.specs.declared.hearing.LinkPerformative.{LinkPerformative}
use Rattle.amqp_endpoint_links.specs.declared.hearing.PerformativeTaken.{PerformativeTaken}
use Rattle.amqp_endpoint_tables.specs.State.{asked_at, asked_of, ended_place, live_at, reached, with_asked}
use Rattle.amqp_endpoint_tables.specs.Steps.{Asks, ChangesAsked, Step, TakesBegin, TakesEnd}
use Rattle.amqp_endpoint_tables.specs.declared.place.Place.TheVariants.{Asked, Ending, Live, Over}
use Rattle.amqp_endpoint_tables.proofs.Owning.{at}
use Rattle.amqp_endpoint_conversation.specs.declared.beginning.BeginHeard.{BeginHeard}
use Rattle.amqp_endpoint_conversation.specs.declared.beginning.BeginHeard.TheVariants as begin_heard
use Rattle.amqp_endpoint_conversation.specs.declared.beginning.BeginRefusal.{BeginRefusal}
use Rattle.amqp_endpoint_conversation.specs.declared.beginning.BeginRefusal.TheVariants as begin_refused
use Rattle.amqp_endpoint_conversation.specs.declared.hearing.HearRefusal.TheVariants as refused
use Rattle.amqp_endpoint_conversation.specs.declared.hearing.Heard.TheVariants as heard
use Rattle.amqp_endpoint_conversation.specs.Beginning.{BeginAnswered, Leads}
use Rattle.amqp_endpoint_conversation.specs.Ending.{EndAnswered, EndReply, EndsHere}
use Rattle.amqp_endpoint_conversation.specs.Hearing.{Answered, AnsweredAt, AnsweredIn, AskedAnswered, LiveAnswered}
use Rattle.amqp_endpoint_conversation.specs.Hearing.{LiveHears}
use Rattle.amqp_endpoint_attached.specs.Linked.{Linked, LinksIn, end_gives, gives}
use Rattle.amqp_endpoint_model.specs.declared.error.EndpointError.{EndpointError}
use Rattle.amqp_endpoint_model.specs.declared.event.Event.{Event}
use Rattle.amqp_endpoint_linking.specs.GivingBack.{AllGivenBack, SessionGivenBack}
use Rattle.amqp_endpoint_linking.specs.Hearing.{HearsBegin, RefusesBegin}
use Rattle.amqp_endpoint_linking.specs.Linking.{Link, Links, Session, Sessions, Stood, Talk, links_of}
use Rattle.amqp_endpoint_link_hearing.specs.Heard.{attach_of, session_of}
use Rattle.amqp_endpoint_link_hearing.specs.Attaching.{HearsAttach, HearsReady, opened_in}
use Rattle.amqp_endpoint_link_hearing.specs.Detaching as detaching
use Rattle.amqp_endpoint_link_hearing.specs.Disposing as disposing
use Rattle.amqp_endpoint_link_hearing.specs.Flowing.{HearsCredited, HearsFlow, LeaveWith, LeavesOnce, LeavesWith}
use Rattle.amqp_endpoint_link_hearing.specs.Flowing.{LetsGo, ended, ended_link}
use Rattle.amqp_endpoint_link_hearing.specs.InSession.{GoesOn}
use Rattle.amqp_endpoint_link_hearing.specs.Naming.{link_in}
use Rattle.amqp_endpoint_link_hearing.specs.Saying.{BarsSaid, EndsBy, FailsBySaid, LinkHeard, LinkRefusal, RefusesSaid}
use Rattle.amqp_endpoint_link_hearing.specs.Transferring as transferring
use Rattle.amqp_endpoint_link_hearing.specs.Transferring.{Comes, RemembersUnless}
use Rattle.amqp_endpoint.specs.Hearing.{Hears, RefusesBody}
use Rattle.amqp_endpoint_link_hearing.proofs.Barrings.{refuses-by}
use Rattle.amqp_endpoint_laws.specs.Conversing.{SessionsAct}
use Rattle.amqp_endpoint_laws.specs.Held.{Agrees, Numbers, number_at, number_in, number_live, number_of}
use Rattle.amqp_endpoint_laws.proofs.Agreeing.{Same, stay}
use Rattle.amqp_endpoint_laws.proofs.Behind.{FollowsBy, behind-numbers, room-behind}
use Rattle.amqp_endpoint_laws.proofs.BehindAttach.{becomes-behind, number_of as session_heard}
use Rattle.amqp_endpoint_laws.proofs.BehindFlow.{Any, flow-behind}
use Rattle.amqp_endpoint_laws.proofs.HeldCalled.{Stands, TalkSame, live-same, stays-held, talk-on, talk-same}
use Rattle.amqp_endpoint_laws.proofs.HeldParting.{left-held, session-back}
use Rattle.amqp_endpoint_laws.proofs.HeldSessions.{Gone, about-same, ends-gone, inside, keep-in, live-changed, within}
use Rattle.amqp_endpoint_laws.proofs.Numbers.{KeepNumbers, heard-kept, kept-on, same-kept, step-kept}
use Rattle.amqp_endpoint_laws.proofs.NumbersInside.{again-kept, answers-kept, echoes-kept, refuses-kept, remembers-kept}
use Rattle.amqp_endpoint_laws.proofs.NumbersInside.{told-kept}
use Rattle.amqp_session_core.specs.Batch.{Transfers}
use Rattle.amqp_session_performatives.specs.declared.flow.Flow.{Flow}
use Rattle.amqp_endpoint_laws.proofs.RoomMade.{RoomMade, room-made}

-- a session that the peer's channel reaches answers, and doesn't end by its fault
abbrev NoFault : Result LinkHeard LinkRefusal → Type 0
NoFault (Err (refused.Session n fault session)) = ⊥
NoFault result = Unit {0}

-- one is over, whichever number it has
abbrev IsGone : Session → Talk → Talk → Type 0
IsGone session old new = (number : ℕ) × Gone number session old.sessions new.sessions

-- behind one in which the same numbers stand
gone-behind : (session : Session) (old mid new : Talk) → TalkSame old mid → IsGone session mid new
    → IsGone session old new
gone-behind session old mid new same (number, g) = (
  number,
  record {
    was = λ handle. sym (same number handle) ∙ g.was handle;
    is = g.is;
    other = λ n handle e. g.other n handle e ∙ same n handle;
  },
)

here-gone : (number : ℕ) (error : Option Error) (session : Session) (old new : Talk) (out out_new : List SessionFrame)
    → EndsHere old out number error session new out_new → IsGone session old new
here-gone number error session old new out out_new e =
    (number, ends-gone number e.channel session true old.sessions new.sessions e.stepped)

-- its links are given back
gone-back : (session : Session) (old new : Talk) (links links_new : Links) → IsGone session old new
    → AllGivenBack links (links_of session) links_new → Agrees (number_at old.sessions) links
    → Agrees (number_at new.sessions) links_new
gone-back session old new links links_new (number, g) given a =
    session-back number session old.sessions new.sessions links links_new g given a

asked-live : (stood : Stood) (before after : Box AskedSession) (handle : ℕ) → asked_of (Some stood) ≡ Some before
    → Stands (Some (with_asked stood after)) handle ≡ Stands (Some stood) handle
asked-live (Asked channel asked) before after handle e = refl
asked-live (Live channel session) before after handle e = refl
asked-live (Ending channel own_end) before after handle e = refl
asked-live (Over peer_end complete) before after handle e = refl

asked-changed : (number : ℕ) (before after : Box AskedSession) (old new : Talk)
    → Step old.sessions (ChangesAsked number before after) new.sessions → TalkSame old new
asked-changed number before after old new stepped =
    let (stood, was, lives, is) =
    (at number old.sessions (ChangesAsked number before after) new.sessions stepped).about
    (eq-eqb number number refl) in
    about-same number old.sessions new.sessions
    (λ n e. (at n old.sessions (ChangesAsked number before after) new.sessions stepped).other e)
    (λ handle.
    ap (λ (o : Option Stood). Stands o handle) is ∙ asked-live stood before after handle lives
    ∙ sym (ap (λ (o : Option Stood). Stands o handle) was))

asked-answered : (old : Talk) (number : ℕ) (before : Box AskedSession) (it : LinkPerformative)
    (result : Result LinkHeard LinkRefusal) (new : Talk) → AskedAnswered old number before it result new
    → TalkSame old new
asked-answered old number before it (Ok (heard.Asked n)) new a =
    asked-changed number before a.1.after old new a.1.stepped
asked-answered old number before it (Ok other) new a = absurd a
asked-answered old number before it (Err refused.Memory) new a = talk-same old new a.1
asked-answered old number before it (Err (refused.Asked n e)) new a = talk-same old new (a.2).1
asked-answered old number before it (Err other) new a = absurd a

live-hears : (old : Talk) (out : List SessionFrame) (number : ℕ) (before after : Session) (it : LinkPerformative)
    (result : Result (PerformativeTaken AttachTold Told Detached) SessionError) (new : Talk)
    (out_new : List SessionFrame) → LiveHears gives old.sessions out number before it result after new.sessions out_new
    → TalkSame old new
live-hears old out number before after it result new out_new h =
    live-same number before after old new h.stepped
    (heard-kept end_gives before.value after.value out out_new it result h.heard)

live-answered : (old : Talk) (out : List SessionFrame) (number : ℕ) (before : Session) (it : LinkPerformative)
    (result : Result LinkHeard LinkRefusal) (new : Talk) (out_new : List SessionFrame) → NoFault result
    → LiveAnswered gives old out number before it result new out_new → TalkSame old new
live-answered old out number before it (Ok (heard.Live n it_takes)) new out_new none a =
    live-hears old out number before a.1.after it (Ok it_takes) new out_new a.1.hears
live-answered old out number before it (Ok other) new out_new none a = absurd a
live-answered old out number before it (Err refused.Memory) new out_new none (inl a) = talk-same old new a.1
live-answered old out number before it (Err refused.Memory) new out_new none (inr a) =
    live-hears old out number before a.after it (Err a.fault) new out_new a.refuses.hears
live-answered old out number before it (Err (refused.Session n fault session)) new out_new none a = absurd none
live-answered old out number before it (Err other) new out_new none a = absurd a

answered-at : (asked : Option (Box AskedSession)) (live : Option Session) (old : Talk) (out : List SessionFrame)
    (number : ℕ) (it : LinkPerformative) (result : Result LinkHeard LinkRefusal) (new : Talk)
    (out_new : List SessionFrame) → NoFault result
    → AnsweredAt gives asked live old out number it result new out_new → TalkSame old new
answered-at (Some asked) live old out number it result new out_new none a =
    asked-answered old number asked it result new a.0
answered-at None (Some session) old out number it result new out_new none a =
    live-answered old out number session it result new out_new none a
answered-at None None old out number it result new out_new none a = talk-same old new a.1

answered-in : (number : Option ℕ) (old : Talk) (out : List SessionFrame) (it : LinkPerformative)
    (result : Result LinkHeard LinkRefusal) (new : Talk) (out_new : List SessionFrame) → NoFault result
    → AnsweredIn gives number old out it result new out_new → TalkSame old new
answered-in None old out it result new out_new none a = talk-same old new a.1
answered-in (Some number) old out it result new out_new none a =
    answered-at (asked_at old.sessions number) (live_at old.sessions number) old out number it result new out_new none a

answered : (old : Talk) (out : List SessionFrame) (channel : IncomingChannel) (it : LinkPerformative)
    (result : Result LinkHeard LinkRefusal) (new : Talk) (out_new : List SessionFrame) → NoFault result
    → Answered gives old out channel it result new out_new → TalkSame old new
answered old out channel it result new out_new none a =
    answered-in (reached old.sessions channel.0) old out it result new out_new none a

-- or ends by its fault
module _ (old : Talk) (out : List SessionFrame) (it : LinkPerformative) (n : ℕ) (fault : SessionError)
    (session : Session) (new : Talk) (out_new : List SessionFrame) where
  live-faulted : (number : ℕ) (before : Session)
      → LiveAnswered gives old out number before it (Err (refused.Session n fault session)) new out_new
      → IsGone session old new
  live-faulted number before (same, f) =
      gone-behind session old f.mid new
      (live-hears old out number before session it (Err fault) f.mid f.out_mid f.refuses.hears)
      (here-gone number _ session f.mid new f.out_mid out_new f.ends)

  faulted-at : (asked : Option (Box AskedSession)) (live : Option Session) (number : ℕ)
      → AnsweredAt gives asked live old out number it (Err (refused.Session n fault session)) new out_new
      → IsGone session old new
  faulted-at (Some asked) live number a = absurd a.0
  faulted-at None (Some before) number a = live-faulted number before a
  faulted-at None None number (is, same, none) = let clash = is in absurd cc

  faulted-in : (number : Option ℕ)
      → AnsweredIn gives number old out it (Err (refused.Session n fault session)) new out_new
      → IsGone session old new
  faulted-in None (wrong, same, none) = let clash = wrong in absurd cc
  faulted-in (Some number) a = faulted-at (asked_at old.sessions number) (live_at old.sessions number) number a

  faulted : (channel : IncomingChannel)
      → Answered gives old out channel it (Err (refused.Session n fault session)) new out_new
      → IsGone session old new
  faulted channel a = faulted-in (reached old.sessions channel.0) a

-- and its links are given back
fails : (old : Talk) (links : Links) (channel : IncomingChannel) (it : LinkPerformative) (frames : List SessionFrame)
    (events : List Event) (new : Talk) (links_new : Links)
    → FailsBySaid old links channel it frames events new links_new → Agrees (number_at old.sessions) links
    → Agrees (number_at new.sessions) links_new
fails old links channel it frames events new links_new f a =
    gone-back f.session old new links links_new
    (faulted old [] it f.number f.fault f.session new frames channel f.answered) f.back a

-- something is done in a session that goes on
in-session : (Done : Linked → Linked → Type 0) (old : Talk) (session : ℕ) (new : Talk)
    → ((before after : Linked) → Done before after → KeepNumbers before.session after.session)
    → GoesOn Done old session new → TalkSame old new
in-session Done old session new keeps g =
    live-same session g.before g.after old new g.stepped (keeps g.before.value g.after.value g.done)

-- the peer's Begin
led : (old : Talk) (channel : IncomingChannel) (begin : Begin) (number : ℕ) (mid : Sessions)
    → Leads gives old channel begin number mid → Same (number_at old.sessions) (number_at mid)
led old channel begin number mid l n handle =
    ap (λ (o : Option Stood). Stands o handle)
    ((at n old.sessions (TakesBegin number channel begin) mid l.stepped).other refl)

begin-answered : (old : Talk) (out : List SessionFrame) (channel : IncomingChannel) (begin : Begin)
    (result : Result BeginHeard BeginRefusal) (new : Talk) (out_new : List SessionFrame)
    → BeginAnswered gives old out channel begin result new out_new → TalkSame old new
begin-answered old out channel begin (Ok (begin_heard.Asked number)) new out_new (a, none) =
    let step : SessionsAct = Asks number channel a.asked in
    let (was, is) = (at number old.sessions step new.sessions a.stepped).about (eq-eqb number number refl) in
    about-same number old.sessions new.sessions
    (λ n e. (at n old.sessions step new.sessions a.stepped).other e)
    (λ handle.
    ap (λ (o : Option Stood). Stands o handle) is ∙ sym (ap (λ (o : Option Stood). Stands o handle) was))
begin-answered old out channel begin (Ok (begin_heard.Begun number)) new out_new a =
    let there : Talk = record old { sessions = a.mid } in
    let t = a.takes in
    let s = (t.taken).0 in
    talk-on old there new (led old channel begin number a.mid a.led)
    (live-same number t.before t.after there new t.stepped
    (step-kept end_gives (SessionBegins channel begin s.base s.left s.frames) t.before.value.session
    t.after.value.session s.stepped tt))
begin-answered old out channel begin (Ok begin_heard.Dropped) new out_new a =
    led old channel begin a.0.number new.sessions a.0.led
begin-answered old out channel begin (Err (begin_refused.Connection connection.Memory)) new out_new (same, inl is) =
    talk-same old new is
begin-answered old out channel begin (Err (begin_refused.Connection connection.Memory)) new out_new
    (same, inr (number, l)) =
    led old channel begin number new.sessions l.led
begin-answered old out channel begin (Err (begin_refused.Connection e)) new out_new a = talk-same old new a.1
begin-answered old out channel begin (Err (begin_refused.Session number IllegalState)) new out_new a =
    led old channel begin number new.sessions a.0.led
begin-answered old out channel begin (Err (begin_refused.Session number e)) new out_new a = absurd a

begin-heard : (old : Talk) (links : Links) (channel : IncomingChannel) (begin : Begin) (frames : List SessionFrame)
    (events : List Event) (new : Talk) (links_new : Links)
    → HearsBegin old links channel begin frames events new links_new → Agrees (number_at old.sessions) links
    → Agrees (number_at new.sessions) links_new
begin-heard old links channel begin frames events new links_new (inl t) a =
    stays-held old new links links_new (begin-answered old [] channel begin (Ok t.heard) new frames t.answered) t.same a
begin-heard old links channel begin frames events new links_new (inr f) a =
    gone-back f.fails.session old new links links_new
    (gone-behind f.fails.session old f.mid new
    (begin-answered old [] channel begin (Err (begin_refused.Session f.number f.fault)) f.mid [] f.refused)
    (here-gone f.number _ f.fails.session f.mid new [] frames f.fails.ends))
    f.fails.back a

-- the peer's Attach, before which room may be made
room-same : (old : Talk) (channel : IncomingChannel) (new : Talk) → RoomMade old channel new → TalkSame old new
room-same old channel new (inl same) = talk-same old new same
room-same old channel new (inr m) =
    in-session _ old m.number new
    (λ before after r. behind-numbers {Such = Any} [] before after (room-behind before after r)) m.made

follows : {Such : Transfers → Type 0} (number : ℕ) (frames : List SessionFrame) (old new : Talk)
    → FollowsBy Such number frames old new → TalkSame old new
follows number frames old new (inl (none, same)) = talk-same old new same
follows number frames old new (inr g) =
    in-session _ old number new (λ before after b. behind-numbers frames before after b) g

attach-heard : (old : Talk) (links : Links) (limit : ℕ) (channel : IncomingChannel) (attach : Attach)
    (frames : List SessionFrame) (events : List Event) (new : Talk) (links_new : Links)
    → HearsAttach old links limit channel attach frames events new links_new → Agrees (number_at old.sessions) links
    → Agrees (number_at new.sessions) links_new
attach-heard old links limit channel attach frames events new links_new h a =
    by h.hears
    (stays-held old h.ready links links
    (room-same old channel h.ready (room-made h.named old channel h.ready h.makes_room)) refl a)
  where
    by : HearsReady h.named h.ready links limit channel attach frames events new links_new
        → Agrees (number_at h.ready.sessions) links → Agrees (number_at new.sessions) links_new
    by (inl t) agrees =
        stays-held h.ready new links links_new
        (talk-on h.ready t.mid new (answered h.ready [] channel _ (Ok t.heard) t.mid [] tt t.answered)
        (follows (session_heard t.heard) frames t.mid new
        (becomes-behind limit (opened_in h.ready (attach_of t.heard) h.named) t.heard h.named t.mid attach frames events
        new t.becomes)))
        t.same agrees
    by (inr f) agrees = fails h.ready links channel _ frames events new links_new f agrees

-- the peer's Transfer
remembered : (settled : Bool) (handle : OutputHandle) (tag : List ℕ) (number : ℕ) (old : Talk) (session : ℕ)
    (new : Talk) → RemembersUnless settled handle tag number old session new → TalkSame old new
remembered true handle tag number old session new same = talk-same old new same
remembered false handle tag number old session new g =
    in-session _ old session new (λ before after r. remembers-kept handle tag number before after r) g

transfer-comes : (it_told : Told) (old mid new : Talk) (given session : ℕ) (it : Transfer)
    (frames : List SessionFrame) (events : List Event) (given_new : ℕ)
    → Comes it_told old given it session mid frames events new given_new → TalkSame mid new
transfer-comes (told.Message message) old mid new given session it frames events given_new c =
    remembered message.settled c.handle message.delivery_tag given mid session new c.remembers
transfer-comes (told.Refused error) old mid new given session it frames events given_new (c, g) =
    in-session _ mid session new (λ before after d. refuses-kept _ c.handle frames before after d) c.closes
transfer-comes other old mid new given session it frames events given_new c = talk-same mid new c.stays

transfer-becomes : (took_it : Option (ℕ × TransferTaken Told)) (old mid new : Talk) (given : ℕ) (it : Transfer)
    (frames : List SessionFrame) (events : List Event) (given_new : ℕ)
    → transferring.Becomes took_it old given it mid frames events new given_new → TalkSame mid new
transfer-becomes (Some (session, took)) old mid new given it frames events given_new b =
    transfer-comes took.told old mid new given session it b.own events given_new b.comes
transfer-becomes None old mid new given it frames events given_new c = talk-same mid new c.stays

-- links leave by the peer's Flow
ended-is : (s : LinkState) (n number : ℕ) (closed : Bool) → ended s n ≡ Some (number, closed) → n ≡ number
ended-is state.Detached n number closed e = ap (λ (p : ℕ × Bool). p.0) (same_Some _ _ e)
ended-is state.Closed n number closed e = ap (λ (p : ℕ × Bool). p.0) (same_Some _ _ e)
ended-is other n number closed e = absurd (none-some _ e)

ended-number : (o : Option Link) (number : ℕ) (closed : Bool) → ended_link o ≡ Some (number, closed)
    → number_of o ≡ Some number
ended-number None number closed e = absurd (none-some _ e)
ended-number (Some link) number closed e = ap Some (ended-is (state_of link.link) link.number number closed e)

module _ (numbers : Numbers) (session : ℕ) where
  leaves-once : (it : Option (ℕ × Bool)) (handle : OutputHandle) (old new : Linked) (links links_new : Links)
      → ended_link (link_at old.session handle.0) ≡ it → LeavesOnce it handle old links new links_new
      → Agrees (within numbers session old.session) links → Agrees (within numbers session new.session) links_new
  leaves-once None handle old new links links_new e (same, is) a =
      keep-in numbers session old.session new.session links links_new
      (same-kept old.session new.session (ap (λ (s : Linked). s.session) same)) is a
  leaves-once (Some (number, closed)) handle old new links links_new e l a =
      left-held numbers session links links_new number handle old new
      (ended-number (link_at old.session handle.0) number closed e) closed l.left l.out l.is_left a

  leaves-with : (frame : SessionFrameBody) (old new : Linked) (links links_new : Links)
      → LeavesWith frame old links new links_new → Agrees (within numbers session old.session) links
      → Agrees (within numbers session new.session) links_new
  leaves-with (session_body.Detach detach) old new links links_new l a =
      leaves-once (ended_link (link_at old.session detach.handle.0)) (record { 0 = detach.handle.0 }) old new links
      links_new refl l a
  leaves-with frame old new links links_new l a =
      keep-in numbers session old.session new.session links links_new
      (same-kept old.session new.session (ap (λ (s : Linked). s.session) l.0)) l.1 a

  leave-with : (frames : List SessionFrame) (old new : Linked) (links links_new : Links)
      → LeaveWith frames old links new links_new → Agrees (within numbers session old.session) links
      → Agrees (within numbers session new.session) links_new
  leave-with [] old new links links_new l a =
      keep-in numbers session old.session new.session links links_new
      (same-kept old.session new.session (ap (λ (s : Linked). s.session) l.0)) l.1 a
  leave-with (frame ∷ frames) old new links links_new (mid, links_mid, one, others) a =
      leave-with frames mid new links_mid links_new others (leaves-with frame.body old mid links links_mid one a)

flow-lets-go : (took : Option ℕ) (frames : List SessionFrame) (mid new : Talk) (links links_new : Links)
    → LetsGo took frames mid links new links_new → Agrees (number_at mid.sessions) links
    → Agrees (number_at new.sessions) links_new
flow-lets-go None frames mid new links links_new l a = stays-held mid new links links_new (talk-same mid new l.0) l.1 a
flow-lets-go (Some session) frames mid new links links_new g a =
    inside session g.before.value.session g.after.value.session mid.sessions new.sessions
    (live-changed session g.before g.after mid.sessions new.sessions g.stepped) links links_new
    (leave-with (number_at mid.sessions) session frames g.before.value g.after.value links links_new g.done) a

flow-heard : (old : Talk) (links : Links) (limit : ℕ) (channel : IncomingChannel) (flow : Flow)
    (frames : List SessionFrame) (events : List Event) (new : Talk) (links_new : Links)
    → HearsFlow old links limit channel flow frames events new links_new → Agrees (number_at old.sessions) links
    → Agrees (number_at new.sessions) links_new
flow-heard old links limit channel flow frames events new links_new h a =
    by h.hears
    (stays-held old h.ready links links (room-same old channel h.ready h.makes_room) refl a)
  where
    by : HearsCredited h.ready links limit channel flow frames events new links_new
        → Agrees (number_at h.ready.sessions) links → Agrees (number_at new.sessions) links_new
    by (inl t) agrees =
        stays-held t.left new links_new links_new
        (follows (session_heard t.heard) t.behind t.left new
        (flow-behind limit t.heard flow.handle t.left t.behind events new t.sends_on))
        refl
        (flow-lets-go (session_of t.heard) t.first t.mid t.left links links_new t.leave
        (stays-held h.ready t.mid links links
        (answered h.ready [] channel _ (Ok t.heard) t.mid t.first tt t.answered) refl agrees))
    by (inr f) agrees = fails h.ready links channel _ frames events new links_new f agrees

-- the peer's Disposition
disposition-follows : (runs : Option (ℕ × SmallVec (ℕ × ℕ))) (limit : ℕ) (old mid new : Talk) (it : Disposition)
    (frames : List SessionFrame) (events : List Event)
    → disposing.Follows runs limit old it mid frames events new → TalkSame mid new
disposition-follows (Some (session, runs)) limit old mid new it frames events d =
    let t = d.done in
    talk-on mid t.mid new
    (in-session _ mid session t.mid
    (λ before after e. echoes-kept d.deliveries _ _ t.sent t.told before after e) t.echoes)
    (refuses-by (λ fs a b. TalkSame a b) session (λ a b same. talk-same a b same)
    (λ fs more a b c x y. talk-on a b c x y)
    (λ handle fs a b g. in-session _ a session b (λ x y c. refuses-kept _ handle fs x y c) g)
    (λ count handle a b g. in-session _ a session b
    (λ x y s. told-kept count handle (link_at x.session handle.0) x.session y.session s.tells) g)
    _ d.deliveries _ t.mid new t.closed t.ended t.refuses)
disposition-follows None limit old mid new it frames events r = talk-same mid new r.stays

-- the peer's Detach
link-number : (o : Option Session) (handle : OutputHandle) (link : Link) → link_in o handle ≡ Some link
    → number_live o handle.0 ≡ Some link.number
link-number None handle link e = absurd (none-some link e)
link-number (Some session) handle link e = ap number_of e

detach-becomes : (took_it : Option (ℕ × Detached)) (limit : ℕ) (old mid new : Talk) (links links_new : Links)
    (it : Detach) (frames : List SessionFrame) (events : List Event)
    → detaching.Becomes took_it limit old links it mid frames events new links_new
    → Agrees (number_at mid.sessions) links → Agrees (number_at new.sessions) links_new
detach-becomes None limit old mid new links links_new it frames events w a =
    stays-held mid new links links_new (talk-same mid new w.stays) w.same a
detach-becomes (Some (session, detached)) limit old mid new links links_new it frames events b a =
    let g = b.parts in
    let t = g.done in
    let p = t.parts in
    let numbers : Numbers = number_at mid.sessions in
    let before : LinksIn = g.before.value.session in
    let c = live-changed session g.before g.after mid.sessions new.sessions g.stepped in
    let was : number_in before b.handle.0 ≡ Some (b.link).number =
    sym (c.was b.handle.0) ∙ link-number (live_at mid.sessions session) b.handle b.link b.there in
    let kept : KeepNumbers before p.mid.session =
    kept-on before t.mid.session p.mid.session
    (told-kept _ b.handle (link_at before b.handle.0) before t.mid.session t.tells.tells)
    (answers-kept detached.answer b.handle it.closed _ frames t.mid p.mid p.answered) in
    inside session before g.after.value.session mid.sessions new.sessions c links links_new
    (λ start.
    left-held numbers session links links_new (b.link).number b.handle p.mid g.after.value (kept b.handle.0 ∙ was)
    detached.closed b.left p.out b.is_left
    (keep-in numbers session before p.mid.session links links kept refl start))
    a

-- the peer's End
-- of one that has no links here
over-taken : (stood : Stood) (number : ℕ) (channel : IncomingChannel) (end : EndFrame) (old new : Sessions)
    (links links_new : Links) → Step old (TakesEnd number channel end stood) new
    → ((handle : ℕ) → Stands (Some (ended_place stood)) handle ≡ Stands (Some stood) handle)
    → links_new ≡ links → Agrees (number_at old) links → Agrees (number_at new) links_new
over-taken stood number channel end old new links links_new stepped same is a =
    let step : SessionsAct = TakesEnd number channel end stood in
    let (was, becomes) = (at number old step new stepped).about (eq-eqb number number refl) in
    stay (number_at old) (number_at new) links links_new
    (about-same number old new
    (λ n e. (at n old step new stepped).other e)
    (λ handle.
    ap (λ (o : Option Stood). Stands o handle) becomes ∙ same handle
    ∙ sym (ap (λ (o : Option Stood). Stands o handle) was)))
    is a

end-taken : (stood : Stood) (ended : Option Session) (number : ℕ) (channel : IncomingChannel) (end : EndFrame)
    (old new : Sessions) (frames : List SessionFrame) (links links_new : Links)
    → Step old (TakesEnd number channel end stood) new → EndReply stood ended [] frames
    → SessionGivenBack links ended links_new → Agrees (number_at old) links → Agrees (number_at new) links_new
end-taken (Live outgoing session) ended number channel end old new frames links links_new stepped (is, sent) back a =
    let step : SessionsAct = TakesEnd number channel end (Live outgoing session) in
    let (was, becomes) = (at number old step new stepped).about (eq-eqb number number refl) in
    session-back number session old new links links_new
    (record {
      was = λ handle. ap (λ (o : Option Stood). Stands o handle) was;
      is = λ handle. ap (λ (o : Option Stood). Stands o handle) becomes;
      other = λ n handle e. ap (λ (o : Option Stood). Stands o handle) ((at n old step new stepped).other e);
    })
    (subst (λ (o : Option Session). SessionGivenBack links o links_new) is back) a
end-taken (Asked asked_on asked) ended number channel end old new frames links links_new stepped (is, none) back a =
    over-taken (Asked asked_on asked) number channel end old new links links_new stepped (λ handle. refl)
    (subst (λ (o : Option Session). SessionGivenBack links o links_new) is back) a
end-taken (Ending outgoing own_end) ended number channel end old new frames links links_new stepped (is, none) back a =
    over-taken (Ending outgoing own_end) number channel end old new links links_new stepped (λ handle. refl)
    (subst (λ (o : Option Session). SessionGivenBack links o links_new) is back) a
end-taken (Over peer_end complete) ended number channel end old new frames links links_new stepped (is, none) back a =
    over-taken (Over peer_end complete) number channel end old new links links_new stepped (λ handle. refl)
    (subst (λ (o : Option Session). SessionGivenBack links o links_new) is back) a

end-answered : (old : Talk) (out : List SessionFrame) (channel : IncomingChannel) (end : EndFrame)
    (refusal : ConnectionError) (new : Talk) (out_new : List SessionFrame)
    → EndAnswered old out channel end (Err refusal) new out_new → TalkSame old new
end-answered old out channel end connection.NotFound new out_new a = talk-same old new a.1
end-answered old out channel end connection.Memory new out_new a = talk-same old new a.0
end-answered old out channel end e new out_new a = absurd a

pub frame-held : (it : FrameBody) (old new : Talk) (links links_new : Links) (given given_new limit : ℕ)
    (channel : IncomingChannel) (frames : List SessionFrame) (events : List Event)
    → Hears old links given limit channel it frames events new links_new given_new
    → Agrees (number_at old.sessions) links → Agrees (number_at new.sessions) links_new
frame-held (body.Begin begin) old new links links_new given given_new limit channel frames events (b, g) a =
    begin-heard old links channel begin frames events new links_new b a
frame-held (body.Attach attach) old new links links_new given given_new limit channel frames events (h, g) a =
    attach-heard old links limit channel attach frames events new links_new h a
frame-held (body.Flow flow) old new links links_new given given_new limit channel frames events (h, g) a =
    flow-heard old links limit channel flow frames events new links_new h a
frame-held (body.Transfer transfer payload) old new links links_new given given_new limit channel frames events
    (inl t) a =
    stays-held old new links links_new
    (talk-on old t.mid new (answered old [] channel _ (Ok t.heard) t.mid [] tt t.answered)
    (transfer-becomes _ old t.mid new given transfer frames events given_new t.becomes))
    t.same a
frame-held (body.Transfer transfer payload) old new links links_new given given_new limit channel frames events
    (inr f) a =
    fails old links channel _ frames events new links_new f.fails a
frame-held (body.Disposition disposition) old new links links_new given given_new limit channel frames events
    (inl t, g) a =
    stays-held old new links links_new
    (talk-on old t.mid new (answered old [] channel _ (Ok t.heard) t.mid [] tt t.answered)
    (disposition-follows _ limit old t.mid new disposition frames events t.follows))
    t.same a
frame-held (body.Disposition disposition) old new links links_new given given_new limit channel frames events
    (inr f, g) a =
    fails old links channel _ frames events new links_new f a
frame-held (body.Detach detach) old new links links_new given given_new limit channel frames events (inl t, g) a =
    detach-becomes _ limit old t.mid new links links_new detach frames events t.becomes
    (stays-held old t.mid links links (answered old [] channel _ (Ok t.heard) t.mid [] tt t.answered) refl a)
frame-held (body.Detach detach) old new links links_new given given_new limit channel frames events (inr f, g) a =
    fails old links channel _ frames events new links_new f a
frame-held (body.End end) old new links links_new given given_new limit channel frames events (t, g) a =
    let e = t.answered in
    end-taken e.stood t.heard.ended t.heard.number channel end old.sessions new.sessions frames links links_new
    e.stepped e.reply t.back a
frame-held it old new links links_new given given_new limit channel frames events h a = absurd h

-- what ends the connection leaves the numbers
refusal-same : (old : Talk) (channel : IncomingChannel) (it : LinkPerformative) (refusal : LinkRefusal)
    (e : EndpointError) (frames : List SessionFrame) (new : Talk) → EndsBy refusal e
    → Answered gives old [] channel it (Err refusal) new frames → TalkSame old new
refusal-same old channel it refused.Memory e frames new by answer =
    answered old [] channel it (Err refused.Memory) new frames tt answer
refusal-same old channel it refused.NotFound e frames new by answer =
    answered old [] channel it (Err refused.NotFound) new frames tt answer
refusal-same old channel it (refused.Asked n fault) e frames new by answer =
    answered old [] channel it (Err (refused.Asked n fault)) new frames tt answer
refusal-same old channel it (refused.Session n fault session) e frames new by answer = absurd by

said-barred : (old : Talk) (channel : IncomingChannel) (it : LinkPerformative) (e : EndpointError) (new : Talk)
    → BarsSaid old channel it e new → TalkSame old new
said-barred old channel it e new b = refusal-same old channel it b.refusal e b.frames new b.is b.answered

said-refused : (old : Talk) (channel : IncomingChannel) (it : LinkPerformative) (e : EndpointError) (new : Talk)
    → RefusesSaid old channel it e new → TalkSame old new
said-refused old channel it e new (inl b) = said-barred old channel it e new b
said-refused old channel it e new (inr u) = talk-same old new u.1

begin-refused : (old : Talk) (channel : IncomingChannel) (begin : Begin) (e : EndpointError) (new : Talk)
    → RefusesBegin old channel begin e new → TalkSame old new
begin-refused old channel begin e new (inl b) =
    begin-answered old [] channel begin (Err (begin_refused.Connection b.refusal)) new [] b.answered
begin-refused old channel begin e new (inr (inl (memory, u))) =
    begin-answered old [] channel begin (Err (begin_refused.Session u.number u.fault)) new [] u.refused
begin-refused old channel begin e new (inr (inr u)) = talk-same old new u.1

pub refused-same : (it : FrameBody) (old new : Talk) (links : Links) (given limit : ℕ) (channel : IncomingChannel)
    (e : EndpointError) → RefusesBody old links given limit channel it e new → TalkSame old new
refused-same (body.Begin begin) old new links given limit channel e r = begin-refused old channel begin e new r
refused-same (body.Attach attach) old new links given limit channel e (inl b) =
    talk-on old b.ready new (room-same old channel b.ready (room-made b.named old channel b.ready b.makes_room))
    (said-barred b.ready channel _ e new b.bars)
refused-same (body.Attach attach) old new links given limit channel e (inr u) = talk-same old new u.1
refused-same (body.Flow flow) old new links given limit channel e (inl b) =
    talk-on old b.ready new (room-same old channel b.ready b.makes_room) (said-barred b.ready channel _ e new b.bars)
refused-same (body.Flow flow) old new links given limit channel e (inr u) = talk-same old new u.1
refused-same (body.Transfer transfer payload) old new links given limit channel e (inl u) = talk-same old new u.stays
refused-same (body.Transfer transfer payload) old new links given limit channel e (inr (inl r)) =
    said-refused old channel _ e new r
refused-same (body.Transfer transfer payload) old new links given limit channel e (inr (inr u)) =
    talk-on old u.mid new (answered old [] channel _ (Ok u.heard) u.mid [] tt u.answered)
    (in-session _ u.mid u.session new
    (λ before after again. again-kept u.back.handle u.back.link before after again) u.back.back)
refused-same (body.Disposition disposition) old new links given limit channel e r = said-refused old channel _ e new r
refused-same (body.Detach detach) old new links given limit channel e r = said-refused old channel _ e new r
refused-same (body.End end) old new links given limit channel e (inl b) =
    end-answered old [] channel end b.refusal new [] b.answered
refused-same (body.End end) old new links given limit channel e (inr u) = talk-same old new u.1
refused-same it old new links given limit channel e r = absurd r
