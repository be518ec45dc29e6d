-- The sessions of an endpoint go on by what their peer says.
use Rattle.std.proofs.Common.{◌≡◌, inl, inr, ℕ, Bool, true, false, List, [], Option, Some, None, Ok, Err}
use Rattle.std.proofs.Common.{ap}
use Rattle.std.specs.Prelude.{Result}
use Rattle.std.specs.Global.{Box}
use Rattle.smallvec.specs.SmallVec.{SmallVec}
use Rattle.amqp_session_types.specs.declared.channels.IncomingChannel.{IncomingChannel}
use Rattle.amqp_session_types.specs.declared.handles.OutputHandle.{OutputHandle}
use Rattle.amqp_session_types.specs.declared.refusals.ConnectionError.{ConnectionError}
use Rattle.amqp_session_types.specs.declared.refusals.ConnectionError.TheVariants as connection
use Rattle.amqp_session_types.specs.declared.refusals.SessionError.TheVariants.{IllegalState}
use Rattle.amqp_session_performatives.specs.declared.attach.Attach.{Attach}
use Rattle.amqp_session_performatives.specs.declared.begin.Begin.{Begin}
use Rattle.amqp_session_performatives.specs.declared.detach.Detach.{Detach}
use Rattle.amqp_session_performatives.specs.declared.disposition.Disposition.{Disposition}
use Rattle.amqp_session_performatives.specs.declared.end.End.{End as EndFrame}
use Rattle.amqp_session_performatives.specs.declared.session_frame.SessionFrame.{SessionFrame}
use Rattle.amqp_session_performatives.specs.declared.transfer.Transfer.{Transfer}
use Rattle.amqp_session_frames.specs.declared.frame.FrameBody.{FrameBody}
use Rattle.amqp_session_frames.specs.declared.frame.FrameBody.TheVariants as body
use Rattle.amqp_session_core.specs.declared.incoming.TransferTaken.{TransferTaken}
use Rattle.amqp_link_base.specs.declared.detached.Detached.{Detached}
use Rattle.amqp_link_receiver.specs.declared.answer.Told.{Told}
use Rattle.amqp_link_receiver.specs.declared.answer.Told.TheVariants as told
use Rattle.amqp_endpoint_links.specs.declared.session.AskedSession.{AskedSession}
use Rattle.amqp_endpoint_links.specs.declared.hearing.LinkPerformative.{LinkPerformative}
use Rattle.amqp_endpoint_tables.specs.State.{asked_at, live_at, reached}
use Rattle.amqp_endpoint_tables.specs.Steps.{Asks, ChangesAsked, ChangesLive, Ends, Step, TakesBegin, TakesEnd}
use Rattle.amqp_endpoint_conversation.specs.declared.beginning.BeginHeard.{BeginHeard}
use Rattle.amqp_endpoint_conversation.specs.declared.beginning.BeginHeard.TheVariants as begin_heard
use Rattle.amqp_endpoint_conversation.specs.declared.beginning.BeginRefusal.{BeginRefusal}
use Rattle.amqp_endpoint_conversation.specs.declared.beginning.BeginRefusal.TheVariants as begin_refused
use Rattle.amqp_endpoint_conversation.specs.declared.ending.EndHeard.{EndHeard}
use Rattle.amqp_endpoint_conversation.specs.declared.hearing.HearRefusal.TheVariants as refused
use Rattle.amqp_endpoint_conversation.specs.declared.hearing.Heard.TheVariants as heard
use Rattle.amqp_endpoint_conversation.specs.Beginning.{BeginAnswered}
use Rattle.amqp_endpoint_conversation.specs.Ending.{EndAnswered}
use Rattle.amqp_endpoint_conversation.specs.Hearing.{Answered, AnsweredAt, AnsweredIn, AskedAnswered, LiveAnswered}
use Rattle.amqp_endpoint_attached.specs.Linked.{Linked, gives}
use Rattle.amqp_endpoint_model.specs.declared.error.EndpointError.{EndpointError}
use Rattle.amqp_endpoint_model.specs.declared.event.Event.{Event}
use Rattle.amqp_endpoint_linking.specs.Hearing.{HearsBegin, RefusesBegin, RefusesEnd}
use Rattle.amqp_endpoint_linking.specs.Linking.{Link, Links, Session, Talk}
use Rattle.amqp_endpoint_link_hearing.specs.Heard.{attach_of, session_of}
use Rattle.amqp_endpoint_link_hearing.specs.Attaching.{HearsAttach, HearsReady, opened_in}
use Rattle.amqp_endpoint_link_hearing.specs.Detaching as detaching
use Rattle.amqp_endpoint_link_hearing.specs.Disposing as disposing
use Rattle.amqp_endpoint_link_hearing.specs.Flowing.{HearsCredited, HearsFlow, LetsGo}
use Rattle.amqp_endpoint_link_hearing.specs.InSession.{GoesOn}
use Rattle.amqp_endpoint_link_hearing.specs.Saying.{LinkHeard, LinkRefusal, RefusesSaid}
use Rattle.amqp_endpoint_link_hearing.specs.Transferring as transferring
use Rattle.amqp_endpoint_link_hearing.specs.Transferring.{Comes, RemembersUnless}
use Rattle.amqp_endpoint_link_hearing.proofs.Barrings.{refuses-by}
use Rattle.amqp_endpoint.specs.Hearing.{Hears, RefusesBody}
use Rattle.amqp_endpoint_laws.proofs.Behind.{FollowsBy}
use Rattle.amqp_endpoint_laws.proofs.BehindAttach.{becomes-behind, number_of}
use Rattle.amqp_endpoint_laws.proofs.BehindFlow.{flow-behind}
use Rattle.amqp_endpoint_laws.proofs.RoomMade.{RoomMade, room-made}
use Rattle.amqp_session_core.specs.Batch.{Transfers}
use Rattle.amqp_session_performatives.specs.declared.flow.Flow.{Flow}
use Rattle.amqp_endpoint_laws.proofs.SessionsGoing.{Go, goes-by, goes-on, stays}

abbrev pub TalkGoes : Talk → Talk → Type 0
TalkGoes old new = Go old.sessions new.sessions

pub talk-stays : (old new : Talk) → new ≡ old → TalkGoes old new
talk-stays old new same = stays old.sessions new.sessions (ap (λ (t : Talk). t.sessions) same)

pub changed : (number : ℕ) (before after : Session) (old new : Talk)
    → Step old.sessions (ChangesLive number before after) new.sessions
    → TalkGoes old new
changed number before after old new stepped =
    goes-by (ChangesLive number before after) old.sessions new.sessions tt stepped

-- a session that is asked for answers
asked-answered : (old : Talk) (number : ℕ) (before : Box AskedSession) (it : LinkPerformative)
    (result : Result LinkHeard LinkRefusal) (new : Talk) → AskedAnswered old number before it result new
    → TalkGoes old new
asked-answered old number before it (Ok (heard.Asked n)) new a =
    goes-by (ChangesAsked number before a.1.after) old.sessions new.sessions tt a.1.stepped
asked-answered old number before it (Ok other) new a = absurd a
asked-answered old number before it (Err refused.Memory) new a = talk-stays old new a.1
asked-answered old number before it (Err (refused.Asked n e)) new a = talk-stays old new (a.2).1
asked-answered old number before it (Err other) new a = absurd a

-- one that has begun does
live-answered : (old : Talk) (out : List SessionFrame) (number : ℕ) (before : Session) (it : LinkPerformative)
    (result : Result LinkHeard LinkRefusal) (new : Talk) (out_new : List SessionFrame)
    → LiveAnswered gives old out number before it result new out_new → TalkGoes old new
live-answered old out number before it (Ok (heard.Live n it_takes)) new out_new a =
    changed number before a.1.after old new a.1.hears.stepped
live-answered old out number before it (Ok other) new out_new a = absurd a
live-answered old out number before it (Err refused.Memory) new out_new (inl a) = talk-stays old new a.1
live-answered old out number before it (Err refused.Memory) new out_new (inr a) =
    changed number before a.after old new a.refuses.hears.stepped
live-answered old out number before it (Err (refused.Session n fault session)) new out_new a =
    let f = a.1 in
    goes-on old.sessions f.mid.sessions new.sessions
    (changed number before _ old f.mid f.refuses.hears.stepped)
    (goes-by (Ends number f.ends.channel session true) f.mid.sessions new.sessions tt f.ends.stepped)
live-answered old out number before it (Err other) new out_new a = absurd a

answered-at : (asked : Option (Box AskedSession)) (live : Option Session) (old : Talk) (out : List SessionFrame)
    (number : ℕ) (it : LinkPerformative) (result : Result LinkHeard LinkRefusal) (new : Talk)
    (out_new : List SessionFrame) → AnsweredAt gives asked live old out number it result new out_new
    → TalkGoes old new
answered-at (Some asked) live old out number it result new out_new a =
    asked-answered old number asked it result new a.0
answered-at None (Some session) old out number it result new out_new a =
    live-answered old out number session it result new out_new a
answered-at None None old out number it result new out_new a = talk-stays old new a.1

answered-in : (number : Option ℕ) (old : Talk) (out : List SessionFrame) (it : LinkPerformative)
    (result : Result LinkHeard LinkRefusal) (new : Talk) (out_new : List SessionFrame)
    → AnsweredIn gives number old out it result new out_new → TalkGoes old new
answered-in None old out it result new out_new a = talk-stays old new a.1
answered-in (Some number) old out it result new out_new a =
    answered-at (asked_at old.sessions number) (live_at old.sessions number) old out number it result new out_new a

answered : (old : Talk) (out : List SessionFrame) (channel : IncomingChannel) (it : LinkPerformative)
    (result : Result LinkHeard LinkRefusal) (new : Talk) (out_new : List SessionFrame)
    → Answered gives old out channel it result new out_new → TalkGoes old new
answered old out channel it result new out_new a =
    answered-in (reached old.sessions channel.0) old out it result new out_new a

in-session : (Does : Linked → Linked → Type 0) (old : Talk) (session : ℕ) (new : Talk) → GoesOn Does old session new
    → TalkGoes old new
in-session Does old session new g = changed session g.before g.after old new g.stepped

-- the peer's Begin
begin-answered : (old : Talk) (out : List SessionFrame) (channel : IncomingChannel) (begin : Begin)
    (result : Result BeginHeard BeginRefusal) (new : Talk) (out_new : List SessionFrame)
    → BeginAnswered gives old out channel begin result new out_new → TalkGoes old new
begin-answered old out channel begin (Ok (begin_heard.Asked number)) new out_new a =
    goes-by (Asks number channel a.0.asked) old.sessions new.sessions tt a.0.stepped
begin-answered old out channel begin (Ok (begin_heard.Begun number)) new out_new a =
    goes-on old.sessions a.mid new.sessions
    (goes-by (TakesBegin number channel begin) old.sessions a.mid tt a.led.stepped)
    (goes-by (ChangesLive number a.takes.before a.takes.after) a.mid new.sessions tt a.takes.stepped)
begin-answered old out channel begin (Ok begin_heard.Dropped) new out_new a =
    goes-by (TakesBegin a.0.number channel begin) old.sessions new.sessions tt a.0.led.stepped
begin-answered old out channel begin (Err (begin_refused.Connection connection.Memory)) new out_new (same, inl is) =
    talk-stays old new is
begin-answered old out channel begin (Err (begin_refused.Connection connection.Memory)) new out_new
    (same, inr (number, led)) =
    goes-by (TakesBegin number channel begin) old.sessions new.sessions tt led.led.stepped
begin-answered old out channel begin (Err (begin_refused.Connection e)) new out_new a = talk-stays old new a.1
begin-answered old out channel begin (Err (begin_refused.Session number IllegalState)) new out_new a =
    goes-by (TakesBegin number channel begin) old.sessions new.sessions tt a.0.led.stepped
begin-answered old out channel begin (Err (begin_refused.Session number e)) new out_new a = absurd a

begin-heard : (old : Talk) (links : Links) (channel : IncomingChannel) (begin : Begin) (frames : List SessionFrame)
    (events : List Event) (new : Talk) (links_new : Links)
    → HearsBegin old links channel begin frames events new links_new → TalkGoes old new
begin-heard old links channel begin frames events new links_new (inl t) =
    begin-answered old [] channel begin (Ok t.heard) new frames t.answered
begin-heard old links channel begin frames events new links_new (inr f) =
    goes-on old.sessions f.mid.sessions new.sessions
    (begin-answered old [] channel begin (Err (begin_refused.Session f.number f.fault)) f.mid [] f.refused)
    (goes-by (Ends f.number f.fails.ends.channel f.fails.session true) f.mid.sessions new.sessions tt
    f.fails.ends.stepped)

-- the peer's Attach, before which room may be made
room-goes : (old : Talk) (channel : IncomingChannel) (new : Talk) → RoomMade old channel new → TalkGoes old new
room-goes old channel new (inl same) = talk-stays old new same
room-goes old channel new (inr m) = in-session _ old m.number new m.made

follows : {Such : Transfers → Type 0} (number : ℕ) (frames : List SessionFrame) (old new : Talk)
    → FollowsBy Such number frames old new → TalkGoes old new
follows number frames old new (inl (none, same)) = talk-stays old new same
follows number frames old new (inr g) = in-session _ old number new g

attach-heard : (old : Talk) (links : Links) (limit : ℕ) (channel : IncomingChannel) (attach : Attach)
    (frames : List SessionFrame) (events : List Event) (new : Talk) (links_new : Links)
    → HearsAttach old links limit channel attach frames events new links_new → TalkGoes old new
attach-heard old links limit channel attach frames events new links_new a =
    goes-on old.sessions a.ready.sessions new.sessions
    (room-goes old channel a.ready (room-made a.named old channel a.ready a.makes_room))
    (by a.hears)
  where
    by : HearsReady a.named a.ready links limit channel attach frames events new links_new → TalkGoes a.ready new
    by (inl t) =
        goes-on a.ready.sessions t.mid.sessions new.sessions
        (answered a.ready [] channel _ (Ok t.heard) t.mid [] t.answered)
        (follows (number_of t.heard) frames t.mid new
        (becomes-behind limit (opened_in a.ready (attach_of t.heard) a.named) t.heard a.named t.mid attach frames events
        new t.becomes))
    by (inr f) = answered a.ready [] channel _ _ new frames f.answered

-- the peer's Transfer
remembered : (settled : Bool) (handle : OutputHandle) (tag : List ℕ) (number : ℕ) (old : Talk) (session : ℕ)
    (new : Talk) → RemembersUnless settled handle tag number old session new → TalkGoes old new
remembered true handle tag number old session new same = talk-stays old new same
remembered false handle tag number old session new g = in-session _ old session new g

transfer-comes : (it_told : Told) (old mid new : Talk) (given session : ℕ) (it : Transfer)
    (frames : List SessionFrame) (events : List Event) (given_new : ℕ)
    → Comes it_told old given it session mid frames events new given_new → TalkGoes mid new
transfer-comes (told.Message message) old mid new given session it frames events given_new c =
    remembered message.settled c.handle message.delivery_tag given mid session new c.remembers
transfer-comes (told.Refused error) old mid new given session it frames events given_new (c, g) =
    in-session _ mid session new c.closes
transfer-comes other old mid new given session it frames events given_new c = talk-stays mid new c.stays

transfer-becomes : (took_it : Option (ℕ × TransferTaken Told)) (old mid new : Talk) (given : ℕ) (it : Transfer)
    (frames : List SessionFrame) (events : List Event) (given_new : ℕ)
    → transferring.Becomes took_it old given it mid frames events new given_new → TalkGoes mid new
transfer-becomes (Some (session, took)) old mid new given it frames events given_new b =
    transfer-comes took.told old mid new given session it b.own events given_new b.comes
transfer-becomes None old mid new given it frames events given_new c = talk-stays mid new c.stays

-- links leave by the peer's Flow
flow-lets-go : (took : Option ℕ) (frames : List SessionFrame) (mid new : Talk) (links links_new : Links)
    → LetsGo took frames mid links new links_new → TalkGoes mid new
flow-lets-go None frames mid new links links_new l = talk-stays mid new l.0
flow-lets-go (Some session) frames mid new links links_new g = in-session _ mid session new g

flow-heard : (old : Talk) (links : Links) (limit : ℕ) (channel : IncomingChannel) (flow : Flow)
    (frames : List SessionFrame) (events : List Event) (new : Talk) (links_new : Links)
    → HearsFlow old links limit channel flow frames events new links_new → TalkGoes old new
flow-heard old links limit channel flow frames events new links_new h =
    goes-on old.sessions h.ready.sessions new.sessions (room-goes old channel h.ready h.makes_room) (by h.hears)
  where
    by : HearsCredited h.ready links limit channel flow frames events new links_new → TalkGoes h.ready new
    by (inl t) =
        goes-on h.ready.sessions t.mid.sessions new.sessions
        (answered h.ready [] channel _ (Ok t.heard) t.mid t.first t.answered)
        (goes-on t.mid.sessions t.left.sessions new.sessions
        (flow-lets-go (session_of t.heard) t.first t.mid t.left links links_new t.leave)
        (follows (number_of t.heard) t.behind t.left new
        (flow-behind limit t.heard flow.handle t.left t.behind events new t.sends_on)))
    by (inr f) = answered h.ready [] channel _ _ new frames f.answered

-- the peer's Disposition and Detach
disposition-follows : (runs : Option (ℕ × SmallVec (ℕ × ℕ))) (limit : ℕ) (old mid new : Talk) (it : Disposition)
    (frames : List SessionFrame) (events : List Event)
    → disposing.Follows runs limit old it mid frames events new → TalkGoes mid new
disposition-follows (Some (session, runs)) limit old mid new it frames events d =
    let t = d.done in
    goes-on mid.sessions t.mid.sessions new.sessions (in-session _ mid session t.mid t.echoes)
    (refuses-by (λ fs a b. TalkGoes a b) session (λ a b same. talk-stays a b same)
    (λ fs more a b c x y. goes-on a.sessions b.sessions c.sessions x y)
    (λ handle fs a b g. in-session _ a session b g)
    (λ count handle a b g. in-session _ a session b g)
    _ d.deliveries _ t.mid new t.closed t.ended t.refuses)
disposition-follows None limit old mid new it frames events r = talk-stays mid new r.stays

detach-becomes : (took_it : Option (ℕ × Detached)) (limit : ℕ) (old mid new : Talk) (links links_new : Links)
    (it : Detach) (frames : List SessionFrame) (events : List Event)
    → detaching.Becomes took_it limit old links it mid frames events new links_new → TalkGoes mid new
detach-becomes (Some (session, detached)) limit old mid new links links_new it frames events b =
    in-session _ mid session new b.parts
detach-becomes None limit old mid new links links_new it frames events w = talk-stays mid new w.stays

-- the peer's End
end-answered : (old : Talk) (out : List SessionFrame) (channel : IncomingChannel) (end : EndFrame)
    (result : Result (EndHeard Link) ConnectionError) (new : Talk) (out_new : List SessionFrame)
    → EndAnswered old out channel end result new out_new → TalkGoes old new
end-answered old out channel end (Ok it) new out_new a =
    goes-by (TakesEnd it.number channel end a.stood) old.sessions new.sessions tt a.stepped
end-answered old out channel end (Err connection.NotFound) new out_new a = talk-stays old new a.1
end-answered old out channel end (Err connection.Memory) new out_new a = talk-stays old new a.0
end-answered old out channel end (Err e) new out_new a = absurd a

pub heard-goes : (it : FrameBody) (old new : Talk) (links links_new : Links) (given given_new limit : ℕ)
    (channel : IncomingChannel) (frames : List SessionFrame) (events : List Event)
    → Hears old links given limit channel it frames events new links_new given_new → TalkGoes old new
heard-goes (body.Begin begin) old new links links_new given given_new limit channel frames events (b, g) =
    begin-heard old links channel begin frames events new links_new b
heard-goes (body.Attach attach) old new links links_new given given_new limit channel frames events (a, g) =
    attach-heard old links limit channel attach frames events new links_new a
heard-goes (body.Flow flow) old new links links_new given given_new limit channel frames events (h, g) =
    flow-heard old links limit channel flow frames events new links_new h
heard-goes (body.Transfer transfer payload) old new links links_new given given_new limit channel frames events
    (inl t) =
    goes-on old.sessions t.mid.sessions new.sessions (answered old [] channel _ (Ok t.heard) t.mid [] t.answered)
    (transfer-becomes _ old t.mid new given transfer frames events given_new t.becomes)
heard-goes (body.Transfer transfer payload) old new links links_new given given_new limit channel frames events
    (inr f) =
    answered old [] channel _ _ new frames f.fails.answered
heard-goes (body.Disposition disposition) old new links links_new given given_new limit channel frames events
    (inl t, g) =
    goes-on old.sessions t.mid.sessions new.sessions (answered old [] channel _ (Ok t.heard) t.mid [] t.answered)
    (disposition-follows _ limit old t.mid new disposition frames events t.follows)
heard-goes (body.Disposition disposition) old new links links_new given given_new limit channel frames events
    (inr f, g) =
    answered old [] channel _ _ new frames f.answered
heard-goes (body.Detach detach) old new links links_new given given_new limit channel frames events (inl t, g) =
    goes-on old.sessions t.mid.sessions new.sessions (answered old [] channel _ (Ok t.heard) t.mid [] t.answered)
    (detach-becomes _ limit old t.mid new links links_new detach frames events t.becomes)
heard-goes (body.Detach detach) old new links links_new given given_new limit channel frames events (inr f, g) =
    answered old [] channel _ _ new frames f.answered
heard-goes (body.End end) old new links links_new given given_new limit channel frames events (t, g) =
    end-answered old [] channel end (Ok t.heard) new frames t.answered
heard-goes it old new links links_new given given_new limit channel frames events h = absurd h

-- what ends the connection
said-refused : (old : Talk) (channel : IncomingChannel) (it : LinkPerformative) (e : EndpointError) (new : Talk)
    → RefusesSaid old channel it e new → TalkGoes old new
said-refused old channel it e new (inl b) = answered old [] channel it (Err b.refusal) new b.frames b.answered
said-refused old channel it e new (inr u) = talk-stays old new u.1

begin-refused : (old : Talk) (channel : IncomingChannel) (begin : Begin) (e : EndpointError) (new : Talk)
    → RefusesBegin old channel begin e new → TalkGoes old new
begin-refused old channel begin e new (inl b) =
    begin-answered old [] channel begin (Err (begin_refused.Connection b.refusal)) new [] b.answered
begin-refused old channel begin e new (inr (inl (memory, u))) =
    begin-answered old [] channel begin (Err (begin_refused.Session u.number u.fault)) new [] u.refused
begin-refused old channel begin e new (inr (inr u)) = talk-stays old new u.1

end-refused : (old : Talk) (channel : IncomingChannel) (end : EndFrame) (e : EndpointError) (new : Talk)
    → RefusesEnd old channel end e new → TalkGoes old new
end-refused old channel end e new (inl b) = end-answered old [] channel end (Err b.refusal) new [] b.answered
end-refused old channel end e new (inr u) = talk-stays old new u.1

pub refused-goes : (it : FrameBody) (old new : Talk) (links : Links) (given limit : ℕ) (channel : IncomingChannel)
    (e : EndpointError) → RefusesBody old links given limit channel it e new → TalkGoes old new
refused-goes (body.Begin begin) old new links given limit channel e r = begin-refused old channel begin e new r
refused-goes (body.Attach attach) old new links given limit channel e (inl b) =
    goes-on old.sessions b.ready.sessions new.sessions
    (room-goes old channel b.ready (room-made b.named old channel b.ready b.makes_room))
    (answered b.ready [] channel _ (Err b.bars.refusal) new b.bars.frames b.bars.answered)
refused-goes (body.Attach attach) old new links given limit channel e (inr u) = talk-stays old new u.1
refused-goes (body.Flow flow) old new links given limit channel e (inl b) =
    goes-on old.sessions b.ready.sessions new.sessions (room-goes old channel b.ready b.makes_room)
    (answered b.ready [] channel _ (Err b.bars.refusal) new b.bars.frames b.bars.answered)
refused-goes (body.Flow flow) old new links given limit channel e (inr u) = talk-stays old new u.1
refused-goes (body.Transfer transfer payload) old new links given limit channel e (inl u) = talk-stays old new u.stays
refused-goes (body.Transfer transfer payload) old new links given limit channel e (inr (inl r)) =
    said-refused old channel _ e new r
refused-goes (body.Transfer transfer payload) old new links given limit channel e (inr (inr u)) =
    goes-on old.sessions u.mid.sessions new.sessions (answered old [] channel _ (Ok u.heard) u.mid [] u.answered)
    (in-session _ u.mid u.session new u.back.back)
refused-goes (body.Disposition disposition) old new links given limit channel e r = said-refused old channel _ e new r
refused-goes (body.Detach detach) old new links given limit channel e r = said-refused old channel _ e new r
refused-goes (body.End end) old new links given limit channel e r = end-refused old channel end e new r
refused-goes it old new links given limit channel e r = absurd r
