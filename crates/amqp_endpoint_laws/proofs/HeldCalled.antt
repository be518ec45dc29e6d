-- Links stand where they are held behind each call.
use Rattle.std.proofs.Common.{Bool, Err, List, None, Ok, Option, Some, [], false, true, ℕ, ◌∷◌, ◌≡◌}
use Rattle.std.proofs.Common.{ap, refl, subst, sym, ◌∙◌}
use Rattle.std.specs.Prelude.{Result, ⊤}
use Rattle.std.proofs.lemmas.Bool.{eq-eqb}
use Rattle.amqp_session_types.specs.declared.channels.IncomingChannel.{IncomingChannel}
use Rattle.amqp_session_types.specs.declared.channels.OutgoingChannel.{OutgoingChannel}
use Rattle.amqp_session_types.specs.declared.refusals.TryEndError.{TryEndError}
use Rattle.amqp_session_performatives.specs.declared.begin.Begin.{Begin}
use Rattle.amqp_session_performatives.specs.declared.session_frame.SessionFrame.{SessionFrame}
use Rattle.amqp_session_core.specs.History.{History}
use Rattle.amqp_session_core.specs.State.{fresh}
use Rattle.amqp_session_core.specs.Steps.{SendsBegin, Act}
use Rattle.amqp_link_base.specs.declared.detached.Detached.{Detached}
use Rattle.amqp_link.specs.declared.end.End.{End}
use Rattle.amqp_link.specs.declared.relay.AttachTold.{AttachTold}
use Rattle.amqp_link_receiver.specs.declared.answer.Told.{Told}
use Rattle.amqp_endpoint_links.specs.declared.session.SessionFlow.{SessionFlow}
use Rattle.amqp_endpoint_attached.specs.Linked.{LinksIn, end_gives, gives}
use Rattle.amqp_endpoint_conversation.specs.Beginning.{AcceptsHere, BeginsHere, with_links}
use Rattle.amqp_endpoint_links.specs.Beginning.{accept_steps}
use Rattle.amqp_endpoint_tables.specs.LinkState.{place_at as link_place}
use Rattle.amqp_endpoint_tables.specs.declared.link_place.LinkPlace.TheVariants.{AtRest, Held}
use Rattle.amqp_endpoint_tables.specs.State.{live_of}
use Rattle.amqp_endpoint_tables.specs.Steps.{Accepts, Begins, ChangesLive, EndTold, Step, TellsEnd}
use Rattle.amqp_endpoint_tables.proofs.Owning.{at}
use Rattle.amqp_endpoint_model.specs.declared.call.Call.{Call}
use Rattle.amqp_endpoint_model.specs.declared.call.Call.TheVariants as call
use Rattle.amqp_endpoint_model.specs.declared.call.Disposal.{Disposal}
use Rattle.amqp_endpoint_model.specs.declared.event.Event.{Event}
use Rattle.amqp_endpoint_model.specs.Said.{Said, attaching, count, credit_is, done, link_closed, message_sent}
use Rattle.amqp_endpoint_model.specs.Said.{session_begun, tried_end, truth, waiting}
use Rattle.amqp_endpoint_linking.specs.Linking.{Link, Links, Session, Sessions, Stood, Talk}
use Rattle.amqp_endpoint_link_calls.specs.Calling.{Does, DoneAt, DoneIn, detaches, gives_credit, wants_drain}
use Rattle.amqp_endpoint_link_calls.specs.Closing.{ClosedAt, ClosedHeld, closes, fails, parted_at}
use Rattle.amqp_endpoint_link_calls.specs.Places.{Where}
use Rattle.amqp_endpoint_link_calls.specs.Disposing.{DisposedAt, disposes_of_all, disposes_of_one}
use Rattle.amqp_endpoint_link_calls.specs.Sending.{sends}
use Rattle.amqp_endpoint.specs.Calling.{Calls, answer_of}
use Rattle.amqp_endpoint.specs.Sending.{tag_of}
use Rattle.amqp_endpoint.specs.declared.linked.LinkedSessions.{LinkedSessions}
use Rattle.amqp_endpoint_laws.specs.Agreeing.{Agree}
use Rattle.amqp_endpoint_laws.specs.Conversing.{SessionsAct}
use Rattle.amqp_endpoint_laws.specs.Held.{Agrees, number_at, number_in, number_live}
use Rattle.amqp_endpoint_laws.proofs.Agreeing.{Same, shut, stay}
use Rattle.amqp_endpoint_laws.proofs.HeldParting.{session-back}
use Rattle.amqp_endpoint_laws.proofs.HeldSessions.{about-same, changed-same, ends-gone, enter-in, inside, live-changed}
use Rattle.amqp_endpoint_laws.proofs.HeldSessions.{told-same}
use Rattle.amqp_endpoint_laws.proofs.Numbers.{AllKeepNumbers, KeepNumbers, history-kept, same-kept}
use Rattle.amqp_endpoint_laws.proofs.NumbersInside.{KeepsAll, attached-placed, closes-kept, detaches-kept}
use Rattle.amqp_endpoint_laws.proofs.NumbersInside.{disposes-kept, disposes-one-kept, drains-kept, gives-kept}
use Rattle.amqp_endpoint_laws.proofs.NumbersInside.{fails-kept, sends-kept}
use Rattle.amqp_endpoint_laws.proofs.Parted.{closes-shut}
use Rattle.amqp_endpoint_laws.proofs.Placing.{IsPlaced, is-again, is-new}

-- the same numbers stand in the sessions of both
abbrev pub TalkSame : Talk → Talk → Type 0
TalkSame old new = Same (number_at old.sessions) (number_at new.sessions)

pub talk-same : (old new : Talk) → new ≡ old → TalkSame old new
talk-same old new same n handle = ap (λ (t : Talk). number_at t.sessions n handle) same

pub talk-on : (old mid new : Talk) → TalkSame old mid → TalkSame mid new → TalkSame old new
talk-on old mid new first later n handle = later n handle ∙ first n handle

-- one session goes on, and its links bear their numbers still
pub live-same : (number : ℕ) (before after : Session) (old new : Talk)
    → Step old.sessions (ChangesLive number before after) new.sessions
    → KeepNumbers before.value.session after.value.session → TalkSame old new
live-same number before after old new stepped kept =
    changed-same number before.value.session after.value.session old.sessions new.sessions
    (live-changed number before after old.sessions new.sessions stepped) kept

-- what a call does in the session that holds its link
done-in : (does : Does) (session : ℕ) (handle : _) (old new : Talk) (frames : List SessionFrame) → KeepsAll does
    → DoneIn does session handle old [] new frames → TalkSame old new
done-in does session handle old new frames keeps d =
    live-same session d.before d.after old new d.stepped (keeps handle d.before.value d.after.value d.frames d.did)

done-at : (does : Does) (place : Where) (old new : Talk) (frames : List SessionFrame) → KeepsAll does
    → DoneAt does place old [] new frames → TalkSame old new
done-at does None old new frames keeps d = absurd d
done-at does (Some (AtRest end)) old new frames keeps d = absurd d
done-at does (Some (Held session handle)) old new frames keeps d = done-in does session handle old new frames keeps d

disposed-at : (limit : ℕ) (place : Where) (messages : List ℕ) (disposal : Disposal) (old new : Talk)
    (frames : List SessionFrame) → DisposedAt limit place messages disposal old [] new frames → TalkSame old new
disposed-at limit place [] disposal old new frames (same, none) = talk-same old new same
disposed-at limit place (message ∷ messages) disposal old new frames d =
    done-at (disposes_of_all limit (message ∷ messages) disposal) place old new frames
    (disposes-kept limit (message ∷ messages) disposal) d

-- links of whichever sessions stay in the table
pub stays-held : (old new : Talk) (links links_new : Links) → TalkSame old new → links_new ≡ links
    → Agrees (number_at old.sessions) links → Agrees (number_at new.sessions) links_new
stays-held old new links links_new same is a =
    stay (number_at old.sessions) (number_at new.sessions) links links_new same is a

closed-held : (parted : Bool) (session : ℕ) (handle : _) (number : ℕ) (events : List Event) (old new : Talk)
    (links links_new : Links) (frames : List SessionFrame) → link_place links number ≡ Some (Held session handle)
    → ClosedHeld parted session handle old links number [] events new links_new frames
    → Agrees (number_at old.sessions) links → Agrees (number_at new.sessions) links_new
closed-held true session handle number events old new links links_new frames is c a =
    shut (number_at old.sessions) (number_at new.sessions) links links_new number
    (done-in (fails number events) session handle old new frames (fails-kept number events) c.done)
    (closes-shut number (Held session handle) links links_new (is, c.forgotten)) a
closed-held false session handle number events old new links links_new frames is c a =
    stays-held old new links links_new
    (done-in (closes events) session handle old new frames (closes-kept events) c.done) c.kept a

closed-at : (place : Where) (number : ℕ) (events : List Event) (old new : Talk) (links links_new : Links)
    (frames : List SessionFrame) → link_place links number ≡ place
    → ClosedAt place old links number [] events new links_new frames → Agrees (number_at old.sessions) links
    → Agrees (number_at new.sessions) links_new
closed-at None number events old new links links_new frames is c a = absurd c
closed-at (Some (AtRest end)) number events old new links links_new frames is c a =
    shut (number_at old.sessions) (number_at new.sessions) links links_new number (talk-same old new c.same)
    (closes-shut number (AtRest end) links links_new (is, (c.forgets).forgotten)) a
closed-at (Some (Held session handle)) number events old new links links_new frames is c a =
    closed-held (parted_at old session handle) session handle number events old new links
    links_new frames is c a

attached : (old new : Talk) (links links_new : Links) (limit session : ℕ) (link : End) (number : ℕ)
    (events : List Event) (frames : List SessionFrame)
    → IsPlaced old links limit session link number events frames new links_new
    → Agrees (number_at old.sessions) links → Agrees (number_at new.sessions) links_new
attached old new links links_new limit session link number events frames l a =
    let it = l.placed in
    let t = l.attaches in
    let i = t.attaches in
    let one = i.attached in
    let p =
    attached-placed (i.before).value (i.after).value limit link it t.frames one.input one.attached in
    inside session ((i.before).value).session ((i.after).value).session old.sessions new.sessions
    (live-changed session i.before i.after old.sessions new.sessions i.stepped) links links_new
    (enter-in (number_at old.sessions) session ((i.before).value).session ((i.after).value).session links links_new
    it.link (it.handle).0 p.none p.here
    (record { vacant = l.vacant; unclosed = l.unclosed; held = l.held; other = l.other }))
    a

-- a session that begins has no links
abbrev accepting : ℕ → IncomingChannel → Begin → Option SessionFlow → SessionFrame
    → List (Act Link AttachTold Told Detached)
accepting first incoming begin flow frame = accept_steps first incoming begin flow frame

accepting-keeps : (first : ℕ) (incoming : IncomingChannel) (begin : Begin) (flow : Option SessionFlow)
    (frame : SessionFrame) → AllKeepNumbers (accepting first incoming begin flow frame)
accepting-keeps first incoming begin None frame = (tt, (tt, tt))
accepting-keeps first incoming begin (Some flow) frame = (tt, (tt, (tt, tt)))

pub begun-none : (s : LinksIn) (channel : OutgoingChannel) (first window : ℕ) (frame : SessionFrame)
    → History gives (fresh channel first window) (SendsBegin frame ∷ []) s → (handle : ℕ) → number_in s handle ≡ None
begun-none s channel first window frame h handle =
    history-kept end_gives (SendsBegin frame ∷ []) (fresh channel first window) s h (tt, tt) handle

pub accepted-none : (s : LinksIn) (channel : OutgoingChannel) (first window : ℕ) (incoming : IncomingChannel)
    (begin : Begin) (flow : Option SessionFlow) (frame : SessionFrame)
    → History gives (fresh channel first window) (accept_steps first incoming begin flow frame) s → (handle : ℕ)
    → number_in s handle ≡ None
accepted-none s channel first window incoming begin flow frame h handle =
    history-kept end_gives (accepting first incoming begin flow frame) (fresh channel first window) s h
    (accepting-keeps first incoming begin flow frame) handle

abbrev pub Stands : Option Stood → ℕ → Option ℕ
Stands o handle = number_live (live_of o) handle

begun : (old new : Talk) (number : ℕ) (frames : List SessionFrame) → BeginsHere gives old [] number new frames
    → TalkSame old new
begun old new number frames b =
    let (was, is) =
    (at number old.sessions (Begins number b.channel b.session) new.sessions b.stepped).about
    (eq-eqb number number refl) in
    about-same number old.sessions new.sessions
    (λ n e. (at n old.sessions (Begins number b.channel b.session) new.sessions b.stepped).other e)
    (λ handle.
    ap (λ (o : Option Stood). Stands o handle) is
    ∙ begun-none b.session.value.session b.channel old.first_transfer_number old.incoming_window b.frame
    b.begun.history handle
    ∙ sym (ap (λ (o : Option Stood). Stands o handle) was))

accepted : (old new : Talk) (channel : IncomingChannel) (number : ℕ) (frames : List SessionFrame)
    → AcceptsHere gives old [] channel number new frames → TalkSame old new
accepted old new channel number frames a =
    let step : SessionsAct = Accepts number a.incoming a.wanted a.outgoing a.session in
    let (was, is) = (at number old.sessions step a.mid a.stepped).about (eq-eqb number number refl) in
    let there : Talk = record old { sessions = a.mid } in
    talk-on old there new
    (about-same number old.sessions a.mid
    (λ n e. (at n old.sessions step a.mid a.stepped).other e)
    (λ handle.
    ap (λ (o : Option Stood). Stands o handle) is
    ∙ accepted-none a.session.value.session a.outgoing old.first_transfer_number old.incoming_window channel
    a.wanted.value.begin a.wanted.value.flow a.frame a.accepted.history handle
    ∙ sym (ap (λ (o : Option Stood). Stands o handle) was)))
    (live-same number a.session (with_links a.session a.wanted.value.links) there new a.taken_over
    (same-kept a.session.value.session a.session.value.session refl))

end-told : (old new : Sessions) (number : ℕ) (result : Result ⊤ TryEndError) → EndTold old number result new
    → Same (number_at old) (number_at new)
end-told old new number (Ok ok) t =
    let (stood, was, came, is) = (at number old (TellsEnd number) new t).about (eq-eqb number number refl) in
    about-same number old new
    (λ n e. (at n old (TellsEnd number) new t).other e)
    (λ handle.
    ap (λ (o : Option Stood). Stands o handle) is ∙ told-same stood handle
    ∙ sym (ap (λ (o : Option Stood). Stands o handle) was))
end-told old new number (Err e) t = λ n handle. ap (λ (s : Sessions). number_at s n handle) t.1

-- nothing changes
told-alone : (old new : LinkedSessions) → new ≡ old → Agree old → Agree new
told-alone old new same a = subst Agree (sym same) a

pub called : (it : Call) (answer : Said) (old new : LinkedSessions) (limit : ℕ) (frames : List SessionFrame)
    → Calls old limit it answer frames new → Agree old → Agree new
called call.Begin (session_begun n) old new limit frames c a =
    stays-held old.talk new.talk old.links new.links (begun old.talk new.talk n frames c.begins) c.same a
called (call.AcceptBegin channel) (session_begun n) old new limit frames c a =
    stays-held old.talk new.talk old.links new.links (accepted old.talk new.talk channel n frames c.accepts) c.same a
called (call.End n) done old new limit frames c a =
    session-back n c.session old.talk.sessions new.talk.sessions old.links new.links
    (ends-gone n c.ends.channel c.session true old.talk.sessions new.talk.sessions c.ends.stepped) c.back a
called (call.IsEnded n) (truth b) old new limit frames c a = told-alone old new c.same a
called (call.TryEnd n) (tried_end o) old new limit frames c a =
    stays-held old.talk new.talk old.links new.links
    (end-told old.talk.sessions new.talk.sessions n (answer_of o) c.tells)
    (ap (λ (s : LinkedSessions). s.links) c.rest) a
called (call.AttachSender n settings) (attaching link events) old new limit frames c a =
    attached old.talk new.talk old.links new.links limit n _ link events frames
    (is-new old.talk new.talk old.links new.links limit n _ link events frames c) a
called (call.AttachReceiver n settings) (attaching link events) old new limit frames c a =
    attached old.talk new.talk old.links new.links limit n _ link events frames
    (is-new old.talk new.talk old.links new.links limit n _ link events frames c) a
called (call.Resume link n) (attaching number events) old new limit frames c a =
    attached old.talk new.talk old.links new.links limit n _ link events frames
    (is-again old.talk new.talk old.links new.links limit n link number events frames c) a
called (call.Detach link) done old new limit frames c a =
    stays-held old.talk new.talk old.links new.links
    (done-at (detaches false) (link_place old.links link) old.talk new.talk frames (detaches-kept false) c.is_done)
    c.same a
called (call.CloseLink link) (link_closed events) old new limit frames c a =
    closed-at (link_place old.links link) link events old.talk new.talk old.links new.links frames refl c a
called (call.Grant link n) (credit_is left) old new limit frames c a =
    stays-held old.talk new.talk old.links new.links
    (done-at (gives_credit n left) (link_place old.links link) old.talk new.talk frames (gives-kept n left) c.is_done)
    c.same a
called (call.Drain link) done old new limit frames c a =
    stays-held old.talk new.talk old.links new.links
    (done-at wants_drain (link_place old.links link) old.talk new.talk frames drains-kept c.is_done) c.same a
called (call.Send link message) (message_sent tag outcome) old new limit frames c a =
    stays-held old.talk new.talk old.links new.links
    (done-at (sends limit (tag_of old.sent) message c.sends.settled) (link_place old.links link) old.talk new.talk
    frames
    (sends-kept limit (tag_of old.sent) message c.sends.settled) c.sends.sent)
    c.same a
called (call.Dispose link message disposal) done old new limit frames c a =
    stays-held old.talk new.talk old.links new.links
    (done-at (disposes_of_one limit message disposal) (link_place old.links link) old.talk new.talk frames
    (disposes-one-kept limit message disposal) c.disposes)
    c.same a
called (call.DisposeAll link messages disposal) done old new limit frames c a =
    stays-held old.talk new.talk old.links new.links
    (disposed-at limit (link_place old.links link) messages disposal old.talk new.talk frames c.disposes) c.same a
called (call.Credit link) (credit_is left) old new limit frames c a = told-alone old new c.same a
called (call.HeldBack n) (count m) old new limit frames c a = told-alone old new c.same a
called (call.Waiting n) (waiting turn) old new limit frames c a = told-alone old new c.same a
called it answer old new limit frames c a = absurd c
