-- What links hold of their messages, whatever an endpoint does but that it takes a Transfer.
use Rattle.std.proofs.Common.{◌≡◌, ◌≢◌, ◌⊎◌, inl, inr, ℕ, Bool, true, false, List, [], ◌∷◌, Option, Some, None}
use Rattle.std.proofs.Common.{Ok, Err, ap, refl, slice_get, subst, sym, ◌∙◌}
use Rattle.std.proofs.lemmas.Option.{none-some}
use Rattle.std.specs.FinMap as map
use Rattle.std.specs.FinMap.{get-empty}
use Rattle.std.specs.Ordering.{nat_cmp}
use Rattle.std.specs.Prelude.{Result, ⊤}
use Rattle.amqp_session_types.specs.declared.channels.IncomingChannel.{IncomingChannel}
use Rattle.amqp_session_types.specs.declared.handles.OutputHandle.{OutputHandle}
use Rattle.amqp_session_types.specs.declared.refusals.SessionError.{SessionError}
use Rattle.amqp_session_types.specs.declared.refusals.SessionError.TheVariants.{IllegalState}
use Rattle.amqp_session_types.specs.declared.refusals.TryEndError.{TryEndError}
use Rattle.amqp_session_performatives.specs.declared.attach.Attach.{Attach}
use Rattle.amqp_session_performatives.specs.declared.begin.Begin.{Begin}
use Rattle.amqp_session_performatives.specs.declared.detach.Detach.{Detach}
use Rattle.amqp_session_performatives.specs.declared.disposition.Disposition.{Disposition}
use Rattle.amqp_session_performatives.specs.declared.end.End.{End as EndFrame}
use Rattle.amqp_session_performatives.specs.declared.session_frame.SessionFrame.{SessionFrame}
use Rattle.amqp_session_frames.specs.declared.frame.Frame.{Frame}
use Rattle.amqp_session_frames.specs.declared.frame.FrameBody.{FrameBody}
use Rattle.amqp_session_frames.specs.declared.frame.FrameBody.TheVariants as body
use Rattle.amqp_session_core.specs.State.{link_at}
use Rattle.amqp_session_core.specs.Steps.{TakesBegin as SessionTakesBegin}
use Rattle.amqp_session_core.specs.Tables.{RouteTable}
use Rattle.amqp_link_base.specs.declared.detached.Detached.{Detached}
use Rattle.amqp_link.specs.declared.end.End.{End}
use Rattle.smallvec.specs.SmallVec.{SmallVec}
use Rattle.amqp_endpoint_attached.specs.Linked.{gives}
use Rattle.amqp_endpoint_attached.specs.Links.{receiver_by, sender_by}
use Rattle.amqp_endpoint_conversation.specs.Beginning.{AcceptsHere, BeginAnswered, BeginsHere, Leads, with_links}
use Rattle.amqp_endpoint_conversation.specs.declared.beginning.BeginHeard.{BeginHeard}
use Rattle.amqp_endpoint_conversation.specs.declared.beginning.BeginHeard.TheVariants as begin_heard
use Rattle.amqp_endpoint_conversation.specs.declared.beginning.BeginRefusal.TheVariants as begin_refused
use Rattle.amqp_endpoint_laws.specs.Deeds.{Closes, Deed, Does, EndsBy, Finishes, Hears, IsDeed, Moves, Queues}
use Rattle.amqp_endpoint_laws.specs.Deeds.{Refuses, Renews, Takes}
use Rattle.amqp_endpoint_link_calls.specs.Attaching.{with_room}
use Rattle.amqp_endpoint_link_calls.specs.Naming.{name_of}
use Rattle.amqp_endpoint_link_calls.specs.Calling.{Does as DoesTo, DoneAt, DoneIn, detaches, gives_credit, wants_drain}
use Rattle.amqp_endpoint_link_calls.specs.Closing.{ClosedAt, ClosedHeld, closes, fails, parted_at}
use Rattle.amqp_endpoint_link_calls.specs.Places.{LinksBy, Where}
use Rattle.amqp_endpoint_link_hearing.specs.Attaching.{HearsReady, opened_in}
use Rattle.amqp_endpoint_link_hearing.specs.Detaching as detaching
use Rattle.amqp_endpoint_link_hearing.specs.Disposing as disposing
use Rattle.amqp_endpoint_link_hearing.specs.Disposing.{runs_of}
use Rattle.amqp_endpoint_link_hearing.specs.Flowing.{HearsCredited, LetsGo}
use Rattle.amqp_endpoint_link_hearing.specs.Heard.{attach_of, detach_of, session_of}
use Rattle.amqp_endpoint_link_calls.specs.Disposing.{DisposedAt, disposes_of_all, disposes_of_one}
use Rattle.amqp_endpoint_link_calls.specs.Sending.{sends}
use Rattle.amqp_endpoint.specs.Attaching.{LinkAttached, LinkResumed}
use Rattle.amqp_endpoint.specs.Calling.{Calls, answer_of}
use Rattle.amqp_endpoint.specs.Does.{linked}
use Rattle.amqp_endpoint.specs.Hearing.{Hears as HearsFrame}
use Rattle.amqp_endpoint.specs.Sending.{tag_of}
use Rattle.amqp_endpoint.specs.declared.linked.LinkedSessions.{LinkedSessions}
use Rattle.amqp_endpoint_linking.specs.Hearing.{HearsBegin, TakesEnd as EndTaken}
use Rattle.amqp_endpoint_linking.specs.Linking.{Link, Links, Session, Sessions, Stood, Talk}
use Rattle.amqp_endpoint_links.proofs.Calls.{accepted-routes, begun-routes}
use Rattle.amqp_endpoint_links.specs.declared.hearing.LinkPerformative.TheVariants as said
use Rattle.amqp_endpoint_model.specs.Said.{Said, attaching, count, credit_is, done, link_closed, message_sent}
use Rattle.amqp_endpoint_model.specs.Said.{session_begun, tried_end, truth, waiting}
use Rattle.amqp_endpoint_model.specs.declared.call.Call.{Call}
use Rattle.amqp_endpoint_model.specs.declared.call.Call.TheVariants as call
use Rattle.amqp_endpoint_model.specs.declared.call.Disposal.{Disposal}
use Rattle.amqp_endpoint_model.specs.declared.error.EndpointError.{EndpointError}
use Rattle.amqp_endpoint_model.specs.declared.event.Event.{Event}
use Rattle.amqp_endpoint_tables.specs.OwnLinks.{slot_at}
use Rattle.amqp_endpoint_tables.specs.LinkState.{open_of, place_at as link_place, place_of, rest_at, rest_of}
use Rattle.amqp_endpoint_tables.specs.declared.link_place.Named.{Named}
use Rattle.amqp_endpoint_tables.specs.declared.link_place.LinkPlace.TheVariants.{AtRest, Held}
use Rattle.amqp_endpoint_tables.specs.State.{ended_place, live_at, live_of, peer_end_of, place_at, told_place}
use Rattle.amqp_endpoint_tables.specs.Steps.{Accepts, Asks, Begins, EndTold, TakesBegin, TakesEnd}
use Rattle.amqp_endpoint_tables.specs.Steps.{TellsEnd}
use Rattle.amqp_endpoint_tables.specs.declared.place.PeerEnd.TheVariants.{Missing, Received}
use Rattle.amqp_endpoint_tables.specs.declared.place.Place.TheVariants.{Asked, Live, Ending, Over}
use Rattle.amqp_endpoint_tables.proofs.Owning.{at}
use Rattle.amqp_endpoint_link_hearing.proofs.Barrings.{refuses-by}
use Rattle.amqp_endpoint_laws.specs.Held.{number_of}
use Rattle.amqp_endpoint_laws.proofs.Behind.{FollowsBy, behind-rests}
use Rattle.amqp_endpoint_laws.proofs.BehindAttach.{becomes-behind, number_of as session_heard}
use Rattle.amqp_endpoint_laws.proofs.BehindFlow.{flow-behind}
use Rattle.amqp_endpoint_laws.proofs.HeldCalled.{accepted-none, begun-none}
use Rattle.amqp_endpoint_laws.proofs.HoldingAttached.{attached-comes, attached-first}
use Rattle.amqp_endpoint_laws.proofs.HoldingDone.{StaysBy, closes-stays, closing-stays}
use Rattle.amqp_endpoint_laws.proofs.HoldingDone.{detaches-stay, disposes-all, disposes-one, drains-stays, echoes-stay}
use Rattle.amqp_endpoint_laws.proofs.HoldingDone.{failing-stays, gives-stays, leave-stay, parts-stay, sends-stays}
use Rattle.amqp_endpoint_laws.proofs.HoldingDone.{tells-stays}
use Rattle.amqp_endpoint_laws.proofs.HoldingEnds.{Comes, Goes, Holding, IsEmpty, IsFresh, goes-still}
use Rattle.amqp_endpoint_laws.proofs.HoldingEnds.{held_link}
use Rattle.amqp_endpoint_laws.proofs.HoldingInside.{all-same, calm-stays}
use Rattle.amqp_endpoint_laws.proofs.HoldingTalk.{AllRest, AttachesAt, EachAt, EachOf, EntersAt, RestsAt, all-on}
use Rattle.amqp_endpoint_laws.proofs.HoldingTalk.{attaches-behind}
use Rattle.amqp_endpoint_laws.proofs.HoldingTalk.{attaches-go, attaches-on, born-stays, dead-stays, each-same}
use Rattle.amqp_endpoint_laws.proofs.HoldingTalk.{ends-stays, fails-stay, first-at, goes-on-stays, heard-attaches}
use Rattle.amqp_endpoint_laws.proofs.HoldingTalk.{heard-rests, held_in, inside-stays, leads_in, live-changes}
use Rattle.amqp_endpoint_laws.proofs.HoldingTalk.{places-same, rest-go, rests-dead, rests-none, rests-same}
use Rattle.amqp_endpoint_laws.proofs.HoldingTalk.{sessions-same}
use Rattle.amqp_endpoint_laws.proofs.HoldingWaits.{IsUnattached}
use Rattle.amqp_endpoint_laws.proofs.PassedKept.{IsOver, Wanes, by-frame-still, finished-first, left-first, over-at}
use Rattle.amqp_endpoint_laws.proofs.Parted.{entered, holder}
use Rattle.amqp_endpoint_laws.proofs.PassedPlaces.{IsGone, eq-same}
use Rattle.amqp_endpoint_laws.proofs.Placing.{IsPlaced, is-again, is-new}
use Rattle.amqp_endpoint_laws.specs.Resumed.{IsResumed}
use Rattle.amqp_endpoint_laws.proofs.RoomMade.{RoomMade, room-holds, room-leads, room-made, room-named}
use Rattle.amqp_session_core.specs.Batch.{Transfers}
use Rattle.amqp_session_performatives.specs.declared.flow.Flow.{Flow}
use Rattle.amqp_endpoint_laws.proofs.RoomMade.{room-rests}

pub talk-same : (old new : Talk) → new ≡ old → AllRest old.sessions new.sessions
talk-same old new same = sessions-same old.sessions new.sessions (ap (λ (t : Talk). t.sessions) same)

-- the peer's Begin
led-stays : (old : Talk) (channel : IncomingChannel) (begin : Begin) (number : ℕ) (mid : Sessions)
    → Leads gives old channel begin number mid → AllRest old.sessions mid
led-stays old channel begin number mid l =
    places-same old.sessions mid (λ n. (at n old.sessions (TakesBegin number channel begin) mid l.stepped).other refl)

begin-taken : (h : BeginHeard) (old : Talk) (channel : IncomingChannel) (begin : Begin) (frames : List SessionFrame)
    (new : Talk) → BeginAnswered gives old [] channel begin (Ok h) new frames → AllRest old.sessions new.sessions
begin-taken (begin_heard.Asked number) old channel begin frames new (a, none) =
    let (was, is) =
    (at number old.sessions (Asks number channel a.asked) new.sessions a.stepped).about (eq-same number) in
    dead-stays number (Asks number channel a.asked) old.sessions new.sessions (λ n e. e) a.stepped (ap live_of is)
begin-taken (begin_heard.Begun number) old channel begin frames new b =
    let t = b.takes in
    let taken_so = t.taken.0 in
    all-on old.sessions b.mid new.sessions (led-stays old channel begin number b.mid b.led)
    (inside-stays number t.before t.after b.mid new.sessions t.stepped
    (calm-stays (SessionTakesBegin channel begin taken_so.base taken_so.left taken_so.frames)
    t.before.value.session t.after.value.session taken_so.stepped tt))
begin-taken begin_heard.Dropped old channel begin frames new (d, none) =
    led-stays old channel begin d.number new.sessions d.led

begin-goes : (old : Talk) (links : Links) (channel : IncomingChannel) (begin : Begin) (frames : List SessionFrame)
    (events : List Event) (new : Talk) (links_new : Links)
    → HearsBegin old links channel begin frames events new links_new → AllRest old.sessions new.sessions
begin-goes old links channel begin frames events new links_new (inl t) =
    begin-taken t.heard old channel begin frames new t.answered
begin-goes old links channel begin frames events new links_new (inr f) = by f.fault f.refused
  where
    by : (fault : SessionError)
        → BeginAnswered gives old [] channel begin (Err (begin_refused.Session f.number fault)) f.mid []
        → AllRest old.sessions new.sessions
    by IllegalState (b, none) =
        all-on old.sessions f.mid.sessions new.sessions
        (led-stays old channel begin f.number f.mid.sessions b.led)
        (ends-stays f.number _ f.fails.session f.mid new [] frames f.fails.ends)
    by e r = absurd r

-- what comes of an Attach, a Flow, a Disposition and a Detach
follows : {Such : Transfers → Type 0} (number : ℕ) (frames : List SessionFrame) (old new : Talk)
    → FollowsBy Such number frames old new → AllRest old.sessions new.sessions
follows number frames old new (inl (none, same)) = talk-same old new same
follows number frames old new (inr g) =
    goes-on-stays _ old number new (λ a b d. behind-rests frames a b d) g

flow-comes : (o : Option ℕ) (frames : List SessionFrame) (old new : Talk) (links links_new : Links)
    → LetsGo o frames old links new links_new → AllRest old.sessions new.sessions
flow-comes None frames old new links links_new l = talk-same old new l.0
flow-comes (Some session) frames old new links links_new g =
    goes-on-stays _ old session new (λ a b l. leave-stay frames a links b links_new l) g

flow-rests : (old : Talk) (links : Links) (limit : ℕ) (channel : IncomingChannel) (flow : Flow)
    (frames : List SessionFrame) (events : List Event) (new : Talk) (links_new : Links)
    → HearsCredited old links limit channel flow frames events new links_new → AllRest old.sessions new.sessions
flow-rests old links limit channel flow frames events new links_new (inl t) =
    all-on old.sessions t.mid.sessions new.sessions
    (heard-rests (said.Flow flow) tt old channel t.heard t.first t.mid t.answered)
    (all-on t.mid.sessions t.left.sessions new.sessions
    (flow-comes (session_of t.heard) t.first t.mid t.left links links_new t.leave)
    (follows (session_heard t.heard) t.behind t.left new
    (flow-behind limit t.heard flow.handle t.left t.behind events new t.sends_on)))
flow-rests old links limit channel flow frames events new links_new (inr f) =
    fails-stay (said.Flow flow) old new f.number f.fault f.session frames channel f.answered

disposition-comes : (o : Option (ℕ × SmallVec (ℕ × ℕ))) (limit : ℕ) (old mid new : Talk) (it : Disposition)
    (frames : List SessionFrame) (events : List Event) → disposing.Follows o limit old it mid frames events new
    → AllRest mid.sessions new.sessions
disposition-comes (Some (session, runs)) limit old mid new it frames events d =
    let t = d.done in
    all-on mid.sessions t.mid.sessions new.sessions
    (goes-on-stays _ mid session t.mid (λ a b e. echoes-stay d.deliveries _ _ t.sent t.told a b e) t.echoes)
    (refuses-by (λ fs a b. AllRest a.sessions b.sessions) session (λ a b same. talk-same a b same)
    (λ fs more a b c x y. all-on a.sessions b.sessions c.sessions x y)
    (λ handle fs a b g. goes-on-stays _ a session b (λ x y c. closes-stays _ handle fs x y c) g)
    (λ count handle a b g. goes-on-stays _ a session b
    (λ x y s. tells-stays count handle (link_at x.session handle.0) x.session y.session s.tells) g)
    _ d.deliveries _ t.mid new t.closed t.ended t.refuses)
disposition-comes None limit old mid new it frames events r = talk-same mid new r.stays

detach-comes : (o : Option (ℕ × Detached)) (limit : ℕ) (old mid new : Talk) (links links_new : Links) (it : Detach)
    (frames : List SessionFrame) (events : List Event)
    → detaching.Becomes o limit old links it mid frames events new links_new → AllRest mid.sessions new.sessions
detach-comes (Some (session, told)) limit old mid new links links_new it frames events b =
    goes-on-stays _ mid session new
    (λ a c t. parts-stay _ b.handle told.answer it.closed _ b.left frames a c t) b.parts
detach-comes None limit old mid new links links_new it frames events w = talk-same mid new w.stays

-- the peer's End
ended-dead : (stood : Stood) → live_of (Some (ended_place stood)) ≡ None
ended-dead (Asked channel a) = refl
ended-dead (Live channel s) = refl
ended-dead (Ending channel own_end) = refl
ended-dead (Over peer_end complete) = refl

end-goes : (old : Talk) (links : Links) (channel : IncomingChannel) (end : EndFrame) (frames : List SessionFrame)
    (events : List Event) (new : Talk) (links_new : Links)
    → EndTaken old links channel end frames events new links_new → AllRest old.sessions new.sessions
end-goes old links channel end frames events new links_new t =
    let a = t.answered in
    let number : ℕ = t.heard.number in
    let (was, is) =
    (at number old.sessions (TakesEnd number channel end a.stood) new.sessions a.stepped).about (eq-same number) in
    dead-stays number (TakesEnd number channel end a.stood) old.sessions new.sessions (λ n e. e) a.stepped
    (ap live_of is ∙ ended-dead a.stood)

-- a frame that is no Transfer
abbrev pub IsNotTransfer : FrameBody → Type 0
IsNotTransfer (body.Transfer transfer payload) = ⊥
IsNotTransfer it = Unit {0}

-- nor an Attach
abbrev IsCalmFrame : FrameBody → Type 0
IsCalmFrame (body.Transfer transfer payload) = ⊥
IsCalmFrame (body.Attach attach) = ⊥
IsCalmFrame it = Unit {0}

frame-rests : (it : FrameBody) → IsCalmFrame it → (old new : LinkedSessions) (limit : ℕ) (channel : IncomingChannel)
    (frames : List SessionFrame) (events : List Event)
    → HearsFrame old.talk old.links old.given limit channel it frames events new.talk new.links new.given
    → AllRest old.talk.sessions new.talk.sessions
frame-rests (body.Begin begin) other old new limit channel frames events (b, g) =
    begin-goes old.talk old.links channel begin frames events new.talk new.links b
frame-rests (body.Attach attach) other old new limit channel frames events h = absurd other
frame-rests (body.Flow flow) other old new limit channel frames events (h, g) =
    all-on old.talk.sessions h.ready.sessions new.talk.sessions (room-rests old.talk channel h.ready h.makes_room)
    (flow-rests h.ready old.links limit channel flow frames events new.talk new.links h.hears)
frame-rests (body.Transfer transfer payload) other old new limit channel frames events h = absurd other
frame-rests (body.Disposition disposition) other old new limit channel frames events (inl t, g) =
    all-on old.talk.sessions t.mid.sessions new.talk.sessions
    (heard-rests (said.Disposition disposition) tt old.talk channel t.heard [] t.mid t.answered)
    (disposition-comes (runs_of t.heard) limit old.talk t.mid new.talk disposition frames events t.follows)
frame-rests (body.Disposition disposition) other old new limit channel frames events (inr f, g) =
    fails-stay (said.Disposition disposition) old.talk new.talk f.number f.fault f.session frames channel f.answered
frame-rests (body.Detach detach) other old new limit channel frames events (inl t, g) =
    all-on old.talk.sessions t.mid.sessions new.talk.sessions
    (heard-rests (said.Detach detach) tt old.talk channel t.heard [] t.mid t.answered)
    (detach-comes (detach_of t.heard) limit old.talk t.mid new.talk old.links new.links detach frames events
    t.becomes)
frame-rests (body.Detach detach) other old new limit channel frames events (inr f, g) =
    fails-stay (said.Detach detach) old.talk new.talk f.number f.fault f.session frames channel f.answered
frame-rests (body.End end) other old new limit channel frames events (t, g) =
    end-goes old.talk old.links channel end frames events new.talk new.links t
frame-rests it other old new limit channel frames events h = absurd h

-- an Attach
pub attach-goes : (attach : Attach) (old new : LinkedSessions) (limit : ℕ) (channel : IncomingChannel)
    (frames : List SessionFrame) (events : List Event)
    → HearsFrame old.talk old.links old.given limit channel (body.Attach attach) frames events new.talk new.links
    new.given
    → (n : ℕ) → AttachesAt attach (live_at old.talk.sessions n) (live_at new.talk.sessions n)
attach-goes attach old new limit channel frames events (a, g) n =
    attaches-behind attach (live_at old.talk.sessions n) (live_at a.ready.sessions n) (live_at new.talk.sessions n)
    (λ h. room-holds old.talk channel a.ready made n h) (λ input. room-leads old.talk channel a.ready made n input)
    (by a.hears)
  where
    made : RoomMade old.talk channel a.ready
    made = room-made a.named old.talk channel a.ready a.makes_room

    by : HearsReady a.named a.ready old.links limit channel attach frames events new.talk new.links
        → AttachesAt attach (live_at a.ready.sessions n) (live_at new.talk.sessions n)
    by (inl t) =
        attaches-on attach (live_at a.ready.sessions n) (live_at t.mid.sessions n) (live_at new.talk.sessions n)
        (heard-attaches attach a.named a.ready old.links channel t.heard [] t.mid
        (room-named old.talk channel a.ready made old.links attach a.named a.is_named) t.answered n)
        (follows (session_heard t.heard) frames t.mid new.talk
        (becomes-behind limit (opened_in a.ready (attach_of t.heard) a.named) t.heard a.named t.mid attach frames events
        new.talk t.becomes)
        n)
    by (inr f) =
        inl (fails-stay (said.Attach attach a.named) a.ready new.talk f.number f.fault f.session frames channel
        f.answered n)

-- what a call does in the session that holds its link
done-in : (does : DoesTo) (session : ℕ) (handle : OutputHandle) (old new : Talk) (frames : List SessionFrame)
    → StaysBy does → DoneIn does session handle old [] new frames → AllRest old.sessions new.sessions
done-in does session handle old new frames stays d =
    inside-stays session d.before d.after old.sessions new.sessions d.stepped
    (stays handle d.before.value d.after.value d.frames d.did)

done-at : (does : DoesTo) (place : Where) (old new : Talk) (frames : List SessionFrame) → StaysBy does
    → DoneAt does place old [] new frames → AllRest old.sessions new.sessions
done-at does None old new frames stays d = absurd d
done-at does (Some (AtRest end)) old new frames stays d = absurd d
done-at does (Some (Held session handle)) old new frames stays d =
    done-in does session handle old new frames stays d

disposed-at : (limit : ℕ) (place : Where) (messages : List ℕ) (disposal : Disposal) (old new : Talk)
    (frames : List SessionFrame) → DisposedAt limit place messages disposal old [] new frames
    → AllRest old.sessions new.sessions
disposed-at limit place [] disposal old new frames (same, none) =
    talk-same old new same
disposed-at limit place (message ∷ messages) disposal old new frames d =
    done-at (disposes_of_all limit (message ∷ messages) disposal) place old new frames
    (disposes-all limit (message ∷ messages) disposal) d

closed-held : (parted : Bool) (session : ℕ) (handle : OutputHandle) (number : ℕ) (events : List Event)
    (old new : Talk) (links links_new : LinksBy) (frames : List SessionFrame)
    → ClosedHeld parted session handle old links number [] events new links_new frames
    → AllRest old.sessions new.sessions
closed-held true session handle number events old new links links_new frames c =
    done-in (fails number events) session handle old new frames (failing-stays number events) c.done
closed-held false session handle number events old new links links_new frames c =
    done-in (closes events) session handle old new frames (closing-stays events) c.done

closed-at : (place : Where) (number : ℕ) (events : List Event) (old new : Talk) (links links_new : LinksBy)
    (frames : List SessionFrame) → ClosedAt place old links number [] events new links_new frames
    → AllRest old.sessions new.sessions
closed-at None number events old new links links_new frames c = absurd c
closed-at (Some (AtRest end)) number events old new links links_new frames c =
    talk-same old new c.same
closed-at (Some (Held session handle)) number events old new links links_new frames c =
    closed-held (parted_at old session handle) session handle number events old new links
    links_new frames c

-- a link attaches
attached : (old new : Talk) (links links_new : LinksBy) (limit session : ℕ) (link : End) (number : ℕ)
    (events : List Event) (frames : List SessionFrame) (E : Type 0) → (E → IsEmpty link)
    → (a : IsPlaced old links limit session link number events frames new links_new)
    → EachOf (Comes E a.placed.link) old.sessions new.sessions
attached old new links links_new limit session link number events frames E empty a =
    let l = a.attaches in
    let i = l.attaches in
    let one = i.attached in
    live-changes (EachAt (Comes E a.placed.link)) (each-same (Comes E a.placed.link) (λ x. inr (goes-still x))) session
    i.before i.after old.sessions new.sessions i.stepped
    (attached-comes i.before.value i.after.value limit link a.placed l.frames E empty one.input one.attached)

pub attached-enters : (old new : Talk) (links links_new : LinksBy) (limit session : ℕ) (link : End) (number : ℕ)
    (events : List Event) (frames : List SessionFrame) → IsUnattached link
    → (a : IsPlaced old links limit session link number events frames new links_new)
    → (n : ℕ) → EntersAt a.placed.handle.0 (live_at old.sessions n) (live_at new.sessions n)
attached-enters old new links links_new limit session link number events frames fresh a =
    let l = a.attaches in
    let i = l.attaches in
    let one = i.attached in
    live-changes (EntersAt a.placed.handle.0) (λ o p same. inl (rests-same o p same)) session i.before i.after
    old.sessions new.sessions i.stepped
    (first-at a.placed.handle.0 i.before i.after
    (attached-first i.before.value i.after.value limit link a.placed l.frames fresh one.input one.attached))

-- a session begins, and ends
unheld : (o : Option Link) → number_of o ≡ None → held_link o ≡ None
unheld None none = refl
unheld (Some link) none = absurd (none-some link.number (sym none))

unled : (o : Option Session) (session : Session) (input : ℕ) → o ≡ Some session
    → session.value.session.routes ≡ map.empty → leads_in o input ≡ None
unled o session input is none =
    ap (λ (x : Option Session). leads_in x input) is
    ∙ ap (λ (t : RouteTable). map.get t input) none ∙ get-empty nat_cmp input

begun : (old new : Talk) (number : ℕ) (frames : List SessionFrame) → BeginsHere gives old [] number new frames
    → AllRest old.sessions new.sessions
begun old new number frames b =
    let (was, is) =
    (at number old.sessions (Begins number b.channel b.session) new.sessions b.stepped).about (eq-same number) in
    born-stays number (Begins number b.channel b.session) old.sessions new.sessions (λ n e. e) b.stepped
    (rests-none (live_at old.sessions number) (live_at new.sessions number)
    (λ h.
    ap (λ (o : Option Stood). held_in (live_of o) h) is
    ∙ unheld (link_at b.session.value.session h)
    (begun-none b.session.value.session b.channel old.first_transfer_number old.incoming_window b.frame
    b.begun.history h))
    (λ input.
    unled (live_at new.sessions number) b.session input (ap live_of is)
    (begun-routes gives b.channel old.first_transfer_number old.incoming_window b.frame b.session.value b.begun)))

accepted : (old new : Talk) (channel : IncomingChannel) (number : ℕ) (frames : List SessionFrame)
    → AcceptsHere gives old [] channel number new frames → AllRest old.sessions new.sessions
accepted old new channel number frames a =
    let step = Accepts number a.incoming a.wanted a.outgoing a.session in
    let (was, is) = (at number old.sessions step a.mid a.stepped).about (eq-same number) in
    all-on old.sessions a.mid new.sessions
    (born-stays number step old.sessions a.mid (λ n e. e) a.stepped
    (rests-none (live_at old.sessions number) (live_at a.mid number)
    (λ h.
    ap (λ (o : Option Stood). held_in (live_of o) h) is
    ∙ unheld (link_at a.session.value.session h)
    (accepted-none a.session.value.session a.outgoing old.first_transfer_number old.incoming_window channel
    a.wanted.value.begin a.wanted.value.flow a.frame a.accepted.history h))
    (λ input.
    unled (live_at a.mid number) a.session input (ap live_of is)
    (accepted-routes gives a.wanted.value a.outgoing channel old.first_transfer_number old.incoming_window a.frame
    a.session.value a.accepted))))
    (inside-stays number a.session (with_links a.session a.wanted.value.links) a.mid new.sessions a.taken_over
    (all-same a.session.value.session a.session.value.session refl))

told-live : (stood : Stood) → peer_end_of (Some stood) ≡ Received → live_of (Some (told_place stood)) ≡ None
told-live (Over peer_end complete) is = refl
told-live (Asked channel a) is = refl
told-live (Live channel s) is = let clash : Missing ≡ Received = is in absurd cc
told-live (Ending channel own_end) is = refl

end-told : (old new : Sessions) (number : ℕ) (result : Result ⊤ TryEndError) → EndTold old number result new
    → AllRest old new
end-told old new number (Ok ok) t =
    let (stood, was, came, is) = (at number old (TellsEnd number) new t).about (eq-same number) in
    dead-stays number (TellsEnd number) old new (λ n e. e) t (ap live_of is ∙ told-live stood came)
end-told old new number (Err e) t = sessions-same old new t.1

told-alone : (old new : LinkedSessions) → new ≡ old → AllRest old.talk.sessions new.talk.sessions
told-alone old new same =
    sessions-same old.talk.sessions new.talk.sessions (ap (λ (s : LinkedSessions). s.talk.sessions) same)

-- by any other call than one of these no link attaches
abbrev AttachesNone : Call → Type 0
AttachesNone (call.AttachSender n settings) = ⊥
AttachesNone (call.AttachReceiver n settings) = ⊥
AttachesNone (call.Resume link n) = ⊥
AttachesNone it = Unit {0}

call-rests : (it : Call) → AttachesNone it → (answer : Said) (old new : LinkedSessions) (limit : ℕ)
    (frames : List SessionFrame)
    → Calls old limit it answer frames new → AllRest old.talk.sessions new.talk.sessions
call-rests call.Begin none (session_begun n) old new limit frames c = begun old.talk new.talk n frames c.begins
call-rests (call.AcceptBegin channel) none (session_begun n) old new limit frames c =
    accepted old.talk new.talk channel n frames c.accepts
call-rests (call.End n) none done old new limit frames c =
    ends-stays n None c.session old.talk new.talk [] frames c.ends
call-rests (call.IsEnded n) none (truth b) old new limit frames c = told-alone old new c.same
call-rests (call.TryEnd n) none (tried_end o) old new limit frames c =
    end-told old.talk.sessions new.talk.sessions n (answer_of o) c.tells
call-rests (call.AttachSender n settings) none answer old new limit frames c = absurd none
call-rests (call.AttachReceiver n settings) none answer old new limit frames c = absurd none
call-rests (call.Resume link n) none answer old new limit frames c = absurd none
call-rests (call.Detach link) none done old new limit frames c =
    done-at (detaches false) (link_place old.links link) old.talk new.talk frames (detaches-stay false) c.is_done
call-rests (call.CloseLink link) none (link_closed events) old new limit frames c =
    closed-at (link_place old.links link) link events old.talk new.talk old.links new.links frames c
call-rests (call.Grant link n) none (credit_is left) old new limit frames c =
    done-at (gives_credit n left) (link_place old.links link) old.talk new.talk frames (gives-stays n left) c.is_done
call-rests (call.Drain link) none done old new limit frames c =
    done-at wants_drain (link_place old.links link) old.talk new.talk frames drains-stays c.is_done
call-rests (call.Send link message) none (message_sent tag outcome) old new limit frames c =
    done-at (sends limit (tag_of old.sent) message c.sends.settled) (link_place old.links link) old.talk new.talk frames
    (sends-stays limit (tag_of old.sent) message c.sends.settled) c.sends.sent
call-rests (call.Dispose link message disposal) none done old new limit frames c =
    done-at (disposes_of_one limit message disposal) (link_place old.links link) old.talk new.talk frames
    (disposes-one limit message disposal) c.disposes
call-rests (call.DisposeAll link messages disposal) none done old new limit frames c =
    disposed-at limit (link_place old.links link) messages disposal old.talk new.talk frames c.disposes
call-rests (call.Credit link) none (credit_is left) old new limit frames c = told-alone old new c.same
call-rests (call.HeldBack n) none (count m) old new limit frames c = told-alone old new c.same
call-rests (call.Waiting n) none (waiting turn) old new limit frames c = told-alone old new c.same
call-rests it none answer old new limit frames c = absurd c

-- what the connection's own deeds do
gone-dead : (o : Option Stood) → IsGone o → live_of o ≡ None
gone-dead (Some (Ending channel own_end)) gone = refl
gone-dead (Some (Over peer_end complete)) gone = refl
gone-dead (Some (Asked channel a)) gone = absurd gone
gone-dead (Some (Live channel s)) gone = absurd gone
gone-dead None gone = absurd gone

wanes-stays : (old new : Sessions) → ((n : ℕ) → Wanes old new n) → AllRest old new
wanes-stays old new wanes n = by (wanes n)
  where
    by : Wanes old new n → RestsAt (live_at old n) (live_at new n)
    by (inl same) = rests-same (live_at old n) (live_at new n) (ap live_of same)
    by (inr gone) = rests-dead (live_at old n) (live_at new n) (gone-dead (place_at new n) gone)

over-stays : (old new : Sessions) → ((n : ℕ) → IsOver new n) → AllRest old new
over-stays old new over n = by (over n)
  where
    by : IsOver new n → RestsAt (live_at old n) (live_at new n)
    by (inl gone) = rests-dead (live_at old n) (live_at new n) (gone-dead (place_at new n) gone)
    by (inr none) = rests-dead (live_at old n) (live_at new n) (ap live_of none)

refused-stays : (old new : LinkedSessions) (limit : ℕ) (f : Frame) (error : EndpointError) (own_close : Bool)
    → EndsBy linked old limit f error own_close new → AllRest old.talk.sessions new.talk.sessions
refused-stays old new limit f error own_close e =
    let told = e.closes.told in
    over-stays old.talk.sessions new.talk.sessions
    (λ n. over-at (place_at told.talk.sessions n) told.talk.sessions new.talk.sessions told.links new.links n refl
    e.closes.over.0.each)

places-stay : (old new : LinkedSessions) → new.talk.sessions.places ≡ old.talk.sessions.places
    → AllRest old.talk.sessions new.talk.sessions
places-stay old new same =
    places-same old.talk.sessions new.talk.sessions (λ n. ap (λ (ps : List Stood). slice_get ps n) same)

-- whatever is done
abbrev pub TakesNoTransfer : Deed → Type 0
TakesNoTransfer (Takes limit f frames events) = IsNotTransfer f.body
TakesNoTransfer deed = Unit {0}

-- or a link attaches that had no number before, and holds nothing, or one attaches again
pub record Enters (deed : Deed) (old new : LinkedSessions) (was is : Holding) : Type 0 where
  pub number : ℕ
  pub came : (slot_at old.links number ≡ None) ⊎ IsResumed number deed
  pub there : slot_at new.links number ≢ Some None
  pub vacant : was ≡ None
  pub fresh : IsFresh (slot_at old.links number ≡ None) number is

abbrev pub GoesBy : Deed → LinkedSessions → LinkedSessions → Holding → Holding → Type 0
GoesBy deed old new was is = Enters deed old new was is ⊎ Goes was is

abbrev pub EachBy : Deed → LinkedSessions → LinkedSessions → Type 0
EachBy deed old new = EachOf (GoesBy deed old new) old.talk.sessions new.talk.sessions

go-by : (deed : Deed) (old new : LinkedSessions) → EachOf Goes old.talk.sessions new.talk.sessions
    → EachBy deed old new
go-by deed old new each n h = inr (each n h)

attached-by : (deed : Deed) (old new : LinkedSessions) (limit session : ℕ) (link : End) (number : ℕ)
    (events : List Event) (frames : List SessionFrame)
    (a : IsPlaced old.talk old.links limit session link number events frames new.talk new.links)
    → ((slot_at old.links a.placed.link ≡ None) ⊎ IsResumed a.placed.link deed)
    → (slot_at old.links a.placed.link ≡ None → IsEmpty link) → EachBy deed old new
attached-by deed old new limit session link number events frames a came empty n h =
    by
    (attached old.talk new.talk old.links new.links limit session link number events frames
    (slot_at old.links a.placed.link ≡ None) empty a n h)
  where
    by : Comes (slot_at old.links a.placed.link ≡ None) a.placed.link (held_in (live_at old.talk.sessions n) h)
        (held_in (live_at new.talk.sessions n) h)
        → GoesBy deed old new (held_in (live_at old.talk.sessions n) h) (held_in (live_at new.talk.sessions n) h)
    by (inr goes) = inr goes
    by (inl (vacant, fresh)) =
        inl (record {
          number = a.placed.link;
          came = came;
          there = λ closed. none-some _ (sym (ap holder closed) ∙ a.held);
          vacant = vacant;
          fresh = fresh;
        })

-- a new link attaches, or one that was at rest
new-by : (deed : Deed) (old new : LinkedSessions) (limit session : ℕ) (link : End) (number : ℕ) (events : List Event)
    (frames : List SessionFrame) → IsEmpty link
    → LinkAttached old.talk old.links limit session link number events frames new.talk new.links → EachBy deed old new
new-by deed old new limit session link number events frames empty a =
    attached-by deed old new limit session link number events frames
    (is-new old.talk new.talk old.links new.links limit session link number events frames a)
    (inl
    (entered a.placed.link (name_of link) session a.placed.handle (with_room old.links) new.links
    a.attaches.entered).none)
    (λ none. empty)

again-by : (deed : Deed) (old new : LinkedSessions) (limit session link number : ℕ) (events : List Event)
    (frames : List SessionFrame)
    → (r : LinkResumed old.talk old.links limit link session number events frames new.talk new.links)
    → IsResumed link deed → EachBy deed old new
again-by deed old new limit session link number events frames r resumed =
    attached-by deed old new limit session r.resumes.link link events frames
    (is-again old.talk new.talk old.links new.links limit session link number events frames r)
    (inr (subst (λ (k : ℕ). IsResumed k deed) (sym r.resumes.numbered) resumed))
    (λ none.
    absurd
    (none-some r.resumes.link
    (sym (ap (λ (o : Option (Option (Named End))). rest_of (place_of (open_of o))) none)
    ∙ ap (rest_at old.links) r.resumes.numbered ∙ r.resumes.may.rests)))

call-by : (it : Call) (answer : Said) (old new : LinkedSessions) (limit : ℕ) (frames : List SessionFrame)
    → Calls old limit it answer frames new → EachBy (Does limit it answer frames) old new
call-by (call.AttachSender n settings) (attaching link events) old new limit frames c =
    new-by (Does limit (call.AttachSender n settings) (attaching link events) frames) old new limit n
    (sender_by settings) link events frames tt c
call-by (call.AttachReceiver n settings) (attaching link events) old new limit frames c =
    new-by (Does limit (call.AttachReceiver n settings) (attaching link events) frames) old new limit n
    (receiver_by settings) link events frames refl c
call-by (call.Resume link n) (attaching number events) old new limit frames c =
    again-by (Does limit (call.Resume link n) (attaching number events) frames) old new limit n link number events
    frames c refl
call-by (call.AttachSender n settings) answer old new limit frames c = absurd c
call-by (call.AttachReceiver n settings) answer old new limit frames c = absurd c
call-by (call.Resume link n) answer old new limit frames c = absurd c
call-by it answer old new limit frames c =
    go-by (Does limit it answer frames) old new
    (rest-go old.talk.sessions new.talk.sessions (call-rests it tt answer old new limit frames c))

-- a deed by which no transfer comes, and no link attaches
abbrev pub IsCalmDeed : Deed → Type 0
IsCalmDeed (Takes limit f frames events) = IsCalmFrame f.body
IsCalmDeed (Does limit it answer frames) = AttachesNone it
IsCalmDeed deed = Unit {0}

pub deed-rests : (deed : Deed) → IsCalmDeed deed → (old new : LinkedSessions) → IsDeed linked old deed new
    → AllRest old.talk.sessions new.talk.sessions
deed-rests (Queues it) calm old new same = told-alone old new same
deed-rests (Hears frame events) calm old new (moves, told) =
    places-stay old new (by-frame-still frame.body old new moves).0
deed-rests (Takes limit f frames events) calm old new h =
    frame-rests f.body calm old new limit (record { 0 = f.channel }) frames events h.0
deed-rests (Refuses limit f error own_close) calm old new e = refused-stays old new limit f error own_close e
deed-rests (Does limit it answer frames) calm old new c = call-rests it calm answer old new limit frames c.0
deed-rests (Moves connection) calm old new m =
    places-stay old new (ap (λ (s : LinkedSessions). s.talk.sessions.places) m.1)
deed-rests Renews calm old new is = places-stay old new (ap (λ (s : LinkedSessions). s.talk.sessions.places) is)
deed-rests Closes calm old new l =
    wanes-stays old.talk.sessions new.talk.sessions
    (left-first _ old.talk.sessions new.talk.sessions old.links new.links l.0.each)
deed-rests Finishes calm old new f =
    wanes-stays old.talk.sessions new.talk.sessions
    (finished-first _ old.talk.sessions new.talk.sessions old.links new.links f.0.each)

frame-goes : (it : FrameBody) → IsNotTransfer it → (limit channel : ℕ) (frames : List SessionFrame)
    (events : List Event) (old new : LinkedSessions)
    → IsDeed linked old (Takes limit (record { channel = channel; body = it }) frames events) new
    → EachBy (Takes limit (record { channel = channel; body = it }) frames events) old new
frame-goes (body.Transfer transfer payload) other limit channel frames events old new d = absurd other
frame-goes (body.Attach attach) other limit channel frames events old new d =
    go-by (Takes limit (record { channel = channel; body = body.Attach attach }) frames events) old new
    (attaches-go attach old.talk.sessions new.talk.sessions
    (attach-goes attach old new limit (record { 0 = channel }) frames events d.0))
frame-goes it other limit channel frames events old new d =
    go-by (Takes limit (record { channel = channel; body = it }) frames events) old new
    (rest-go old.talk.sessions new.talk.sessions
    (deed-rests (Takes limit (record { channel = channel; body = it }) frames events) tt old new d))

pub deed-goes : (deed : Deed) → TakesNoTransfer deed → (old new : LinkedSessions) → IsDeed linked old deed new
    → EachBy deed old new
deed-goes (Takes limit f frames events) other old new d =
    frame-goes f.body other limit f.channel frames events old new d
deed-goes (Does limit it answer frames) other old new c = call-by it answer old new limit frames c.0
deed-goes deed other old new d =
    go-by deed old new (rest-go old.talk.sessions new.talk.sessions (deed-rests deed tt old new d))
