-- What links hold of their messages as something is done for a link in its session.
use Rattle.std.proofs.Common.{◌≡◌, inl, inr, ℕ, Bool, true, false, List, [], ◌∷◌, Option, Some, None}
use Rattle.std.proofs.Common.{Ok, refl, subst, sym, ap, ◌∙◌}
use Rattle.std.specs.Prelude.{length, replicate}
use Rattle.amqp_session_types.specs.declared.error.Error.{Error}
use Rattle.amqp_session_types.specs.declared.handles.OutputHandle.{OutputHandle}
use Rattle.amqp_session_states.specs.declared.delivery_state.DeliveryState.{DeliveryState}
use Rattle.amqp_session_performatives.specs.declared.disposition.Disposition.{Disposition}
use Rattle.amqp_session_performatives.specs.declared.session_frame.SessionFrame.{SessionFrame}
use Rattle.amqp_session_performatives.specs.declared.session_frame.SessionFrameBody.{SessionFrameBody}
use Rattle.amqp_session_performatives.specs.declared.session_frame.SessionFrameBody.TheVariants as said
use Rattle.amqp_session_core.specs.State.{link_at}
use Rattle.amqp_session_core.specs.declared.batch.BehindFrame.{BehindFrame}
use Rattle.amqp_session_core.specs.declared.batch.BehindFrame.TheVariants as behind
use Rattle.amqp_session_core.specs.declared.dispositions.Touched.{Touched}
use Rattle.amqp_link.specs.declared.end.End.{End}
use Rattle.amqp_link.specs.declared.end.End.TheVariants.{Receiver, Sender}
use Rattle.amqp_link_receiver.specs.Disposing.{disposed_of}
use Rattle.amqp_link_receiver.specs.DisposingAll.{Named, each_disposed, one_disposed}
use Rattle.amqp_link_receiver.specs.Flowing.{credited}
use Rattle.amqp_link_receiver.specs.State.{ReceiverState}
use Rattle.amqp_link_sender.specs.Sends.{entry_unless, sent, with_room}
use Rattle.amqp_endpoint_attached.specs.Detaching.{DetachGiven, is_there, own_detach}
use Rattle.amqp_endpoint_attached.specs.Linked.{Linked, LinksIn, end_at, gives}
use Rattle.amqp_endpoint_attached.specs.Links.{with_number}
use Rattle.amqp_endpoint_attached.specs.Receiving.{drained, receiving, shown_flow}
use Rattle.amqp_endpoint_attached.specs.Sent.{Says, Sends}
use Rattle.amqp_endpoint_attached.specs.TakenOut.{TakenOut}
use Rattle.amqp_endpoint_attached.proofs.There.{replaced}
use Rattle.amqp_endpoint_messages.specs.Disposing.{settles}
use Rattle.amqp_endpoint_messages.specs.Dispositions.{SendsEach}
use Rattle.amqp_endpoint_link_calls.specs.Calling.{Does, detaches, gives_credit, wants_drain}
use Rattle.amqp_endpoint_link_calls.specs.Closing.{closed_end, closes, fails}
use Rattle.amqp_endpoint_link_hearing.specs.Detaching.{TellsAndParts}
use Rattle.amqp_endpoint_link_hearing.specs.Disposing.{TellsAndEchoes}
use Rattle.amqp_endpoint_link_hearing.specs.Flowing.{LeaveWith, LeavesOnce, LeavesWith, ended_link}
use Rattle.amqp_endpoint_link_hearing.specs.InSession.{AnswersIf, Closes, ClosesIf}
use Rattle.amqp_endpoint_link_hearing.specs.Transferring.{Remembers, remembering}
use Rattle.amqp_endpoint_link_calls.specs.Disposing.{disposes_of_all, disposes_of_one}
use Rattle.amqp_endpoint_link_calls.specs.Sending.{sends}
use Rattle.amqp_endpoint_linking.specs.Linking.{Link, Links}
use Rattle.amqp_endpoint_model.specs.declared.call.Disposal.{Disposal}
use Rattle.amqp_endpoint_model.specs.declared.call.Sending.{Sending}
use Rattle.amqp_endpoint_model.specs.declared.event.Event.{Event}
use Rattle.amqp_endpoint_messages.specs.All.{TellsIn, behind_told, open_count}
use Rattle.amqp_endpoint_messages.specs.Echoing.{echoes_of}
use Rattle.amqp_endpoint_messages.specs.Reached.{behind_one, behind_reached, end_behind, link_behind}
use Rattle.amqp_endpoint_messages.specs.Sending.{sending}
use Rattle.amqp_endpoint_laws.proofs.HoldingEnds.{Comes, IsEmpty, Stays, detach-holds}
use Rattle.amqp_endpoint_laws.proofs.HoldingEnds.{empty-handle, empty-sent, empty-takes, held_end, held_link}
use Rattle.amqp_endpoint_laws.proofs.HoldingInside.{Each, LeadsFirst, Rests, all-same, allocated-comes, allocated-leads}
use Rattle.amqp_endpoint_laws.proofs.HoldingInside.{batch-stays, behind-stays, first-rests}
use Rattle.amqp_endpoint_laws.proofs.HoldingInside.{changed-stays, each-comes, freed-stays, rests-on, sent-stays}

-- a session that stays
same-stays : (old new : Linked) → new ≡ old → Rests old.session new.session
same-stays old new same = all-same old.session new.session (ap (λ (s : Linked). s.session) same)

-- a link is changed, and sends a frame
changed-sends : (handle : OutputHandle) (before after : Linked) (stood stands : Link) (frame : BehindFrame)
    (frames : List SessionFrame) → Sends before handle stood stands frame frames after
    → Stays (held_end stood.number stood.link) (held_end stands.number stands.link)
    → Rests before.session after.session
changed-sends handle before after stood stands frame frames s keeps =
    rests-on before.session s.mid after.session
    (changed-stays before.session s.mid handle.0 stood stands s.changed keeps)
    (behind-stays s.mid after.session handle frame s.left s.answer s.sent)

says-stays : (handle : OutputHandle) (before after : Linked) (frame : BehindFrame) (frames : List SessionFrame)
    → Says before handle frame frames after → Rests before.session after.session
says-stays handle before after frame frames s =
    behind-stays before.session after.session handle frame s.left s.answer s.sent

-- its Detach
detach-stays : (handle : OutputHandle) (closed : Bool) (error : Option Error) (before after : Linked)
    (frames : List SessionFrame) → DetachGiven before handle closed error [] after frames
    → Rests before.session after.session
detach-stays handle closed error before after frames d =
    changed-sends handle before after (record { number = d.number; link = d.before })
    (record { number = d.number; link = d.after }) (behind.Detach (own_detach handle closed error)) d.frames d.sent
    (inr (detach-holds d.number d.before d.after closed d.moved))

closed-stays : (there : Bool) (why : Option Error) (handle : OutputHandle) (frames : List SessionFrame)
    (old new : Linked) → ClosesIf there why old handle frames new → Rests old.session new.session
closed-stays true why handle frames old new d = detach-stays handle true why old new frames d
closed-stays false why handle frames old new c = same-stays old new c.0

pub closes-stays : (why : Option Error) (handle : OutputHandle) (frames : List SessionFrame) (old new : Linked)
    → Closes why handle frames old new → Rests old.session new.session
closes-stays why handle frames old new c = closed-stays (is_there (end_at old handle)) why handle frames old new c

-- one that is attached is so no longer
given-none : (handle : OutputHandle) (closed : Bool) (error : Option Error) (before after : Linked)
    (frames : List SessionFrame) → DetachGiven before handle closed error [] after frames
    → held_link (link_at after.session handle.0) ≡ None
given-none handle closed error before after frames d =
    let s = d.sent in
    let stood : Link = record { number = d.number; link = d.before } in
    let stands : Link = record { number = d.number; link = d.after } in
    ap (λ (x : LinksIn). held_link (link_at x handle.0)) s.sent.2
    ∙ ap (λ (x : LinksIn). held_link (link_at x handle.0)) s.changed.1
    ∙ ap held_link (replaced before.session handle.0 stood stands (sym s.changed.0))
    ∙ detach-holds d.number d.before d.after closed d.moved

closed-none : (there : Bool) (why : Option Error) (handle : OutputHandle) (frames : List SessionFrame)
    (old new : Linked) → there ≡ true → ClosesIf there why old handle frames new
    → held_link (link_at new.session handle.0) ≡ None
closed-none true why handle frames old new is d = given-none handle true why old new frames d
closed-none false why handle frames old new is c = absurd cc

pub closes-none : (why : Option Error) (handle : OutputHandle) (frames : List SessionFrame) (old new : Linked)
    → is_there (end_at old handle) ≡ true → Closes why handle frames old new
    → held_link (link_at new.session handle.0) ≡ None
closes-none why handle frames old new is c = closed-none (is_there (end_at old handle)) why handle frames old new is c

-- a link tells of messages that it sent
pub told-holds : (k count : ℕ) (end : End) → held_end k (behind_told count end) ≡ held_end k end
told-holds k count (Sender s) = refl
told-holds k count (Receiver r) = refl

pub tells-stays : (count : ℕ) (handle : OutputHandle) (link : Option Link) (old new : LinksIn)
    → TellsIn count handle link old new → Rests old new
tells-stays count handle None old new same = all-same old new same
tells-stays count handle (Some link) old new s =
    changed-stays old new handle.0 link (record link { link = behind_told count link.link }) s
    (inl (told-holds link.number count link.link))

behind-holds : (k : ℕ) (tag : List ℕ) (end : End) → held_end k (end_behind tag end) ≡ held_end k end
behind-holds k tag (Sender s) = refl
behind-holds k tag (Receiver r) = refl

-- it leaves its session, or not
out-stays : (handle : OutputHandle) (left : Option Link) (old new : Linked) → TakenOut old handle left new
    → Rests old.session new.session
out-stays handle None old new (why, same) = same-stays old new same
out-stays handle (Some link) old new (there, stepped, rest) =
    freed-stays old.session new.session handle.0 stepped

answered-stays : (answers : Bool) (handle : OutputHandle) (closed : Bool) (error : Option Error)
    (frames : List SessionFrame) (old new : Linked) → AnswersIf answers old handle closed error frames new
    → Rests old.session new.session
answered-stays true handle closed error frames old new r =
    says-stays handle old new (behind.Detach (own_detach handle closed error)) r.frames r.said
answered-stays false handle closed error frames old new r = same-stays old new r.0

pub parts-stay : (count : ℕ) (handle : OutputHandle) (answers closed : Bool) (error : Option Error)
    (left : Option Link) (frames : List SessionFrame) (old new : Linked)
    → TellsAndParts count handle answers closed error left frames old new → Rests old.session new.session
parts-stay count handle answers closed error left frames old new t =
    let p = t.parts in
    rests-on old.session t.mid.session new.session
    (tells-stays count handle (link_at old.session handle.0) old.session t.mid.session t.tells.tells)
    (rests-on t.mid.session p.mid.session new.session
    (answered-stays answers handle closed error frames t.mid p.mid p.answered)
    (out-stays handle left p.mid new p.out))

-- links leave with frames
leaves-once : (ended : Option (ℕ × Bool)) (handle : OutputHandle) (old : Linked) (links : Links) (new : Linked)
    (links_new : Links) → LeavesOnce ended handle old links new links_new → Rests old.session new.session
leaves-once None handle old links new links_new (same, kept) = same-stays old new same
leaves-once (Some (number, closed)) handle old links new links_new l = out-stays handle l.left old new l.out

leaves-with : (frame : SessionFrameBody) (old : Linked) (links : Links) (new : Linked) (links_new : Links)
    → LeavesWith frame old links new links_new → Rests old.session new.session
leaves-with (said.Detach detach) old links new links_new l =
    leaves-once (ended_link (link_at old.session detach.handle.0)) (record { 0 = detach.handle.0 }) old links new
    links_new l
leaves-with frame old links new links_new l = same-stays old new l.0

pub leave-stay : (frames : List SessionFrame) (old : Linked) (links : Links) (new : Linked) (links_new : Links)
    → LeaveWith frames old links new links_new → Rests old.session new.session
leave-stay [] old links new links_new (same, kept) = same-stays old new same
leave-stay (frame ∷ frames) old links new links_new (mid, links_mid, one, rest) =
    rests-on old.session mid.session new.session (leaves-with frame.body old links mid links_mid one)
    (leave-stay frames mid links_mid new links_new rest)

-- Dispositions are sent
pub each-sent : (old : LinksIn) (told : List Disposition) (new : LinksIn) → SendsEach gives old told new
    → Rests old new
each-sent old [] new same = all-same old new same
each-sent old (d ∷ rest) new (mid, one, others) =
    rests-on old mid new (sent-stays old mid d one.settled one.stepped) (each-sent mid rest new others)

-- links tell what became of messages
reached-one : (s : LinksIn) (handle : ℕ) (tag : List ℕ) (o : Option Link) → link_at s handle ≡ o
    → Rests s (link_behind s handle tag o)
reached-one s handle tag None there = all-same s s refl
reached-one s handle tag (Some link) there =
    changed-stays s (link_behind s handle tag (Some link)) handle link
    (record link { link = end_behind tag link.link }) (there, refl) (inl (behind-holds link.number tag link.link))

reached-stays : (s : LinksIn) (deliveries : List Touched) → Rests s (behind_reached s deliveries)
reached-stays s [] = all-same s s refl
reached-stays s (delivery ∷ rest) =
    rests-on s (behind_one s delivery) (behind_reached (behind_one s delivery) rest)
    (reached-one s delivery.handle.0 delivery.tag (link_at s delivery.handle.0) refl)
    (reached-stays (behind_one s delivery) rest)

pub echoes-stay : (deliveries : List Touched) (state : Option DeliveryState) (runs : List (ℕ × ℕ))
    (frames : List SessionFrame) (events : List Event) (old new : Linked)
    → TellsAndEchoes deliveries state runs frames events old new → Rests old.session new.session
echoes-stay deliveries state runs frames events old new t =
    let mid : LinksIn = behind_reached old.session deliveries in
    rests-on old.session mid new.session (reached-stays old.session deliveries)
    (each-sent mid (echoes_of state runs) new.session t.echoes.sends)

-- a link remembers the number of a message
remembering-holds : (k : ℕ) (end : End) (tag : List ℕ) (number : ℕ)
    → held_end k (remembering end tag number) ≡ held_end k end
remembering-holds k (Receiver r) tag number = refl
remembering-holds k (Sender s) tag number = refl

pub remembers-stays : (handle : OutputHandle) (tag : List ℕ) (number : ℕ) (old new : Linked)
    → Remembers handle tag number old new → Rests old.session new.session
remembers-stays handle tag number old new r =
    changed-stays old.session new.session handle.0 r.link
    (record r.link { link = remembering r.link.link tag number }) r.changed
    (inl (remembering-holds r.link.number r.link.link tag number))

-- what a call does to a link
abbrev pub StaysBy : Does → Type 0
StaysBy does =
    (handle : OutputHandle) (before after : Linked) (frames : List SessionFrame) → does handle before frames after
    → Rests before.session after.session

pub detaches-stay : (closed : Bool) → StaysBy (detaches closed)
detaches-stay closed handle before after frames d = detach-stays handle closed None before after frames d

pub gives-stays : (credit left : ℕ) → StaysBy (gives_credit credit left)
gives-stays credit left handle before after frames d =
    changed-sends handle before after (receiving d.number d.receiver) (receiving d.number (credited d.receiver credit))
    (behind.Flow (shown_flow handle (credited d.receiver credit))) d.frames d.sent (inl refl)

pub drains-stays : StaysBy wants_drain
drains-stays handle before after frames d =
    changed-sends handle before after (receiving d.number d.receiver) (receiving d.number (drained d.receiver))
    (behind.Flow (shown_flow handle (drained d.receiver))) d.frames d.sent (inl refl)

failed-holds : (k : ℕ) (end : End) → held_end k (closed_end end) ≡ held_end k end
failed-holds k (Sender s) = refl
failed-holds k (Receiver r) = refl

pub failing-stays : (link : ℕ) (events : List Event) → StaysBy (fails link events)
failing-stays link events handle before after frames t =
    let count : ℕ = open_count (Some t.it.link) in
    changed-stays before.session after.session handle.0 t.it
    (record t.it { link = behind_told count (closed_end t.it.link) }) t.ends
    (inl (told-holds t.it.number count (closed_end t.it.link) ∙ failed-holds t.it.number t.it.link))

pub closing-stays : (events : List Event) → StaysBy (closes events)
closing-stays events handle before after frames c =
    rests-on before.session c.mid.session after.session
    (detach-stays handle true None before c.mid frames c.detached)
    (tells-stays (open_count (end_at before handle)) handle (link_at c.mid.session handle.0) c.mid.session
    after.session c.tells.tells)

pub sends-stays : (limit : ℕ) (tag : List ℕ) (message : Sending) (settled : Bool)
    → StaysBy (sends limit tag message settled)
sends-stays limit tag message settled handle before after frames did =
    let s = did.sends in
    rests-on before.session did.mid after.session
    (changed-stays before.session did.mid handle.0 (sending did.number did.before)
    (sending did.number (with_room did.before)) did.prepares (inl refl))
    (rests-on did.mid did.taken after.session
    (batch-stays did.mid did.taken handle did.transfers s.left s.frames s.stepped)
    (changed-stays did.taken after.session handle.0 (sending did.number (with_room did.before))
    (sending did.number (sent (with_room did.before) (entry_unless settled tag message.message_format message.payload)))
    did.commits (inl refl)))

-- deliveries that came whole are disposed of
disposed-holds : (k : ℕ) (r : ReceiverState) (named : Named) (states : List DeliveryState) (asked : Option Bool)
    → held_end k (Receiver (each_disposed r named states asked)) ≡ held_end k (Receiver r)
disposed-holds k r [] states asked = refl
disposed-holds k r (one ∷ rest) [] asked = refl
disposed-holds k r (one ∷ rest) (state ∷ states) asked =
    disposed-holds k (one_disposed r one state asked) rest states asked

pub disposes-all : (limit : ℕ) (messages : List ℕ) (disposal : Disposal)
    → StaysBy (disposes_of_all limit messages disposal)
disposes-all limit messages disposal handle before after frames d =
    let l = d.disposes in
    let states : List DeliveryState = replicate (length l.named) disposal.state in
    rests-on before.session d.mid after.session
    (changed-stays before.session d.mid handle.0 (receiving l.number l.receiver)
    (receiving l.number (each_disposed l.receiver l.named states disposal.settled)) l.changed
    (inl (disposed-holds l.number l.receiver l.named states disposal.settled)))
    (each-sent d.mid d.told after.session d.sends)

pub disposes-one : (limit message : ℕ) (disposal : Disposal) → StaysBy (disposes_of_one limit message disposal)
disposes-one limit message disposal handle before after frames d =
    let it = d.disposed in
    let l = it.disposes in
    rests-on before.session it.mid after.session
    (changed-stays before.session it.mid handle.0 (receiving l.number l.receiver)
    (receiving l.number
    (disposed_of l.receiver d.tag (settles l.receiver l.delivery disposal.settled) disposal.state)) l.changed
    (inl refl))
    (each-sent it.mid it.told after.session it.sends)
