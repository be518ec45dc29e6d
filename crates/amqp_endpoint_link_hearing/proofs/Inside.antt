-- What is done for a link is done inside of its session.
use Rattle.std.proofs.Common.{◌≡◌, ℕ, Bool, true, false, List, [], ◌∷◌, Option, Some, None, refl, sym, ap, subst, ◌∙◌}
use Rattle.amqp_session_types.specs.declared.error.Error.{Error}
use Rattle.amqp_session_types.specs.declared.handles.OutputHandle.{OutputHandle}
use Rattle.amqp_session_states.specs.declared.delivery_state.DeliveryState.{DeliveryState}
use Rattle.amqp_session_performatives.specs.declared.disposition.Disposition.{Disposition}
use Rattle.amqp_session_performatives.specs.declared.session_frame.SessionFrame.{SessionFrame}
use Rattle.amqp_session_core.specs.State.{link_at}
use Rattle.amqp_session_core.specs.Steps.{Changes, Deallocates, SendsDisposition}
use Rattle.amqp_session_core.specs.declared.batch.BehindFrame.TheVariants as behind
use Rattle.amqp_session_core.specs.declared.dispositions.Touched.{Touched}
use Rattle.amqp_endpoint_links.specs.History.{AskingHistory}
use Rattle.amqp_endpoint_model.specs.declared.event.Event.{Event}
use Rattle.amqp_endpoint_conversation.specs.Inside.{AreOn, DoneInside, said_in}
use Rattle.amqp_endpoint_conversation.proofs.Inside.{alike-inside, all-on, both-inside, changed-inside, none-said}
use Rattle.amqp_endpoint_conversation.proofs.Inside.{none-inside}
use Rattle.amqp_endpoint_conversation.proofs.Inside.{one-inside, said-inside, same-inside, silent-behind, step-inside}
use Rattle.amqp_endpoint_attached.specs.Detaching.{DetachGiven, is_there, own_detach}
use Rattle.amqp_endpoint_attached.specs.Linked.{Linked, LinksIn, end_at, gives}
use Rattle.amqp_endpoint_attached.specs.TakenOut.{TakenOut}
use Rattle.amqp_endpoint_messages.specs.Dispositions.{SendsEach, said_by}
use Rattle.amqp_endpoint_messages.specs.All.{TellsIn, behind_told}
use Rattle.amqp_endpoint_messages.specs.Echoing.{echoes_of}
use Rattle.amqp_endpoint_messages.specs.Reached.{behind_one, behind_reached, end_behind, link_behind}
use Rattle.amqp_endpoint_linking.specs.Linking.{Link, Links}
use Rattle.amqp_endpoint_link_hearing.specs.Detaching.{TellsAndParts}
use Rattle.amqp_endpoint_link_hearing.specs.Disposing.{TellsAndEchoes}
use Rattle.amqp_endpoint_link_hearing.specs.Flowing.{LeaveWith}
use Rattle.amqp_endpoint_link_hearing.specs.InSession.{AnswersIf, Closes, ClosesIf, Parts}
use Rattle.amqp_endpoint_link_hearing.specs.Transferring.{Remembers, remembering}
use Rattle.amqp_endpoint_link_hearing.proofs.Releases.{all-freed, frees}

-- a session that stays goes on by no step
stays-inside : (old : Linked) (frames : List SessionFrame) (new : Linked) → new ≡ old → frames ≡ []
    → DoneInside gives old.session frames new.session
stays-inside old frames new same silent =
    same-inside gives old.session new.session [] frames silent
    (none-inside gives old.session new.session (ap (λ (s : Linked). s.session) same))

-- a link sends its Detach, as it is changed
given-inside : (handle : OutputHandle) (closed : Bool) (error : Option Error) (old : Linked)
    (frames : List SessionFrame) (new : Linked) → DetachGiven old handle closed error [] new frames
    → DoneInside gives old.session frames new.session
given-inside handle closed error old frames new g =
    let s = g.sent in
    changed-inside gives old.session s.mid new.session handle.0 (record { number = g.number; link = g.before })
    (record { number = g.number; link = g.after }) frames s.changed
    (said-inside gives s.mid new.session handle (behind.Detach (own_detach handle closed error)) s.left s.answer frames
    s.sent (g.added ∙ s.frames_are))

closed-inside : (there : Bool) (why : Option Error) (handle : OutputHandle) (frames : List SessionFrame)
    (old new : Linked) → ClosesIf there why old handle frames new → DoneInside gives old.session frames new.session
closed-inside true why handle frames old new g = given-inside handle true why old frames new g
closed-inside false why handle frames old new g = stays-inside old frames new g.0 g.1

-- it is closed
pub closes-inside : (why : Option Error) (handle : OutputHandle) (frames : List SessionFrame) (old new : Linked)
    → Closes why handle frames old new → DoneInside gives old.session frames new.session
closes-inside why handle frames old new c =
    closed-inside (is_there (end_at old handle)) why handle frames old new c

-- it leaves its session, or not
out-inside : (handle : OutputHandle) (left : Option Link) (old new : Linked) → TakenOut old handle left new
    → DoneInside gives old.session [] new.session
out-inside handle None old new (why, same) = stays-inside old [] new same refl
out-inside handle (Some link) old new (there, stepped, rest) =
    one-inside gives old.session new.session (Deallocates handle.0) stepped tt tt

-- the peer's Detach is answered, or not
answered-inside : (answers : Bool) (handle : OutputHandle) (closed : Bool) (error : Option Error)
    (frames : List SessionFrame) (old new : Linked) → AnswersIf answers old handle closed error frames new
    → DoneInside gives old.session frames new.session
answered-inside true handle closed error frames old new r =
    let s = r.said in
    said-inside gives old.session new.session handle (behind.Detach (own_detach handle closed error)) s.left s.answer
    frames s.sent (r.added ∙ s.frames_are)
answered-inside false handle closed error frames old new r = stays-inside old frames new r.0 r.1

pub parts-inside : (handle : OutputHandle) (answers closed : Bool) (error : Option Error) (left : Option Link)
    (frames : List SessionFrame) (old new : Linked) → Parts handle answers closed error left frames old new
    → DoneInside gives old.session frames new.session
parts-inside handle answers closed error left frames old new p =
    silent-behind gives old.session (p.mid).session new.session frames
    (answered-inside answers handle closed error frames old p.mid p.answered) (out-inside handle left p.mid new p.out)

-- a link tells of messages
pub told-inside : (count : ℕ) (handle : OutputHandle) (link : Option Link) (old new : LinksIn)
    → TellsIn count handle link old new → DoneInside gives old [] new
told-inside count handle None old new is = none-inside gives old new is
told-inside count handle (Some link) old new stepped =
    one-inside gives old new (Changes handle.0 link (record link { link = behind_told count link.link })) stepped tt tt

pub tells-parts-inside : (count : ℕ) (handle : OutputHandle) (answers closed : Bool) (error : Option Error)
    (left : Option Link) (frames : List SessionFrame) (old new : Linked)
    → TellsAndParts count handle answers closed error left frames old new
    → DoneInside gives old.session frames new.session
tells-parts-inside count handle answers closed error left frames old new t =
    both-inside gives old.session (t.mid).session new.session [] frames
    (told-inside count handle (link_at old.session handle.0) old.session (t.mid).session (t.tells).tells)
    (parts-inside handle answers closed error left frames t.mid new t.parts)

-- links tell what became of messages first
reached-inside : (s : LinksIn) (deliveries : List Touched) (frames : List SessionFrame) (new : LinksIn)
    → DoneInside gives (behind_reached s deliveries) frames new → DoneInside gives s frames new
reached-inside s [] frames new d = d
reached-inside s (delivery ∷ rest) frames new d =
    at (link_at s delivery.handle.0) refl (reached-inside (behind_one s delivery) rest frames new d)
  where
    at : (o : Option Link) → link_at s delivery.handle.0 ≡ o
        → DoneInside gives (link_behind s delivery.handle.0 delivery.tag o) frames new → DoneInside gives s frames new
    at None there d = d
    at (Some link) there d =
        changed-inside gives s (link_behind s delivery.handle.0 delivery.tag (Some link)) new delivery.handle.0 link
        (record link { link = end_behind delivery.tag link.link }) frames (there, refl) d

-- Dispositions are sent
each-inside : (old : LinksIn) (told : List Disposition) (new : LinksIn) → SendsEach gives old told new
    → DoneInside gives old [] new
each-inside old [] new is = none-inside gives old new is
each-inside old (d ∷ rest) new (mid, one, others) =
    step-inside gives old mid new (SendsDisposition d one.settled) [] one.stepped tt tt
    (each-inside mid rest new others)

pub tells-echoes-inside : (deliveries : List Touched) (state : Option DeliveryState) (runs : List (ℕ × ℕ))
    (frames : List SessionFrame) (events : List Event) (old new : Linked)
    → TellsAndEchoes deliveries state runs frames events old new → DoneInside gives old.session frames new.session
tells-echoes-inside deliveries state runs frames events old new t =
    let e = t.echoes in
    let mid : LinksIn = behind_reached old.session deliveries in
    reached-inside old.session deliveries frames new.session
    (alike-inside gives mid new.session [] frames
    (ap said_in e.frames_are
    ∙ none-said (said_by mid.fields) (λ (it : Disposition). refl) (echoes_of state runs))
    (subst (AreOn _) (sym e.frames_are)
    (all-on _ (said_by mid.fields) (λ (it : Disposition). (refl, tt)) (echoes_of state runs)))
    (each-inside mid (echoes_of state runs) new.session e.sends))

-- a link remembers the number of a message, and nothing is handed out
pub remembers-inside : (handle : OutputHandle) (tag : List ℕ) (number : ℕ) (old new : Linked)
    → Remembers handle tag number old new → DoneInside gives old.session [] new.session
remembers-inside handle tag number old new r =
    one-inside gives old.session new.session
    (Changes handle.0 r.link (record r.link { link = remembering (r.link).link tag number })) r.changed tt tt

-- own handles are taken back
freed-inside : (handles : List OutputHandle) (old new : Linked) → AskingHistory gives old (frees handles) new
    → DoneInside gives old.session [] new.session
freed-inside [] old new same = stays-inside old [] new same refl
freed-inside (handle ∷ handles) old new (mid, (stepped, rest), others) =
    step-inside gives old.session mid.session new.session (Deallocates handle.0) [] stepped tt tt
    (freed-inside handles mid new others)

-- links leave with frames that were handed out before, and nothing is handed out
pub leave-inside : (frames : List SessionFrame) (before : Linked) (links : Links) (after : Linked) (links_new : Links)
    → LeaveWith frames before links after links_new → DoneInside gives before.session [] after.session
leave-inside frames before links after links_new l =
    let f = all-freed frames before after links links_new l in
    freed-inside f.handles before after f.history
