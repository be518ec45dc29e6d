-- What is done inside of the session that holds a link, as it sends a message or disposes of messages.
use Rattle.std.proofs.Common.{ℕ, Bool, List, [], ◌∷◌, ◌++◌, refl, sym, ap, subst, ◌∙◌, append-nil}
use Rattle.amqp_session_types.specs.declared.handles.OutputHandle.{OutputHandle}
use Rattle.amqp_session_performatives.specs.declared.disposition.Disposition.{Disposition}
use Rattle.amqp_session_performatives.specs.declared.session_frame.SessionFrame.{SessionFrame}
use Rattle.amqp_session_core.specs.Steps.{Changes, SendsDisposition, SendsTransfers}
use Rattle.amqp_link_sender.specs.Sends.{entry_unless, sent, with_room}
use Rattle.amqp_endpoint_model.specs.declared.call.Disposal.{Disposal}
use Rattle.amqp_endpoint_model.specs.declared.call.Sending.{Sending}
use Rattle.amqp_endpoint_conversation.specs.Inside.{AcceptsInside, AreOn, DoneInside, said_in}
use Rattle.amqp_endpoint_conversation.proofs.Inside.{alike-inside, all-on, changed-inside, left-on, none-said}
use Rattle.amqp_endpoint_conversation.proofs.Inside.{none-inside}
use Rattle.amqp_endpoint_conversation.proofs.Inside.{one-inside, same-inside, step-inside}
use Rattle.amqp_endpoint_attached.specs.Linked.{Linked, LinksIn, end_at, gives}
use Rattle.amqp_endpoint_messages.specs.Disposing.{DisposesOfAll, DisposesOfOne}
use Rattle.amqp_endpoint_messages.specs.Dispositions.{IsDisposed, SendsEach, said_by}
use Rattle.amqp_endpoint_messages.specs.Sending.{Message, MessageSent, sending, with_tag}
use Rattle.amqp_endpoint_link_calls.proofs.Inside.{StaysInside}
use Rattle.amqp_endpoint_link_calls.specs.Disposing.{disposes_of_all, disposes_of_one}
use Rattle.amqp_endpoint_link_calls.specs.Keeping.{kept_tags}
use Rattle.amqp_endpoint_link_calls.specs.Sending.{sends}
use Rattle.amqp_endpoint_link_calls.proofs.Disposed.{ChangesLink, all-change, one-change}

-- its link makes room for a message, the session takes the transfers, and the link has sent it
message-inside : (limit : ℕ) (m : Message) (settled : Bool) (handle : OutputHandle) (before after : Linked)
    (frames : List SessionFrame) (did : MessageSent before limit handle m settled [] after frames)
    → AcceptsInside gives ((handle.0, did.transfers) ∷ []) before.session frames after.session
message-inside limit m settled handle before after frames did =
    let s = did.sends in
    changed-inside gives before.session did.mid after.session handle.0 (sending did.number did.before)
    (sending did.number (with_room did.before)) frames did.prepares
    (same-inside gives did.mid after.session (s.frames ++ []) frames (s.added ∙ sym (append-nil s.frames))
    (step-inside gives did.mid did.taken after.session (SendsTransfers handle did.transfers s.left s.frames) []
    s.stepped tt (subst (AreOn _) (sym (s.stepped).1) (left-on (did.mid).fields s.left))
    (one-inside gives did.taken after.session
    (Changes handle.0 (sending did.number (with_room did.before))
    (sending did.number (sent (with_room did.before) (entry_unless settled m.tag m.format m.payload)))) did.commits
    tt tt)))

pub sends-inside : (limit : ℕ) (tag : List ℕ) (message : Sending) (settled : Bool) (handle : OutputHandle)
    (before after : Linked) (frames : List SessionFrame)
    (did : sends limit tag message settled handle before frames after)
    → AcceptsInside gives ((handle.0, did.transfers) ∷ []) before.session frames after.session
sends-inside limit tag message settled handle before after frames did =
    message-inside limit (with_tag tag message) settled handle before after frames did

-- Dispositions are sent
each-inside : (old : LinksIn) (told : List Disposition) (new : LinksIn) → SendsEach gives old told new
    → DoneInside gives old [] new
each-inside old [] new is = none-inside gives old new is
each-inside old (d ∷ rest) new (mid, one, others) =
    step-inside gives old mid new (SendsDisposition d one.settled) [] one.stepped tt tt
    (each-inside mid rest new others)

-- a link is changed, and they tell it
disposed-inside : (handle : OutputHandle) (Disposes : LinksIn → List Disposition → LinksIn → Type 0)
    → ((s : LinksIn) (told : List Disposition) (mid : LinksIn) → Disposes s told mid → ChangesLink handle s mid)
    → (limit : ℕ) (before after : Linked) (frames : List SessionFrame)
    → IsDisposed Disposes limit before [] after frames → DoneInside gives before.session frames after.session
disposed-inside handle Disposes change limit before after frames d =
    let l : ChangesLink handle before.session d.mid = change before.session d.told d.mid d.disposes in
    alike-inside gives before.session after.session [] frames
    (ap said_in d.added ∙ none-said (said_by (before.session).fields) (λ (it : Disposition). refl) d.told)
    (subst (AreOn _) (sym d.added)
    (all-on _ (said_by (before.session).fields) (λ (it : Disposition). (refl, tt)) d.told))
    (changed-inside gives before.session d.mid after.session handle.0 l.stood l.stands [] l.changed
    (each-inside d.mid d.told after.session d.sends))

pub disposes-inside : (limit : ℕ) (messages : List ℕ) (disposal : Disposal)
    → StaysInside (disposes_of_all limit messages disposal)
disposes-inside limit messages disposal handle before after frames d =
    let tags : List (List ℕ) = kept_tags (end_at before handle) messages in
    disposed-inside handle (DisposesOfAll handle tags disposal.state disposal.settled)
    (all-change handle tags disposal.state disposal.settled) limit before after frames d

pub disposes-one-inside : (limit message : ℕ) (disposal : Disposal)
    → StaysInside (disposes_of_one limit message disposal)
disposes-one-inside limit message disposal handle before after frames d =
    disposed-inside handle (DisposesOfOne handle d.tag disposal.state disposal.settled)
    (one-change handle d.tag disposal.state disposal.settled) limit before after frames d.disposed
