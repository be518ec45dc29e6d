-- How a message is sent by a link in the session that holds it, or isn't.
use Rattle.std.proofs.Common.{◌≡◌, ℕ, Bool, List, [], ◌∷◌, Option, Some, Result, Ok, Err, refl, sym, subst}
use Rattle.std.proofs.Common.{◌∙◌, append-nil, length}
use Rattle.std.specs.Prelude.{All, IfErr, IfOk, OnErr, drop}
use Rattle.std.specs.Global.{Box}
use Rattle.amqp_session_types.specs.declared.handles.OutputHandle.{OutputHandle}
use Rattle.amqp_session_performatives.specs.declared.session_frame.SessionFrame.{SessionFrame}
use Rattle.amqp_session_core.specs.Steps.{Changes, SendsTransfers}
use Rattle.amqp_link_base.specs.declared.detached.Detached.{Detached}
use Rattle.amqp_link_receiver.specs.declared.answer.Told.{Told}
use Rattle.amqp_link_sender.specs.Sends.{entry_unless, sent, with_room}
use Rattle.amqp_link.specs.declared.end.End.{End}
use Rattle.amqp_link.specs.declared.relay.AttachTold.{AttachTold}
use Rattle.amqp_endpoint_links.specs.declared.numbered.Numbered.{Numbered}
use Rattle.amqp_endpoint_links.specs.History.{AskingHistory, AskingAct, InSession}
use Rattle.amqp_endpoint_tables.specs.State.{live_at}
use Rattle.amqp_endpoint_model.specs.declared.call.Sending.{Sending}
use Rattle.amqp_endpoint_model.specs.declared.error.EndpointError.{EndpointError}
use Rattle.amqp_endpoint_fitting.specs.Handed.{AllAskingHand}
use Rattle.amqp_endpoint_fitting.specs.Read.{IsRead}
use Rattle.amqp_endpoint_conversation.specs.Going.{Goes}
use Rattle.amqp_endpoint_conversation.proofs.Calls.{changed-goes}
use Rattle.amqp_endpoint_conversation.proofs.Goings.{read-behind}
use Rattle.amqp_endpoint_attached.specs.Linked.{Linked, gives}
use Rattle.amqp_endpoint_messages.specs.Sending.{Message, MessageSent, SendAnswered, sending, with_tag}
use Rattle.amqp_endpoint_link_calls.specs.Calling.{DoneIn}
use Rattle.amqp_endpoint_link_calls.specs.Places.{LinkTalk}
use Rattle.amqp_endpoint_link_calls.proofs.Done.{changed, done-in}
use Rattle.amqp_endpoint_link_calls.proofs.Going.{answers-plain, same-goes}
use Rattle.amqp_endpoint_link_calls.specs.Sending.{BarsSendIn, sends}

-- the session is lent
module _ (old : LinkTalk) (number : ℕ) (handle : OutputHandle) (lent : Box Linked)
    (live : live_at old.sessions number ≡ Some lent) (before after : Linked) (out out_new : List SessionFrame)
    (same : before ≡ lent.value) (limit : ℕ) (tag : List ℕ) (message : Sending) where
  pub sent-ok : (result : Result Bool EndpointError)
      → SendAnswered before limit handle (with_tag tag message) result out after out_new
      → IfOk result (λ settled. DoneIn (sends limit tag message settled) number handle old out
      (changed old number lent live after) out_new)
  sent-ok (Ok settled) answered =
      let s = subst (λ (b : Linked). MessageSent b limit handle (with_tag tag message) settled out after out_new) same
      answered in
      done-in old number lent live (sends limit tag message settled) handle after (s.sends).frames out out_new
      (record {
        number = s.number;
        before = s.before;
        room = s.room;
        transfers = s.transfers;
        mid = s.mid;
        taken = s.taken;
        allowed = s.allowed;
        went = s.went;
        is_room = s.is_room;
        splits = s.splits;
        fit = s.fit;
        prepares = s.prepares;
        sends = record {
          left = (s.sends).left;
          frames = (s.sends).frames;
          added = refl;
          stepped = (s.sends).stepped;
        };
        commits = s.commits;
        rest = s.rest;
      })
      (s.sends).added
  sent-ok (Err e) answered = tt

  pub sent-err : (result : Result Bool EndpointError)
      → SendAnswered before limit handle (with_tag tag message) result out after out_new
      → IfErr result (BarsSendIn limit (live_at old.sessions number) handle (with_tag tag message))
  sent-err (Ok settled) answered = tt
  sent-err (Err e) answered =
      subst (λ (o : Option (Box Linked)). BarsSendIn limit o handle (with_tag tag message) e) (sym live)
      (subst (λ (b : Linked). SendAnswered b limit handle (with_tag tag message) (Err e) out after out_new) same
      answered)

abbrev LinkAct : Type 0
LinkAct = AskingAct (Numbered End) AttachTold Told Detached

-- the steps of its session by which a message is sent: its link makes room, the session takes the transfers, and the
-- link has sent it
module _ (limit : ℕ) (handle : OutputHandle) (m : Message) (settled : Bool) (before after : Linked)
    (frames : List SessionFrame) (did : MessageSent before limit handle m settled [] after frames) where
  abbrev steps : List LinkAct
  steps =
      InSession (Changes handle.0 (sending did.number did.before) (sending did.number (with_room did.before)))
      ∷ InSession (SendsTransfers handle did.transfers (did.sends).left (did.sends).frames)
      ∷ InSession (Changes handle.0 (sending did.number (with_room did.before))
      (sending did.number (sent (with_room did.before) (entry_unless settled m.tag m.format m.payload))))
      ∷ []

  history : AskingHistory gives before steps after
  history = (
    record before { session = did.mid },
    (did.prepares, refl),
    (
      record before { session = did.taken },
      ((did.sends).stepped, refl),
      (after, (did.commits, did.rest), refl),
    ),
  )

  hands : AllAskingHand steps frames
  hands = (
    [],
    frames,
    refl,
    (
      (did.sends).frames,
      [],
      refl,
      ([], [], refl, refl, refl),
      (did.sends).added ∙ sym (append-nil (did.sends).frames),
    ),
    refl,
  )

-- what is sent fits, and so does what waits then
module _ (old new : LinkTalk) (number : ℕ) (handle : OutputHandle) (out out_new : List SessionFrame) (from : ℕ)
    (is : from ≡ length out) (reads : All IsRead (drop from out_new)) (limit : ℕ) (tag : List ℕ) (message : Sending)
  where
    pub sent-goes : (result : Result Bool EndpointError)
        → IfOk result (λ settled. DoneIn (sends limit tag message settled) number handle old out new out_new)
        → OnErr result ((new ≡ old) × (out_new ≡ out)) → Goes limit old new out out_new
    sent-goes (Ok settled) d kept =
        subst (λ (o : List SessionFrame). Goes limit old new out o) (sym d.queued)
        (changed-goes gives limit number old new d.before d.after
        (steps limit handle (with_tag tag message) settled d.before.value d.after.value d.frames d.did) d.frames out
        d.stepped (history limit handle (with_tag tag message) settled d.before.value d.after.value d.frames d.did)
        answers-plain (tt, ((d.did).fit ((((d.before).value).session).fields).channel.0, (tt, tt)))
        (tt, (tt, (tt, tt)))
        (hands limit handle (with_tag tag message) settled d.before.value d.after.value d.frames d.did)
        (read-behind out out_new d.frames from is d.queued reads))
    sent-goes (Err e) d kept = same-goes old new out out_new kept.0 kept.1 limit
