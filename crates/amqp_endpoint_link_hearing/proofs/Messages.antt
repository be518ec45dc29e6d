-- A message is handed out.
use Rattle.std.proofs.Common.{◌≡◌, ℕ, ◌+◌, ◌-◌, ◌<◌, ◌^◌, Bool, true, false, List, [], ◌∷◌, ◌++◌}
use Rattle.std.proofs.Common.{Option, Some, None, IsSome}
use Rattle.std.proofs.Common.{refl, sym, ap, subst, append-nil}
use Rattle.std.specs.Prelude.{slice_set}
use Rattle.std.specs.Box.{with_value}
use Rattle.std.proofs.lemmas.List.Elements.{All-nil}
use Rattle.amqp_session_types.specs.declared.handles.OutputHandle.{OutputHandle}
use Rattle.amqp_session_performatives.specs.declared.session_frame.SessionFrame.{SessionFrame}
use Rattle.amqp_session_core.specs.State.{link_at}
use Rattle.amqp_session_core.specs.Steps.{Changes}
use Rattle.amqp_link_receiver.specs.declared.answer.Message.{Message}
use Rattle.amqp_link_receiver.specs.declared.answer.Told.{Told}
use Rattle.amqp_link_receiver.specs.declared.answer.Told.TheVariants as tells
use Rattle.amqp_link.specs.declared.end.End.{End}
use Rattle.amqp_endpoint_links.specs.History.{InSession}
use Rattle.amqp_endpoint_fitting.specs.Read.{IsRead}
use Rattle.amqp_endpoint_tables.specs.State.{live_at}
use Rattle.amqp_endpoint_model.specs.declared.event.Event.{Event}
use Rattle.amqp_endpoint_conversation.specs.Going.{Goes, Rests}
use Rattle.amqp_endpoint_conversation.proofs.Calls.{changed-goes, changed-rests}
use Rattle.amqp_endpoint_attached.specs.Linked.{Linked, gives}
use Rattle.amqp_endpoint_linking.specs.Handed.{Tells}
use Rattle.amqp_endpoint_linking.specs.Linking.{Link, Session, Talk}
use Rattle.amqp_endpoint_link_hearing.specs.InSession.{ChangesEnd, GoesOn}
use Rattle.amqp_endpoint_link_hearing.specs.Naming.{link_of}
use Rattle.amqp_endpoint_link_hearing.specs.Taking.{DoneFor, HandsBy, reached_of}
use Rattle.amqp_endpoint_link_hearing.specs.Transferring.{Remembers, RemembersUnless, message_told, remembering}
use Rattle.amqp_endpoint_link_hearing.proofs.Lent.{behind-talk, goes-same, rests-same}
use Rattle.amqp_endpoint_link_hearing.proofs.Plain.{answers-plain}

-- the session with another end of a link in the place of one
abbrev pub with-end : Linked → OutputHandle → Link → End → Linked
with-end s handle link after =
    record s {
      session =
          record s.session {
            links = slice_set s.session.links handle.0 (Some (record link { link = after }));
          };
    }

pub changes-in : (becomes : End → End) (s : Linked) (handle : OutputHandle) (link : Link) (after : End)
    → Some link ≡ link_at s.session handle.0 → after ≡ becomes link.link
    → ChangesEnd becomes handle s (with-end s handle link after)
changes-in becomes s handle link after there is =
    record {
      link = link;
      changed = (sym there, ap (λ (end : End). (with-end s handle link end).session) is);
      rest = refl;
    }

-- in the session that is lent
pub changes-on : (becomes : End → End) (handle : OutputHandle) (old : Talk) (session : ℕ) (lent : Session)
    → Some lent ≡ live_at old.sessions session → (before after : Linked) → before ≡ lent.value
    → ChangesEnd becomes handle before after
    → GoesOn (ChangesEnd becomes handle) old session (behind-talk old session lent after)
changes-on becomes handle old session lent is before after same did =
    record {
      before = lent;
      after = with_value lent after;
      done = subst (λ (s : Linked). ChangesEnd becomes handle s after) same did;
      stepped = (sym is, refl);
      rest = refl;
    }

-- unless it is settled
pub remembers-not : (settled : Bool) → settled ≡ true → (handle : OutputHandle) (tag : List ℕ) (number : ℕ)
    (old : Talk) (session : ℕ) → RemembersUnless settled handle tag number old session old
remembers-not settled is handle tag number old session =
    subst (λ (b : Bool). RemembersUnless b handle tag number old session old) (sym is) refl

pub remembers-so : (settled : Bool) → settled ≡ false → (handle : OutputHandle) (tag : List ℕ) (number : ℕ)
    (old : Talk) (session : ℕ) (new : Talk) → GoesOn (Remembers handle tag number) old session new
    → RemembersUnless settled handle tag number old session new
remembers-so settled is handle tag number old session new did =
    subst (λ (b : Bool). RemembersUnless b handle tag number old session new) (sym is) did

-- no frame goes by it
module _ (becomes : End → End) (handle : OutputHandle) (old : Talk) (session : ℕ) (new : Talk)
    (out : List SessionFrame) where
  pub changes-goes : (limit : ℕ) → GoesOn (ChangesEnd becomes handle) old session new → Goes limit old new out out
  changes-goes limit g =
      let d = g.done in
      subst (λ (o : List SessionFrame). Goes limit old new out o) (append-nil out)
      (changed-goes gives limit session old new g.before g.after
      (InSession (Changes handle.0 d.link (record d.link { link = becomes (d.link).link })) ∷ [])
      [] out g.stepped ((g.after).value, (d.changed, d.rest), refl) answers-plain (tt, tt) (tt, tt)
      ([], [], refl, refl, refl) (All-nil IsRead))

  pub changes-rests : GoesOn (ChangesEnd becomes handle) old session new → Rests old new out out
  changes-rests g = changed-rests session old new g.before g.after out out g.stepped

module _ (handle : OutputHandle) (tag : List ℕ) (number : ℕ) (old : Talk) (session : ℕ) (new : Talk)
    (out : List SessionFrame) where
  abbrev remembered : End → End
  remembered end = remembering end tag number

  pub handed-goes : (settled : Bool) (limit : ℕ) → RemembersUnless settled handle tag number old session new
      → Goes limit old new out out
  handed-goes true limit is = goes-same limit old new out out is refl
  handed-goes false limit g = changes-goes remembered handle old session new out limit g

  pub handed-rests : (settled : Bool) → RemembersUnless settled handle tag number old session new
      → Rests old new out out
  handed-rests true is = rests-same old new out out is refl
  handed-rests false g = changes-rests remembered handle old session new out g

some-link : (o : Option Link) → IsSome o → (link : Link) × (o ≡ Some link)
some-link None is = absurd cc
some-link (Some link) is = (link, refl)

-- the message is told of
module _ (message : Message) (given : ℕ) (left : given < 2 ^ 64 - 1) (old : Talk) (session input : ℕ)
    (handle : OutputHandle) (reaches : reached_of old session input ≡ Some handle.0) (there : IsSome (link_of old session handle)) where
  hands-by : (new : Talk) (events events_new : List Event)
      → RemembersUnless message.settled handle message.delivery_tag given old session new
      → ((link : Link) → link_of old session handle ≡ Some link
      → events_new ≡ events ++ message_told link.number given handle message)
      → (told : List Event) × HandsBy message given old session input told new × (events_new ≡ events ++ told)
  hands-by new events events_new remembers are =
      let (link, here) = some-link (link_of old session handle) there in (
        message_told link.number given handle message,
        record {
          left = left;
          handle = handle;
          reaches = reaches;
          link = link;
          there = here;
          remembers = remembers;
          tells = refl;
        },
        are link here,
      )

  pub message-done : (it : Told) → it ≡ tells.Message message → (new : Talk) (given_new : ℕ)
      (out : List SessionFrame) (events events_new : List Event)
      → RemembersUnless message.settled handle message.delivery_tag given old session new
      → ((link : Link) → link_of old session handle ≡ Some link
      → events_new ≡ events ++ message_told link.number given handle message)
      → given_new ≡ given + 1
      → Tells (λ (frames : List SessionFrame) (told : List Event).
      DoneFor it given old session input frames told new given_new) out events out events_new
  message-done it is new given_new out events events_new remembers are counted =
      let (told, hands, queued) = hands-by new events events_new remembers are in
      let so : DoneFor (tells.Message message) given old session input [] told new given_new =
      (hands, refl, counted) in
      record {
        frames = [];
        events = told;
        is_so =
            subst (λ (o : Told). DoneFor o given old session input [] told new given_new) (sym is) so;
        queued = sym (append-nil out);
        are_told = queued;
      }
