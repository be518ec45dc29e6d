-- A link begins to be attached: its call places it in the session, under its number.
use Rattle.std.proofs.Common.{◌≡◌, ◌==◌, ◌⊎◌, inl, inr, ℕ, Bool, List, [], ◌∷◌, Option, ap, refl, subst, sym, ◌∙◌}
use Rattle.std.specs.Prelude.{if◌then◌else◌, option_map}
use Rattle.std.proofs.lemmas.Option.{same_Some}
use Rattle.amqp_session_types.specs.declared.modes.Role.TheVariants.{Sender}
use Rattle.amqp_session_performatives.specs.declared.attach.Attach.{Attach}
use Rattle.amqp_session_performatives.specs.declared.link_flow.LinkFlow.{LinkFlow}
use Rattle.amqp_session_performatives.specs.declared.session_frame.SessionFrame.{SessionFrame}
use Rattle.amqp_link.specs.declared.end.End.{End}
use Rattle.amqp_link_sender.specs.declared.sending_on.PreparedSendOn.{PreparedSendOn}
use Rattle.amqp_endpoint_attached.specs.Answering.{plain}
use Rattle.amqp_endpoint_attached.specs.Ends.{role_of}
use Rattle.amqp_endpoint_attached.specs.Links.{receiver_by, sender_by}
use Rattle.amqp_endpoint_conversation.specs.Windows.{went}
use Rattle.amqp_endpoint_messages.specs.GoingOn.{on_answered}
use Rattle.amqp_endpoint_model.specs.Said.{Said, attaching}
use Rattle.amqp_endpoint_model.specs.declared.call.Call.{Call}
use Rattle.amqp_endpoint_model.specs.declared.call.Call.TheVariants as call
use Rattle.amqp_endpoint_model.specs.declared.event.Event.{Event}
use Rattle.amqp_endpoint_link_calls.specs.Naming.{name_of}
use Rattle.amqp_endpoint.specs.Attaching.{LinkAttached, LinkResumed}
use Rattle.amqp_endpoint.specs.Does.{linked}
use Rattle.amqp_endpoint.specs.declared.linked.LinkedSessions.{LinkedSessions}
use Rattle.amqp_endpoint_laws.specs.Attachments.{attached_in, gone_in, named_if}
use Rattle.amqp_endpoint_laws.specs.Deeds.{Deed, Does, IsDeed}
use Rattle.amqp_endpoint_laws.specs.Opening.{Opens, OpensBy, OpensSending}
use Rattle.amqp_endpoint_laws.specs.Passed.{passes_in}
use Rattle.amqp_endpoint_laws.specs.Queued.{GoesOnBy, message_in}
use Rattle.amqp_endpoint_laws.proofs.AttachedBehind.{AnswersOn}
use Rattle.amqp_endpoint_laws.proofs.PassedPlaces.{eq-same}
use Rattle.amqp_endpoint_laws.proofs.Placing.{IsPlaced, is-again, is-new}
use Rattle.amqp_endpoint_laws.proofs.QueuedFlow.{new-receiver-none, new-sender-none}

-- what goes on of it is what the deed lets it send on; what the deed hands out passes in the session, and it is given
-- nothing to send by it
pub record Opened (old new : LinkedSessions) (deed : Deed) (number link : ℕ) : Type 0 where
  pub limit : ℕ
  pub it : End
  pub events : List Event
  pub placed : IsPlaced old.talk old.links limit number it link events (gone_in deed) new.talk new.links
  pub named : attached_in old deed ≡ name_of it ∷ []
  pub goes_on : (ons : List PreparedSendOn) → AnswersOn (placed.attaches.attaches.before).value it ons
      → (ons ≡ []) ⊎ GoesOnBy link old deed ons
  pub passes : passes_in number old deed ≡ went (gone_in deed)
  pub silent : message_in link deed ≡ []

-- one that sends, with its name
pub record OpenedSending (old new : LinkedSessions) (deed : Deed) (number link : ℕ) (name : List ℕ) : Type 0 where
  pub opened : Opened old new deed number link
  pub sends : role_of (opened.it) ≡ Sender
  pub named : name_of (opened.it) ≡ name

module _ (old new : LinkedSessions) (number link : ℕ) where
  -- by whichever numbers it says so
  moved : (deed : Deed) (n l : ℕ) → n ≡ number → l ≡ link → Opened old new deed n l → Opened old new deed number link
  moved deed n l in_it is o =
      subst (λ (m : ℕ). Opened old new deed m link) in_it (subst (λ (k : ℕ). Opened old new deed n k) is o)

  -- a new link does, and has nothing to send on
  abbrev newly : (deed : Deed) (limit n one : ℕ) (it : End) (events : List Event)
      → LinkAttached old.talk old.links limit n it one events (gone_in deed) new.talk new.links
      → attached_in old deed ≡ name_of it ∷ []
      → ((attach : Attach) (kept : Option LinkFlow) → on_answered it attach kept ≡ [])
      → passes_in n old deed ≡ went (gone_in deed) → message_in one deed ≡ [] → Opened old new deed n one
  newly deed limit n one it events attached named none passes silent =
      record {
        limit = limit;
        it = it;
        events = events;
        placed = is-new old.talk new.talk old.links new.links limit n it one events (gone_in deed) attached;
        named = named;
        goes_on = λ ons on. inl (on.are ∙ none on.asked.attach (option_map plain on.asked.flow));
        passes = passes;
        silent = silent;
      }

  -- what is handed out passes in the session that the call is about
  passed : (n : ℕ) (frames : List SessionFrame) → (if n == n then went frames else []) ≡ went frames
  passed n frames = ap (λ (b : Bool). if b then went frames else []) (eq-same n)

  -- one that was at rest does
  abbrev again : (limit n one answered : ℕ) (events : List Event) (frames : List SessionFrame)
      → LinkResumed old.talk old.links limit one n answered events frames new.talk new.links
      → Opened old new (Does limit (call.Resume one n) (attaching answered events) frames) n one
  again limit n one answered events frames d =
      let i = d.resumes in
      record {
        limit = limit;
        it = i.link;
        events = events;
        placed = is-again old.talk new.talk old.links new.links limit n one answered events frames d;
        named = ap named_if i.may.rests;
        goes_on = λ ons on. inr (
          refl,
          record {
            end = i.link;
            rests = i.may.rests;
            it = i.attaches.before;
            live = (i.attaches.stepped).0;
            input = on.input;
            meets = on.meets;
            asked = on.asked;
            is_asked = on.is_asked;
            are = on.are;
          },
        );
        passes = passed n frames;
        silent = refl;
      }

  opened-by : (it : Call) (answer : Said) (limit : ℕ) (frames : List SessionFrame)
      → IsDeed linked old (Does limit it answer frames) new → OpensBy it answer number link
      → Opened old new (Does limit it answer frames) number link
  opened-by (call.AttachSender n its) (attaching one events) limit frames d (in_it, is) =
      let deed = Does limit (call.AttachSender n its) (attaching one events) frames in
      moved deed n one in_it is
      (newly deed limit n one (sender_by its) events d.0 refl (new-sender-none its) (passed n frames) refl)
  opened-by (call.AttachReceiver n its) (attaching one events) limit frames d (in_it, is) =
      let deed = Does limit (call.AttachReceiver n its) (attaching one events) frames in
      moved deed n one in_it is
      (newly deed limit n one (receiver_by its) events d.0 refl (new-receiver-none its) (passed n frames) refl)
  opened-by (call.Resume one n) (attaching answered events) limit frames d (in_it, is) =
      moved (Does limit (call.Resume one n) (attaching answered events) frames) n one in_it is
      (again limit n one answered events frames d.0)
  opened-by it answer limit frames d opens = absurd opens

  pub opened : (deed : Deed) → IsDeed linked old deed new → Opens deed number link → Opened old new deed number link
  opened (Does limit it answer frames) d opens = opened-by it answer limit frames d opens
  opened deed d opens = absurd opens

  module _ (name : List ℕ) where
    moved-sending : (deed : Deed) (n l : ℕ) → n ≡ number → l ≡ link → OpenedSending old new deed n l name
        → OpenedSending old new deed number link name
    moved-sending deed n l in_it is o =
        subst (λ (m : ℕ). OpenedSending old new deed m link name) in_it
        (subst (λ (k : ℕ). OpenedSending old new deed n k name) is o)

    sending-by : (it : Call) (answer : Said) (limit : ℕ) (frames : List SessionFrame)
        → IsDeed linked old (Does limit it answer frames) new
        → OpensSending old (Does limit it answer frames) number link name
        → OpenedSending old new (Does limit it answer frames) number link name
    sending-by (call.AttachSender n its) (attaching one events) limit frames d (in_it, is, named) =
        let deed = Does limit (call.AttachSender n its) (attaching one events) frames in
        moved-sending deed n one in_it is
        (record {
          opened =
              newly deed limit n one (sender_by its) events d.0 refl (new-sender-none its) (passed n frames) refl;
          sends = refl;
          named = named;
        })
    sending-by (call.Resume one n) (attaching answered events) limit frames d (in_it, is, rest) =
        let same : rest.end ≡ d.0.resumes.link = same_Some _ _ (sym rest.rests ∙ d.0.resumes.may.rests) in
        moved-sending (Does limit (call.Resume one n) (attaching answered events) frames) n one in_it is
        (record {
          opened = again limit n one answered events frames d.0;
          sends = ap role_of (sym same) ∙ rest.sends;
          named = ap name_of (sym same) ∙ rest.named;
        })
    sending-by it answer limit frames d opens = absurd opens

    pub opened-sending : (deed : Deed) → IsDeed linked old deed new → OpensSending old deed number link name
        → OpenedSending old new deed number link name
    opened-sending (Does limit it answer frames) d opens = sending-by it answer limit frames d opens
    opened-sending deed d opens = absurd opens
