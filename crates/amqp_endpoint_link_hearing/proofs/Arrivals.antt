-- A message that one Transfer brings whole is handed out at once.
use Rattle.std.proofs.Common.{◌≡◌, inl, ℕ, ◌+◌, ◌-◌, ◌<◌, ◌≤◌, ◌^◌, Bool, true, false, List, [], ◌∷◌, ◌++◌, Option, Some}
use Rattle.std.proofs.Common.{None, IsSome, refl, sym, ap, subst, ◌∙◌}
use Rattle.std.specs.Prelude.{IfSome, unwrap_or, option_to_list, if◌then◌else◌}
use Rattle.amqp_session_types.specs.declared.channels.IncomingChannel.{IncomingChannel}
use Rattle.amqp_session_performatives.specs.declared.session_frame.SessionFrame.{SessionFrame}
use Rattle.amqp_session_performatives.specs.declared.transfer.Transfer.{Transfer}
use Rattle.amqp_session_core.specs.AtOnce.{is_settled, numbered}
use Rattle.amqp_session_core.specs.Steps.{Changes, Step}
use Rattle.amqp_session_core.specs.ToldAtOnce.{due_flow}
use Rattle.amqp_session_core.specs.declared.at_once.TakenAtOnce.{TakenAtOnce}
use Rattle.amqp_session_core.specs.declared.incoming.TransferTaken.{TransferTaken}
use Rattle.amqp_link_base.specs.Said.{begun}
use Rattle.amqp_link_receiver.specs.Reading.{says}
use Rattle.amqp_link_receiver.specs.Readings.{message_said}
use Rattle.amqp_link_receiver.specs.declared.answer.Message.{Message}
use Rattle.amqp_link_receiver.specs.declared.answer.Told.{Told}
use Rattle.amqp_link.specs.Gives.{names, tells}
use Rattle.amqp_link.specs.declared.end.End.{End}
use Rattle.amqp_link.specs.declared.end.End.TheVariants.{Receiver, Sender}
use Rattle.amqp_endpoint_links.specs.Numbering.{naming}
use Rattle.amqp_endpoint_links.specs.declared.hearing.LinkPerformative.TheVariants as said
use Rattle.amqp_endpoint_links.specs.declared.hearing.PerformativeTaken.TheVariants as taken
use Rattle.amqp_endpoint_conversation.specs.AtOnce.{NamesIn, NamesUnless, TakesWhole}
use Rattle.amqp_endpoint_conversation.specs.Going.{Goes}
use Rattle.amqp_endpoint_conversation.specs.declared.hearing.Heard.TheVariants.{Live}
use Rattle.amqp_endpoint_fitting.specs.Read.{IsRead}
use Rattle.amqp_endpoint_tables.specs.State.{live_at}
use Rattle.amqp_endpoint_model.specs.Arriving.{SaysDelivery, arrived}
use Rattle.amqp_endpoint_model.specs.declared.arrival.Arrival.{Arrival}
use Rattle.amqp_endpoint_model.specs.declared.event.Event.{Event}
use Rattle.amqp_endpoint_model.specs.declared.event.Event.TheVariants as event
use Rattle.amqp_endpoint_attached.specs.Linked.{gives}
use Rattle.amqp_endpoint_linking.specs.Handed.{Hands}
use Rattle.amqp_endpoint_linking.specs.Linking.{Link, Links, Session, Talk}
use Rattle.amqp_endpoint_link_hearing.specs.InSession.{GoesOn}
use Rattle.amqp_endpoint_link_hearing.specs.Naming.{link_in, link_of}
use Rattle.amqp_endpoint_link_hearing.specs.Saying.{LinkHeard}
use Rattle.amqp_endpoint_link_hearing.specs.Taking.{FlowFits}
use Rattle.amqp_endpoint_link_hearing.specs.Transferring.{HandsOver, HearsTransfer, Remembers, RemembersUnless}
use Rattle.amqp_endpoint_link_hearing.specs.Transferring.{delivery_of, message_told, remembering}
use Rattle.amqp_endpoint_link_hearing.proofs.Transferred.{taken-goes}
use Rattle.amqp_endpoint_link_hearing.proofs.Transfers.{stands-for}

-- how a transfer says that its delivery is settled
settled-so : (said : Option Bool) → says said ≡ unwrap_or said false
settled-so None = refl
settled-so (Some settled) = refl

-- an end of a link remembers the number of a transfer's message
remembers-so : (end : End) (t : Transfer) (message : ℕ) → names end t message ≡ remembering end (unwrap_or t.delivery_tag []) message
remembers-so (Receiver r) t message = refl
remembers-so (Sender s) t message = refl

-- its link keeps its number
same-number : (b : Bool) (link : Link) (t : Transfer) (message : ℕ)
    → (if b then link else naming names link t message).number ≡ link.number
same-number true link t message = refl
same-number false link t message = refl

module _ (old : Talk) (channel : IncomingChannel) (t : Transfer) (payload : List ℕ) (given session : ℕ) (it : TakenAtOnce)
    (new : Talk) (w : TakesWhole gives tells (naming names) old channel t payload given session it new) where
  abbrev message : Message
  message = message_said (begun t payload)

  abbrev flow : Option SessionFrame
  flow = due_flow (w.after).value.session it.is_due

  abbrev took : TransferTaken Told
  took = record { told = tells t payload; flow = flow }

  abbrev heard : LinkHeard
  heard = Live session (taken.Transfer took)

  pub says-it : SaysDelivery t
  says-it = record { number = w.delivery; tag = w.tag }

  pub stands-there : link_of new session it.handle ≡ Some (numbered (naming names) w.link t given)
  stands-there = ap (λ (o : Option Session). link_in o it.handle) w.goes_on ∙ w.stands

  pub is-there : IsSome (link_of new session it.handle)
  is-there = subst (λ (o : Option Link). IsSome o) (sym stands-there) refl

  pub lives : IsSome (live_at new.sessions session)
  lives = subst (λ (o : Option Session). IsSome o) (sym w.goes_on) refl

  remembers-by : (settled : Bool) → NamesUnless gives tells (naming names) settled w.mid session it.handle.0 w.link t given new
      → RemembersUnless settled it.handle message.delivery_tag given w.mid session new
  remembers-by true is = is
  remembers-by false n =
      record {
        before = n.before;
        after = n.after;
        done =
            record {
              link = w.link;
              changed =
                  subst
                  (λ (after : Link). Step gives n.before.value.session (Changes it.handle.0 w.link after) n.after.value.session)
                  (ap (λ (end : End). record w.link { link = end }) (remembers-so w.link.link t given)) n.changed;
              rest = n.alone;
            };
        stepped = n.stepped;
        rest = n.rest;
      }

  remembers : RemembersUnless message.settled it.handle message.delivery_tag given w.mid session new
  remembers =
      remembers-by message.settled
      (subst
      (λ (b : Bool). NamesUnless gives tells (naming names) b w.mid session it.handle.0 w.link t given new)
      (sym (settled-so t.settled)) w.named)

  -- what is told of it, as it is said to be settled
  abbrev told-as : ℕ → Bool → List Event
  told-as link settled =
      event.Message (record {
        link = link;
        message = given;
        delivery = record (delivery_of it.handle message) { rcv_settle_mode = (if settled then None else t.rcv_settle_mode) };
        settled = settled;
      })
      ∷ []

  pub told-so : (link : ℕ) → arrived (record { link = link; message = given; handle = it.handle }) t payload ∷ []
      ≡ message_told link given it.handle message
  told-so link = ap (told-as link) (sym (settled-so t.settled))

  hands-over : (left : given < 2 ^ 64 - 1) (link given_new : ℕ) → link ≡ w.link.number → given_new ≡ given + 1
      → HandsOver old given t session message w.mid []
      (arrived (record { link = link; message = given; handle = it.handle }) t payload ∷ []) new given_new
  hands-over left link given_new is counted =
      record {
        left = left;
        stood = w.stood;
        live = w.live;
        handle = it.handle;
        reaches = w.reaches;
        link = w.link;
        there = ap (λ (o : Option Session). link_in o it.handle) w.going ∙ w.there;
        remembers = remembers;
        silent = refl;
        tells = told-so link ∙ ap (λ (n : ℕ). message_told n given it.handle message) is;
        counted = counted;
      }

  -- it is heard as any Transfer is
  pub heard-at-once : (left : given < 2 ^ 64 - 1) (link given_new : ℕ) → link ≡ w.link.number → given_new ≡ given + 1
      → (links : Links) → HearsTransfer old links given channel t payload (option_to_list flow)
      (arrived (record { link = link; message = given; handle = it.handle }) t payload ∷ []) new links given_new
  heard-at-once left link given_new is counted links =
      inl (record {
        heard = heard;
        mid = w.mid;
        answered = w.answered;
        becomes =
            record { own = []; comes = hands-over left link given_new is counted; sent = refl };
        same = refl;
      })

  pub number-is : (link : ℕ) → ((l : Link) → link_of new session it.handle ≡ Some l → link ≡ l.number) → link ≡ w.link.number
  number-is link is = is (numbered (naming names) w.link t given) stands-there ∙ same-number (is_settled t) w.link t given

  -- and the Flow goes behind
  pub hands-flow : (due : Option SessionFrame) → ((s : Session) → live_at new.sessions session ≡ Some s
      → due ≡ due_flow s.value.session it.is_due) → (left : given < 2 ^ 64 - 1) (link given_new : ℕ)
      → ((l : Link) → link_of new session it.handle ≡ Some l → link ≡ l.number) → given_new ≡ given + 1
      → (out out_new : List SessionFrame) → out_new ≡ out ++ option_to_list due
      → Hands (λ (frames : List SessionFrame). (links : Links) → HearsTransfer old links given channel t payload frames
      (arrived (record { link = link; message = given; handle = it.handle }) t payload ∷ []) new links given_new) out out_new
  hands-flow due is left link given_new number counted out out_new handed =
      record {
        frames = option_to_list flow;
        is_so = heard-at-once left link given_new (number-is link number) counted;
        queued = handed ∙ ap (λ (o : Option SessionFrame). out ++ option_to_list o) (is w.after w.goes_on);
      }

  flow-fits : FlowFits flow
  flow-fits = (stands-for old channel [] t payload heard (Some (session, took)) refl w.mid [] w.answered).1

  pub goes-at-once : (limit : ℕ) → 512 ≤ limit → (due : Option SessionFrame) → ((s : Session) → live_at new.sessions session ≡ Some s
      → due ≡ due_flow s.value.session it.is_due) → IfSome due IsRead
      → (out out_new : List SessionFrame) → out_new ≡ out ++ option_to_list due → Goes limit old new out out
      → Goes limit old new out out_new
  goes-at-once limit least due is read out out_new handed g =
      taken-goes old session t.handle.0 out out due new out_new handed limit least
      (subst FlowFits (sym (is w.after w.goes_on)) flow-fits) read g
