-- A link sends messages on: what its transfers say.
use Rattle.std.proofs.Common.{◌≡◌, ◌==◌, ℕ, zero, suc, Bool, true, false, List, [], ◌∷◌, ◌++◌, Option}
use Rattle.std.proofs.Common.{Some, None, Ok, Err, ap, append-nil, append_assoc, refl, sym, subst, take, ◌∙◌}
use Rattle.std.specs.Prelude.{◌-◌, Result, if◌then◌else◌, map, option_map}
use Rattle.amqp_session_types.specs.declared.handles.OutputHandle.{OutputHandle}
use Rattle.amqp_session_performatives.specs.declared.attach.Attach.{Attach}
use Rattle.amqp_session_performatives.specs.declared.link_flow.LinkFlow.{LinkFlow}
use Rattle.amqp_session_performatives.specs.declared.transfer.Transfer.{Transfer}
use Rattle.amqp_session_core.specs.Batch.{Transfers}
use Rattle.amqp_link_base.specs.Flows.{attached, sender_flowed}
use Rattle.amqp_link_base.specs.Readings.{Piece}
use Rattle.amqp_link_base.specs.Said.{begun, whole}
use Rattle.amqp_link_base.specs.State.{is_attached}
use Rattle.amqp_link_unsettled.specs.Exchanging.{bytes_before}
use Rattle.amqp_link_types.specs.declared.link_error.LinkError.{LinkError}
use Rattle.amqp_link_unsettled.specs.Messages.{MessageLists, no_messages, open_at}
use Rattle.amqp_link_unsettled.specs.declared.open.Open.{Open}
use Rattle.amqp_link_unsettled.specs.declared.open.Resumption.{Resumption}
use Rattle.amqp_link_unsettled.specs.declared.open.Resumption.TheVariants.{Resend, Resume}
use Rattle.amqp_link_unsettled.specs.declared.open.Waiting.{Waiting}
use Rattle.amqp_link_receiver.specs.State.{credit_from}
use Rattle.amqp_link_sender.specs.Saying.{pieces_of}
use Rattle.amqp_link_sender.specs.SendsOn.{going_on, headed, prepared_on, prepared_waiting, resumed_behind}
use Rattle.amqp_link_sender.specs.declared.sending_on.PreparedSendOn.{PreparedSendOn}
use Rattle.amqp_link_sender.proofs.SayingLemmas.{split-read}
use Rattle.amqp_link_sender.specs.Sending.{flowed}
use Rattle.amqp_link.specs.GoingOn.{goes_on, sends_on_by}
use Rattle.amqp_link.specs.Preparing.{attach_planned}
use Rattle.amqp_link.specs.declared.end.End.{End}
use Rattle.amqp_link.specs.declared.end.End.TheVariants.{Receiver, Sender}
use Rattle.amqp_link.specs.declared.preparing.PreparedAttach.{PreparedAttach}
use Rattle.amqp_link.specs.declared.preparing.PreparedAttach.TheVariants as prepared
use Rattle.amqp_endpoint_attached.specs.Links.{receiver_by, sender_by}
use Rattle.amqp_endpoint_messages.specs.GoingOn.{on_answered, on_planned}
use Rattle.amqp_endpoint_messages.specs.Sending.{on_handle}
use Rattle.amqp_endpoint_messages.specs.SendingOn.{AreCutOn, IsCutOn}
use Rattle.amqp_endpoint_model.specs.declared.link.LinkSettings.{LinkSettings}
use Rattle.amqp_endpoint_laws.specs.Queued.{Message, SayMessages, message_on}
use Rattle.amqp_endpoint_laws.proofs.BehindFlow.{by_link}
use Rattle.amqp_endpoint_laws.proofs.PassedPlaces.{eq-same}
use Rattle.amqp_endpoint_laws.proofs.QueuedOrder.{pieces_by}
use Rattle.amqp_endpoint_laws.proofs.QueuedSaid.{bare, bare-one, bare_said, map-both, says-more}

-- a message that goes on begins with a transfer that says its tag, its format and that it isn't settled, and gives
-- nothing up
pub record IsSaidOn (ready : PreparedSendOn) : Type 0 where
  pub aborted : ready.transfer.aborted ≡ false
  pub tag : List ℕ
  pub tagged : ready.transfer.delivery_tag ≡ Some tag
  pub settled : ready.transfer.settled ≡ Some false

abbrev pub AreSaidOn : List PreparedSendOn → Type 0
AreSaidOn [] = Unit {0}
AreSaidOn (ready ∷ others) = IsSaidOn ready × AreSaidOn others

resumed-so : (m : Open) (place : _) (before : Option ℕ) → IsSaidOn (resumed_behind m place before)
resumed-so m place (Some n) = record { aborted = refl; tag = m.tag; tagged = refl; settled = refl }
resumed-so m place None = record { aborted = refl; tag = m.tag; tagged = refl; settled = refl }

one-so : (m : Open) (r : Resumption) → IsSaidOn (prepared_on m r)
one-so m Resend = record { aborted = refl; tag = m.tag; tagged = refl; settled = refl }
one-so m (Resume place) = resumed-so m place (bytes_before m.payload place)

headed-so : (o : Option Open) (r : Resumption) (others : List PreparedSendOn) → AreSaidOn others
    → AreSaidOn (headed (option_map (λ (m : Open). prepared_on m r) o) others)
headed-so None r others are = tt
headed-so (Some m) r others are = (one-so m r, are)

going-so : (m : MessageLists) (ws : List Waiting) (credit : ℕ) → AreSaidOn (going_on m ws credit)
going-so m [] credit = tt
going-so m (w ∷ ws) credit = by (going-so m ws (credit - 1)) (credit == 0)
  where
    by : AreSaidOn (going_on m ws (credit - 1)) → (b : Bool)
        → AreSaidOn (if b then [] else headed (prepared_waiting m w) (going_on m ws (credit - 1)))
    by others true = tt
    by others false = headed-so (open_at m w.tag) w.resumption (going_on m ws (credit - 1)) others

pub all-so : (link : End) → AreSaidOn (goes_on link)
all-so (Receiver r) = tt
all-so (Sender s) = by (is_attached s.base.local_state)
  where
    by : (b : Bool) → AreSaidOn (if b then going_on s.messages s.messages.waiting s.flow.link_credit else [])
    by true = going-so s.messages s.messages.waiting s.flow.link_credit
    by false = tt

pub by-so : (link : End) (it : LinkFlow) → AreSaidOn (sends_on_by link it)
by-so (Receiver r) it = tt
by-so (Sender s) it = all-so (Sender (flowed s it))

-- so it is of those that go on as a link answers an Attach of the peer's
planned-so : (link : End) (planned : Result PreparedAttach LinkError) (kept : Option LinkFlow)
    → AreSaidOn (on_planned link planned kept)
planned-so (Sender s) (Ok (prepared.Sender plan)) (Some flow) =
    going-so s.messages plan.messages.waiting
    (sender_flowed (attached s.flow s.flow.delivery_count) flow).link_credit
planned-so (Sender s) (Ok (prepared.Receiver plan)) (Some flow) = tt
planned-so (Receiver r) (Ok plan) (Some flow) = tt
planned-so link (Ok plan) None = tt
planned-so link (Err error) None = tt
planned-so link (Err error) (Some flow) = tt

pub answered-so : (link : End) (attach : Attach) (kept : Option LinkFlow) → AreSaidOn (on_answered link attach kept)
answered-so link attach kept = planned-so link (attach_planned link attach) kept

-- a new link has no open messages, so none goes on
none-going : (ws : List Waiting) (credit : ℕ) → going_on no_messages ws credit ≡ []
none-going [] credit = refl
none-going (w ∷ ws) credit = by (credit == 0)
  where
    by : (b : Bool)
        → (if b then [] else headed (prepared_waiting no_messages w) (going_on no_messages ws (credit - 1))) ≡ []
    by true = refl
    by false = refl

sender-none : (its : LinkSettings) (planned : Result PreparedAttach LinkError) (kept : Option LinkFlow)
    → on_planned (sender_by its) planned kept ≡ []
sender-none its (Ok (prepared.Sender plan)) (Some flow) =
    let s = credit_from its.initial_delivery_count in
    none-going plan.messages.waiting (sender_flowed (attached s s.delivery_count) flow).link_credit
sender-none its (Ok (prepared.Receiver plan)) (Some flow) = refl
sender-none its (Ok plan) None = refl
sender-none its (Err error) None = refl
sender-none its (Err error) (Some flow) = refl

pub new-sender-none : (its : LinkSettings) (attach : Attach) (kept : Option LinkFlow)
    → on_answered (sender_by its) attach kept ≡ []
new-sender-none its attach kept = sender-none its (attach_planned (sender_by its) attach) kept

receiver-none : (its : LinkSettings) (planned : Result PreparedAttach LinkError) (kept : Option LinkFlow)
    → on_planned (receiver_by its) planned kept ≡ []
receiver-none its (Ok plan) (Some flow) = refl
receiver-none its (Ok plan) None = refl
receiver-none its (Err error) None = refl
receiver-none its (Err error) (Some flow) = refl

pub new-receiver-none : (its : LinkSettings) (attach : Attach) (kept : Option LinkFlow)
    → on_answered (receiver_by its) attach kept ≡ []
new-receiver-none its attach kept = receiver-none its (attach_planned (receiver_by its) attach) kept

-- the transfers of one link alone
pub pieces-own : (handle : OutputHandle) (batch : Transfers) (batches : List Transfers)
    → pieces_by handle.0 (by_link handle (batch ∷ batches))
    ≡ pieces_of batch ++ pieces_by handle.0 (by_link handle batches)
pieces-own handle batch batches =
    ap (λ (b : Bool). (if b then pieces_of batch else []) ++ pieces_by handle.0 (by_link handle batches))
    (eq-same handle.0)

pub pieces-none : (own h : ℕ) (batches : List Transfers) → (own == h) ≡ false
    → pieces_by h (by_link (record { 0 = own }) batches) ≡ []
pieces-none own h [] apart = refl
pieces-none own h (batch ∷ batches) apart =
    ap (λ (b : Bool). (if b then pieces_of batch else []) ++ pieces_by h (by_link (record { 0 = own }) batches)) apart
    ∙ pieces-none own h batches apart

-- the first so many batches say the first so many messages
pub record SaysOn (handle : OutputHandle) (ons : List PreparedSendOn) (batches : List Transfers) (ms : List Message)
    (w : List Piece) : Type 0 where
  pub count : ℕ
  pub says : SayMessages (w ++ map bare (pieces_by handle.0 (by_link handle batches)))
      (ms ++ map message_on (take count ons))

none-said : (handle : OutputHandle) (ons : List PreparedSendOn) (ms : List Message) (w : List Piece) → SayMessages w ms
    → SaysOn handle ons [] ms w
none-said handle ons ms w s =
    record {
      count = 0;
      says =
          subst (λ (ps : List Piece). SayMessages ps (ms ++ [])) (sym (append-nil w))
          (subst (λ (x : List Message). SayMessages w x) (sym (append-nil ms)) s);
    }

module _ (limit : ℕ) (handle : OutputHandle) where
  -- one message more
  one-said : (ready : PreparedSendOn) (batch : Transfers) → IsSaidOn ready → IsCutOn limit handle ready batch
      → (ms : List Message) (w : List Piece) → SayMessages w ms
      → SayMessages (w ++ map bare (pieces_of batch)) (ms ++ message_on ready ∷ [])
  one-said ready batch is cut ms w s =
      let first : Transfer = on_handle handle ready.transfer in
      says-more w (map bare (pieces_of batch)) ms (bare_said (whole (begun first ready.payload))) s
      (bare-one (pieces_of batch) (whole (begun first ready.payload))
      (split-read first ready.payload cut.room batch cut.splits is.aborted))

  pub cut-says : (ons : List PreparedSendOn) (batches : List Transfers) (all : Bool) (count : ℕ)
      → AreCutOn limit handle ons batches all → AreSaidOn ons → (ms : List Message) (w : List Piece) → SayMessages w ms
      → SaysOn handle ons (take count batches) ms w
  cut-says ons batches all zero cut are ms w s = none-said handle ons ms w s
  cut-says ons [] all (suc count) cut are ms w s = none-said handle ons ms w s
  cut-says [] (batch ∷ batches) all (suc count) cut are ms w s = let clash : batch ∷ batches ≡ [] = cut.0 in absurd cc
  cut-says (ready ∷ others) (batch ∷ batches) all (suc count) (one, rest) (is, are) ms w s =
      let pieces : List Piece = map bare (pieces_of batch) in
      let later : List Piece = map bare (pieces_by handle.0 (by_link handle (take count batches))) in
      let next : SaysOn handle others (take count batches) (ms ++ message_on ready ∷ []) (w ++ pieces) =
      cut-says others batches all count rest are (ms ++ message_on ready ∷ []) (w ++ pieces)
      (one-said ready batch is one ms w s) in
      record {
        count = suc next.count;
        says =
            subst
            (λ (ps : List Piece). SayMessages ps (ms ++ message_on ready ∷ map message_on (take next.count others)))
            (append_assoc w pieces later
            ∙ ap (λ (ps : List Piece). w ++ ps)
            (sym
            (ap (λ (ps : List Piece). map bare ps) (pieces-own handle batch (take count batches))
            ∙ map-both bare (pieces_of batch) (pieces_by handle.0 (by_link handle (take count batches))))))
            (subst (λ (x : List Message). SayMessages ((w ++ pieces) ++ later) x)
            (append_assoc ms (message_on ready ∷ []) (map message_on (take next.count others))) next.says);
      }
