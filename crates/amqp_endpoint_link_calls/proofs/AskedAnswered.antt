-- What was made ready for a link that answers one of the peer's serves once it answers.
use Rattle.std.proofs.Common.{◌≡◌, ◌+◌, ◌<◌, ◌≤◌, ◌^◌, ℕ, true, List, ◌++◌, Some, None, Option, Ok, refl, sym, ap}
use Rattle.std.proofs.Common.{subst, ◌∙◌}
use Rattle.std.proofs.Common.{arith}
use Rattle.std.proofs.Common.{length}
use Rattle.std.specs.Prelude.{IsSome, Result, max, min, option_map}
use Rattle.std.specs.Vec.{vec_capacity, vec_len}
use Rattle.std.specs.FinMap as map
use Rattle.std.proofs.lemmas.Option.{same_Some}
use Rattle.amqp_session_types.specs.declared.handles.InputHandle.{InputHandle}
use Rattle.amqp_session_types.specs.declared.handles.OutputHandle.{OutputHandle}
use Rattle.amqp_session_types.specs.declared.error.Error.{Error}
use Rattle.amqp_session_performatives.specs.declared.link_flow.LinkFlow.{LinkFlow}
use Rattle.amqp_session_performatives.specs.declared.session_frame.SessionFrame.{SessionFrame}
use Rattle.amqp_session_outgoing.specs.Queues.{frames_in, room_behind}
use Rattle.amqp_session_outgoing.specs.State as sending
use Rattle.amqp_session_core.specs.Steps.{Allocates, Step}
use Rattle.amqp_session_core.specs.declared.batch.BehindFrame.{BehindFrame}
use Rattle.amqp_session_core.specs.declared.batch.TransferFrame.{TransferFrame}
use Rattle.amqp_link_unsettled.specs.declared.exchanging.Abort.{Abort}
use Rattle.amqp_link_sender.specs.declared.attaching.Attaching.{Attaching}
use Rattle.amqp_link_sender.specs.declared.sending_on.PreparedSendOn.{PreparedSendOn}
use Rattle.amqp_link_types.specs.declared.link_error.LinkError.{LinkError}
use Rattle.amqp_link.specs.Ends.{state_of}
use Rattle.amqp_link.specs.GoingOn.{HasCreditFor, aborts_of}
use Rattle.amqp_link.specs.Preparing.{attach_planned, left_by}
use Rattle.amqp_link.specs.declared.end.End.{End}
use Rattle.amqp_link.specs.declared.preparing.PreparedAttach.{PreparedAttach}
use Rattle.amqp_link.specs.declared.preparing.PreparedAttach.TheVariants as plan
use Rattle.amqp_endpoint_links.specs.declared.links.AskedLink.{AskedLink}
use Rattle.amqp_endpoint_links.specs.declared.numbered.Numbered.{Numbered}
use Rattle.amqp_endpoint_model.specs.State.{error_of}
use Rattle.amqp_endpoint_model.specs.Step.{not_allowed}
use Rattle.amqp_endpoint_model.specs.declared.event.Event.{Event}
use Rattle.amqp_endpoint_attached.specs.Answering.{Answers, IsPrepared, IsTakenSo, RefusesAnswer, left_to_do, plain, said_by}
use Rattle.amqp_endpoint_attached.specs.Linked.{Linked, LinksIn, end_at, gives}
use Rattle.amqp_endpoint_attached.specs.Links.{is_at_rest, offered, with_number}
use Rattle.amqp_endpoint_attached.specs.Refusals.{RefusesHandle}
use Rattle.amqp_endpoint_attached.specs.declared.answering.Answered.{Answered}
use Rattle.amqp_endpoint_attached.specs.declared.exchanging.PreparedAnswer.{PreparedAnswer}
use Rattle.amqp_endpoint_attached.specs.declared.refusal.AttachRefusal.{AttachRefusal}
use Rattle.amqp_endpoint_attached.specs.declared.refusal.AttachRefusal.TheVariants as why
use Rattle.amqp_endpoint_attached.proofs.Owned.{given_by}
use Rattle.amqp_endpoint_attached.proofs.Refusing.{none_left}
use Rattle.amqp_endpoint_messages.specs.All.{open_count}
use Rattle.amqp_endpoint_messages.specs.GivingUp.{attached_told}
use Rattle.amqp_endpoint_messages.specs.GoingOn.{AreOnReady, AreTagged, AttachedAt, DoesAttached, HasCreditThen}
use Rattle.amqp_endpoint_messages.specs.GoingOn.{HasRoomToSend, IsReadyWith, count_on, flowed_by}
use Rattle.amqp_endpoint_messages.specs.GoingOn.{on_answered, on_planned}
use Rattle.amqp_endpoint_messages.specs.MadeReady.{HasRoomToTell, IsClosing, MadeRoom}
use Rattle.amqp_endpoint_messages.specs.declared.going_on.AttachReady.{AttachReady}
use Rattle.amqp_endpoint_messages.specs.declared.going_on.OnReady.{OnReady}
use Rattle.amqp_endpoint_messages.proofs.KeptTaken.{behind-still}
use Rattle.amqp_endpoint_messages.proofs.Planned.{all-bare}
use Rattle.amqp_endpoint_messages.specs.declared.giving_up.Closing.{Closing}
use Rattle.amqp_endpoint_link_calls.specs.Answering.{HasRoomBehind, IsAnswerReady}
use Rattle.amqp_endpoint_link_calls.specs.Attaching.{AnswersAsked}
use Rattle.amqp_endpoint_link_calls.specs.declared.placed.Placed.{Placed}
use Rattle.amqp_endpoint_link_calls.specs.declared.placing.AnswerReady.{AnswerReady}
use Rattle.amqp_endpoint_link_calls.specs.declared.placing.Behind.{Behind}
use Rattle.amqp_endpoint_link_calls.proofs.CreditAnswered.{credit-answered}

-- a session but for its room for transfers
abbrev roomy : Linked → ℕ → Linked
roomy s n = record s { session = record s.session { outgoing = record s.session.outgoing { room = n } } }

made-roomy : (before ready : Linked) → (made : MadeRoom before ready)
    → ready ≡ roomy before (max before.session.outgoing.room (made.made).count)
made-roomy before ready made =
    let r = (made.made).reserves in
    made.rest
    ∙ ap (λ (s : LinksIn). record before { session = s })
    (r.1 ∙ ap (λ (o : sending.State TransferFrame BehindFrame). record before.session { outgoing = o }) r.0)

-- with the room of before it is as it was
least : (room more now : ℕ) → now ≡ room → min (max room more) now ≡ room
least room more now is = omega (arith, is)

pub as-before : (before ready now : Linked) (room : ℕ) (new : LinksIn) → MadeRoom before ready → now ≡ ready
    → room ≡ before.session.outgoing.room
    → new ≡ record now.session {
      outgoing = record now.session.outgoing { room = min now.session.outgoing.room room };
    }
    → record now { session = new } ≡ before
as-before before ready now room new made same was lowers =
    let low : Linked → Linked = λ s. roomy s (min s.session.outgoing.room room) in
    let more : ℕ = (made.made).count in
    ap (λ (s : LinksIn). record now { session = s }) lowers
    ∙ ap low (same ∙ made-roomy before ready made)
    ∙ ap (λ (n : ℕ). roomy before n) (least before.session.outgoing.room more room was)

-- what was made ready of it is as true behind the room
module _ (limit : ℕ) (before ready : Linked) (made : MadeRoom before ready) (link : End) (input : InputHandle)
    (prepared : PreparedAnswer) (is : IsPrepared limit before link input prepared) where
  abbrev room : ℕ
  room = max before.session.outgoing.room (made.made).count

  still-so : IsPrepared limit (roomy before room) link input prepared
  still-so =
      record { asked = is.asked; is_asked = is.is_asked; is = is.is; offers = is.offers; passes = is.passes }

  pub prepared-still : IsPrepared limit ready link input prepared
  prepared-still =
      subst (λ (s : Linked). IsPrepared limit s link input prepared) (sym (made-roomy before ready made)) still-so

  pub taken-still : IsTakenSo ready link input prepared.taken
  taken-still =
      let p = prepared-still in record { asked = p.asked; is_asked = p.is_asked; planned = (p.is).planned }

  -- so is why it gets no handle
  pub refuses-still : (e : AttachRefusal) → RefusesHandle ready.session (Some input.0) e
      → RefusesAnswer limit before link input e
  refuses-still e refuses =
      let p = prepared-still in
      let after : RefusesAnswer limit ready link input e =
      none_left limit ready link input p.asked p.is_asked e p.offers p.passes refuses in
      refused-before e
      (subst (λ (s : Linked). RefusesAnswer limit s link input e) (made-roomy before ready made) after)
    where
      refused-before : (e : AttachRefusal) → RefusesAnswer limit (roomy before room) link input e
          → RefusesAnswer limit before link input e
      refused-before why.HandleMaxReached r = r
      refused-before why.HandleInUse r = r
      refused-before (why.Link error) r = r
      refused-before why.FrameTooLarge r = r
      refused-before why.Memory r = r

-- what a receiver or a sender gives up is what is left to be done
aborts-left : (taken : PreparedAttach) → (left_by taken).aborts ≡ aborts_of taken
aborts-left (plan.Sender p) = refl
aborts-left (plan.Receiver p) = refl

same-handle : (a b : OutputHandle) → a.0 ≡ b.0 → a ≡ b
same-handle a b is = ap (λ (n : ℕ). let h : OutputHandle = record { 0 = n } in h) is

-- all that a link goes by is ready
pub answer-ready : (limit : ℕ) (before ready : Linked) (link : End) (input : InputHandle) (session : ℕ)
    (prepared : PreparedAnswer) (handle : OutputHandle) (closing : Closing) (attach : AttachReady) (behind : Behind)
    (len capacity : ℕ) → IsPrepared limit before link input prepared → handle ≡ offered before.session
    → handle.0 < 2 ^ 32 → IsClosing before session handle (open_count (Some link)) closing → MadeRoom before ready
    → IsReadyWith limit (aborts_of prepared.taken) (on_planned link (Ok prepared.taken) prepared.kept) closing attach
    → AreTagged attach.on → HasRoomBehind attach ready behind len capacity
    → IsAnswerReady limit before ready link input session (record { prepared = prepared; behind = behind }) len
    capacity
answer-ready limit before ready link input session prepared handle closing attach behind len capacity is offers short
    closes made with tagged room =
    let aborts : List Abort = aborts_of prepared.taken in
    let ons : List PreparedSendOn = on_planned link (Ok prepared.taken) prepared.kept in
    let so : IsReadyWith limit aborts ons closing behind.ready =
    subst (λ (a : AttachReady). IsReadyWith limit aborts ons closing a) (sym room.is) with in
    record {
      prepared = is;
      handle = handle;
      offers = offers;
      short = short;
      closing = closing;
      closes = closes;
      room = made;
      behind =
          record {
            ready = so;
            sends = subst (λ (a : AttachReady). HasRoomToSend a ready len capacity) (sym room.is) room.sends;
            tells =
                subst
                (λ (a : AttachReady).
                HasRoomToTell a.closing.count (vec_len behind.events + 1) (vec_capacity behind.events))
                (sym room.is) room.tells;
            none = room.none;
            bare =
                all-bare limit closing.handle aborts behind.ready.giving.batches.items behind.ready.giving.all_fit
                so.giving;
            tagged = subst (λ (a : AttachReady). AreTagged a.on) (sym room.is) tagged;
          };
    }

-- the link answered under the handle for which all was made ready
module _ (limit : ℕ) (before ready mid : Linked) (link : End) (input : InputHandle) (session number : ℕ)
    (made : AnswerReady) (answered : Answered) (out out_mid : List SessionFrame) (len capacity : ℕ)
    (is : IsAnswerReady limit before ready link input session made len capacity)
    (so : IsPrepared limit ready link input made.prepared
    → Answers ready out limit number link input answered mid out_mid) where
  abbrev own : Closing
  own = made.behind.ready.closing

  answers : Answers ready out limit number link input answered mid out_mid
  answers = so (prepared-still limit before ready is.room link input made.prepared is.prepared)

  offered-still : ready.session.offered ≡ before.session.offered
  offered-still = ap (λ (s : Linked). s.session.offered) (made-roomy before ready is.room)

  pub under : answered.handle ≡ is.handle
  under =
      same-handle answered.handle is.handle
      ((answers.allocates).1 ∙ offered-still ∙ sym (ap (λ (h : OutputHandle). h.0) is.offers))

  closing-is : own ≡ is.closing
  closing-is = ((is.behind).ready).closing

  own-is : own.handle ≡ answered.handle
  own-is =
      ap (λ (c : Closing). c.handle) closing-is ∙ ap (λ (c : Closing). c.handle) (is.closes).is ∙ sym under

  pub held : own.session ≡ session
  held = ap (λ (c : Closing). c.session) closing-is ∙ ap (λ (c : Closing). c.session) (is.closes).is

  -- so the link is there
  end-there : end_at mid own.handle ≡ Some answers.becomes
  end-there =
      subst (λ (h : OutputHandle). end_at mid h ≡ Some answers.becomes) (sym own-is)
      (ap (λ (o : Option (Numbered End)). option_map (λ (n : Numbered End). n.link) o)
      (given_by gives ready.session mid.session (answered.handle).0 (with_number number answers.becomes) input.0
      answers.allocates))

  pub there : IsSome (end_at mid own.handle)
  there = subst (λ (o : Option End). IsSome o) (sym end-there) refl

  -- and the room serves
  pub sends-still : (more most : ℕ) → more ≤ len → most ≡ capacity → HasRoomToSend made.behind.ready mid more most
  sends-still more most few same =
      let r = (is.behind).sends in
      let o : mid.session.outgoing ≡ ready.session.outgoing =
      ap (λ (s : LinksIn). s.outgoing) (answers.allocates).5 in
      let fits : more + (frames_in ready.session.outgoing.queues + ready.session.outgoing.room) + 2 ≤ most =
      omega (arith, r.spare, few, same) in
      record {
        room =
            subst
            (λ (s : sending.State TransferFrame BehindFrame).
            length made.behind.ready.giving.batches.items + count_on made.behind.ready.on ≤ s.room)
            (sym o) r.room;
        spare =
            subst
            (λ (s : sending.State TransferFrame BehindFrame). more + (frames_in s.queues + s.room) + 2 ≤ most)
            (sym o) fits;
        place =
            record {
              some = (r.place).some;
              serves =
                  subst
                  (λ (s : sending.State TransferFrame BehindFrame). room_behind own.handle.0 1 s.queues ≤ own.place)
                  (sym o) (r.place).serves;
            };
        behind =
            behind-still ready mid own.handle made.behind.ready.on
            (ap (λ (s : sending.State TransferFrame BehindFrame). s.queues) o) r.behind;
      }

  -- and it has the credit for what it sends on, which is what was kept of a Flow lets go
  same-asked : answers.asked ≡ (is.prepared).asked
  same-asked =
      same_Some answers.asked (is.prepared).asked
      (sym answers.is_asked
      ∙ ap (λ (s : Linked). map.get s.asked input.0) (made-roomy before ready is.room)
      ∙ (is.prepared).is_asked)

  same-kept : answered.kept ≡ made.prepared.kept
  same-kept =
      answers.kept
      ∙ ap (λ (a : AskedLink). option_map plain a.flow) same-asked
      ∙ sym ((is.prepared).is).kept

  ons-are : on_planned link (Ok made.prepared.taken) made.prepared.kept
      ≡ on_answered link (answers.asked).attach answered.kept
  ons-are =
      ap (λ (r : Result PreparedAttach LinkError). on_planned link r made.prepared.kept)
      (sym
      (ap (λ (a : AskedLink). attach_planned link a.attach) same-asked ∙ ((is.prepared).is).planned))
      ∙ ap (λ (k : Option LinkFlow). on_planned link (attach_planned link (answers.asked).attach) k) (sym same-kept)

  pub credit-then : is_at_rest (state_of link) ≡ true
      → HasCreditThen answered.kept own.handle made.behind.ready.on mid
  credit-then rest = by made.behind.ready.on ((is.behind).ready).on
    where
      by : (on : Option OnReady)
          → AreOnReady limit (is.closing).handle (on_planned link (Ok made.prepared.taken) made.prepared.kept) on
          → HasCreditThen answered.kept own.handle on mid
      by None none = tt
      by (Some on) ready_on =
          record {
            link = answers.becomes;
            there = end-there;
            credit =
                subst
                (λ (k : Option LinkFlow).
                HasCreditFor (length on.sending.batches.items) (flowed_by k answers.becomes))
                (sym same-kept)
                (credit-answered limit link answers.asked answered.handle (left_to_do answered) answers.attach
                answers.becomes rest answers.exchanges made.prepared.taken made.prepared.kept (is.closing).handle on
                ready_on);
          }

  -- it goes on by what the peer's Attach leaves to be done
  module _ (after : Linked) (placed : Placed) (out_new : List SessionFrame)
      (left : left_to_do answered ≡ said_by made.prepared.attach.incomplete_unsettled (left_by made.prepared.taken)) (numbered : placed.link ≡ number)
      (holds : placed.session ≡ own.session) (handled : placed.handle ≡ answered.handle)
      (does : (l : ℕ) (aborts : List Abort) (ons : List PreparedSendOn)
      → IsReadyWith l aborts ons own made.behind.ready
      → DoesAttached l own.session own.count own.handle own.why aborts answered.kept ons mid out_mid
      (made.behind.events.items ++ attached_told number answered.exchange) after out_new placed.events.items) where
    abbrev ons : List PreparedSendOn
    ons = on_answered link (answers.asked).attach answered.kept

    aborts-are : aborts_of made.prepared.taken ≡ answered.aborts
    aborts-are = sym (ap (λ (a : Attaching). a.aborts) left ∙ aborts-left made.prepared.taken)

    ready-own : IsReadyWith limit answered.aborts ons own made.behind.ready
    ready-own =
        let r = (is.behind).ready in
        let Ready : List Abort → List PreparedSendOn → Closing → Type 0 = λ aborts more closing.
        IsReadyWith limit aborts more closing made.behind.ready in
        let so : Ready (aborts_of made.prepared.taken) (on_planned link (Ok made.prepared.taken) made.prepared.kept)
        is.closing =
        r in
        subst (λ (c : Closing). Ready answered.aborts ons c) (sym closing-is)
        (subst (λ (l : List PreparedSendOn). Ready answered.aborts l is.closing) ons-are
        (subst
        (λ (l : List Abort). Ready l (on_planned link (Ok made.prepared.taken) made.prepared.kept) is.closing)
        aborts-are so))

    goes-on : DoesAttached limit own.session own.count own.handle own.why answered.aborts answered.kept ons mid out_mid
        (made.behind.events.items ++ attached_told number answered.exchange) after out_new placed.events.items
    goes-on = does limit answered.aborts ons ready-own

    pub asked-answered : AnswersAsked before out limit link input placed after out_new
    asked-answered =
        let d = goes-on in
        let At : ℕ → ℕ → OutputHandle → Error → Type 0 = λ s count h says.
        AttachedAt limit s count h says answered.aborts answered.kept ons d.frames d.events mid after in
        let count_is : own.count ≡ open_count (Some link) =
        ap (λ (c : Closing). c.count) closing-is ∙ ap (λ (c : Closing). c.count) (is.closes).is in
        let is_why : own.why ≡ error_of not_allowed =
        ap (λ (c : Closing). c.why) closing-is ∙ ap (λ (c : Closing). c.why) (is.closes).is in
        record {
          ready = ready;
          makes_room = is.room;
          answered = answered;
          handled = sym handled;
          mid = mid;
          out_mid = out_mid;
          answers =
              record {
                asked = answers.asked;
                is_asked = answers.is_asked;
                attach = answers.attach;
                becomes = answers.becomes;
                exchanges = answers.exchanges;
                allocates =
                    subst
                    (λ (n : ℕ).
                    Step gives ready.session
                    (Allocates answered.handle.0 (with_number n answers.becomes) (Some input.0)) mid.session)
                    (sym numbered) answers.allocates;
                kept = answers.kept;
                rest = answers.rest;
                handed = answers.handed;
              };
          frames = d.frames;
          behind = d.events;
          goes =
              subst (λ (s : ℕ). At s (open_count (Some link)) placed.handle (error_of not_allowed)) (sym holds)
              (subst (λ (n : ℕ). At own.session n placed.handle (error_of not_allowed)) count_is
              (subst (λ (h : OutputHandle). At own.session own.count h (error_of not_allowed)) (own-is ∙ sym handled)
              (subst (λ (w : Error). At own.session own.count own.handle w) is_why d.does)));
          queued = d.queued;
          told =
              d.are_told
              ∙ ap (λ (l : List Event). (l ++ attached_told number answered.exchange) ++ d.events) (is.behind).none
              ∙ ap (λ (n : ℕ). attached_told n answered.exchange ++ d.events) (sym numbered);
        }
