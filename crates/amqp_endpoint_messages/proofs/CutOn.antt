-- The transfers of messages that go on are made ready one message after the other, and fit the peer's frames.
use Rattle.std.proofs.Common.{◌≡◌, ◌⊎◌, inl, inr, ℕ, ◌+◌, ◌<◌, Bool, true, false, List, [], ◌∷◌, ◌++◌, Option, Some}
use Rattle.std.proofs.Common.{None, length, arith, refl, sym, ap, subst, ◌∙◌, append-nil, append_assoc}
use Rattle.std.specs.Prelude.{◌^◌, IsSomeAnd}
use Rattle.amqp_session_types.specs.declared.handles.OutputHandle.{OutputHandle}
use Rattle.amqp_session_states.specs.declared.delivery_state.DeliveryState.{DeliveryState}
use Rattle.amqp_session_states.specs.declared.delivery_state.DeliveryState.TheVariants.{Received as ReceivedState}
use Rattle.amqp_session_states.specs.declared.received.Received.{Received}
use Rattle.amqp_session_performatives.specs.declared.transfer.Transfer.{Transfer}
use Rattle.amqp_session_core.specs.Batch.{Transfers}
use Rattle.amqp_link_unsettled.specs.Exchanging.{bytes_before}
use Rattle.amqp_link_unsettled.specs.declared.open.Open.{Open}
use Rattle.amqp_link_unsettled.specs.declared.open.Resumption.{Resumption}
use Rattle.amqp_link_unsettled.specs.declared.open.Resumption.TheVariants.{Resend, Resume}
use Rattle.amqp_link_sender.specs.Room.{room_of}
use Rattle.amqp_link_sender.specs.SendsOn.{prepared_on, resumed_behind, start}
use Rattle.amqp_link_sender.specs.Splitting.{Splits}
use Rattle.amqp_link_sender.specs.declared.sending_on.PreparedSendOn.{PreparedSendOn}
use Rattle.amqp_link_sender.specs.declared.splitting.SplitRefusal.{SplitRefusal}
use Rattle.amqp_link_sender.specs.declared.splitting.SplitRefusal.TheVariants as split
use Rattle.amqp_endpoint_messages.specs.Sending.{Message, on_handle}
use Rattle.amqp_endpoint_messages.specs.SendingOn.{AreCutOn, CutsOn, IsCutOn, IsOn, transfers_in}
use Rattle.amqp_endpoint_messages.proofs.Fitting.{all-fit-on, first}
use Rattle.amqp_endpoint_messages.proofs.Transfers.{delivery_tagged}

-- an open message, as it was given
abbrev given : Open → Message
given m = record { tag = m.tag; format = m.message_format; payload = m.payload; settled = None }

module _ (limit : ℕ) (handle : OutputHandle) (few : limit < 2 ^ 32) where
  -- the transfers of a message that says this first: each has a tag where it begins the delivery, and fits
  saying : (m : Open) (state : Option DeliveryState) (resume : Bool) (ready : PreparedSendOn) (batch : Transfers)
      (room : ℕ) → on_handle handle ready.transfer ≡ first handle (given m) false state resume
      → room_of (on_handle handle ready.transfer) limit ≡ Some room
      → Splits (on_handle handle ready.transfer) ready.payload room batch → CutsOn limit handle ready (Some batch)
  saying m state resume ready batch room is is_room splits =
      let is_first : room_of (first handle (given m) false state resume) limit ≡ Some room =
      subst (λ (t : Transfer). room_of t limit ≡ Some room) is is_room in
      let these : Splits (first handle (given m) false state resume) ready.payload room batch =
      subst (λ (t : Transfer). Splits t ready.payload room batch) is splits in (
        record {
          room = room;
          is_room = is_room;
          splits = splits;
          fit = λ channel.
              all-fit-on limit channel room handle (given m) false state resume few is_first batch these.delivery
              these.within;
        },
        delivery_tagged (first handle (given m) false state resume) m.tag batch refl these.delivery,
      )

  abbrev placed : Received → Option DeliveryState
  placed place = Some (ReceivedState place)

  -- one that is sent anew, or resumed where its receiver stands
  cut-of : (m : Open) (resumption : Resumption) (batch : Transfers) (room : ℕ)
      → room_of (on_handle handle (prepared_on m resumption).transfer) limit ≡ Some room
      → Splits (on_handle handle (prepared_on m resumption).transfer) (prepared_on m resumption).payload room batch
      → CutsOn limit handle (prepared_on m resumption) (Some batch)
  cut-of m Resend batch room is_room splits = saying m None false (prepared_on m Resend) batch room refl is_room splits
  cut-of m (Resume place) batch room is_room splits = by (bytes_before m.payload place) is_room splits
    where
      by : (o : Option ℕ) → room_of (on_handle handle (resumed_behind m place o).transfer) limit ≡ Some room
          → Splits (on_handle handle (resumed_behind m place o).transfer) (resumed_behind m place o).payload room batch
          → CutsOn limit handle (resumed_behind m place o) (Some batch)
      by None is_room splits = saying m (placed start) true (resumed_behind m place None) batch room refl is_room splits
      by (Some n) is_room splits =
          saying m (placed place) true (resumed_behind m place (Some n)) batch room refl is_room splits

  -- a message that goes on is cut where a frame has room
  pub cuts-on : (ready : PreparedSendOn) (head : Transfer) (batch : Transfers) → IsOn ready
      → head ≡ on_handle handle ready.transfer
      → IsSomeAnd (room_of head limit) (λ room. Splits head ready.payload room batch)
      → CutsOn limit handle ready (Some batch)
  cuts-on ready head batch on is cuts =
      subst (λ (p : PreparedSendOn). CutsOn limit handle p (Some batch)) (sym on.is)
      (by (room_of (on_handle handle (prepared_on on.message on.resumption).transfer) limit) refl
      (subst
      (λ (p : PreparedSendOn).
      IsSomeAnd (room_of (on_handle handle p.transfer) limit)
      (λ room. Splits (on_handle handle p.transfer) p.payload room batch))
      on.is
      (subst (λ (t : Transfer). IsSomeAnd (room_of t limit) (λ room. Splits t ready.payload room batch)) is cuts)))
    where
      by : (o : Option ℕ) → room_of (on_handle handle (prepared_on on.message on.resumption).transfer) limit ≡ o
          → IsSomeAnd o
          (λ room. Splits (on_handle handle (prepared_on on.message on.resumption).transfer)
          (prepared_on on.message on.resumption).payload room batch)
          → CutsOn limit handle (prepared_on on.message on.resumption) (Some batch)
      by None e cuts = absurd cuts
      by (Some room) e cuts = cut-of on.message on.resumption batch room e cuts

-- where none has, it isn't
pub cuts-none : (limit : ℕ) (handle : OutputHandle) (ready : PreparedSendOn) (head : Transfer) (e : SplitRefusal)
    → head ≡ on_handle handle ready.transfer → e ≡ split.NoRoom
    → (e ≡ split.Memory) ⊎ ((e ≡ split.NoRoom) × (room_of head limit ≡ None))
    → CutsOn limit handle ready None
cuts-none limit handle ready head e is none (inl memory) =
    let clash : split.NoRoom ≡ split.Memory = sym none ∙ memory in absurd cc
cuts-none limit handle ready head e is none (inr why) = ap (λ (t : Transfer). room_of t limit) (sym is) ∙ why.1

-- so many transfers more
pub transfers-more : (before : List Transfers) (batch : Transfers)
    → transfers_in (before ++ batch ∷ []) ≡ transfers_in before + length batch
transfers-more [] batch = omega arith
transfers-more (b ∷ before) batch = omega (arith, transfers-more before batch)

module _ (limit : ℕ) (handle : OutputHandle) (whole : List PreparedSendOn) where
  -- with those of the messages that are left the transfers are all
  abbrev pub CutsAll : List Transfers → List PreparedSendOn → Type 0
  CutsAll before rest =
      (batches : List Transfers) (all : Bool) → AreCutOn limit handle rest batches all
      → AreCutOn limit handle whole (before ++ batches) all

  -- none is cut yet
  pub none-cut : (before : List Transfers) → before ≡ [] → CutsAll before whole
  none-cut before none = λ batches all cut.
      subst (λ (l : List Transfers). AreCutOn limit handle whole (l ++ batches) all) (sym none) cut

  -- one more is
  pub one-cut : (before new : List Transfers) (rest others : List PreparedSendOn) (ready : PreparedSendOn)
      (batch : Transfers) → rest ≡ ready ∷ others → new ≡ before ++ batch ∷ [] → IsCutOn limit handle ready batch
      → CutsAll before rest → CutsAll new others
  one-cut before new rest others ready batch is added one cuts = λ batches all cut.
      subst (λ (l : List Transfers). AreCutOn limit handle whole l all)
      (sym (ap (λ (l : List Transfers). l ++ batches) added ∙ append_assoc before (batch ∷ []) batches))
      (cuts (batch ∷ batches) all
      (subst (λ (l : List PreparedSendOn). AreCutOn limit handle l (batch ∷ batches) all) (sym is) (one, cut)))

  -- or there is no room for one
  pub stops-at : (before : List Transfers) (rest others : List PreparedSendOn) (ready : PreparedSendOn)
      → rest ≡ ready ∷ others → CutsOn limit handle ready None → CutsAll before rest
      → AreCutOn limit handle whole before false
  stops-at before rest others ready is none cuts =
      subst (λ (l : List Transfers). AreCutOn limit handle whole l false) (append-nil before)
      (cuts [] false
      (subst (λ (l : List PreparedSendOn). AreCutOn limit handle l [] false) (sym is) (none, refl)))

  -- none is left
  pub all-cut : (before : List Transfers) (rest : List PreparedSendOn) → length rest ≡ 0 → CutsAll before rest
      → AreCutOn limit handle whole before true
  all-cut before [] none cuts =
      subst (λ (l : List Transfers). AreCutOn limit handle whole l true) (append-nil before) (cuts [] true (refl, refl))
  all-cut before (ready ∷ rest) none cuts = absurd (omega (arith, none))
