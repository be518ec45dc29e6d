-- A session takes transfers that give deliveries up, one after the other.
use Rattle.std.proofs.Common.{◌≡◌, inl, inr, ℕ, ◌≤◌, Bool, true, false, List, [], ◌∷◌, ◌++◌, length, refl, sym}
use Rattle.std.proofs.Common.{subst, ap, Option, Some, None}
use Rattle.std.proofs.Common.{◌∙◌, append-nil, append_assoc, arith}
use Rattle.std.specs.Prelude.{IsSome}
use Rattle.amqp_session_types.specs.declared.handles.OutputHandle.{OutputHandle}
use Rattle.amqp_session_performatives.specs.declared.session_frame.SessionFrame.{SessionFrame}
use Rattle.amqp_session_outgoing.specs.Frames.{HasTag, HaveTags}
use Rattle.amqp_session_outgoing.specs.Queues.{room_behind}
use Rattle.amqp_session_outgoing.specs.State as sending
use Rattle.amqp_session_core.specs.declared.batch.BehindFrame.{BehindFrame}
use Rattle.amqp_session_core.specs.declared.batch.TransferFrame.{TransferFrame}
use Rattle.amqp_session_core.specs.Batch.{Transfers, leaves_settled, part_of}
use Rattle.amqp_session_core.specs.Told.{TransfersSent}
use Rattle.amqp_endpoint_attached.specs.Linked.{LinksIn, gives}
use Rattle.amqp_endpoint_messages.specs.GivingUp.{HandsEach, HandsOne, IsBare}
use Rattle.amqp_endpoint_messages.specs.MadeReady.{MadeRoomIn}
use Rattle.amqp_endpoint_messages.proofs.Transfers.{part_tagged}

-- one transfer that begins a delivery with a tag is tagged, and is one
pub bare-tagged : (batch : Transfers) → IsBare batch → HaveTags batch
bare-tagged batch is =
    subst (λ (us : Transfers). HaveTags us) (sym is.alone) (by (is.transfer).delivery_tag is.tagged, tt)
  where
    by : (tag : Option (List ℕ)) → IsSome tag → HasTag (part_of tag (leaves_settled is.transfer))
    by None some = absurd cc
    by (Some tag) some = part_tagged tag (leaves_settled is.transfer)

pub bare-alone : (batch : Transfers) → IsBare batch → length batch ≡ 1
bare-alone batch is = ap (λ (us : Transfers). length us) is.alone

-- what is handed out stands behind what was handed out before
pub record Behind (handle : OutputHandle) (batches : List Transfers) (before out : List SessionFrame) (old : LinksIn)
    (stopped : Bool) (new : LinksIn) (out_new : List SessionFrame) : Type 0 where
  pub up : List SessionFrame
  pub hands : HandsEach handle batches old out stopped new up
  pub queued : out_new ≡ before ++ up

behind-more : (handle : OutputHandle) (batches : List Transfers) (before out : List SessionFrame) (old new : LinksIn)
    (stopped : Bool) (out_new : List SessionFrame) → HandsEach handle batches old (before ++ out) stopped new out_new
    → Behind handle batches before out old stopped new out_new
behind-more handle [] before out old new stopped out_new hands =
    record { up = out; hands = (hands.0, hands.1, refl); queued = hands.2 }
behind-more handle (batch ∷ batches) before out old new stopped out_new (inl hands) =
    let mid : LinksIn = hands.0 in
    let out_mid : List SessionFrame = hands.1 in
    let sent : TransfersSent gives old (before ++ out) handle batch mid out_mid = hands.2 in
    let added : out_mid ≡ before ++ (out ++ sent.frames) = sent.added ∙ append_assoc before out sent.frames in
    let later : Behind handle batches before (out ++ sent.frames) mid stopped new out_new =
    behind-more handle batches before (out ++ sent.frames) mid new stopped out_new
    (subst (λ (l : List SessionFrame). HandsEach handle batches mid l stopped new out_new) added hands.3) in
    let one : TransfersSent gives old out handle batch mid (out ++ sent.frames) =
    record { left = sent.left; frames = sent.frames; added = refl; stepped = sent.stepped } in
    record { up = later.up; hands = inl (mid, out ++ sent.frames, one, later.hands); queued = later.queued }
behind-more handle (batch ∷ batches) before out old new stopped out_new (inr hands) =
    record { up = out; hands = inr ((hands.0.0, hands.0.1, refl), hands.1); queued = hands.0.2 }

pub behind : (handle : OutputHandle) (batches : List Transfers) (before : List SessionFrame) (old new : LinksIn)
    (stopped : Bool) (out_new : List SessionFrame) → HandsEach handle batches old before stopped new out_new
    → Behind handle batches before [] old stopped new out_new
behind handle batches before old new stopped out_new hands =
    behind-more handle batches before [] old new stopped out_new
    (subst (λ (l : List SessionFrame). HandsEach handle batches old l stopped new out_new) (sym (append-nil before))
    hands)

-- one more is taken, before those that are left
pub handed-more : (handle : OutputHandle) (batch : Transfers) (batches all : List Transfers) (old mid : LinksIn)
    (out out_mid : List SessionFrame) → all ≡ batch ∷ batches → HandsOne handle batch old out true mid out_mid
    → (stopped : Bool) (new : LinksIn) (out_new : List SessionFrame)
    → HandsEach handle batches mid out_mid stopped new out_new → HandsEach handle all old out stopped new out_new
handed-more handle batch batches all old mid out out_mid is one stopped new out_new later =
    subst (λ (l : List Transfers). HandsEach handle l old out stopped new out_new) (sym is)
    (inl (mid, out_mid, one, later))

-- or isn't, and it stops
pub handed-none : (handle : OutputHandle) (batch : Transfers) (batches all : List Transfers) (old new : LinksIn)
    (out out_new : List SessionFrame) → all ≡ batch ∷ batches → HandsOne handle batch old out false new out_new
    → HandsEach handle all old out true new out_new
handed-none handle batch batches all old new out out_new is one =
    subst (λ (l : List Transfers). HandsEach handle l old out true new out_new) (sym is) (inr (one, refl))

-- none is left
pub handed-all : (handle : OutputHandle) (all : List Transfers) (old : LinksIn) (out : List SessionFrame)
    → length all ≡ 0 → HandsEach handle all old out false old out
handed-all handle [] old out none = (refl, refl, refl)
handed-all handle (batch ∷ batches) old out none = absurd (omega (arith, none))

-- a place that serves does once room is made for transfers
pub place-serves : (old new : LinksIn) (handle place : ℕ) → MadeRoomIn old new
    → room_behind handle 1 old.outgoing.queues ≤ place → room_behind handle 1 new.outgoing.queues ≤ place
place-serves old new handle place made serves =
    subst (λ (o : sending.State TransferFrame BehindFrame). room_behind handle 1 o.queues ≤ place)
    (sym made.reserves.0) serves
