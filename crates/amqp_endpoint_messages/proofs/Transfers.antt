-- The transfers of a message: each that begins a delivery has a tag, and why there are none.
use Rattle.std.proofs.Common.{◌≡◌, ◌⊎◌, inl, inr, ℕ, List, [], ◌∷◌, Bool, true, false, Option, Some, None}
use Rattle.std.proofs.Common.{Result, Ok, Err, refl, sym, subst, ap, ◌≤◌, arith}
use Rattle.std.specs.Prelude.{IsSomeAnd}
use Rattle.amqp_session_types.specs.declared.handles.Handle.{Handle}
use Rattle.amqp_session_types.specs.declared.handles.OutputHandle.{OutputHandle}
use Rattle.amqp_session_performatives.specs.declared.transfer.Transfer.{Transfer}
use Rattle.amqp_session_outgoing.specs.Frames.{HasTag, HaveTags, first_count, firsts_of}
use Rattle.amqp_session_outgoing.specs.declared.frames.Outbound.{Outbound}
use Rattle.amqp_session_outgoing.specs.declared.frames.Part.{Part}
use Rattle.amqp_session_outgoing.specs.declared.frames.Part.TheVariants.{Untagged, Settled, Unsettled, Continuation}
use Rattle.amqp_session_core.specs.declared.batch.BehindFrame.{BehindFrame}
use Rattle.amqp_session_core.specs.declared.batch.TransferFrame.{TransferFrame}
use Rattle.amqp_session_core.specs.Batch.{Transfers, leaves_settled, part_of}
use Rattle.amqp_link_sender.specs.Room.{room_of}
use Rattle.amqp_link_sender.specs.declared.sending.PreparedSend.{PreparedSend}
use Rattle.amqp_link_sender.specs.Splitting.{AreLater, IsDelivery, Splits, more_behind}
use Rattle.amqp_link_sender.specs.declared.splitting.SplitRefusal.{SplitRefusal}
use Rattle.amqp_link_sender.specs.declared.splitting.SplitRefusal.TheVariants as split
use Rattle.amqp_endpoint_model.specs.declared.error.EndpointError.{EndpointError}
use Rattle.amqp_endpoint_messages.specs.Sending.{CutsTo, IsCut, RefusesCut, on_handle, uncut}

abbrev Unit : Type 0
Unit = Outbound TransferFrame BehindFrame

pub part_tagged : (tag : List ℕ) (settled : Bool) → HasTag (part_of (Some tag) settled)
part_tagged tag true = tt
part_tagged tag false = tt

later_tagged : (handle : Handle) (us : Transfers) → AreLater handle us → HaveTags us
later_tagged handle [] are = tt
later_tagged handle (u ∷ us) are =
    (subst (λ (v : Unit). HasTag v.part) (sym are.0) tt, later_tagged handle us are.1)

-- a delivery's first transfer with a tag makes all of it tagged
pub delivery_tagged : (first : Transfer) (tag : List ℕ) (us : Transfers) → first.delivery_tag ≡ Some tag
    → IsDelivery first us → HaveTags us
delivery_tagged first tag [] is are = absurd are
delivery_tagged first tag (u ∷ us) is are =
    let settled = leaves_settled (record first { more = more_behind us }) in (
      subst (λ (v : Unit). HasTag v.part) (sym are.0)
          (subst (λ (t : Option (List ℕ)). HasTag (part_of t settled)) (sym is) (part_tagged tag settled)),
      later_tagged first.handle us are.1,
    )

-- the transfers of a delivery begin no other
later_firsts : (handle : Handle) (us : Transfers) → AreLater handle us → firsts_of us ≡ 0
later_firsts handle [] are = refl
later_firsts handle (u ∷ us) are =
    let none : first_count u.part ≡ 0 = ap (λ (v : Unit). first_count v.part) are.0 in
    omega (arith, none, later_firsts handle us are.1)

one_at_most : (p : Part) → first_count p ≤ 1
one_at_most Untagged = omega arith
one_at_most Settled = omega arith
one_at_most (Unsettled tag) = omega arith
one_at_most Continuation = omega arith

pub delivery_firsts : (first : Transfer) (us : Transfers) → IsDelivery first us → firsts_of us ≤ 1
delivery_firsts first [] are = absurd are
delivery_firsts first (u ∷ us) are =
    omega (arith, one_at_most u.part, later_firsts first.handle us are.1)

-- there are transfers where a frame has room
pub are_cut : (o : Option ℕ) (first : Transfer) (payload : List ℕ) (batch : Transfers)
    → IsSomeAnd o (λ room. Splits first payload room batch) → CutsTo o first payload (Ok batch)
are_cut None first payload batch splits = absurd splits
are_cut (Some room) first payload batch splits = splits

-- none where no frame has, or where there is no memory
pub are_not_cut : (o : Option ℕ) (e : SplitRefusal) (why : EndpointError)
    → why ≡ uncut e → (o ≡ None → ◌≡◌ {A = Result Transfers SplitRefusal} (Err e) (Err split.NoRoom))
    → (e ≡ split.Memory) ⊎ ((e ≡ split.NoRoom) × (o ≡ None)) → RefusesCut o why
are_not_cut None split.NoRoom why told refused only = inl (told, refl)
are_not_cut None split.Memory why told refused only =
    let never : ◌≡◌ {A = Result Transfers SplitRefusal} (Err split.Memory) (Err split.NoRoom) = refused refl in
    absurd cc
are_not_cut (Some room) split.Memory why told refused only = inr (told, refl)
are_not_cut (Some room) split.NoRoom why told refused (inl e) = absurd cc
are_not_cut (Some room) split.NoRoom why told refused (inr (e, absent)) = absurd cc

-- a message that is ready is cut
pub is_cut : (limit : ℕ) (handle : OutputHandle) (ready : PreparedSend) (first : Transfer) (batch : Transfers)
    → first ≡ on_handle handle ready.transfer → CutsTo (room_of first limit) first ready.payload (Ok batch)
    → IsCut limit handle ready (record { batch = batch; entry = ready.entry })
is_cut limit handle ready first batch is cuts =
    by (room_of (on_handle handle ready.transfer) limit) refl
    (subst (λ (t : Transfer). CutsTo (room_of t limit) t ready.payload (Ok batch)) is cuts)
  where
    by : (o : Option ℕ) → room_of (on_handle handle ready.transfer) limit ≡ o
        → CutsTo o (on_handle handle ready.transfer) ready.payload (Ok batch)
        → IsCut limit handle ready (record { batch = batch; entry = ready.entry })
    by None e cuts = absurd cuts
    by (Some room) e cuts = record { room = room; is_room = e; splits = cuts; entry = refl }
