-- A message that is cut and handed to its session, or isn't.
use Rattle.std.proofs.Common.{◌≡◌, inl, inr, ℕ, List, Bool, true, false, Option, Some, None, refl, sym, subst}
use Rattle.std.specs.Prelude.{IsSome, is_none, is_some, not}
use Rattle.amqp_session_types.specs.declared.handles.OutputHandle.{OutputHandle}
use Rattle.amqp_session_performatives.specs.declared.session_frame.SessionFrame.{SessionFrame}
use Rattle.amqp_session_outgoing.specs.Frames.{HaveTags}
use Rattle.amqp_session_core.specs.Told.{TransfersSent}
use Rattle.amqp_link_sender.specs.Room.{room_of}
use Rattle.amqp_link_sender.specs.declared.payloads.PreparedBatch.{PreparedBatch}
use Rattle.amqp_link_sender.specs.declared.sending.PreparedSend.{PreparedSend}
use Rattle.amqp_link_unsettled.specs.declared.open.Open.{Open}
use Rattle.amqp_endpoint_model.specs.declared.error.EndpointError.{EndpointError}
use Rattle.amqp_endpoint_attached.specs.Linked.{LinksIn, end_in, gives}
use Rattle.amqp_endpoint_messages.specs.Sending.{Commits, HandsOver, IsCut, MaySend, RefusesCut, RefusesNumbers}
use Rattle.amqp_endpoint_messages.specs.Sending.{StaysBehind, on_handle}
use Rattle.amqp_endpoint_messages.proofs.Transfers.{delivery_tagged}

-- whether it isn't open from then on
pub closed : (entry : Option Open) (settled : Bool) → is_some entry ≡ not settled → settled ≡ is_none entry
closed None true e = refl
closed None false e = absurd cc
closed (Some x) true e = absurd cc
closed (Some x) false e = refl

-- the session took the transfers, and the link has sent the message
pub handed : (s taken new : LinksIn) (handle : OutputHandle) (out out_new : List SessionFrame) (cut : PreparedBatch)
    (settled : Bool) → TransfersSent gives s out handle cut.batch taken out_new → Commits taken handle cut.entry new
    → is_some cut.entry ≡ not settled → HandsOver s handle cut settled out new out_new
handed s taken new handle out out_new cut settled sent commits went =
    record { taken = taken; sends = sent; commits = commits; went = closed cut.entry settled went }

-- what is cut of a message that is ready
module _ (limit : ℕ) (s : LinksIn) (handle : OutputHandle) (ready : PreparedSend) where
  pub cut_may : (cut : PreparedBatch) → IsCut limit handle ready cut → MaySend (end_in s handle) ready.entry
      → MaySend (end_in s handle) cut.entry
  cut_may cut is may = subst (λ (o : Option Open). MaySend (end_in s handle) o) (sym is.entry) may

  pub cut_tagged : (cut : PreparedBatch) → IsCut limit handle ready cut → IsSome ready.transfer.delivery_tag
      → HaveTags cut.batch
  cut_tagged cut is some = by ready.transfer.delivery_tag refl some
    where
      by : (o : Option (List ℕ)) → ready.transfer.delivery_tag ≡ o → IsSome o → HaveTags cut.batch
      by None e some = absurd cc
      by (Some tag) e some = delivery_tagged (on_handle handle ready.transfer) tag cut.batch e is.splits.delivery

  -- or why it isn't cut
  pub stays_uncut : (e : EndpointError) → RefusesCut (room_of (on_handle handle ready.transfer) limit) e
      → StaysBehind limit s handle ready e
  stays_uncut e (inl why) = subst (λ (x : EndpointError). StaysBehind limit s handle ready x) (sym why.0) why.1
  stays_uncut e (inr why) = subst (λ (x : EndpointError). StaysBehind limit s handle ready x) (sym why.0) tt

  -- or isn't taken by the session
  pub stays_untaken : (cut : PreparedBatch) (e : EndpointError) → IsCut limit handle ready cut
      → RefusesNumbers s cut.batch e → StaysBehind limit s handle ready e
  stays_untaken cut e is (inl why) =
      subst (λ (x : EndpointError). StaysBehind limit s handle ready x) (sym why.0)
      (record { cut = cut; is_cut = is; used = why.1 })
  stays_untaken cut e is (inr why) = subst (λ (x : EndpointError). StaysBehind limit s handle ready x) (sym why.0) tt
