-- The Flow that a transfer makes due.
use Rattle.std.proofs.Common.{◌≡◌, ◌≤◌, ℕ, ◌*◌, ◌+◌, List, [], ◌∷◌, arith, subst}
use Rattle.std.specs.Prelude.{All, Option, Some, None, Ok, nat_le, option_to_list}
use Rattle.amqp_session_performatives.specs.declared.transfer.Transfer.{Transfer as TransferFrame}
use Rattle.amqp_session_performatives.specs.declared.session_frame.SessionFrame.{SessionFrame}
use Rattle.amqp_session_core.specs.declared.incoming.TransferTaken.{TransferTaken}
use Rattle.amqp_session_core.specs.Relay.{Relations}
use Rattle.amqp_session_core.specs.State.{State, reached}
use Rattle.amqp_session_core.specs.Told.{TransferAt}
use Rattle.amqp_endpoint_links.specs.declared.asking.AskingSession.{AskingSession}
use Rattle.amqp_endpoint_links.specs.declared.hearing.LinkPerformative.{LinkPerformative}
use Rattle.amqp_endpoint_links.specs.declared.hearing.LinkPerformative.TheVariants.{Attach, Flow, Transfer, Disposition, Detach}
use Rattle.amqp_endpoint_links.specs.declared.hearing.PerformativeTaken.TheVariants as taken
use Rattle.amqp_endpoint_links.specs.Hearing.{Hears}
use Rattle.amqp_endpoint_fitting.specs.Fits.{FrameFits}
use Rattle.amqp_endpoint_fitting.specs.Read.{IsRead}
use Rattle.amqp_endpoint_fitting.proofs.Handing.{due-hands}
use Rattle.amqp_endpoint_fitting.proofs.Lengths.{all-one}

module _ {R A T D : Type 0} (gives : Relations R A T D) where
  due-at : (limit : ℕ) (to : Option ℕ) (transfer : TransferFrame) (payload : List ℕ) (told : TransferTaken T)
      (flow : SessionFrame) (old new : State R) → 512 ≤ limit → TransferAt gives old transfer payload to (Ok told) new
      → told.flow ≡ Some flow → IsRead flow → FrameFits limit flow
  due-at limit None transfer payload told flow old new least t is r = absurd t
  due-at limit (Some to) transfer payload told flow old new least t is r =
      let hands : All IsRead (option_to_list told.flow) → All (FrameFits limit) (option_to_list told.flow) =
      due-hands gives limit (nat_le (old.fields).incoming_window (2 * (old.taken + 1))) new.fields
      (old.outgoing).next_outgoing_id told.flow least ((t.stepped).2).told in
      let one : All IsRead (flow ∷ []) → All (FrameFits limit) (flow ∷ []) =
      subst
      (λ (o : Option SessionFrame). All IsRead (option_to_list o) → All (FrameFits limit) (option_to_list o)) is
      hands in
      one (all-one IsRead flow r) 0 flow (omega arith)

  pub due : (limit : ℕ) (old new : AskingSession R) (out out_new : List SessionFrame) (said : LinkPerformative)
      (told : TransferTaken T) (flow : SessionFrame) → 512 ≤ limit
      → Hears gives old out said (Ok (taken.Transfer told)) new out_new
      → told.flow ≡ Some flow → IsRead flow → FrameFits limit flow
  due limit old new out out_new (Attach attach named) told flow least h is r = absurd h.0
  due limit old new out out_new (Flow taken_flow) told flow least h is r = absurd h
  due limit old new out out_new (Transfer transfer payload) told flow least h is r =
      due-at limit (reached old.session (transfer.handle).0) transfer payload told flow old.session new.session least
      (h.0).0 is r
  due limit old new out out_new (Disposition disposition) told flow least h is r = absurd h.0
  due limit old new out out_new (Detach detach) told flow least h is r = absurd h.0
