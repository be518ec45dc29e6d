-- How a receiving link of a session disposes of deliveries: part 2, 2.6.12, 2.7.6 and 2.8.3.
use Rattle.std.specs.Prelude.{◌≡◌, ℕ, List, [], ◌∷◌, Bool, true, Option, Some, Result, Ok, length, replicate}
use Rattle.amqp_session_types.specs.declared.handles.OutputHandle.{OutputHandle}
use Rattle.amqp_session_states.specs.declared.delivery_state.DeliveryState.{DeliveryState}
use Rattle.amqp_session_performatives.specs.declared.disposition.Disposition.{Disposition}
use Rattle.amqp_session_core.specs.Steps.{Step, Changes}
use Rattle.amqp_link_base.specs.State.{is_attached}
use Rattle.amqp_link_receiver.specs.declared.disposable.Disposable.{Disposable}
use Rattle.amqp_link_receiver.specs.Disposing.{Disposes, disposable_now, disposed_of, disposition_of, is_settled}
use Rattle.amqp_link_receiver.specs.DisposingAll.{AllPrepared, Named, Prepared, TellsRuns, committed, each_disposed}
use Rattle.amqp_link_receiver.specs.DisposingAll.{named_all}
use Rattle.amqp_link_receiver.specs.declared.disposing.DisposeError.{DisposeError}
use Rattle.amqp_link_receiver.specs.State.{ReceiverState}
use Rattle.amqp_link.specs.declared.end.End.{End}
use Rattle.amqp_link.specs.declared.end.End.TheVariants.{Receiver}
use Rattle.amqp_endpoint_attached.specs.Linked.{LinksIn, gives}
use Rattle.amqp_endpoint_attached.specs.Receiving.{receiving}

-- an end of a link is ready to dispose of all that are named
abbrev pub EndPrepares : Option End → List (List ℕ) → DeliveryState → Option Bool → Prepared → Type 0
EndPrepares (Some (Receiver r)) tags state asked p = AllPrepared (named_all r tags) r state asked p
EndPrepares link tags state asked p = ⊥

-- it disposes of them as it was made ready
abbrev pub EndCommits : End → Prepared → End → Type 0
EndCommits (Receiver r) p (Receiver after) = after ≡ committed r p
EndCommits old p new = ⊥

-- it disposes of one, or refuses it
abbrev pub EndDisposesOne : End → List ℕ → DeliveryState → Option Bool → Result Disposition DisposeError → End → Type 0
EndDisposesOne (Receiver r) tag state asked answer (Receiver after) =
    Disposes (disposable_now r tag) r tag state asked answer after
EndDisposesOne old tag state asked answer new = ⊥

-- whether the delivery is settled, as is asked, or else by its mode or the link's
abbrev pub settles : ReceiverState → Disposable → Option Bool → Bool
settles r delivery asked = is_settled (r.base.terms).rcv_settle_mode delivery.rcv_settle_mode asked

-- all that are named, by an attached receiving link of a session: one Disposition tells each run of numbers that follow
-- each other and whose transfers name the same settle mode, in the order of the numbers
pub record DisposesOfAll (handle : OutputHandle) (tags : List (List ℕ)) (state : DeliveryState) (asked : Option Bool)
    (old : LinksIn) (told : List Disposition) (new : LinksIn) : Type 0 where
  pub number : ℕ
  pub receiver : ReceiverState
  pub attached : is_attached receiver.base.local_state ≡ true
  pub named : Named
  pub are_named : named_all receiver tags ≡ Ok named
  pub tells : TellsRuns (receiver.base.terms).rcv_settle_mode named state asked told
  pub changed : Step gives old
      (Changes handle.0 (receiving number receiver)
      (receiving number (each_disposed receiver named (replicate (length named) state) asked))) new

-- what was made ready is done by an attached receiving link of a session
pub record Commits (handle : OutputHandle) (p : Prepared) (old new : LinksIn) : Type 0 where
  pub number : ℕ
  pub receiver : ReceiverState
  pub attached : is_attached receiver.base.local_state ≡ true
  pub changed : Step gives old
      (Changes handle.0 (receiving number receiver) (receiving number (committed receiver p))) new

-- one delivery, by an attached receiving link of a session: one Disposition tells it
pub record DisposesOfOne (handle : OutputHandle) (tag : List ℕ) (state : DeliveryState) (asked : Option Bool)
    (old : LinksIn) (told : List Disposition) (new : LinksIn) : Type 0 where
  pub number : ℕ
  pub receiver : ReceiverState
  pub attached : is_attached receiver.base.local_state ≡ true
  pub delivery : Disposable
  pub is_kept : disposable_now receiver tag ≡ Ok delivery
  pub tells : told ≡ disposition_of delivery.number (settles receiver delivery asked) state ∷ []
  pub changed : Step gives old
      (Changes handle.0 (receiving number receiver)
      (receiving number (disposed_of receiver tag (settles receiver delivery asked) state))) new
