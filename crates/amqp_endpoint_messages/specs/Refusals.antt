-- Why deliveries of a link of a session aren't disposed of: part 2, 2.6.12, 2.7.6.
use Rattle.std.specs.Prelude.{◌≡◌, ℕ, List, Bool, true, false, Option, Some, Result, Ok, Err, IsOk, ⊤}
use Rattle.amqp_session_types.specs.declared.modes.ReceiverSettleMode.{ReceiverSettleMode}
use Rattle.amqp_session_types.specs.declared.handles.OutputHandle.{OutputHandle}
use Rattle.amqp_session_states.specs.declared.delivery_state.DeliveryState.{DeliveryState}
use Rattle.amqp_session_performatives.specs.declared.disposition.Disposition.{Disposition}
use Rattle.amqp_session_performatives.specs.declared.session_frame.SessionFrame.{SessionFrame}
use Rattle.amqp_link_receiver.specs.declared.disposable.Disposable.{Disposable}
use Rattle.amqp_link_receiver.specs.declared.disposable.DisposeRefusal.{DisposeRefusal}
use Rattle.amqp_link_receiver.specs.declared.disposable.DisposeRefusal.TheVariants as refusal
use Rattle.amqp_link_receiver.specs.Disposing.{disposable_now, disposition_of}
use Rattle.amqp_link_receiver.specs.DisposingAll.{Named, TellsRuns, named_all}
use Rattle.amqp_link_receiver.specs.declared.disposing.DisposeError.{DisposeError}
use Rattle.amqp_link_receiver.specs.declared.disposing.DisposeError.TheVariants.{Refused}
use Rattle.amqp_link_receiver.specs.declared.disposing.DisposeError.TheVariants as no_memory
use Rattle.amqp_link_receiver.specs.State.{ReceiverState}
use Rattle.amqp_link.specs.declared.end.End.{End}
use Rattle.amqp_link.specs.declared.end.End.TheVariants.{Receiver}
use Rattle.amqp_endpoint_model.specs.declared.error.EndpointError.{EndpointError}
use Rattle.amqp_endpoint_model.specs.declared.error.EndpointError.TheVariants.{Memory, FrameTooLarge}
use Rattle.amqp_endpoint_model.specs.declared.error.EndpointError.TheVariants.{AlreadyDisposed, NotAssociated}
use Rattle.amqp_endpoint_model.specs.declared.error.EndpointError.TheVariants.{IllegalState}
use Rattle.amqp_endpoint_attached.specs.Linked.{Linked, end_at}
use Rattle.amqp_endpoint_attached.specs.Receiving.{is_receiving}
use Rattle.amqp_endpoint_messages.specs.Disposing.{DisposesOfAll, DisposesOfOne, settles}
use Rattle.amqp_endpoint_messages.specs.Longest.{all_fit, disposition_fits}
use Rattle.amqp_endpoint_messages.specs.Dispositions.{IsDisposed}

-- what a delivery that can't be disposed of is refused with: what isn't kept was settled
abbrev pub error_of : DisposeRefusal → EndpointError
error_of refusal.NotKept = AlreadyDisposed
error_of refusal.AlreadyDisposed = AlreadyDisposed
error_of refusal.NotAssociated = NotAssociated

-- what a receiving link makes of the deliveries with these tags, or why of the first that it refuses; any other link
-- keeps none
abbrev pub named_at : Option End → List (List ℕ) → Result Named DisposeRefusal
named_at (Some (Receiver r)) tags = named_all r tags
named_at link tags = Err refusal.NotKept

-- likewise of one
abbrev pub kept_at : Option End → List ℕ → Result Disposable DisposeRefusal
kept_at (Some (Receiver r)) tag = disposable_now r tag
kept_at link tag = Err refusal.NotKept

-- a link refuses with this
abbrev pub RefusesWith : {N : Type 0} → Result N DisposeRefusal → EndpointError → Type 0
RefusesWith (Err why) e = e ≡ error_of why
RefusesWith (Ok named) e = ⊥

-- what is answered where a link disposes of nothing
abbrev pub IsErrorOf : DisposeError → EndpointError → Type 0
IsErrorOf (Refused why) e = e ≡ error_of why
IsErrorOf no_memory.Memory e = e ≡ Memory

-- of the Dispositions that tell the state of these deliveries one doesn't fit the limit (part 2, 2.4.1)
pub record TellsTooLong (limit : ℕ) (link : ReceiverSettleMode) (named : Named) (state : DeliveryState)
    (asked : Option Bool) : Type 0 where
  pub told : List Disposition
  pub tells : TellsRuns link named state asked told
  pub long : all_fit limit told ≡ false

-- all can be disposed of, and so of what would tell it one doesn't fit
abbrev pub IsTooLongBy : ℕ → ReceiverState → Result Named DisposeRefusal → DeliveryState → Option Bool → Type 0
IsTooLongBy limit r (Ok named) state asked = TellsTooLong limit (r.base.terms).rcv_settle_mode named state asked
IsTooLongBy limit r (Err why) state asked = ⊥

abbrev pub IsTooLong : ℕ → Option End → List (List ℕ) → DeliveryState → Option Bool → Type 0
IsTooLong limit (Some (Receiver r)) tags state asked = IsTooLongBy limit r (named_all r tags) state asked
IsTooLong limit link tags state asked = ⊥

-- the Disposition that tells the state of one delivery fits the limit
abbrev pub delivery_fits : ℕ → ReceiverState → Disposable → DeliveryState → Option Bool → Bool
delivery_fits limit r delivery state asked =
    disposition_fits limit (disposition_of delivery.number (settles r delivery asked) state)

-- where a link can dispose of it; else there is none
abbrev pub fits_by : ℕ → ReceiverState → Result Disposable DisposeRefusal → DeliveryState → Option Bool → Bool
fits_by limit r (Ok delivery) state asked = delivery_fits limit r delivery state asked
fits_by limit r (Err why) state asked = true

abbrev pub one_fits : ℕ → Option End → List ℕ → DeliveryState → Option Bool → Bool
one_fits limit (Some (Receiver r)) tag state asked = fits_by limit r (disposable_now r tag) state asked
one_fits limit link tag state asked = true

-- why all of them aren't: no attached receiving link is there, then as it refuses the first that it refuses, then one
-- of the Dispositions that would go doesn't fit; or there is no memory, which they are looked at with, too
abbrev pub RefusesAll : Option End → Result Named DisposeRefusal → Type 0 → EndpointError → Type 0
RefusesAll link named TooLong IllegalState = is_receiving link ≡ false
RefusesAll link named TooLong AlreadyDisposed = (is_receiving link ≡ true) × RefusesWith named AlreadyDisposed
RefusesAll link named TooLong NotAssociated = (is_receiving link ≡ true) × RefusesWith named NotAssociated
RefusesAll link named TooLong FrameTooLarge = (is_receiving link ≡ true) × IsOk named × TooLong
RefusesAll link named TooLong Memory = is_receiving link ≡ true
RefusesAll link named TooLong e = ⊥

-- why one isn't: likewise, and then there is no memory
abbrev pub RefusesOne : Option End → Result Disposable DisposeRefusal → Bool → EndpointError → Type 0
RefusesOne link kept fit IllegalState = is_receiving link ≡ false
RefusesOne link kept fit AlreadyDisposed = (is_receiving link ≡ true) × RefusesWith kept AlreadyDisposed
RefusesOne link kept fit NotAssociated = (is_receiving link ≡ true) × RefusesWith kept NotAssociated
RefusesOne link kept fit FrameTooLarge = (is_receiving link ≡ true) × IsOk kept × (fit ≡ false)
RefusesOne link kept fit Memory = (is_receiving link ≡ true) × IsOk kept × (fit ≡ true)
RefusesOne link kept fit e = ⊥

-- how all of them are disposed of
abbrev pub AllAnswered : ℕ → Linked → OutputHandle → List (List ℕ) → DeliveryState → Option Bool
    → Result ⊤ EndpointError → List SessionFrame → Linked → List SessionFrame → Type 0
AllAnswered limit old handle tags state asked (Ok done) out new out_new =
    IsDisposed (DisposesOfAll handle tags state asked) limit old out new out_new
AllAnswered limit old handle tags state asked (Err e) out new out_new =
    RefusesAll (end_at old handle) (named_at (end_at old handle) tags)
    (IsTooLong limit (end_at old handle) tags state asked) e

-- how one is
abbrev pub OneAnswered : ℕ → Linked → OutputHandle → List ℕ → DeliveryState → Option Bool
    → Result ⊤ EndpointError → List SessionFrame → Linked → List SessionFrame → Type 0
OneAnswered limit old handle tag state asked (Ok done) out new out_new =
    IsDisposed (DisposesOfOne handle tag state asked) limit old out new out_new
OneAnswered limit old handle tag state asked (Err e) out new out_new =
    RefusesOne (end_at old handle) (kept_at (end_at old handle) tag)
    (one_fits limit (end_at old handle) tag state asked) e
