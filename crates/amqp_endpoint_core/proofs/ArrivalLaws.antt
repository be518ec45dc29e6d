-- Messages that sessions take at once.
use Rattle.std.proofs.Common.{◌≡◌, ℕ, Option, Some, None, List, [], ◌∷◌, ◌++◌, refl, sym, ◌∙◌, ap, subst}
use Rattle.std.specs.Prelude.{IfErr, IfNone, IfSome, OnOk, Result, ⊤}
use Rattle.amqp_session_performatives.specs.declared.session_frame.SessionFrame.{SessionFrame}
use Rattle.amqp_session_performatives.specs.declared.transfer.Transfer.{Transfer}
use Rattle.amqp_session_frames.specs.declared.frame.FrameBody.{FrameBody}
use Rattle.amqp_session_frames.specs.declared.frame.FrameBody.TheVariants as body
use Rattle.amqp_endpoint_model.specs.Arriving.{arrived}
use Rattle.amqp_endpoint_model.specs.Relay.{Relations, Taken}
use Rattle.amqp_endpoint_model.specs.State.{State, Waiting, limit_of}
use Rattle.amqp_endpoint_model.specs.declared.arrival.Arrival.{Arrival}
use Rattle.amqp_endpoint_model.specs.declared.error.EndpointError.{EndpointError}
use Rattle.amqp_endpoint_model.specs.declared.event.Event.{Event}
use Rattle.amqp_endpoint_core.specs.Queue.{AllWithin, frames_waiting}
use Rattle.amqp_endpoint_core.specs.Reading.{BodyRefused, BodyTaken}
use Rattle.amqp_endpoint_core.proofs.QueueLaws.{within-same, within-sent}
use Rattle.amqp_endpoint_core.proofs.SessionLaws.{fit_at, session_taken}

module _ {S : Type 0} (does : Relations S) (channel : ℕ) (t : Transfer) (payload : List ℕ) where
  abbrev said : FrameBody
  said = body.Transfer t payload

  -- the sessions took it, and its message is to be told behind all that was told
  abbrev pub Took : S → ℕ → List SessionFrame → S → List SessionFrame → Option Arrival → Type 0
  Took s limit out new out_new result =
      IfSome result (λ it. (told : List Event) → Taken does s limit channel said out told new out_new (told ++ arrived it t payload ∷ []))

  -- or nothing changed
  abbrev pub Left : S → List SessionFrame → S → List SessionFrame → Option Arrival → Type 0
  Left s out new out_new result = IfNone result ((new ≡ s) × (out_new ≡ out))

  -- what waits then fits the limit
  pub arrived_within : (told limit : ℕ) → told ≡ limit → (queue : List Waiting) (out out_new : List SessionFrame) (s new : S)
      (result : Option Arrival) → Took s told out new out_new result → Left s out new out_new result
      → AllWithin limit (queue ++ frames_waiting out) → AllWithin limit (queue ++ frames_waiting out_new)
  arrived_within told limit is queue out out_new s new None took left within =
      within-same limit _ _ (ap (λ (o : List SessionFrame). queue ++ frames_waiting o) left.1) within
  arrived_within told limit is queue out out_new s new (Some it) took left within =
      let taken = took [] in
      within-same limit _ _ (ap (λ (o : List SessionFrame). queue ++ frames_waiting o) taken.queued)
      (within-sent limit queue out taken.frames within (fit_at told limit taken.frames is taken.fit))

  module _ (old behind : State S) (limit : ℕ) (queue : List Waiting) (out out_new : List SessionFrame) (s new : S)
      (s_is : s ≡ old.sessions) (limit_is : limit ≡ limit_of old.peer_limit) (queue_is : queue ++ frames_waiting out ≡ old.queue)
      (is : behind ≡ record old { sessions = new; queue = queue ++ frames_waiting out_new }) where
    -- the endpoint took it
    pub arrived_taken : (result : Option Arrival) (told : List Event) → Took s limit out new out_new result
        → IfSome result (λ it. BodyTaken does old channel said told (told ++ arrived it t payload ∷ []) behind)
    arrived_taken None told took = tt
    arrived_taken (Some it) told took =
        session_taken does old channel limit said queue out out_new told (told ++ arrived it t payload ∷ []) s new behind tt s_is
        limit_is queue_is (took told) is

    -- or is as it was
    pub left_alone : (result : Option Arrival) → Left s out new out_new result → IfNone result (behind ≡ old)
    left_alone (Some it) left = tt
    left_alone None (same, unsent) =
        is
        ∙ ap (λ (x : S). record old { sessions = x; queue = queue ++ frames_waiting out_new }) (same ∙ s_is)
        ∙ ap (λ (o : List SessionFrame). record old { queue = queue ++ frames_waiting o }) unsent
        ∙ ap (λ (q : List Waiting). record old { queue = q }) queue_is

module _ {S : Type 0} (does : Relations S) (channel : ℕ) (said : FrameBody) where
  -- its message is told
  pub arrival_told : (old new : State S) (before mid behind : List Event) (it told : Event)
      → BodyTaken does old channel said before (before ++ it ∷ []) new → mid ≡ before → behind ≡ mid ++ told ∷ [] → told ≡ it
      → BodyTaken does old channel said before behind new
  arrival_told old new before mid behind it told taken same pushed is =
      subst (λ (l : List Event). BodyTaken does old channel said before l new)
      (sym (pushed ∙ ap (λ (l : List Event). l ++ told ∷ []) same ∙ ap (λ (e : Event). before ++ e ∷ []) is)) taken

  -- or all goes on from where it was
  pub taken_from : (old mid new : State S) (before between behind : List Event) → mid ≡ old → between ≡ before
      → (r : Result ⊤ EndpointError) → OnOk r (BodyTaken does mid channel said between behind new)
      → OnOk r (BodyTaken does old channel said before behind new)
  taken_from old mid new before between behind same untold r taken =
      subst (λ (l : List Event). OnOk r (BodyTaken does old channel said l behind new)) untold
      (subst (λ (s : State S). OnOk r (BodyTaken does s channel said between behind new)) same taken)

  pub refused_from : (old mid new : State S) (before between behind : List Event) → mid ≡ old → between ≡ before
      → (r : Result ⊤ EndpointError)
      → IfErr r (λ (e : EndpointError). BodyRefused does mid channel said e new × (behind ≡ between))
      → IfErr r (λ (e : EndpointError). BodyRefused does old channel said e new × (behind ≡ before))
  refused_from old mid new before between behind same untold r refused =
      subst (λ (l : List Event). IfErr r (λ (e : EndpointError). BodyRefused does old channel said e new × (behind ≡ l))) untold
      (subst
      (λ (s : State S). IfErr r (λ (e : EndpointError). BodyRefused does s channel said e new × (behind ≡ between))) same
      refused)
