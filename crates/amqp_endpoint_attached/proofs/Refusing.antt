-- Why a link doesn't attach, by what refuses it.
use Rattle.std.proofs.Common.{◌≡◌, ◌⊎◌, inl, inr, ℕ, Option, Some, None, Result, Ok, Err, sym, ap, subst, ◌∙◌}
use Rattle.std.specs.FinMap as map
use Rattle.std.specs.Prelude.{IfErr, OnOk, IsOk}
use Rattle.amqp_session_types.specs.declared.handles.InputHandle.{InputHandle}
use Rattle.amqp_session_types.specs.declared.handles.OutputHandle.{OutputHandle}
use Rattle.amqp_session_types.specs.declared.refusals.SessionError.{SessionError}
use Rattle.amqp_session_types.specs.declared.refusals.SessionError.TheVariants as session
use Rattle.amqp_session_performatives.specs.declared.attach.Attach.{Attach}
use Rattle.amqp_session_core.specs.Refusals.{RefusesLink}
use Rattle.amqp_session_core.specs.State.{State}
use Rattle.amqp_link.specs.declared.end.End.{End}
use Rattle.amqp_endpoint_links.specs.declared.links.AskedLink.{AskedLink}
use Rattle.amqp_endpoint_attached.specs.Answering.{RefusesAnswer, RefusesExchange, asked_failed}
use Rattle.amqp_endpoint_attached.specs.Attaching.{RefusesAttach}
use Rattle.amqp_endpoint_attached.specs.Linked.{Linked}
use Rattle.amqp_endpoint_attached.specs.Links.{offered}
use Rattle.amqp_endpoint_attached.specs.Refusals.{IsOffered, MayWant, RefusesHandle, RefusesOwn, RefusesPeer}
use Rattle.amqp_endpoint_attached.specs.Refusals.{refusal_of, test_failed}
use Rattle.amqp_endpoint_attached.specs.declared.exchanging.PreparedAnswer.{PreparedAnswer}
use Rattle.amqp_endpoint_attached.specs.declared.refusal.AttachRefusal.{AttachRefusal}
use Rattle.amqp_endpoint_attached.specs.declared.refusal.AttachRefusal.TheVariants.{HandleMaxReached, HandleInUse, Link}
use Rattle.amqp_endpoint_attached.specs.declared.refusal.AttachRefusal.TheVariants.{FrameTooLarge, Memory}

-- the session's refusal of a link
module _ {R : Type 0} (s : State R) where
  pub handle_refused : (e : SessionError) → RefusesLink s None e → RefusesHandle s None (refusal_of e)
  handle_refused session.HandleMaxReached r = r
  handle_refused session.Memory r = r
  handle_refused session.UnattachedHandle r = absurd r
  handle_refused session.RemoteAttachingLinkNameNotFound r = absurd r
  handle_refused session.HandleInUse r = absurd r
  handle_refused session.IllegalState r = absurd r
  handle_refused session.ConnectionStopped r = absurd r
  handle_refused session.TransferFrameToSender r = absurd r
  handle_refused session.RemoteEnded r = absurd r
  handle_refused (session.RemoteEndedWithError error) r = absurd r
  handle_refused session.NumberInUse r = absurd r

  pub input_refused : (input : ℕ) (e : SessionError) → RefusesLink s (Some input) e
      → RefusesHandle s (Some input) (refusal_of e)
  input_refused input session.HandleMaxReached r = r.1
  input_refused input session.HandleInUse r = r
  input_refused input session.Memory r = r.1
  input_refused input session.UnattachedHandle r = absurd r
  input_refused input session.RemoteAttachingLinkNameNotFound r = absurd r
  input_refused input session.IllegalState r = absurd r
  input_refused input session.ConnectionStopped r = absurd r
  input_refused input session.TransferFrameToSender r = absurd r
  input_refused input session.RemoteEnded r = absurd r
  input_refused input (session.RemoteEndedWithError error) r = absurd r
  input_refused input session.NumberInUse r = absurd r

-- a link that the peer doesn't ask for
module _ {R : Type 0} (limit : ℕ) (s : State R) (link : End) where
  pub own_refused : (handle : OutputHandle) (e : AttachRefusal) → handle ≡ offered s → IsOffered s
      → RefusesOwn limit link handle e → RefusesAttach limit s link e
  own_refused handle HandleMaxReached is given r = absurd r
  own_refused handle HandleInUse is given r = absurd r
  own_refused handle (Link error) is given r = absurd r
  own_refused handle FrameTooLarge is given r =
      (given, subst (λ (h : OutputHandle). RefusesOwn limit link h FrameTooLarge) is r)
  own_refused handle Memory is given r = given

  none_given : (e : AttachRefusal) → RefusesHandle s None e → RefusesAttach limit s link e
  none_given HandleMaxReached r = r
  none_given HandleInUse r = absurd r
  none_given (Link error) r = absurd r
  none_given FrameTooLarge r = absurd r
  none_given Memory r = r

  -- by what was made for it, or by the session
  pub attach_refused : {M : Type 0} (made : Result M AttachRefusal) (e : AttachRefusal)
      → IfErr made (RefusesAttach limit s link) → (made ≡ Err e) ⊎ (IsOk made × RefusesHandle s None e)
      → RefusesAttach limit s link e
  attach_refused made e refuses (inl is) =
      subst (λ (m : Result _ AttachRefusal). IfErr m (RefusesAttach limit s link)) is refuses
  attach_refused made e refuses (inr (ok, r)) = none_given e r

on_ok : {M E : Type 0} (W : Type 0) (made : Result M E) → OnOk made W → IsOk made → W
on_ok W (Ok x) of ok = of
on_ok W (Err e) of ok = absurd cc

-- a link that answers an asked one
module _ {R : Type 0} (limit : ℕ) (s : State R) (link : End) (asked : AskedLink) where
  peer_refused : (e : AttachRefusal) → IsOffered s → RefusesPeer link asked.attach e
      → RefusesExchange limit s link asked e
  peer_refused HandleMaxReached given r = absurd r
  peer_refused HandleInUse given r = absurd r
  peer_refused (Link error) given r = (given, r)
  peer_refused FrameTooLarge given r = absurd r
  peer_refused Memory given r = (given, r)

  behind_refused : (handle : OutputHandle) (e : AttachRefusal) → handle ≡ offered s → IsOffered s
      → test_failed link asked.attach ≡ None → RefusesOwn limit link handle e → RefusesExchange limit s link asked e
  behind_refused handle HandleMaxReached is given passes r = absurd r
  behind_refused handle HandleInUse is given passes r = absurd r
  behind_refused handle (Link error) is given passes r = absurd r
  behind_refused handle FrameTooLarge is given passes r =
      (given, passes, subst (λ (h : OutputHandle). RefusesOwn limit link h FrameTooLarge) is r)
  behind_refused handle Memory is given passes r = (given, inl passes)

  -- by its tests, or else by its own Attach
  pub exchange_refused : {A : Type 0} (handle : OutputHandle) (taken : Result A AttachRefusal)
      (own : Result Attach AttachRefusal) (e : AttachRefusal) → handle ≡ offered s → IsOffered s
      → IfErr taken (RefusesPeer link asked.attach) → OnOk taken (test_failed link asked.attach ≡ None)
      → IfErr own (RefusesOwn limit link handle) → (taken ≡ Err e) ⊎ (IsOk taken × (own ≡ Err e))
      → RefusesExchange limit s link asked e
  exchange_refused handle taken own e is given peer passes mine (inl fails) =
      peer_refused e given
      (subst (λ (t : Result _ AttachRefusal). IfErr t (RefusesPeer link asked.attach)) fails peer)
  exchange_refused handle taken own e is given peer passes mine (inr (ok, lacks)) =
      behind_refused handle e is given (on_ok (test_failed link asked.attach ≡ None) taken passes ok)
      (subst (λ (o : Result Attach AttachRefusal). IfErr o (RefusesOwn limit link handle)) lacks mine)

module _ (limit : ℕ) (s : Linked) (link : End) (input : InputHandle) (asked : AskedLink)
    (there : map.get s.asked input.0 ≡ Some asked) where
  exchanged_refused : (e : AttachRefusal) → RefusesExchange limit s.session link asked e
      → RefusesAnswer limit s link input e
  exchanged_refused HandleMaxReached r = r
  exchanged_refused HandleInUse r = absurd r
  exchanged_refused (Link error) (given, failed) =
      (given, ap (λ (o : Option AskedLink). asked_failed link o) there ∙ failed)
  exchanged_refused FrameTooLarge (given, passes, fits) =
      (given, ap (λ (o : Option AskedLink). asked_failed link o) there ∙ passes, fits)
  exchanged_refused Memory (given, may) =
      (given, subst (λ (o : Option AskedLink). MayWant (asked_failed link o)) (sym there) may)

  pub prepared_refused : (r : Result PreparedAnswer AttachRefusal)
      → IfErr r (RefusesExchange limit s.session link asked) → IfErr r (RefusesAnswer limit s link input)
  prepared_refused (Ok ready) refuses = tt
  prepared_refused (Err e) refuses = exchanged_refused e refuses

  -- or by what the peer's handle leads to, where all else is ready
  pub none_left : (e : AttachRefusal) → IsOffered s.session → test_failed link asked.attach ≡ None
      → RefusesHandle s.session (Some input.0) e → RefusesAnswer limit s link input e
  none_left HandleMaxReached given passes r = r
  none_left HandleInUse given passes r =
      (given, ap (λ (o : Option AskedLink). asked_failed link o) there ∙ passes, r)
  none_left (Link error) given passes r = absurd r
  none_left FrameTooLarge given passes r = absurd r
  none_left Memory given passes r =
      (given, inl (ap (λ (o : Option AskedLink). asked_failed link o) there ∙ passes))

pub ruleset rules = (handle_refused, input_refused, own_refused, attach_refused, exchange_refused)
