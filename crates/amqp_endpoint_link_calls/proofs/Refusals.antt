-- What refuses messages that are to be disposed of.
use Rattle.std.proofs.Common.{◌≡◌, ℕ, suc, ◌<◌, Bool, true, false, List, [], ◌∷◌, ◌++◌, length, take, drop, refl, sym}
use Rattle.std.proofs.Common.{ap, subst, ◌∙◌}
use Rattle.std.proofs.Math.Seq.{take-suc, drop-cons}
use Rattle.std.proofs.lemmas.Option.{none-some}
use Rattle.std.specs.Prelude.{Option, Some, None, IsSome, Result, Ok, Err, slice_index_or}
use Rattle.amqp_session_types.specs.declared.handles.OutputHandle.{OutputHandle}
use Rattle.amqp_session_performatives.specs.declared.session_frame.SessionFrame.{SessionFrame}
use Rattle.amqp_link_receiver.specs.Numbering.{tag_of}
use Rattle.amqp_link_receiver.specs.declared.disposable.Disposable.{Disposable}
use Rattle.amqp_link_receiver.specs.declared.disposable.DisposeRefusal.{DisposeRefusal}
use Rattle.amqp_link_receiver.specs.Disposing.{disposable_now}
use Rattle.amqp_link_receiver.specs.State.{ReceiverState}
use Rattle.amqp_link.specs.declared.end.End.{End}
use Rattle.amqp_link.specs.declared.end.End.TheVariants.{Receiver, Sender}
use Rattle.amqp_endpoint_tables.specs.LinkState.{place_at}
use Rattle.amqp_endpoint_tables.specs.declared.link_place.LinkPlace.TheVariants.{Held, AtRest}
use Rattle.amqp_endpoint_tables.specs.State.{live_at}
use Rattle.amqp_endpoint_model.specs.declared.call.Disposal.{Disposal}
use Rattle.amqp_endpoint_model.specs.declared.error.EndpointError.{EndpointError}
use Rattle.amqp_endpoint_model.specs.declared.error.EndpointError.TheVariants.{Memory}
use Rattle.amqp_endpoint_attached.specs.Receiving.{is_receiving}
use Rattle.amqp_endpoint_link_calls.specs.Calling.{DoneIn}
use Rattle.amqp_endpoint_link_calls.specs.Places.{IsNotHeld, LinksBy, LinkTalk, Where, end_live, end_of}
use Rattle.amqp_endpoint_link_calls.specs.Disposing.{DisposedAt, DisposedOneAt, disposes_of_all, disposes_of_one}
use Rattle.amqp_endpoint_link_calls.specs.Keeping.{kept_tag}
use Rattle.amqp_endpoint_link_calls.specs.Refusing.{AreTooLong, BarsTelling, BarsTellingOne, Refused, RefusesBy}
use Rattle.amqp_endpoint_link_calls.specs.Refusing.{RefusesOneBy, disposable_behind, disposable_under, first_refused}
use Rattle.amqp_endpoint_link_calls.specs.Refusing.{message_fits, or_behind, refusal_by, refusal_of, said_at, said_of}
use Rattle.amqp_endpoint_link_calls.specs.Refusing.{while_attached}

module _ (r : ReceiverState) (attached : Bool) (messages : List ℕ) (at : ℕ) (below : at < length messages) where
  abbrev here : ℕ
  here = slice_index_or messages at 0

  -- the message at this place, and those behind it
  at-place : first_refused r attached (take at messages) (drop at messages)
      ≡ or_behind here (disposable_behind r attached (take at messages) here)
      (first_refused r attached (take at messages ++ here ∷ []) (drop (suc at) messages))
  at-place =
      ap (λ (l : List ℕ). first_refused r attached (take at messages) l) (drop-cons messages at 0 below)

  -- one that isn't refused
  pub not-refused : (delivery : Disposable) → Ok delivery ≡ disposable_behind r attached (take at messages) here
      → first_refused r attached (take (suc at) messages) (drop (suc at) messages)
      ≡ first_refused r attached (take at messages) (drop at messages)
  not-refused delivery is =
      ap (λ (l : List ℕ). first_refused r attached l (drop (suc at) messages)) (take-suc messages at 0 below)
      ∙ ap (λ (d : Result Disposable DisposeRefusal).
      or_behind here d (first_refused r attached (take at messages ++ here ∷ []) (drop (suc at) messages))) is
      ∙ sym at-place

  -- one that is
  pub is-refused : (why : DisposeRefusal) → Err why ≡ disposable_behind r attached (take at messages) here
      → Some (here, why) ≡ first_refused r attached (take at messages) (drop at messages)
  is-refused why is =
      ap (λ (d : Result Disposable DisposeRefusal).
      or_behind here d (first_refused r attached (take at messages ++ here ∷ []) (drop (suc at) messages))) is
      ∙ sym at-place

-- what is known of the link where a message of it isn't refused: it receives, is attached, and keeps the message
pub record IsDisposable (talk : LinkTalk) (session : ℕ) (handle : OutputHandle) (message : ℕ) : Type 0 where
  pub attached : is_receiving (end_live (live_at talk.sessions session) handle) ≡ true
  pub keeps : IsSome (kept_tag (end_live (live_at talk.sessions session) handle) message)

abbrev pub IsIn : LinkTalk → Where → ℕ → Type 0
IsIn talk None message = ⊥
IsIn talk (Some (AtRest end)) message = ⊥
IsIn talk (Some (Held session handle)) message = IsDisposable talk session handle message

module _ (r : ReceiverState) (message : ℕ) (messages : List ℕ) where
  -- a link that isn't attached refuses
  unattached : first_refused r false [] (message ∷ messages) ≡ None → ⊥
  unattached = by (tag_of r.end.unsettled message)
    where
      under : (d : Result Disposable DisposeRefusal)
          → or_behind message (while_attached false d)
          (first_refused r false (message ∷ []) messages) ≡ None → ⊥
      under (Ok delivery) e = none-some _ (sym e)
      under (Err why) e = none-some _ (sym e)

      by : (tag : Option (List ℕ))
          → or_behind message (disposable_under r false tag)
          (first_refused r false (message ∷ []) messages) ≡ None → ⊥
      by None e = none-some _ (sym e)
      by (Some tag) e = under (disposable_now r tag) e

  -- and so does one that doesn't keep the message
  kept : (attached : Bool) → first_refused r attached [] (message ∷ messages) ≡ None
      → IsSome (tag_of r.end.unsettled message)
  kept attached = by (tag_of r.end.unsettled message)
    where
      by : (tag : Option (List ℕ))
          → or_behind message (disposable_under r attached tag)
          (first_refused r attached (message ∷ []) messages) ≡ None → IsSome tag
      by None e = absurd (none-some _ (sym e))
      by (Some tag) e = refl

module _ (talk : LinkTalk) (links : LinksBy) (given : ℕ) (message : ℕ) (messages : List ℕ) where
  abbrev Passes : Result (Option Refused) EndpointError → Type 0
  Passes said = refusal_by talk links given said ≡ None

  said-nothing : (o : Option Refused) → Passes (Ok o) → o ≡ None
  said-nothing None passes = refl
  said-nothing (Some refused) passes = absurd (none-some _ (sym passes))

  -- where a session holds the link
  in-session : (end : Option End) → Passes (said_of end (is_receiving end) (message ∷ messages))
      → (is_receiving end ≡ true) × IsSome (kept_tag end message)
  in-session None passes = absurd (none-some _ (sym passes))
  in-session (Some (Sender s)) passes = absurd (none-some _ (sym passes))
  in-session (Some (Receiver r)) passes =
      by (is_receiving (Some (Receiver r)))
      (said-nothing (first_refused r (is_receiving (Some (Receiver r))) [] (message ∷ messages)) passes)
    where
      by : (attached : Bool) → first_refused r attached [] (message ∷ messages) ≡ None
          → (attached ≡ true) × IsSome (tag_of r.end.unsettled message)
      by true e = (refl, kept r message messages true e)
      by false e = absurd (unattached r message messages e)

  at-rest : (end : End) → Passes (said_of (Some end) false (message ∷ messages)) → ⊥
  at-rest (Sender s) passes = none-some _ (sym passes)
  at-rest (Receiver r) passes =
      unattached r message messages (said-nothing (first_refused r false [] (message ∷ messages)) passes)

  is-in : (place : Where) → Passes (said_at talk place (message ∷ messages)) → IsIn talk place message
  is-in None passes = none-some _ (sym passes)
  is-in (Some (AtRest end)) passes = at-rest end passes
  is-in (Some (Held session handle)) passes =
      let so = in-session (end_live (live_at talk.sessions session) handle) passes in
      record { attached = so.0; keeps = so.1 }

-- a link of which a message isn't refused is held by a session
pub passes-in : (talk : LinkTalk) (links : LinksBy) (given link : ℕ) (messages : List ℕ) (message : ℕ)
    (others : List ℕ) (refused : Option EndpointError) → refused ≡ refusal_of talk links given link messages
    → None ≡ refused → messages ≡ message ∷ others → IsIn talk (place_at links link) message
passes-in talk links given link messages message others refused is none named =
    is-in talk links given message others (place_at links link)
    (subst (λ (ms : List ℕ). refusal_of talk links given link ms ≡ None) named
    (sym is ∙ sym none))

pub not-unheld : (talk : LinkTalk) (place : Where) (message : ℕ) (e : EndpointError) → IsIn talk place message
    → IsNotHeld place e → ⊥
not-unheld talk None message e within unheld = within
not-unheld talk (Some (AtRest end)) message e within unheld = within
not-unheld talk (Some (Held session handle)) message e within unheld = unheld

pub disposable-in : (talk : LinkTalk) (place : Where) (message session : ℕ) (handle : OutputHandle)
    → place ≡ Some (Held session handle) → IsIn talk place message → IsDisposable talk session handle message
disposable-in talk place message session handle is within =
    subst (λ (p : Where). IsIn talk p message) is within

-- what is done in its session
module _ (limit : ℕ) (disposal : Disposal) (old new : LinkTalk) (out out_new : List SessionFrame) (place : Where)
    (session : ℕ) (handle : OutputHandle) (held : place ≡ Some (Held session handle)) where
  pub disposed-at : (messages : List ℕ) (message : ℕ) (others : List ℕ) → messages ≡ message ∷ others
      → DoneIn (disposes_of_all limit messages disposal) session handle old out new out_new
      → DisposedAt limit place messages disposal old out new out_new
  disposed-at messages message others named d =
      let P : List ℕ → Where → Type 0 = λ ms p. DisposedAt limit p ms disposal old out new out_new in
      subst (λ (ms : List ℕ). P ms place) (sym named)
      (subst (P (message ∷ others)) (sym held)
      (subst (λ (ms : List ℕ). DoneIn (disposes_of_all limit ms disposal) session handle old out new out_new) named
      d))

  pub disposed-one-at : (message : ℕ)
      → DoneIn (disposes_of_one limit message disposal) session handle old out new out_new
      → DisposedOneAt limit place message disposal old out new out_new
  disposed-one-at message d =
      subst (λ (p : Where). DisposedOneAt limit p message disposal old out new out_new) (sym held) d

-- what is left refuses them then
module _ (limit : ℕ) (disposal : Disposal) (talk : LinkTalk) (place : Where) (session : ℕ) (handle : OutputHandle)
    (held : place ≡ Some (Held session handle)) (refused : Option EndpointError) (none : refused ≡ None) where
  pub bars-all : (messages : List ℕ) (message : ℕ) (others : List ℕ) (e : EndpointError) → messages ≡ message ∷ others
      → BarsTelling (AreTooLong limit (end_live (live_at talk.sessions session) handle) messages disposal) e
      → RefusesBy refused messages (AreTooLong limit (end_of talk place) messages disposal) e
  bars-all messages message others e named bars =
      let P : Option EndpointError → List ℕ → Where → Type 0 =
      λ r ms p. RefusesBy r ms (AreTooLong limit (end_of talk p) ms disposal) e in
      subst (λ (r : Option EndpointError). P r messages place) (sym none)
      (subst (λ (ms : List ℕ). P None ms place) (sym named)
      (subst (P None (message ∷ others)) (sym held)
      (subst
      (λ (ms : List ℕ).
      BarsTelling (AreTooLong limit (end_live (live_at talk.sessions session) handle) ms disposal) e) named bars)))

  pub bars-one : (message : ℕ) (e : EndpointError)
      → BarsTellingOne (message_fits limit (end_live (live_at talk.sessions session) handle) message disposal) e
      → RefusesOneBy refused (message_fits limit (end_of talk place) message disposal) e
  bars-one message e bars =
      let P : Option EndpointError → Where → Type 0 =
      λ r p. RefusesOneBy r (message_fits limit (end_of talk p) message disposal) e in
      subst (λ (r : Option EndpointError). P r place) (sym none) (subst (P None) (sym held) bars)

-- where it fits, memory alone is wanted
pub wants-memory : (fit : Bool) (e : EndpointError) → fit ≡ true → e ≡ Memory → BarsTellingOne fit e
wants-memory fit e fits is = subst (λ (x : EndpointError). BarsTellingOne fit x) (sym is) fits
