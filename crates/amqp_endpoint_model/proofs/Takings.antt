-- Laws of frames taken one behind the other.
use Rattle.std.proofs.Common.{◌≡◌, ℕ, List, [], ◌∷◌, ◌++◌, refl, sym, ◌∙◌, ap, append_assoc, subst}
use Rattle.std.proofs.lemmas.List.{append-nil}
use Rattle.amqp_session_frames.specs.declared.frame.Frame.{Frame}
use Rattle.amqp_session_frames.specs.declared.frame.FrameBody.{FrameBody}
use Rattle.amqp_session_frames.specs.declared.frame.FrameBody.TheVariants.{Empty, Open, Close}
use Rattle.amqp_endpoint_model.specs.declared.event.Event.{Event}
use Rattle.amqp_endpoint_model.specs.Relay.{Relations, IsOfSession}
use Rattle.amqp_endpoint_model.specs.State.{State}
use Rattle.amqp_endpoint_model.specs.Step.{SessionsTake, TakesBody, Takes, TakesAll}

module _ {S : Type 0} (does : Relations S) where
  pub TakesAll-append : (old : State S) (fs : List Frame) (es : List Event) (mid : State S) (gs : List Frame)
      (ds : List Event) (new : State S) → TakesAll does old fs es mid → TakesAll does mid gs ds new
      → TakesAll does old (fs ++ gs) (es ++ ds) new
  TakesAll-append old [] es mid gs ds new (none, same) t =
      let P : State S → Type 0 = λ s. TakesAll does s gs ds new in
      let Q : List Event → Type 0 = λ x. TakesAll does old gs (x ++ ds) new in
      subst Q (sym none) (subst P same t)
  TakesAll-append old (f ∷ fs) es mid gs ds new (next, first, others, one, all, split) t =
      let split2 : es ++ ds ≡ first ++ (others ++ ds) = ap (λ x. x ++ ds) split ∙ append_assoc first others ds in
      (next, first, others ++ ds, one, TakesAll-append next fs others mid gs ds new all t, split2)

  -- one more frame is taken
  pub TakesAll-more : (old : State S) (fs : List Frame) (es : List Event) (mid : State S) (f : Frame)
      (more : List Event) (new : State S) → TakesAll does old fs es mid → Takes does mid f more new
      → TakesAll does old (fs ++ f ∷ []) (es ++ more) new
  TakesAll-more old [] es mid f more new (none, same) t =
      let P : State S → Type 0 = λ s. Takes does s f more new in
      (new, more, [], subst P same t, (refl, refl), ap (λ x. x ++ more) none ∙ sym (append-nil more))
  TakesAll-more old (g ∷ fs) es mid f more new (next, first, others, one, all, split) t =
      let split2 : es ++ more ≡ first ++ (others ++ more)
      = ap (λ x. x ++ more) split ∙ append_assoc first others more in
      (next, first, others ++ more, one, TakesAll-more next fs others mid f more new all t, split2)

  rest_none-body : (body : FrameBody) (old : State S) (channel : ℕ) (es : List Event) (new : State S) → old.rest ≡ []
      → TakesBody does old channel body es new → new.rest ≡ []
  rest_none-body Empty old channel es new e (told, same) = ap (λ s. s.rest) same ∙ e
  rest_none-body (Open o) old channel es new e (none, least, told, moves, after) = ap (λ s. s.rest) after ∙ e
  rest_none-body (Close c) old channel es new e (told, both, after) = ap (λ s. s.rest) after
  rest_none-body body old channel es new e t = ap (λ s. s.rest) t.queued ∙ e

  -- where nothing was left over, taking frames leaves nothing over
  pub rest_none : (old : State S) (fs : List Frame) (es : List Event) (new : State S) → old.rest ≡ []
      → TakesAll does old fs es new → new.rest ≡ []
  rest_none old [] es new e (none, same) = ap (λ s. s.rest) same ∙ e
  rest_none old (f ∷ fs) es new e (mid, first, others, one, all, split) =
      rest_none mid fs others new (rest_none-body f.body old f.channel first mid e one.1) all

  same_settings-body : (body : FrameBody) (old : State S) (channel : ℕ) (es : List Event) (new : State S)
      → TakesBody does old channel body es new → new.settings ≡ old.settings
  same_settings-body Empty old channel es new (told, same) = ap (λ s. s.settings) same
  same_settings-body (Open o) old channel es new (none, least, told, moves, after) = ap (λ s. s.settings) after
  same_settings-body (Close c) old channel es new (told, both, after) = ap (λ s. s.settings) after
  same_settings-body body old channel es new t = ap (λ s. s.settings) t.queued

  pub same_settings : (old : State S) (fs : List Frame) (es : List Event) (new : State S) → TakesAll does old fs es new
      → new.settings ≡ old.settings
  same_settings old [] es new (none, same) = ap (λ s. s.settings) same
  same_settings old (f ∷ fs) es new (mid, first, others, one, all, split) =
      same_settings mid fs others new all ∙ same_settings-body f.body old f.channel first mid one.1

  -- a performative of a session is taken by the sessions
  pub taken_by_sessions : (body : FrameBody) (old : State S) (channel : ℕ) (es : List Event) (new : State S)
      → IsOfSession body → TakesBody does old channel body es new → SessionsTake does old channel body es new
  taken_by_sessions Empty old channel es new theirs t = absurd theirs
  taken_by_sessions (Open o) old channel es new theirs t = absurd theirs
  taken_by_sessions (Close c) old channel es new theirs t = absurd theirs
  taken_by_sessions body old channel es new theirs t = t
