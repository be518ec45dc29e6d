-- What is told of messages that ended, one after the other.
use Rattle.std.proofs.Common.{◌≡◌, ℕ, zero, suc, ◌-◌, ◌<◌, List, [], ◌∷◌, ◌++◌, Option, Some, None, Result, arith}
use Rattle.std.proofs.Common.{refl, sym}
use Rattle.std.proofs.Common.{ap, subst, ◌∙◌, append-nil, append_assoc, drop, length, take}
use Rattle.std.proofs.lemmas.List.Elements.{All-head, All-tail}
use Rattle.std.specs.Prelude.{All, IsSome}
use Rattle.std.specs.Option.{option_to_list}
use Rattle.amqp_session_types.specs.declared.error.Error.{Error}
use Rattle.amqp_session_states.specs.declared.outcome.Outcome.{Outcome}
use Rattle.amqp_link_types.specs.declared.refusals.SendError.{SendError}
use Rattle.amqp_link_unsettled.specs.declared.resolution.Resolution.{Resolution}
use Rattle.amqp_link_sender.specs.Results.{send_result}
use Rattle.amqp_link_sender.specs.Sending.{Sending}
use Rattle.amqp_endpoint_model.specs.declared.event.Event.{Event}
use Rattle.amqp_endpoint_messages.specs.All.{AreCopies, Ended, all_told, with_ended}
use Rattle.amqp_endpoint_messages.specs.Told.{outcome_told}

-- what a link keeps is taken from the front
pub left-on : (left : ℕ) (old new : Sending) (one : Ended) → old ≡ with_ended new (one ∷ new.messages.resolved)
    → with_ended new (drop left new.messages.resolved) ≡ with_ended old (drop (suc left) old.messages.resolved)
left-on left old new one is =
    subst
    (λ (s : Sending). with_ended new (drop left new.messages.resolved)
    ≡ with_ended s (drop (suc left) s.messages.resolved)) (sym is) refl

none-dropped : (n : ℕ) (xs : List Ended) → xs ≡ [] → drop n xs ≡ []
none-dropped zero xs e = e
none-dropped (suc n) [] e = refl
none-dropped (suc n) (x ∷ xs) e = absurd cc

none-taken : (n : ℕ) (xs : List Ended) → xs ≡ [] → take n xs ≡ []
none-taken zero xs e = refl
none-taken (suc n) [] e = refl
none-taken (suc n) (x ∷ xs) e = absurd cc

-- where none is left
pub left-none : (left : ℕ) (old new : Sending) → old ≡ with_ended new ([] ++ new.messages.resolved)
    → new.messages.resolved ≡ [] → new ≡ with_ended old (drop left old.messages.resolved)
left-none left old new is none =
    let same : old ≡ new = is in
    let dropped : drop left new.messages.resolved ≡ new.messages.resolved =
    none-dropped left new.messages.resolved none ∙ sym none in
    sym (ap (λ (s : Sending). with_ended s (drop left s.messages.resolved)) same ∙ ap (with_ended new) dropped)

-- the next copy is of the error, or there is none
pub copy-next : (error : Option Error) (left : ℕ) (old new : List Error) (copy : Option Error)
    → AreCopies error (suc left) old → old ≡ option_to_list copy ++ new → (0 < length old → IsSome copy)
    → (copy ≡ error) × AreCopies error left new
copy-next None left old new None a is there =
    (refl, record { each = subst (All (λ (c : Error). None ≡ Some c)) is a.each; enough = tt })
copy-next None left old new (Some copy) a is there =
    absurd (let clash = All-head (λ (c : Error). None ≡ Some c) copy new
    (subst (All (λ (c : Error). None ≡ Some c)) is a.each) in cc)
copy-next (Some error) left old new None a is there =
    absurd (let some = there (omega (arith, a.enough)) in cc)
copy-next (Some error) left old new (Some copy) a is there =
    let all = subst (All (λ (c : Error). Some error ≡ Some c)) is a.each in (
      sym (All-head (λ (c : Error). Some error ≡ Some c) copy new all),
      record {
        each = All-tail (λ (c : Error). Some error ≡ Some c) copy new all;
        enough = omega (arith, a.enough, ap length is);
      },
    )

-- a message more is told of
pub told-on : (number : ℕ) (error copy : Option Error) (left : ℕ) (one : Ended) (old new : Sending)
    (result : Result Outcome SendError) (before events all : List Event)
    → old ≡ with_ended new (one ∷ new.messages.resolved) → copy ≡ error → result ≡ send_result copy one.1
    → events ≡ before ++ outcome_told number one.0 result
    → before ++ all_told number error (take (suc left) old.messages.resolved) ≡ all
    → events ++ all_told number error (take left new.messages.resolved) ≡ all
told-on number error copy left one old new result before events all is same so added had =
    ap (λ (l : List Event). l ++ all_told number error (take left new.messages.resolved)) added
    ∙ append_assoc before (outcome_told number one.0 result)
    (all_told number error (take left new.messages.resolved))
    ∙ ap (λ (r : Result Outcome SendError).
    before ++ (outcome_told number one.0 r ++ all_told number error (take left new.messages.resolved)))
    (so ∙ ap (λ (o : Option Error). send_result o one.1) same)
    ∙ ap (λ (s : Sending). before ++ all_told number error (take (suc left) s.messages.resolved)) (sym is)
    ∙ had

-- no message is left
pub told-none : (number : ℕ) (error : Option Error) (left : ℕ) (old new : Sending) (events all : List Event)
    → old ≡ with_ended new ([] ++ new.messages.resolved) → new.messages.resolved ≡ []
    → events ++ all_told number error (take left old.messages.resolved) ≡ all → events ≡ all
told-none number error left old new events all is none had =
    sym (append-nil events)
    ∙ ap (λ (l : List Ended). events ++ all_told number error l)
    (sym (ap (λ (s : Sending). take left s.messages.resolved) is ∙ none-taken left new.messages.resolved none))
    ∙ had

-- or none more is to be told of
pub told-last : (number : ℕ) (error : Option Error) (ended : List Ended) (events all : List Event)
    → events ++ all_told number error (take zero ended) ≡ all → events ≡ all
told-last number error ended events all had = sym (append-nil events) ∙ had

-- how many are left
pub left-test : (left : ℕ) → 0 < left → left ≡ suc (left - 1)
left-test left some = omega (arith, some)

-- both of a message, with those that are left
pub told-step : (number : ℕ) (error copy : Option Error) (all_left left : ℕ) (is : all_left ≡ suc left)
    (tag : List ℕ) (resolution : Resolution) (old new : Sending) (each each_new : List Error)
    (result : Result Outcome SendError) (before events all : List Event)
    → old ≡ with_ended new ((tag, resolution) ∷ new.messages.resolved)
    → each ≡ option_to_list copy ++ each_new → (0 < length each → IsSome copy)
    → result ≡ send_result copy resolution → events ≡ before ++ outcome_told number tag result
    → AreCopies error all_left each × (before ++ all_told number error (take all_left old.messages.resolved) ≡ all)
    → AreCopies error left each_new × (events ++ all_told number error (take left new.messages.resolved) ≡ all)
told-step number error copy all_left left is tag resolution old new each each_new result before events all first items
    some so added had =
    let copies : AreCopies error (suc left) each = subst (λ (n : ℕ). AreCopies error n each) is had.0 in
    let told : before ++ all_told number error (take (suc left) old.messages.resolved) ≡ all =
    subst (λ (n : ℕ). before ++ all_told number error (take n old.messages.resolved) ≡ all) is had.1 in
    let next : (copy ≡ error) × AreCopies error left each_new =
    copy-next error left each each_new copy copies items some in (
      next.1,
      told-on number error copy left (tag, resolution) old new result before events all first next.0 so added told,
    )

pub state-step : (all_left left : ℕ) (is : all_left ≡ suc left) (tag : List ℕ) (resolution : Resolution)
    (old new start : Sending) → old ≡ with_ended new ((tag, resolution) ∷ new.messages.resolved)
    → with_ended old (drop all_left old.messages.resolved) ≡ start
    → with_ended new (drop left new.messages.resolved) ≡ start
state-step all_left left is tag resolution old new start first before =
    left-on left old new (tag, resolution) first
    ∙ ap (λ (n : ℕ). with_ended old (drop n old.messages.resolved)) (sym is)
    ∙ before
