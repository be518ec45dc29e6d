-- The first of several rows of tests that applies.
use Rattle.std.proofs.Common.{◌≡◌, Bool, true, false, List, [], ◌∷◌, ◌++◌, Option, Some, None, Result, Ok, Err, sym, ◌∙◌, ap, subst, refl, if◌then◌else◌, is_some, not, ◌&&◌}
use Rattle.amqp_link_types.specs.declared.attaching.ReceiverAttachError.{ReceiverAttachError}
use Rattle.amqp_link_types.specs.declared.attaching.ReceiverAttachError.TheVariants.{Memory, CoordinatorIsNotImplemented}
use Rattle.amqp_link_types.specs.declared.attaching.SenderAttachError.{SenderAttachError}
use Rattle.amqp_session_states.specs.declared.target_archetype.TargetArchetype.{TargetArchetype}
use Rattle.amqp_session_states.specs.declared.target_archetype.TargetArchetype.TheVariants.{Target, Other}
use Rattle.amqp_link_base.specs.Attach.{target_tests_of_sender, target_tests_of_receiver}
use Rattle.amqp_link_base.specs.Target.{receiver_archetype_tests, receiver_target_tests, sender_archetype_tests}
use Rattle.amqp_link_base.specs.Tests.{first_of, error_of, FirstOf, JudgedBy, IsOfFilters}

module _ {E : Type 0} where
  behind_if : (b : Bool) (e : E) (xs ys : List (Bool × E)) → (if b then Some e else first_of xs) ≡ None → (first_of xs ≡ None → first_of (xs ++ ys) ≡ first_of ys) → (if b then Some e else first_of (xs ++ ys)) ≡ first_of ys
  behind_if true e xs ys h step = absurd cc
  behind_if false e xs ys h step = step h

  -- where no test of the first row applies it is the first of the second one
  pub first_behind : (xs ys : List (Bool × E)) → first_of xs ≡ None → first_of (xs ++ ys) ≡ first_of ys
  first_behind [] ys h = refl
  first_behind (x ∷ xs) ys h = behind_if x.0 x.1 xs ys h (λ k. first_behind xs ys k)

  found_if : (b : Bool) (d e : E) (xs ys : List (Bool × E)) → (if b then Some d else first_of xs) ≡ Some e → (first_of xs ≡ Some e → first_of (xs ++ ys) ≡ Some e) → (if b then Some d else first_of (xs ++ ys)) ≡ Some e
  found_if true d e xs ys h step = h
  found_if false d e xs ys h step = step h

  -- where a test of the first row applies it is that
  pub first_found : (xs ys : List (Bool × E)) (e : E) → first_of xs ≡ Some e → first_of (xs ++ ys) ≡ Some e
  first_found [] ys e h = absurd cc
  first_found (x ∷ xs) ys e h = found_if x.0 x.1 e xs ys h (λ k. first_found xs ys e k)

  -- the rows one after the other
  pub goes_on : (xs ys : List (Bool × E)) (u : Unit {0}) (r : Result (Unit {0}) E) → FirstOf xs (Ok u) → FirstOf ys r → FirstOf (xs ++ ys) r
  goes_on xs ys u r h k = k ∙ sym (first_behind xs ys (sym h))

  pub stops_at : (xs ys : List (Bool × E)) (e : E) → FirstOf xs (Err e) → FirstOf (xs ++ ys) (Err e)
  stops_at xs ys e h = sym (first_found xs ys e (sym h))

  two_apart : (a b : Bool) (x y m : E) → (x ≡ m → ⊥) → (y ≡ m → ⊥) → first_of ((a, x) ∷ (b, y) ∷ []) ≡ Some m → ⊥
  two_apart true b x y m p q h = p cc
  two_apart false true x y m p q h = q cc
  two_apart false false x y m p q h = absurd cc

pub judged_on : (xs ys : List (Bool × ReceiverAttachError)) (u : Unit {0}) (r : Result (Unit {0}) ReceiverAttachError) → JudgedBy (first_of xs) (Ok u) → JudgedBy (first_of ys) r → JudgedBy (first_of (xs ++ ys)) r
judged_on xs ys u r h k =
    let P : Option ReceiverAttachError → Type 0 = λ o. JudgedBy o r in
    subst P (sym (first_behind xs ys (sym h))) k

still_of_filters : (o : Option ReceiverAttachError) (xs ys : List (Bool × ReceiverAttachError)) → first_of xs ≡ o → IsOfFilters o → IsOfFilters (first_of (xs ++ ys))
still_of_filters None xs ys e h = absurd h
still_of_filters (Some error) xs ys e h =
    let P : Option ReceiverAttachError → Type 0 = λ o. IsOfFilters o in
    subst P (sym (first_found xs ys error e)) h

pub judged_at : (xs ys : List (Bool × ReceiverAttachError)) (e : ReceiverAttachError) → JudgedBy (first_of xs) (Err e) → JudgedBy (first_of (xs ++ ys)) (Err e)
judged_at xs ys Memory h = still_of_filters (first_of xs) xs ys refl h
judged_at xs ys e h = sym (first_found xs ys e (sym h))

judged_where : (tests : List (Bool × ReceiverAttachError)) (r : Result (Unit {0}) ReceiverAttachError) → (first_of tests ≡ Some Memory → ⊥) → FirstOf tests r → JudgedBy (first_of tests) r
judged_where tests (Ok u) never h = h
judged_where tests (Err Memory) never h = absurd (never (sym h))
judged_where tests (Err e) never h = h

never_memory : (a : TargetArchetype) → first_of (receiver_archetype_tests a) ≡ Some Memory → ⊥
never_memory (Target t) h = two_apart (t.dynamic && is_some t.address) (not t.dynamic && is_some t.dynamic_node_properties) _ _ Memory (λ e. cc) (λ e. cc) h
never_memory (Other v) h = cc

-- the own archetype and the peer's
pub archetype_found : (own peer : TargetArchetype) (r : Result (Unit {0}) SenderAttachError) → FirstOf (sender_archetype_tests peer) r → FirstOf (target_tests_of_sender (Some own) (Some peer)) r
archetype_found own (Target t) r h = h
archetype_found own (Other v) r h = h

pub archetype_judged : (own peer : TargetArchetype) (r : Result (Unit {0}) ReceiverAttachError) → FirstOf (receiver_archetype_tests peer) r → JudgedBy (first_of (target_tests_of_receiver (Some own) (Some peer))) r
archetype_judged own (Target t) r h = judged_where (receiver_target_tests t) r (never_memory (Target t)) h
archetype_judged own (Other v) r h = judged_where ((true, CoordinatorIsNotImplemented) ∷ []) r (never_memory (Other v)) h

pub ruleset archetypes = (archetype_found, archetype_judged)

pub ruleset tests_joined = (goes_on, stops_at, judged_on, judged_at)
