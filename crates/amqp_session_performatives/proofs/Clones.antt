-- Clones are equal to what they are clones of.
use Rattle.std.proofs.Common.{◌≡◌, ℕ, List, Option, Some, None, Result, Ok, Err, refl, ap, subst}
use Rattle.std.specs.Prelude.{IfOk}
use Rattle.std.specs.List.{AllZip, each_same}
use Rattle.serde_amqp_values.proofs.PairLaws.{clones_equal}
use Rattle.amqp_session_states.specs.declared.delivery_state.DeliveryState.{DeliveryState}

-- an array's clone has the same symbols
pub symbols_cloned : (xs ys : List (List ℕ)) → AllZip (λ x y. y ≡ x) xs ys → ys ≡ xs
symbols_cloned = each_same

-- what may be absent is cloned where it is there
abbrev pub IsCloned : {X : Type 0} → (X → X → Type 0) → Option X → Option X → Type 0
IsCloned C None None = Unit {0}
IsCloned C None (Some y) = ⊥
IsCloned C (Some x) None = ⊥
IsCloned C (Some x) (Some y) = C x y

option_cloned : {X : Type 0} (C : X → X → Type 0) → ((x y : X) → C x y → y ≡ x) → (o p : Option X) → IsCloned C o p → p ≡ o
option_cloned C c None None h = refl
option_cloned C c None (Some y) h = absurd h
option_cloned C c (Some x) None h = absurd h
option_cloned {X} C c (Some x) (Some y) h = ap (λ (z : X). Some z) (c x y h)

-- the clone of values by their names is the same
pub values_cloned : (o p : Option (List (List ℕ × List ℕ))) → IsCloned (AllZip (λ p q. (q.0 ≡ p.0) × (q.1 ≡ p.1))) o p → p ≡ o
values_cloned = option_cloned (AllZip (λ p q. (q.0 ≡ p.0) × (q.1 ≡ p.1))) (clones_equal (λ x y. y ≡ x) (λ x y. y ≡ x) (λ x y e. e) (λ x y e. e))

-- where a state's clone is the state, the clone of a link's unsettled deliveries is the same
pub unsettled_cloned : (D : DeliveryState → DeliveryState → Type 0) → ((x y : DeliveryState) → D x y → y ≡ x) → (o p : Option (List (List ℕ × Option DeliveryState))) → IsCloned (AllZip (λ p q. (q.0 ≡ p.0) × IsCloned D p.1 q.1)) o p → p ≡ o
unsettled_cloned D d = option_cloned (AllZip (λ p q. (q.0 ≡ p.0) × IsCloned D p.1 q.1)) (clones_equal (λ x y. y ≡ x) (IsCloned D) (λ x y e. e) (option_cloned D d))

-- what is known of each of two results, of both
pub both_are : {A B E : Type 0} (r : Result (A × B) E) (a : Result A E) (b : Result B E) (P : A → Type 0) (Q : B → Type 0) → IfOk a P → IfOk b Q → IfOk r (λ c. (a ≡ Ok c.0) × (b ≡ Ok c.1)) → IfOk r (λ c. P c.0 × Q c.1)
both_are (Err e) a b P Q p q h = tt
both_are {A} {B} {E} (Ok c) a b P Q p q h =
    let F : Result A E → Type 0 = λ x. IfOk x P in
    let G : Result B E → Type 0 = λ x. IfOk x Q in
    (subst F h.0 p, subst G h.1 q)
