-- Clones are equal to what they are clones of.
use Rattle.std.proofs.Common.{◌≡◌, ℕ, List, Result, Ok, Err, subst}
use Rattle.std.specs.Prelude.{IfOk}
use Rattle.std.specs.List.{AllZip}
use Rattle.serde_amqp_values.proofs.PairLaws.{clones_equal}

-- the clone of a map has the same pairs
pub pairs_cloned : (ps qs : List (List ℕ × List ℕ)) → AllZip (λ p q. (q.0 ≡ p.0) × (q.1 ≡ p.1)) ps qs → qs ≡ ps
pairs_cloned = clones_equal (λ x y. y ≡ x) (λ x y. y ≡ x) (λ x y e. e) (λ x y e. e)

pub ruleset clones = (pairs_cloned)

-- what is known of each of two results, of both
pub both_are : {A B E : Type 0} (r : Result (A × B) E) (a : Result A E) (b : Result B E) (P : A → Type 0) (Q : B → Type 0) → IfOk a P → IfOk b Q → IfOk r (λ c. (a ≡ Ok c.0) × (b ≡ Ok c.1)) → IfOk r (λ c. P c.0 × Q c.1)
both_are (Err e) a b P Q p q h = tt
both_are {A} {B} {E} (Ok c) a b P Q p q h =
    let F : Result A E → Type 0 = λ x. IfOk x P in
    let G : Result B E → Type 0 = λ x. IfOk x Q in
    (subst F h.0 p, subst G h.1 q)
