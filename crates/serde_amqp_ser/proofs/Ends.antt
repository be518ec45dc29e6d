-- What the sinks hold behind a whole value.
use Rattle.std.proofs.Common.{◌≡◌, ℕ, ◌+◌, List, ◌++◌, length, Some, None, ap}
use Rattle.serde_amqp_ser.specs.Written.{Written, capped, extended}

pub counter_text : (a b : ℕ) (x : List ℕ) → record { size = capped b; bytes = None } ≡ extended (record { size = capped a; bytes = None }) x → capped b ≡ capped (capped a + length x)
unfolding extended
counter_text a b x e = ap (λ (v : Written). v.size) e

pub vec_text : (a b : List ℕ) (x : List ℕ) → record { size = capped (length b); bytes = Some b } ≡ extended (record { size = capped (length a); bytes = Some a }) x → b ≡ a ++ x
unfolding extended
vec_text a b x e = let h : Some b ≡ Some (a ++ x) = ap (λ (v : Written). v.bytes) e in cc
