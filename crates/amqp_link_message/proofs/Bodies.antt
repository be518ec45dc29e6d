-- What an answer says where it is some.
use Rattle.std.proofs.Common.{◌≡◌, Option, Some, subst}
use Rattle.std.specs.Prelude.{IfSome}

pub some_gives : {X : Type 0} (o : Option X) (x : X) (P : X → Type 0) → o ≡ Some x → IfSome o P → P x
some_gives {X = X} o x P e h = subst (λ (p : Option X). IfSome p P) e h
