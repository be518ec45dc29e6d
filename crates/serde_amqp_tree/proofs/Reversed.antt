-- Texts that are kept from the last byte to the first.
use Rattle.std.proofs.Common.{◌≡◌, ℕ, List, ◌++◌, reverse, ◌∙◌, ap}
use Rattle.std.proofs.lemmas.List.{reverse-append, reverse-reverse}

pub put_front : (old new part : List ℕ) → new ≡ old ++ reverse part → reverse new ≡ part ++ reverse old
put_front old new part e = ap reverse e ∙ (reverse-append old (reverse part) ∙ ap (λ (s : List ℕ). s ++ reverse old) (reverse-reverse part))

pub ruleset reversing = (put_front)
