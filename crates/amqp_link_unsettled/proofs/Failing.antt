-- Tags that are taken out from the last on, and handed over in order.
use Rattle.std.proofs.Common.{◌≡◌, ℕ, List, [], ◌∷◌, ◌++◌, map, reverse, refl, sym, ap, ◌∙◌, append_assoc}
use Rattle.std.proofs.lemmas.List.{map-append, reverse-append, reverse-reverse}
use Rattle.std.specs.Map.{keys_of}

-- what is made of each of them, turned round
pub map-reverse : {X Y : Type 0} (f : X → Y) (xs : List X) → map f (reverse xs) ≡ reverse (map f xs)
map-reverse f [] = refl
map-reverse f (x ∷ xs) =
    ap (map f) (reverse-append (x ∷ []) xs) ∙ map-append f (reverse xs) (x ∷ []) ∙ ap (λ ys. ys ++ f x ∷ []) (map-reverse f xs) ∙ sym (reverse-append (f x ∷ []) (map f xs))

module _ {M R : Type 0} (f : List ℕ → R) where
  -- before the first
  pub failing-none : (items : List R) (es : List (List ℕ × M)) → items ++ map f (reverse (keys_of (reverse es))) ≡ items ++ map f (keys_of es)
  failing-none items es = ap (λ (ts : List (List ℕ)). items ++ map f ts) (ap reverse (map-reverse (λ (e : List ℕ × M). e.0) es) ∙ reverse-reverse (keys_of es))

-- one more
pub failing-more : {R : Type 0} (f : List ℕ → R) (items new : List R) (tag : List ℕ) (old left : List (List ℕ)) → old ≡ left ++ tag ∷ [] → new ≡ items ++ f tag ∷ []
    → new ++ map f (reverse left) ≡ items ++ map f (reverse old)
failing-more f items new tag old left split pushed =
    ap (λ ys. ys ++ map f (reverse left)) pushed
    ∙ append_assoc items (f tag ∷ []) (map f (reverse left))
    ∙ ap (λ ts. items ++ map f ts) (sym (ap reverse split ∙ reverse-append left (tag ∷ [])))
