-- The pairs of a map are its keys and values in turn.
use Rattle.std.proofs.Common.{◌≡◌, ℕ, ◌*◌, List, ◌∷◌, ◌++◌, Option, Some, None, ◌∙◌, ap, sym, refl, arith}
use Rattle.serde_amqp_item.specs.Item.{item_count, Pairs, no_pairs, more_pairs, pair_count, keys_and_values}
use Rattle.serde_amqp_item.specs.Wire.{Forms, PairForms}
use Rattle.serde_amqp_item.specs.Canon.{◌>>=◌, canon, canon_all, canon_pairs}

pub pair_items : (ps : Pairs) → item_count (keys_and_values ps) ≡ 2 * pair_count ps
pair_items no_pairs = refl
pair_items (more_pairs x y ps) = omega (arith, pair_items ps)

pub pairs_as_forms : (within : ℕ → Type 0) (kept : ℕ → List ℕ → Type 0) (ps : Pairs) (bytes : List ℕ) → PairForms within kept ps bytes → Forms within kept (keys_and_values ps) None bytes
pairs_as_forms within kept no_pairs bytes f = f
pairs_as_forms within kept (more_pairs x y ps) bytes f = (f.0, f.1, f.2 ∷ (f.3 ++ f.4), f.5, f.6, (f.2, f.3, f.4, refl, f.7, pairs_as_forms within kept ps f.4 f.8))

pub forms_as_pairs : (within : ℕ → Type 0) (kept : ℕ → List ℕ → Type 0) (ps : Pairs) (bytes : List ℕ) → Forms within kept (keys_and_values ps) None bytes → PairForms within kept ps bytes
forms_as_pairs within kept no_pairs bytes f = f
forms_as_pairs within kept (more_pairs x y ps) bytes f =
    let whole : bytes ≡ f.0 ∷ (f.1 ++ f.5.0 ∷ (f.5.1 ++ f.5.2)) = f.3 ∙ ap (λ (s : List ℕ). f.0 ∷ (f.1 ++ s)) f.5.3 in
    (f.0, f.1, f.5.0, f.5.1, f.5.2, whole, f.4, f.5.4, forms_as_pairs within kept ps f.5.2 f.5.5)

texts_in_turn : (o q r s : Option (List ℕ)) → s ≡ r → (o >>= λ a. q >>= λ b. r >>= λ d. Some (a ++ (b ++ d))) ≡ (o >>= λ a. (q >>= λ b. s >>= λ d. Some (b ++ d)) >>= λ e. Some (a ++ e))
texts_in_turn None q r s e = refl
texts_in_turn (Some a) None r s e = refl
texts_in_turn (Some a) (Some b) None s e = ap (λ (t : Option (List ℕ)). (t >>= λ d. Some (b ++ d)) >>= λ i. Some (a ++ i)) (sym e)
texts_in_turn (Some a) (Some b) (Some d) s e = ap (λ (t : Option (List ℕ)). (t >>= λ d. Some (b ++ d)) >>= λ i. Some (a ++ i)) (sym e)

pub canon_in_turn : (ps : Pairs) → canon_pairs ps ≡ canon_all (keys_and_values ps)
canon_in_turn no_pairs = refl
canon_in_turn (more_pairs x y ps) = texts_in_turn (canon x) (canon y) (canon_pairs ps) (canon_all (keys_and_values ps)) (sym (canon_in_turn ps))
