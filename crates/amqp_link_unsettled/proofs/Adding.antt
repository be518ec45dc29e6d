-- Deliveries that are added to a list one after the other.
use Rattle.std.proofs.Common.{◌≡◌, ◌∙◌, ℕ, Bool, false, cond, List, [], ◌∷◌, ◌++◌, Option, Some, None, refl, ap, subst}
use Rattle.std.specs.List.{IsDistinct, AllByRecursion}
use Rattle.std.specs.Map.{keys_of, lookup}
use Rattle.std.specs.Str.{bytes_eq}
use Rattle.std.specs.Cmp.Lexicographic.{nat_list_eq_equiv}
use Rattle.std.proofs.lemmas.List.{map-append}
use Rattle.std.proofs.lemmas.Map.Keys.{IsDistinct-tail, IsDistinct-head}
use Rattle.amqp_session_states.specs.declared.delivery_state.DeliveryState.{DeliveryState}
use Rattle.amqp_link_unsettled.specs.Listing.{entries_listed}

module _ {M : Type 0} (listed : M → Option DeliveryState) where
  at_mid : (P : List ℕ → Type 0) (done rest : List (List ℕ × M)) (t : List ℕ) (m : M) → AllByRecursion P (keys_of (done ++ (t, m) ∷ rest)) → P t
  at_mid P [] rest t m all = all.0
  at_mid P (d ∷ done) rest t m all = at_mid P done rest t m all.1

  new_tag : (done rest : List (List ℕ × M)) (t : List ℕ) (m : M) → IsDistinct bytes_eq (keys_of (done ++ (t, m) ∷ rest)) → lookup (bytes_eq t) (entries_listed listed done) ≡ None
  new_tag [] rest t m apart = refl
  new_tag (d ∷ done) rest t m apart =
      let other : bytes_eq d.0 t ≡ false = at_mid (λ y. bytes_eq d.0 y ≡ false) done rest t m (IsDistinct-head bytes_eq d.0 (keys_of (done ++ (t, m) ∷ rest)) apart) in
      ap (λ (b : Bool). cond b (Some (listed d.1)) (lookup (bytes_eq t) (entries_listed listed done))) (nat_list_eq_equiv.symm t d.0 ∙ other)
      ∙ new_tag done rest t m (IsDistinct-tail bytes_eq d.0 (keys_of (done ++ (t, m) ∷ rest)) apart)

  -- the next tag isn't in the list yet
  pub tag-is-new : (es done rest : List (List ℕ × M)) (t : List ℕ) (m : M) → IsDistinct bytes_eq (keys_of es) → es ≡ done ++ (t, m) ∷ rest → lookup (bytes_eq t) (entries_listed listed done) ≡ None
  tag-is-new es done rest t m apart e = new_tag done rest t m (subst (λ (xs : List (List ℕ × M)). IsDistinct bytes_eq (keys_of xs)) e apart)

  pub listed-more : (done : List (List ℕ × M)) (t : List ℕ) (m : M) → entries_listed listed (done ++ (t, m) ∷ []) ≡ entries_listed listed done ++ (t, listed m) ∷ []
  listed-more done t m = map-append (λ (e : List ℕ × M). (e.0, listed e.1)) done ((t, m) ∷ [])
