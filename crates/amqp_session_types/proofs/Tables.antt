-- The entries of a map of numbers, as a table.
use Rattle.std.proofs.lemmas.Bool.{ne_eqb}
use Rattle.std.proofs.lemmas.Bool.Decides.{eqb_tells}
use Rattle.std.proofs.lemmas.Map.{lookup-set_value}
use Rattle.std.proofs.lemmas.Map.Entries.{lookup-filter-values, option_filter}
use Rattle.std.proofs.Common.{◌≡◌, ◌≢◌, ◌⊎◌, inl, inr, ℕ, Bool, true, false, cond, List, [], ◌∷◌, filter, nat_eq}
use Rattle.std.proofs.Common.{Option, Some, None, IsSome, refl, sym, ap, ◌∙◌, ◌==◌}
use Rattle.std.specs.Cmp.{nat_cmp_total, unsigned_tied, nat_eq_equiv}
use Rattle.std.specs.Ordering.{nat_cmp}
use Rattle.std.specs.FinMap as map
use Rattle.std.specs.FinMap.{find, same_map, nat_cmp-IsAntisymmetric, get-from_entries, get-insert, get-remove}
use Rattle.std.specs.List.{IsDistinct}
use Rattle.std.specs.Map.{keys_of, lookup, set_value}

module _ {X : Type 0} where
  -- what a table has at a key, where it is put or taken
  pub get-put : (t : map.FinMap nat_cmp X) (key q : ℕ) (v : X)
      → map.get (map.insert t key v) q ≡ cond (q == key) (Some v) (map.get t q)
  get-put t key q v =
      get-insert nat_cmp_total t key v q ∙ ap (λ (b : Bool). cond b (Some v) (map.get t q)) (unsigned_tied q key)

  pub get-take : (t : map.FinMap nat_cmp X) (key q : ℕ)
      → map.get (map.remove t key) q ≡ cond (q == key) None (map.get t q)
  get-take t key q =
      get-remove nat_cmp_total t key q ∙ ap (λ (b : Bool). cond b None (map.get t q)) (unsigned_tied q key)

  pub same_tables : (t u : map.FinMap nat_cmp X) → ((q : ℕ) → map.get t q ≡ map.get u q) → t ≡ u
  same_tables t u is = same_map nat_cmp_total nat_cmp-IsAntisymmetric t u is

  pub get-entries : (es : List (ℕ × X)) (q : ℕ) → map.get {R = nat_cmp} (map.from_entries es) q ≡ lookup (nat_eq q) es
  get-entries es q = get-from_entries nat_cmp_total es q ∙ looked_up es
    where
      looked_up : (ps : List (ℕ × X)) → find nat_cmp q ps ≡ lookup (nat_eq q) ps
      looked_up [] = refl
      looked_up (p ∷ ps) =
          ap (λ (b : Bool). cond b (Some p.1) (find nat_cmp q ps)) (unsigned_tied q p.0)
          ∙ ap (λ (o : Option X). cond (q == p.0) (Some p.1) o) (looked_up ps)

  module _ (old new : List (ℕ × X)) (key : ℕ) where
    pub entered : (v : X) → ((q : ℕ) → lookup (nat_eq q) new ≡ cond (nat_eq key q) (Some v) (lookup (nat_eq q) old))
        → map.from_entries {R = nat_cmp} new ≡ map.insert (map.from_entries old) key v
    entered v u =
        same_tables _ _ (λ q.
        get-entries new q ∙ u q ∙ ap (λ (b : Bool). cond b (Some v) (lookup (nat_eq q) old)) (nat_eq_equiv.symm key q)
        ∙ ap (λ (o : Option X). cond (nat_eq q key) (Some v) o) (sym (get-entries old q))
        ∙ sym (get-put (map.from_entries old) key q v))

    pub taken_out : ((q : ℕ) → lookup (nat_eq q) new ≡ cond (nat_eq key q) None (lookup (nat_eq q) old))
        → map.from_entries {R = nat_cmp} new ≡ map.remove (map.from_entries old) key
    taken_out u =
        same_tables _ _ (λ q.
        get-entries new q ∙ u q ∙ ap (λ (b : Bool). cond b None (lookup (nat_eq q) old)) (nat_eq_equiv.symm key q)
        ∙ ap (λ (o : Option X). cond (nat_eq q key) None o) (sym (get-entries old q))
        ∙ sym (get-take (map.from_entries old) key q))

  -- with another value at a key that there is
  pub exchanged : (es : List (ℕ × X)) (key : ℕ) (v : X) → IsSome (lookup (nat_eq key) es)
      → map.from_entries {R = nat_cmp} (set_value (nat_eq key) es v) ≡ map.insert (map.from_entries es) key v
  exchanged es key v there =
      entered es (set_value (nat_eq key) es v) key v
      (λ q. lookup-set_value nat_eq_equiv (nat_eq key) (λ x y e. same x y e) q v es there)
    where
      same : (x y : ℕ) → nat_eq key x ≡ true → nat_eq key y ≡ nat_eq x y
      same x y e = by (eqb_tells key x)
        where
          by : (((key == x) ≡ true) × (key ≡ x)) ⊎ (((key == x) ≡ false) × (key ≢ x)) → nat_eq key y ≡ nat_eq x y
          by (inl p) = ap (λ (k : ℕ). nat_eq k y) p.1
          by (inr p) = absurd cc

  -- what is under another key
  pub get-put-other : (t : map.FinMap nat_cmp X) (key q : ℕ) (v : X) → q ≢ key
      → map.get (map.insert t key v) q ≡ map.get t q
  get-put-other t key q v ne = get-put t key q v ∙ ap (λ (b : Bool). cond b (Some v) (map.get t q)) (ne_eqb q key ne)

  pub get-take-other : (t : map.FinMap nat_cmp X) (key q : ℕ) → q ≢ key → map.get (map.remove t key) q ≡ map.get t q
  get-take-other t key q ne = get-take t key q ∙ ap (λ (b : Bool). cond b None (map.get t q)) (ne_eqb q key ne)

  -- what isn't there isn't there without another
  pub get-take-none : (t : map.FinMap nat_cmp X) (key q : ℕ) → map.get t q ≡ None → map.get (map.remove t key) q ≡ None
  get-take-none t key q none = get-take t key q ∙ by (q == key)
    where
      by : (b : Bool) → cond b None (map.get t q) ≡ None
      by true = refl
      by false = none

  -- what was put and taken again
  pub taken-back : (t : map.FinMap nat_cmp X) (key : ℕ) (v : X) → map.get t key ≡ None
      → map.remove (map.insert t key v) key ≡ t
  taken-back t key v none =
      same_tables _ _ (λ q.
      get-take (map.insert t key v) key q ∙ ap (λ (o : Option X). cond (q == key) None o) (get-put t key q v)
      ∙ by q (eqb_tells q key))
    where
      by : (q : ℕ) → (((q == key) ≡ true) × (q ≡ key)) ⊎ (((q == key) ≡ false) × (q ≢ key))
          → cond (q == key) None (cond (q == key) (Some v) (map.get t q)) ≡ map.get t q
      by q (inl p) =
          ap (λ (b : Bool). cond b None (cond b (Some v) (map.get t q))) p.0
          ∙ sym none ∙ ap (λ (k : ℕ). map.get t k) (sym p.1)
      by q (inr p) = ap (λ (b : Bool). cond b None (cond b (Some v) (map.get t q))) p.0

  -- taking out what isn't there
  pub not-there : (t : map.FinMap nat_cmp X) (key : ℕ) → map.get t key ≡ None → t ≡ map.remove t key
  not-there t key none = same_tables _ _ (λ q. sym (get-take t key q ∙ by q (eqb_tells q key)))
    where
      by : (q : ℕ) → (((q == key) ≡ true) × (q ≡ key)) ⊎ (((q == key) ≡ false) × (q ≢ key))
          → cond (q == key) None (map.get t q) ≡ map.get t q
      by q (inl p) = ap (λ (b : Bool). cond b None (map.get t q)) p.0 ∙ sym none ∙ ap (λ (k : ℕ). map.get t k) (sym p.1)
      by q (inr p) = ap (λ (b : Bool). cond b None (map.get t q)) p.0

  -- what is left of the entries whose values are of one kind
  pub those_kept : (keeps : X → Bool) (es kept : List (ℕ × X)) (q : ℕ) → IsDistinct nat_eq (keys_of es)
      → kept ≡ filter (λ e. keeps e.1) es
      → map.get {R = nat_cmp} (map.from_entries kept) q
      ≡ option_filter keeps (map.get {R = nat_cmp} (map.from_entries es) q)
  those_kept keeps es kept q unique are =
      get-entries kept q
      ∙ ap (λ (xs : List (ℕ × X)). lookup (nat_eq q) xs) are
      ∙ lookup-filter-values nat_eq_equiv keeps q es unique
      ∙ ap (λ (o : Option X). option_filter keeps o) (sym (get-entries es q))
