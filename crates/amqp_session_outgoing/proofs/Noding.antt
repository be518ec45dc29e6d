-- Lists of nodes.
use Rattle.std.proofs.Common.{◌≡◌, ℕ, ◌-◌, ◌<◌, suc, zero, List, [], ◌∷◌, ◌++◌, length, take, arith, refl, sym, ap, ◌∙◌, subst, Option, Some, None, Bor}
use Rattle.std.specs.Prelude.{slice_index_or, slice_set, IsSome, IfSome, option_copied}
use Rattle.amqp_session_outgoing.specs.Nodes.{values_of, HoldValues, AreFree}

module _ {U : Type 0} where
  -- there are as many values as nodes
  pub values-length : (nodes : List (Option U)) → HoldValues nodes → length (values_of nodes) ≡ length nodes
  values-length [] h = refl
  values-length (None ∷ nodes) h = absurd h
  values-length (Some value ∷ nodes) h = ap (λ (n : ℕ). suc n) (values-length nodes h)

  pub values-append : (nodes more : List (Option U)) → values_of (nodes ++ more) ≡ values_of nodes ++ values_of more
  values-append [] more = refl
  values-append (None ∷ nodes) more = values-append nodes more
  values-append (Some value ∷ nodes) more = ap (λ (xs : List U). value ∷ xs) (values-append nodes more)

  hold-append : (nodes more : List (Option U)) → HoldValues nodes → HoldValues more → HoldValues (nodes ++ more)
  hold-append [] more h m = m
  hold-append (None ∷ nodes) more h m = absurd h
  hold-append (Some value ∷ nodes) more h m = hold-append nodes more h m

  free-append : (nodes more : List (Option U)) → AreFree nodes → AreFree more → AreFree (nodes ++ more)
  free-append [] more h m = m
  free-append (None ∷ nodes) more h m = free-append nodes more h m
  free-append (Some value ∷ nodes) more h m = absurd h

  -- one more free node
  pub free-push : (nodes : List (Option U)) → AreFree nodes → AreFree (nodes ++ None ∷ [])
  free-push nodes h = free-append nodes (None ∷ []) h tt

  -- the first node of a store got a value and went behind others
  pub put-values : (nodes store : List (Option U)) (value : U) → 0 < length store → values_of (nodes ++ take 1 (slice_set store 0 (Some value))) ≡ values_of nodes ++ value ∷ []
  put-values nodes [] value some = absurd (omega arith)
  put-values nodes (x ∷ store) value some = values-append nodes (Some value ∷ [])

  pub put-hold : (nodes store : List (Option U)) (value : U) → 0 < length store → HoldValues nodes → HoldValues (nodes ++ take 1 (slice_set store 0 (Some value)))
  put-hold nodes [] value some h = absurd (omega arith)
  put-hold nodes (x ∷ store) value some h = hold-append nodes (Some value ∷ []) h tt

  -- the first node of a row gave its value up and went behind free ones
  pub take-free : (store nodes : List (Option U)) (left : Option U) → left ≡ None → AreFree store → AreFree (store ++ take 1 (slice_set nodes 0 left))
  take-free store nodes left none h = subst (λ (x : Option U). AreFree (store ++ take 1 (slice_set nodes 0 x))) (sym none) (by nodes)
    where
      by : (nodes : List (Option U)) → AreFree (store ++ take 1 (slice_set nodes 0 None))
      by [] = free-append store [] h tt
      by (x ∷ nodes) = free-append store (None ∷ []) h tt

  -- the value at a place
  pub value-at : (nodes : List (Option U)) (i : ℕ) (value : U) (d : Option U) → HoldValues nodes → i < length nodes → Some value ≡ slice_index_or nodes i d → value ≡ slice_index_or (values_of nodes) i value
  value-at [] i value d h lt e = absurd (omega arith)
  value-at (None ∷ nodes) i value d h lt e = absurd h
  value-at (Some x ∷ nodes) zero value d h lt e = by e
    where
      by : Some value ≡ Some x → value ≡ x
      by e = grind (arith, e)
  value-at (Some x ∷ nodes) (suc i) value d h lt e = value-at nodes i value d h (omega arith) e

  -- a node at a place has a value
  pub some-at : (nodes : List (Option U)) (i : ℕ) (d : Option U) → HoldValues nodes → i < length nodes → IsSome (slice_index_or nodes i d)
  some-at [] i d h lt = absurd (omega arith)
  some-at (None ∷ nodes) i d h lt = absurd h
  some-at (Some x ∷ nodes) zero d h lt = refl
  some-at (Some x ∷ nodes) (suc i) d h lt = some-at nodes i d h (omega arith)

  -- the last value, as it is lent
  pub looked : (lent : Option (Bor U)) (last : Option U) (nodes : List (Option U)) (values : List U) → option_copied lent ≡ last → last ≡ slice_index_or nodes (length nodes - 1) last
      → HoldValues nodes → 0 < length nodes → values_of nodes ≡ values → IfSome lent (λ u. u.now ≡ slice_index_or values (length values - 1) u.now)
  looked None last nodes values copied at h lt is = tt
  looked (Some u) last nodes values copied at h lt is =
      let v : u.now ≡ slice_index_or (values_of nodes) (length nodes - 1) u.now = value-at nodes (length nodes - 1) u.now last h (omega (arith, lt)) (copied ∙ at) in
      subst (λ (vs : List U). u.now ≡ slice_index_or vs (length vs - 1) u.now) is
      (subst (λ (n : ℕ). u.now ≡ slice_index_or (values_of nodes) (n - 1) u.now) (sym (values-length nodes h)) v)

pub ruleset rules = (values-length, free-push)
