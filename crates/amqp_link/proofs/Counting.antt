-- How often a tag stands among the open messages and those that ended.
use Rattle.std.proofs.Common.{◌≡◌, ℕ, ◌+◌, Bool, true, false, cond, List, [], ◌∷◌, ◌++◌, map, Option, Some, None, IsSome, refl, sym, ap, ◌∙◌, arith, if◌then◌else◌}
use Rattle.std.specs.Map.{keys_of, lookup, remove_entry, set_value}
use Rattle.std.specs.Str.{bytes_eq}
use Rattle.std.specs.Cmp.Lexicographic.{same_text}
use Rattle.amqp_session_states.specs.declared.delivery_state.DeliveryState.{DeliveryState}
use Rattle.amqp_link_unsettled.specs.Exchanging.{Listing, all_ended, becoming, ended_at, exchanged}
use Rattle.amqp_link_unsettled.specs.Messages.{MessageLists, disposed_at, disposed, failed, interrupted, open_at}
use Rattle.amqp_link_unsettled.specs.Messages.{resolved_as, told_at}
use Rattle.amqp_link_unsettled.specs.Resolutions.{ends, resolution_of}
use Rattle.amqp_link_unsettled.specs.Told.{told}
use Rattle.amqp_link_unsettled.specs.declared.open.Open.{Open}
use Rattle.amqp_link_unsettled.specs.declared.resolution.Failure.{Failure}
use Rattle.amqp_link_unsettled.specs.declared.resolution.Resolution.{Resolution}
use Rattle.amqp_link_unsettled.specs.declared.resolution.Resolution.TheVariants.{Failed}
use Rattle.amqp_link.specs.Times.{once_if, times, times_in}

module _ (tag : List ℕ) where
  pub times-append : (xs ys : List (List ℕ)) → times tag (xs ++ ys) ≡ times tag xs + times tag ys
  times-append [] ys = omega arith
  times-append (x ∷ xs) ys = omega (arith, times-append xs ys)

  module _ {X : Type 0} where
    pub in-append : (xs ys : List (List ℕ × X)) → times_in tag (xs ++ ys) ≡ times_in tag xs + times_in tag ys
    in-append [] ys = omega arith
    in-append (x ∷ xs) ys = omega (arith, in-append xs ys)

    pub in-removed : (t : List ℕ) (es : List (List ℕ × X)) → IsSome (lookup (bytes_eq t) es)
        → times_in tag (remove_entry (bytes_eq t) es) + once_if (bytes_eq tag t) ≡ times_in tag es
    in-removed t [] found = absurd cc
    in-removed t (e ∷ es) found = by (bytes_eq t e.0) refl found (λ h. in-removed t es h)
      where
        by : (b : Bool) → bytes_eq t e.0 ≡ b → IsSome (cond b (Some e.1) (lookup (bytes_eq t) es))
            → (IsSome (lookup (bytes_eq t) es)
            → times_in tag (remove_entry (bytes_eq t) es) + once_if (bytes_eq tag t) ≡ times_in tag es)
            → times_in tag (cond b es (e ∷ remove_entry (bytes_eq t) es)) + once_if (bytes_eq tag t)
            ≡ times_in tag (e ∷ es)
        by true hit here later =
            omega (arith, ap (λ (k : List ℕ). once_if (bytes_eq tag k)) (same_text t e.0 (sym hit)))
        by false miss here later = omega (arith, later here)

    pub in-set : (test : List ℕ → Bool) (es : List (List ℕ × X)) (v : X)
        → times_in tag (set_value test es v) ≡ times_in tag es
    in-set test [] v = refl
    in-set test (e ∷ es) v = by (test e.0) (in-set test es v)
      where
        by : (b : Bool) → times_in tag (set_value test es v) ≡ times_in tag es
            → times_in tag (cond b ((e.0, v) ∷ es) (e ∷ set_value test es v)) ≡ times_in tag (e ∷ es)
        by true rest = refl
        by false rest = omega (arith, rest)

    pub in-keys : {Y : Type 0} (y : Y) (es : List (List ℕ × X))
        → times_in tag (map (λ (t : List ℕ). (t, y)) (keys_of es)) ≡ times_in tag es
    in-keys y [] = refl
    in-keys y (e ∷ es) = omega (arith, in-keys y es)

  -- how often it stands among both
  abbrev pub total : MessageLists → ℕ
  total s = times_in tag s.unsettled + times_in tag s.resolved

  pub total-resolved : (s : MessageLists) (t : List ℕ) (r : Resolution) → IsSome (open_at s t)
      → total (resolved_as s t r) ≡ total s
  total-resolved s t r found = omega (arith, in-removed t s.unsettled found, in-append s.resolved ((t, r) ∷ []))

  pub total-ended : (s : MessageLists) (t : List ℕ) (r : Resolution) (o : Option Open) → open_at s t ≡ o
      → total (ended_at s t r o) ≡ total s
  total-ended s t r None is = refl
  total-ended s t r (Some m) is = total-resolved s t r cc

  pub total-all_ended : (s : MessageLists) (es : List (List ℕ × Resolution)) → total (all_ended s es) ≡ total s
  total-all_ended s [] = refl
  total-all_ended s (e ∷ es) =
      total-all_ended (ended_at s e.0 e.1 (open_at s e.0)) es ∙ total-ended s e.0 e.1 (open_at s e.0) refl

  pub total-exchanged : (s : MessageLists) (listed : Listing) (incomplete : Bool)
      → total (exchanged s listed incomplete) ≡ total s
  total-exchanged s listed incomplete = total-all_ended (interrupted s) (becoming s listed incomplete).ended

  pub total-failed : (s : MessageLists) (f : Failure) → total (failed s f) ≡ total s
  total-failed s f =
      let failures : List (List ℕ × Resolution) = map (λ (t : List ℕ). (t, Failed f)) (keys_of s.unsettled) in
      omega (arith, in-append s.resolved failures, in-keys (Failed f) s.unsettled)

  disposed_if : (b : Bool) (s : MessageLists) (t : List ℕ) (m : Open) (state : Option DeliveryState)
      → open_at s t ≡ Some m
      → total (if b then resolved_as s t (resolution_of state) else record s {
        unsettled =
            told_at s.unsettled t (Some m) state;
      }) ≡ total s
  disposed_if true s t m state is = total-resolved s t (resolution_of state) cc
  disposed_if false s t m state is = omega (arith, in-set (bytes_eq t) s.unsettled (told m state))

  disposed_by : (s : MessageLists) (t : List ℕ) (o : Option Open) (settled : Bool) (state : Option DeliveryState)
      → open_at s t ≡ o
      → total (disposed_at s t o settled state) ≡ total s
  disposed_by s t None settled state is = refl
  disposed_by s t (Some m) settled state is = disposed_if (ends settled state) s t m state is

  pub total-disposed : (s : MessageLists) (t : List ℕ) (settled : Bool) (state : Option DeliveryState)
      → total (disposed s t settled state) ≡ total s
  total-disposed s t settled state = disposed_by s t (open_at s t) settled state refl
