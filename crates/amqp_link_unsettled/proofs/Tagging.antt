-- Open messages stand under their own tags, and how many there are.
use Rattle.std.proofs.Common.{◌≡◌, ℕ, ◌+◌, Bool, true, false, cond, List, [], ◌∷◌, ◌++◌, length, Option, Some, None, IsSome, refl, sym, ap, ◌∙◌, arith}
use Rattle.std.specs.Map.{lookup, remove_entry, set_value}
use Rattle.std.specs.Str.{bytes_eq}
use Rattle.std.specs.Cmp.Lexicographic.{same_text}
use Rattle.std.proofs.lemmas.Map.Entries.{lookup_head, lookup_tail}
use Rattle.amqp_link_unsettled.specs.declared.open.Open.{Open}
use Rattle.std.proofs.lemmas.Map.{length-set_value}
use Rattle.amqp_session_states.specs.declared.delivery_state.DeliveryState.{DeliveryState}
use Rattle.amqp_link_unsettled.specs.Tagged.{AreTagged}
use Rattle.amqp_link_unsettled.specs.Told.{told}
use Rattle.amqp_link_unsettled.specs.Messages.{told_at}

-- a message that is found is under its tag
pub tagged-lookup : (t : List ℕ) (es : List (List ℕ × Open)) (m : Open) → AreTagged es → lookup (bytes_eq t) es ≡ Some m → m.tag ≡ t
tagged-lookup t [] m tagged found = absurd cc
tagged-lookup t (e ∷ es) m tagged found = by (bytes_eq t e.0) refl (λ h. tagged-lookup t es m tagged.1 h)
  where
    by : (b : Bool) → bytes_eq t e.0 ≡ b → (lookup (bytes_eq t) es ≡ Some m → m.tag ≡ t) → m.tag ≡ t
    by true hit later =
        let here : Some e.1 ≡ Some m = sym (lookup_head (bytes_eq t) e es hit) ∙ found in
        let same : e.1 ≡ m = cc in
        ap (λ (o : Open). o.tag) (sym same) ∙ tagged.0 ∙ sym (same_text t e.0 (sym hit))
    by false miss later = later (sym (lookup_tail (bytes_eq t) e es miss) ∙ found)

-- those that stay are under their tags
pub tagged-remove : (t : List ℕ) (es : List (List ℕ × Open)) → AreTagged es → AreTagged (remove_entry (bytes_eq t) es)
tagged-remove t [] tagged = tt
tagged-remove t (e ∷ es) tagged = by (bytes_eq t e.0) (tagged-remove t es tagged.1)
  where
    by : (b : Bool) → AreTagged (remove_entry (bytes_eq t) es) → AreTagged (cond b es (e ∷ remove_entry (bytes_eq t) es))
    by true rest = tagged.1
    by false rest = (tagged.0, rest)

-- a message that changes but for its tag is under it
pub tagged-set : (t : List ℕ) (es : List (List ℕ × Open)) (m : Open) → m.tag ≡ t → AreTagged es → AreTagged (set_value (bytes_eq t) es m)
tagged-set t [] m tag tagged = tt
tagged-set t (e ∷ es) m tag tagged = by (bytes_eq t e.0) refl (tagged-set t es m tag tagged.1)
  where
    by : (b : Bool) → bytes_eq t e.0 ≡ b → AreTagged (set_value (bytes_eq t) es m) → AreTagged (cond b ((e.0, m) ∷ es) (e ∷ set_value (bytes_eq t) es m))
    by true hit rest = (tag ∙ same_text t e.0 (sym hit), tagged.1)
    by false miss rest = (tagged.0, rest)

-- one message more is under its tag
pub tagged-append : (es : List (List ℕ × Open)) (t : List ℕ) (m : Open) → AreTagged es → m.tag ≡ t → AreTagged (es ++ (t, m) ∷ [])
tagged-append [] t m tagged tag = (tag, tt)
tagged-append (e ∷ es) t m tagged tag = (tagged.0, tagged-append es t m tagged.1 tag)

-- one message fewer
pub length-remove_open : (t : List ℕ) (es : List (List ℕ × Open)) → IsSome (lookup (bytes_eq t) es) → length (remove_entry (bytes_eq t) es) + 1 ≡ length es
length-remove_open t [] found = absurd cc
length-remove_open t (e ∷ es) found = by (bytes_eq t e.0) found (λ h. length-remove_open t es h)
  where
    by : (b : Bool) → IsSome (cond b (Some e.1) (lookup (bytes_eq t) es)) → (IsSome (lookup (bytes_eq t) es) → length (remove_entry (bytes_eq t) es) + 1 ≡ length es)
        → length (cond b es (e ∷ remove_entry (bytes_eq t) es)) + 1 ≡ length (e ∷ es)
    by true hit later = omega arith
    by false miss later = omega (arith, later miss)

-- a message of which a state is told stays under its tag
pub tagged-told : (t : List ℕ) (es : List (List ℕ × Open)) (o : Option Open) (state : Option DeliveryState) → lookup (bytes_eq t) es ≡ o → AreTagged es → AreTagged (told_at es t o state)
tagged-told t es None state is tagged = tagged
tagged-told t es (Some m) state is tagged = tagged-set t es (told m state) (tagged-lookup t es m tagged is) tagged

-- as many messages as before
pub length-told : (t : List ℕ) (es : List (List ℕ × Open)) (o : Option Open) (state : Option DeliveryState) → length (told_at es t o state) ≡ length es
length-told t es None state = refl
length-told t es (Some m) state = length-set_value (bytes_eq t) es (told m state)
