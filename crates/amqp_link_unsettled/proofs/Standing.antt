-- What stands under tags, as the deliveries that have a value.
use Rattle.std.proofs.Common.{◌≡◌, ℕ, ◌≤◌, Bool, true, false, cond, filter, List, [], ◌∷◌, ◌++◌, reverse, length, Option, None, Some, is_some, refl, sym, ap, subst, ◌∙◌, arith}
use Rattle.std.specs.List.{IsDistinct}
use Rattle.std.specs.Map.{keys_of, lookup, remove_entry, set_value}
use Rattle.std.specs.Option.{option_flatten, option_map}
use Rattle.std.specs.Str.{bytes_eq}
use Rattle.std.proofs.lemmas.List.{reverse-append}
use Rattle.amqp_link_unsettled.specs.Entries.{live, unless_gone}
use Rattle.amqp_link_unsettled.specs.declared.slot.Slot.{Slot}
use Rattle.amqp_link_unsettled.specs.Rising.{kept_of, standing}
use Rattle.amqp_link_unsettled.proofs.Live.{live-append, live-short, live-swept, swept-absent, all-there, gone-removed, lookup-live, live-taken, live-exchanged, live-apart, live-reverse}

module _ {M : Type 0} where
  kept-keys : (es : List (List ℕ × Slot M)) → keys_of (kept_of es) ≡ keys_of es
  kept-keys [] = refl
  kept-keys (e ∷ es) = ap (λ (ts : List (List ℕ)). e.0 ∷ ts) (kept-keys es)

  kept-length : (es : List (List ℕ × Slot M)) → length (kept_of es) ≡ length es
  kept-length [] = refl
  kept-length (e ∷ es) = omega (arith, kept-length es)

  kept-append : (es fs : List (List ℕ × Slot M)) → kept_of (es ++ fs) ≡ kept_of es ++ kept_of fs
  kept-append [] fs = refl
  kept-append (e ∷ es) fs = ap (λ (l : List (List ℕ × Option M)). (e.0, (e.1).kept) ∷ l) (kept-append es fs)

  kept-reverse : (es : List (List ℕ × Slot M)) → kept_of (reverse es) ≡ reverse (kept_of es)
  kept-reverse [] = refl
  kept-reverse (e ∷ es) =
      ap (λ (l : List (List ℕ × Slot M)). kept_of l) (reverse-append (e ∷ []) es)
      ∙ kept-append (reverse es) (e ∷ [])
      ∙ ap (λ (l : List (List ℕ × Option M)). l ++ (e.0, (e.1).kept) ∷ []) (kept-reverse es)
      ∙ sym (reverse-append ((e.0, (e.1).kept) ∷ []) (kept_of es))

  kept-swept : (es : List (List ℕ × Slot M)) → kept_of (filter (λ e. is_some (e.1).kept) es) ≡ filter (λ e. is_some e.1) (kept_of es)
  kept-swept [] = refl
  kept-swept (e ∷ es) = by (is_some (e.1).kept) (kept-swept es)
    where
      by : (b : Bool) → kept_of (filter (λ e. is_some (e.1).kept) es) ≡ filter (λ e. is_some e.1) (kept_of es)
          → kept_of (cond b (e ∷ filter (λ e. is_some (e.1).kept) es) (filter (λ e. is_some (e.1).kept) es))
          ≡ cond b ((e.0, (e.1).kept) ∷ filter (λ e. is_some e.1) (kept_of es)) (filter (λ e. is_some e.1) (kept_of es))
      by true rest = ap (λ (l : List (List ℕ × Option M)). (e.0, (e.1).kept) ∷ l) rest
      by false rest = rest

  module _ (test : List ℕ → Bool) where
    kept-lookup : (es : List (List ℕ × Slot M)) → lookup test (kept_of es) ≡ option_map (λ s. s.kept) (lookup test es)
    kept-lookup [] = refl
    kept-lookup (e ∷ es) = by (test e.0) (kept-lookup es)
      where
        by : (b : Bool) → lookup test (kept_of es) ≡ option_map (λ s. s.kept) (lookup test es)
            → cond b (Some (e.1).kept) (lookup test (kept_of es)) ≡ option_map (λ s. s.kept) (cond b (Some e.1) (lookup test es))
        by true rest = refl
        by false rest = rest

    kept-set : (es : List (List ℕ × Slot M)) (w : Slot M) → kept_of (set_value test es w) ≡ set_value test (kept_of es) w.kept
    kept-set [] w = refl
    kept-set (e ∷ es) w = by (test e.0) (kept-set es w)
      where
        by : (b : Bool) → kept_of (set_value test es w) ≡ set_value test (kept_of es) w.kept
            → kept_of (cond b ((e.0, w) ∷ es) (e ∷ set_value test es w))
            ≡ cond b ((e.0, w.kept) ∷ kept_of es) ((e.0, (e.1).kept) ∷ set_value test (kept_of es) w.kept)
        by true rest = refl
        by false rest = ap (λ (l : List (List ℕ × Option M)). (e.0, (e.1).kept) ∷ l) rest

  -- one more stands behind the others
  pub standing-append : (es fs : List (List ℕ × Slot M)) → standing (es ++ fs) ≡ standing es ++ standing fs
  standing-append es fs = ap (λ (l : List (List ℕ × Option M)). live l) (kept-append es fs) ∙ live-append (kept_of es) (kept_of fs)

  pub standing-short : (es : List (List ℕ × Slot M)) → length (standing es) ≤ length es
  standing-short es = omega (arith, live-short (kept_of es), kept-length es)

  -- without the tags that have none
  pub standing-swept : (es : List (List ℕ × Slot M)) → standing (filter (λ e. is_some (e.1).kept) es) ≡ standing es
  standing-swept es = ap (λ (l : List (List ℕ × Option M)). live l) (kept-swept es) ∙ live-swept (kept_of es)

  absent-kept : (test : List ℕ → Bool) (es : List (List ℕ × Slot M)) → lookup test (kept_of es) ≡ None → lookup test es ≡ None
  absent-kept test es none = by (lookup test es) (sym (kept-lookup test es) ∙ none)
    where
      by : (o : Option (Slot M)) → option_map (λ s. s.kept) o ≡ None → o ≡ None
      by None e = refl
      by (Some s) e = absurd cc

  pub standing-absent : (test : List ℕ → Bool) (es : List (List ℕ × Slot M)) → lookup test (standing es) ≡ None
      → lookup test (filter (λ e. is_some (e.1).kept) es) ≡ None
  standing-absent test es none =
      absent-kept test (filter (λ e. is_some (e.1).kept) es)
      (ap (λ (l : List (List ℕ × Option M)). lookup test l) (kept-swept es) ∙ swept-absent test (kept_of es) none)

  pub all-stand : (test : List ℕ → Bool) (es : List (List ℕ × Slot M)) → length (standing es) ≡ length es
      → lookup test (standing es) ≡ None → lookup test es ≡ None
  all-stand test es full none = absent-kept test es (all-there test (kept_of es) (omega (arith, full, kept-length es)) none)

  pub standing-reverse : (es : List (List ℕ × Slot M)) → standing (reverse es) ≡ reverse (standing es)
  standing-reverse es = ap (λ (l : List (List ℕ × Option M)). live l) (kept-reverse es) ∙ live-reverse (kept_of es)

  module _ (es : List (List ℕ × Slot M)) (apart : IsDistinct bytes_eq (keys_of es)) where
    kept_apart : IsDistinct bytes_eq (keys_of (kept_of es))
    kept_apart = subst (λ (ts : List (List ℕ)). IsDistinct bytes_eq ts) (sym (kept-keys es)) apart

    -- no two of them are equal
    pub standing-apart : IsDistinct bytes_eq (keys_of (standing es))
    standing-apart = live-apart (kept_of es) kept_apart

    module _ (q : List ℕ) where
      -- what a tag has
      pub lookup-standing : lookup (bytes_eq q) (standing es) ≡ option_flatten (option_map (λ s. s.kept) (lookup (bytes_eq q) es))
      lookup-standing =
          lookup-live q (kept_of es) kept_apart ∙ ap (λ (o : Option (Option M)). option_flatten o) (kept-lookup (bytes_eq q) es)

      -- what it has where its slot is known
      pub standing-slot : (s : Slot M) → lookup (bytes_eq q) es ≡ Some s → lookup (bytes_eq q) (standing es) ≡ s.kept
      standing-slot s found = lookup-standing ∙ ap (λ (o : Option (Slot M)). option_flatten (option_map (λ s. s.kept) o)) found

      -- where there is no slot nothing is taken out
      pub standing-unknown : lookup (bytes_eq q) es ≡ None → lookup (bytes_eq q) (standing es) ≡ None
      standing-unknown none = lookup-standing ∙ ap (λ (o : Option (Slot M)). option_flatten (option_map (λ s. s.kept) o)) none

      pub standing-removed : lookup (bytes_eq q) es ≡ None → standing es ≡ remove_entry (bytes_eq q) (standing es)
      standing-removed none =
          gone-removed (bytes_eq q) (kept_of es) (kept-lookup (bytes_eq q) es ∙ ap (λ (o : Option (Slot M)). option_map (λ s. s.kept) o) none)

      -- without its value
      pub standing-taken : (w : Slot M) → w.kept ≡ None → standing (set_value (bytes_eq q) es w) ≡ remove_entry (bytes_eq q) (standing es)
      standing-taken w none =
          ap (λ (l : List (List ℕ × Option M)). live l) (kept-set (bytes_eq q) es w ∙ ap (λ (o : Option M). set_value (bytes_eq q) (kept_of es) o) none)
          ∙ live-taken q (kept_of es) kept_apart

      -- with another value in the place of its own
      pub standing-exchanged : (s w : Slot M) (v m : M) → lookup (bytes_eq q) es ≡ Some s → s.kept ≡ Some v → w.kept ≡ Some m
          → standing (set_value (bytes_eq q) es w) ≡ set_value (bytes_eq q) (standing es) m
      standing-exchanged s w v m found had has =
          ap (λ (l : List (List ℕ × Option M)). live l) (kept-set (bytes_eq q) es w ∙ ap (λ (o : Option M). set_value (bytes_eq q) (kept_of es) o) has)
          ∙ live-exchanged q (kept_of es) v m
          (kept-lookup (bytes_eq q) es ∙ ap (λ (o : Option (Slot M)). option_map (λ s. s.kept) o) found ∙ ap (λ (o : Option M). Some o) had)

  -- the last that stands there
  pub standing-last : (es xs : List (List ℕ × Slot M)) (t : List ℕ) (s : Slot M) (k : Option M) → es ≡ xs ++ (t, s) ∷ [] → s.kept ≡ k
      → standing es ≡ standing xs ++ unless_gone t k []
  standing-last es xs t s k is kept =
      ap (λ (l : List (List ℕ × Slot M)). standing l) is
      ∙ standing-append xs ((t, s) ∷ [])
      ∙ ap (λ (o : Option M). standing xs ++ unless_gone t o []) kept

pub ruleset rules = (lookup-standing, standing-removed, standing-apart, standing-short, standing-reverse)
