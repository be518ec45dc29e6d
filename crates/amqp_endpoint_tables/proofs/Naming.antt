-- The numbers of links by their names, as links come and go.
use Rattle.std.proofs.lemmas.Bool.Decides.{eqb_tells}
use Rattle.std.proofs.lemmas.Option.{none-some, same_Some}
use Rattle.std.proofs.lemmas.Slice.Eq.{bytes_eq-Decides}
use Rattle.std.proofs.Common.{◌≡◌, ◌≢◌, ◌⊎◌, inl, inr, ℕ, Bool, true, false, true≢false, cond, List, [], ◌∷◌, ◌++◌, Option, Some, None, refl, sym, ap, ◌∙◌, ◌==◌, length, length-set, slice_set, slice_index_or, subst, OnSome, IfNone}
use Rattle.std.specs.Map.{lookup}
use Rattle.std.specs.Str.{bytes_eq}
use Rattle.amqp_endpoint_tables.specs.declared.link_place.LinkPlace.{LinkPlace}
use Rattle.amqp_endpoint_tables.specs.declared.link_place.Named.{Named}
use Rattle.amqp_endpoint_tables.specs.Inside.{AreNamed, PutsUnder, TakesAway}
use Rattle.amqp_endpoint_tables.specs.LinkState.{AreApart, IsNewName, moved, name_in, put_in}
use Rattle.amqp_endpoint_tables.proofs.Slots.{name-before, name-entered, name-gone, name-left, name-lent, name-past}
use Rattle.amqp_endpoint_tables.proofs.Slots.{name-put}

abbrev Numbers : Type 0
Numbers = List (List ℕ × ℕ)

-- two names are one, or they aren't
told_apart : (x y : List ℕ) → ((bytes_eq x y ≡ true) × (x ≡ y)) ⊎ ((bytes_eq x y ≡ false) × (x ≢ y))
told_apart x y = by (bytes_eq x y) refl
  where
    by : (b : Bool) → bytes_eq x y ≡ b → ((bytes_eq x y ≡ true) × (x ≡ y)) ⊎ ((bytes_eq x y ≡ false) × (x ≢ y))
    by true e = inl (e, (bytes_eq-Decides x y).0 e)
    by false e = inr (e, λ same. true≢false (sym ((bytes_eq-Decides x y).1 same) ∙ e))

module _ {L : Type 0} where
  -- no links have no names
  pub none-named : (links : List (Option (Named L))) (numbers : Numbers) → links ≡ [] → numbers ≡ []
      → AreNamed links numbers
  none-named links numbers nothing none =
      record {
        each = λ name number there.
            absurd (none-some _ (sym (ap (λ (ls : List (Option (Named L))). name_in ls number) nothing) ∙ there));
        only = λ name number found.
            absurd (none-some _ (sym (ap (λ (ns : Numbers). lookup (bytes_eq name) ns) none) ∙ found));
      }

  -- links that keep their names
  pub same-named : (old new : List (Option (Named L))) (numbers : Numbers)
      → ((k : ℕ) → name_in new k ≡ name_in old k) → AreNamed old numbers → AreNamed new numbers
  same-named old new numbers same named =
      record {
        each = λ name number there. named.each name number (sym (same number) ∙ there);
        only = λ name number found. same number ∙ named.only name number found;
      }

  -- a link in another place, if there is one
  pub moved-named : (old new : List (Option (Named L))) (numbers : Numbers) (number : ℕ) (place : LinkPlace L)
      (had : Option (LinkPlace L)) → OnSome had (new ≡ put_in old number place) → IfNone had (new ≡ old)
      → AreNamed old numbers → AreNamed new numbers
  moved-named old new numbers number place None put none named =
      subst (λ (ls : List (Option (Named L))). AreNamed ls numbers) (sym none) named
  moved-named old new numbers number place (Some had) put none named =
      subst (λ (ls : List (Option (Named L))). AreNamed ls numbers) (sym put)
      (same-named old (put_in old number place) numbers (name-put old number place) named)

  -- which leaves their count
  pub moved-length : (old new : List (Option (Named L))) (number : ℕ) (place : LinkPlace L)
      (had : Option (LinkPlace L)) → OnSome had (new ≡ put_in old number place) → IfNone had (new ≡ old)
      → length new ≡ length old
  moved-length old new number place None put none = ap (λ (ls : List (Option (Named L))). length ls) none
  moved-length old new number place (Some had) put none =
      ap (λ (ls : List (Option (Named L))). length ls) put
      ∙ length-set old number (moved (slice_index_or old number None) place)

  -- a link that is lent
  pub lent-named : (links : List (Option (Named L))) (numbers : Numbers) (number : ℕ) (slot : Option (Named L))
      (place : LinkPlace L) → slot ≡ slice_index_or links number slot → AreNamed links numbers
      → AreNamed (slice_set links number (moved slot place)) numbers
  lent-named links numbers number slot place e named =
      same-named links (slice_set links number (moved slot place)) numbers
      (λ k. name-lent links number slot place k e) named

  module _ (links : List (Option (Named L))) (numbers : Numbers) (named : AreNamed links numbers) where
    -- names that stand apart
    pub named-apart : AreApart links
    named-apart m n name a b = same_Some _ _ (sym (named.each name m a) ∙ named.each name n b)

    -- a link is entered under a new name
    pub entered-named : (link : Named L) (more : Numbers) → IsNewName links link.name
        → PutsUnder link.name (length links) numbers more → AreNamed (links ++ Some link ∷ []) more
    entered-named link more new u = record { each = each; only = only }
      where
        each : (q : List ℕ) (n : ℕ) → name_in (links ++ Some link ∷ []) n ≡ Some q
            → lookup (bytes_eq q) more ≡ Some n
        each q n there = by (eqb_tells n (length links))
          where
            others : name_in links n ≡ Some q → lookup (bytes_eq q) more ≡ Some n
            others was = by_name (told_apart link.name q)
              where
                by_name : ((bytes_eq link.name q ≡ true) × (link.name ≡ q))
                    ⊎ ((bytes_eq link.name q ≡ false) × (link.name ≢ q))
                    → lookup (bytes_eq q) more ≡ Some n
                by_name (inl p) = absurd (new n (was ∙ ap (λ (x : List ℕ). Some x) (sym p.1)))
                by_name (inr p) =
                    u q ∙ ap (λ (b : Bool). cond b (Some (length links)) (lookup (bytes_eq q) numbers)) p.0
                    ∙ named.each q n was

            by : (((n == length links) ≡ true) × (n ≡ length links))
                ⊎ (((n == length links) ≡ false) × (n ≢ length links))
                → lookup (bytes_eq q) more ≡ Some n
            by (inl p) =
                let is : link.name ≡ q =
                same_Some _ _ (sym (ap (name_in (links ++ Some link ∷ [])) p.1 ∙ name-entered links link) ∙ there) in
                u q
                ∙ ap (λ (b : Bool). cond b (Some (length links)) (lookup (bytes_eq q) numbers))
                ((bytes_eq-Decides link.name q).1 is)
                ∙ ap (λ (k : ℕ). Some k) (sym p.1)
            by (inr p) = others (sym (name-before links link n p.1) ∙ there)

        only : (q : List ℕ) (n : ℕ) → lookup (bytes_eq q) more ≡ Some n
            → name_in (links ++ Some link ∷ []) n ≡ Some q
        only q n got = by (told_apart link.name q)
          where
            by : ((bytes_eq link.name q ≡ true) × (link.name ≡ q)) ⊎ ((bytes_eq link.name q ≡ false) × (link.name ≢ q))
                → name_in (links ++ Some link ∷ []) n ≡ Some q
            by (inl p) =
                let is : length links ≡ n =
                same_Some _ _
                (sym (u q ∙ ap (λ (b : Bool). cond b (Some (length links)) (lookup (bytes_eq q) numbers)) p.0) ∙ got) in
                ap (name_in (links ++ Some link ∷ [])) (sym is) ∙ name-entered links link
                ∙ ap (λ (x : List ℕ). Some x) p.1
            by (inr p) =
                let was : name_in links n ≡ Some q =
                named.only q n
                (sym (u q ∙ ap (λ (b : Bool). cond b (Some (length links)) (lookup (bytes_eq q) numbers)) p.0) ∙ got) in
                name-before links link n
                (λ same. none-some _ (sym (name-past links) ∙ ap (name_in links) (sym same) ∙ was)) ∙ was

    -- a link is taken out
    pub taken-named : (number : ℕ) (name : List ℕ) (more : Numbers) → name_in links number ≡ Some name
        → TakesAway name numbers more → AreNamed (slice_set links number None) more
    taken-named number name more had u = record { each = each; only = only }
      where
        each : (q : List ℕ) (n : ℕ) → name_in (slice_set links number None) n ≡ Some q
            → lookup (bytes_eq q) more ≡ Some n
        each q n there = by (eqb_tells n number)
          where
            others : n ≢ number → name_in links n ≡ Some q → lookup (bytes_eq q) more ≡ Some n
            others ne was = by_name (told_apart name q)
              where
                by_name : ((bytes_eq name q ≡ true) × (name ≡ q)) ⊎ ((bytes_eq name q ≡ false) × (name ≢ q))
                    → lookup (bytes_eq q) more ≡ Some n
                by_name (inl p) =
                    absurd (ne (named-apart n number q was (had ∙ ap (λ (x : List ℕ). Some x) p.1)))
                by_name (inr p) =
                    u q ∙ ap (λ (b : Bool). cond b None (lookup (bytes_eq q) numbers)) p.0 ∙ named.each q n was

            by : (((n == number) ≡ true) × (n ≡ number)) ⊎ (((n == number) ≡ false) × (n ≢ number))
                → lookup (bytes_eq q) more ≡ Some n
            by (inl p) =
                absurd
                (none-some _
                (sym (ap (name_in (slice_set links number None)) p.1 ∙ name-gone links number) ∙ there))
            by (inr p) = others p.1 (sym (name-left links number n p.1) ∙ there)

        only : (q : List ℕ) (n : ℕ) → lookup (bytes_eq q) more ≡ Some n
            → name_in (slice_set links number None) n ≡ Some q
        only q n got = by (told_apart name q)
          where
            by : ((bytes_eq name q ≡ true) × (name ≡ q)) ⊎ ((bytes_eq name q ≡ false) × (name ≢ q))
                → name_in (slice_set links number None) n ≡ Some q
            by (inl p) =
                absurd
                (none-some _
                (sym (u q ∙ ap (λ (b : Bool). cond b None (lookup (bytes_eq q) numbers)) p.0) ∙ got))
            by (inr p) =
                let was : name_in links n ≡ Some q =
                named.only q n (sym (u q ∙ ap (λ (b : Bool). cond b None (lookup (bytes_eq q) numbers)) p.0) ∙ got) in
                name-left links number n
                (λ same. p.1 (same_Some _ _ (sym had ∙ ap (name_in links) (sym same) ∙ was))) ∙ was
