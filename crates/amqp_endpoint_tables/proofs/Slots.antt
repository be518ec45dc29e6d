-- Lists of links, where one is put, taken out or entered.
use Rattle.std.proofs.Common.{◌≡◌, ◌≢◌, ℕ, zero, suc, List, [], ◌∷◌, ◌++◌, Option, Some, None, refl, ap, ◌∙◌, length, slice_get, slice_set, slice_index_or, arith}
use Rattle.std.proofs.lemmas.Option.{none-some, slice_get_past}
use Rattle.amqp_endpoint_tables.specs.declared.link_place.LinkPlace.{LinkPlace}
use Rattle.amqp_endpoint_tables.specs.declared.link_place.Named.{Named}
use Rattle.amqp_endpoint_tables.specs.LinkState.{moved, name_in, name_of, open_of, put_in}

module _ {X : Type 0} where
  pub get-same : (xs : List X) (i : ℕ) (x v : X) → slice_get xs i ≡ Some x → slice_get (slice_set xs i v) i ≡ Some v
  get-same [] i x v e = absurd (none-some _ e)
  get-same (y ∷ ys) zero x v e = refl
  get-same (y ∷ ys) (suc i) x v e = get-same ys i x v e

  pub get-other : (xs : List X) (i k : ℕ) (v : X) → k ≢ i → slice_get (slice_set xs i v) k ≡ slice_get xs k
  get-other [] i k v ne = refl
  get-other (y ∷ ys) zero zero v ne = absurd (ne refl)
  get-other (y ∷ ys) zero (suc k) v ne = refl
  get-other (y ∷ ys) (suc i) zero v ne = refl
  get-other (y ∷ ys) (suc i) (suc k) v ne = get-other ys i k v (λ e. ne (ap suc e))

  pub get-pushed : (xs : List X) (x : X) → slice_get (xs ++ x ∷ []) (length xs) ≡ Some x
  get-pushed [] x = refl
  get-pushed (y ∷ ys) x = get-pushed ys x

  pub get-before : (xs : List X) (x : X) (k : ℕ) → k ≢ length xs → slice_get (xs ++ x ∷ []) k ≡ slice_get xs k
  get-before [] x zero ne = absurd (ne refl)
  get-before [] x (suc k) ne = refl
  get-before (y ∷ ys) x zero ne = refl
  get-before (y ∷ ys) x (suc k) ne = get-before ys x k (λ e. ne (ap suc e))

module _ {L : Type 0} where
  -- what stands at the number of a link that isn't closed
  pub slot_is : (o : Option (Option (Named L))) (link : Named L) → open_of o ≡ Some link → o ≡ Some (Some link)
  slot_is None link e = absurd (none-some _ e)
  slot_is (Some slot) link e = ap (λ (x : Option (Named L)). Some x) e

  -- a link in another place keeps its name, and so do the others
  pub name-put : (links : List (Option (Named L))) (number : ℕ) (place : LinkPlace L) (k : ℕ)
      → name_in (put_in links number place) k ≡ name_in links k
  name-put [] number place k = refl
  name-put (None ∷ links) zero place zero = refl
  name-put (Some link ∷ links) zero place zero = refl
  name-put (slot ∷ links) zero place (suc k) = refl
  name-put (slot ∷ links) (suc number) place zero = refl
  name-put (slot ∷ links) (suc number) place (suc k) = name-put links number place k

  name-moved : (slot : Option (Named L)) (place : LinkPlace L) → name_of (moved slot place) ≡ name_of slot
  name-moved None place = refl
  name-moved (Some link) place = refl

  -- the same where the link was read before
  pub name-lent : (links : List (Option (Named L))) (number : ℕ) (slot : Option (Named L)) (place : LinkPlace L)
      (k : ℕ) → slot ≡ slice_index_or links number slot
      → name_in (slice_set links number (moved slot place)) k ≡ name_in links k
  name-lent [] number slot place k e = refl
  name-lent (x ∷ links) zero slot place zero e = name-moved slot place ∙ ap (λ (o : Option (Named L)). name_of o) e
  name-lent (x ∷ links) zero slot place (suc k) e = refl
  name-lent (x ∷ links) (suc number) slot place zero e = refl
  name-lent (x ∷ links) (suc number) slot place (suc k) e = name-lent links number slot place k e

  -- a link that is taken out has no name, and the others keep theirs
  pub name-gone : (links : List (Option (Named L))) (number : ℕ) → name_in (slice_set links number None) number ≡ None
  name-gone [] number = refl
  name-gone (slot ∷ links) zero = refl
  name-gone (slot ∷ links) (suc number) = name-gone links number

  pub name-left : (links : List (Option (Named L))) (number k : ℕ) → k ≢ number
      → name_in (slice_set links number None) k ≡ name_in links k
  name-left links number k ne =
      ap (λ (o : Option (Option (Named L))). name_of (open_of o)) (get-other links number k None ne)

  -- a link that is entered has its name, and the others keep theirs
  pub name-entered : (links : List (Option (Named L))) (link : Named L)
      → name_in (links ++ Some link ∷ []) (length links) ≡ Some link.name
  name-entered links link = ap (λ (o : Option (Option (Named L))). name_of (open_of o)) (get-pushed links (Some link))

  pub name-before : (links : List (Option (Named L))) (link : Named L) (k : ℕ) → k ≢ length links
      → name_in (links ++ Some link ∷ []) k ≡ name_in links k
  name-before links link k ne =
      ap (λ (o : Option (Option (Named L))). name_of (open_of o)) (get-before links (Some link) k ne)

  pub name-past : (links : List (Option (Named L))) → name_in links (length links) ≡ None
  name-past links =
      ap (λ (o : Option (Option (Named L))). name_of (open_of o)) (slice_get_past links (length links) (omega arith))
