-- How the starts of a payload grow with it.
use Rattle.std.proofs.Common.{◌≡◌, ℕ, ◌+◌, ◌-◌, ◌<◌, ◌≤◌, suc, zero, List, [], ◌∷◌, ◌++◌, length, arith, Bool, true, false, ap, refl, ◌∙◌, get_or, add-one, add-zero, append_assoc, ⊎_elim}
use Rattle.std.proofs.lemmas.Bool.{cases_lt}
use Rattle.std.proofs.lemmas.Bool.Decides.{nat_tests}
use Rattle.std.proofs.lemmas.List.{get_or_append_left, append-nil}
use Rattle.std.specs.Prelude.{Some, None, ◌&&◌, if◌then◌else◌, filter, nat_le, nat_lt, slice_get}
use Rattle.std.specs.List.{range_with_len}
use Rattle.std.proofs.lemmas.List.Elements.{filter-append}
use Rattle.amqp_link_base.specs.Starts.{stands_at, starts, last_or, place_at, read_at}

pub range-more : (a n : ℕ) → range_with_len a (suc n) ≡ range_with_len a n ++ (a + n) ∷ []
range-more a zero = ap (λ (k : ℕ). k ∷ []) (omega arith)
range-more a (suc n) =
    let e : (a + 1) + n ≡ a + suc n = omega arith in
    ap (λ (l : List ℕ). a ∷ l) (range-more (a + 1) n ∙ ap (λ (k : ℕ). range_with_len (a + 1) n ++ k ∷ []) e)

one : (p : ℕ → Bool) (x : ℕ) → filter p (x ∷ []) ≡ (if p x then x ∷ [] else [])
one p x = refl

pub filter-range-more : (p : ℕ → Bool) (a n : ℕ) → filter p (range_with_len a (suc n)) ≡ filter p (range_with_len a n) ++ (if p (a + n) then (a + n) ∷ [] else [])
filter-range-more p a n = ap (λ (l : List ℕ). filter p l) (range-more a n) ∙ filter-append p (range_with_len a n) ((a + n) ∷ [])

pub filter-range-same : (p q : ℕ → Bool) (a n : ℕ) → ((i : ℕ) → a ≤ i → i < a + n → p i ≡ q i) → filter p (range_with_len a n) ≡ filter q (range_with_len a n)
filter-range-same p q a zero h = refl
filter-range-same p q a (suc n) h =
    let here : p a ≡ q a = h a (omega arith) (omega arith) in
    let rest : filter p (range_with_len (a + 1) n) ≡ filter q (range_with_len (a + 1) n) = filter-range-same p q (a + 1) n (λ i l u. h i (omega arith) (omega arith)) in
    ap (λ (b : Bool). if b then a ∷ filter p (range_with_len (a + 1) n) else filter p (range_with_len (a + 1) n)) here
    ∙ ap (λ (l : List ℕ). if q a then a ∷ l else l) rest

-- a front has the starts that the whole has there
pub stands_at-append : (xs ys : List ℕ) (i : ℕ) → i + 2 < length xs → stands_at (xs ++ ys) i ≡ stands_at xs i
stands_at-append xs ys i h =
    let a : get_or (xs ++ ys) i 0 ≡ get_or xs i 0 = get_or_append_left xs ys 0 i (omega arith) in
    let b : get_or (xs ++ ys) (i + 1) 0 ≡ get_or xs (i + 1) 0 = get_or_append_left xs ys 0 (i + 1) (omega arith) in
    let c : get_or (xs ++ ys) (i + 2) 0 ≡ get_or xs (i + 2) 0 = get_or_append_left xs ys 0 (i + 2) h in
    rw (a, b, c) refl

pub starts-append : (xs ys : List ℕ) (n : ℕ) → n ≤ length xs → starts (xs ++ ys) n ≡ starts xs n
starts-append xs ys n h =
    ap (λ (l : List ℕ). 0 ∷ l) (filter-range-same (λ i. stands_at (xs ++ ys) i) (λ i. stands_at xs i) 1 (n - 3) (λ i l u. stands_at-append xs ys i (omega arith)))

-- the start, if any, whose descriptor ends with one more byte
abbrev pub added : List ℕ → ℕ → List ℕ
added xs n = if nat_lt 2 n && stands_at xs (n - 2) then (n - 2) ∷ [] else []

added-late : (xs : List ℕ) (n : ℕ) (b : Bool) → b ≡ true → (if b && stands_at xs (n - 2) then (n - 2) ∷ [] else []) ≡ (if stands_at xs (n - 2) then (n - 2) ∷ [] else [])
added-late xs n b e = rw e refl

added-early : (xs : List ℕ) (n : ℕ) (b : Bool) → b ≡ false → (if b && stands_at xs (n - 2) then (n - 2) ∷ [] else []) ≡ []
added-early xs n b e = rw e refl

pub starts-more : (xs : List ℕ) (n : ℕ) → starts xs (n + 1) ≡ starts xs n ++ added xs n
starts-more xs n =
    ⊎_elim (λ (h : n < 3).
    let e : (n + 1) - 3 ≡ 0 = omega arith in
    let f : n - 3 ≡ 0 = omega arith in
    let g : nat_lt 2 n ≡ false = grind (arith, nat_tests) in
    rw (e, f, added-early xs n (nat_lt 2 n) g) refl)
    (λ (h : 3 ≤ n).
    let e : (n + 1) - 3 ≡ suc (n - 3) = omega arith in
    let f : 1 + (n - 3) ≡ n - 2 = omega arith in
    let g : nat_lt 2 n ≡ true = grind (arith, nat_tests) in
    let m : filter (λ i. stands_at xs i) (range_with_len 1 (suc (n - 3))) ≡ filter (λ i. stands_at xs i) (range_with_len 1 (n - 3)) ++ (if stands_at xs (n - 2) then (n - 2) ∷ [] else []) =
    filter-range-more (λ i. stands_at xs i) 1 (n - 3) ∙ ap (λ (k : ℕ). filter (λ i. stands_at xs i) (range_with_len 1 (n - 3)) ++ (if stands_at xs k then k ∷ [] else [])) f in
    rw (e, added-late xs n (nat_lt 2 n) g) (ap (λ (l : List ℕ). 0 ∷ l) m))
    (cases_lt n 3)

pub last_or-append : (xs : List ℕ) (x d : ℕ) → last_or (xs ++ x ∷ []) d ≡ x
last_or-append [] x d = refl
last_or-append (y ∷ ys) x d = last_or-append ys x y

last-case : (b : Bool) (xs : List ℕ) (k n d : ℕ) → last_or xs d ≤ n → k ≤ n → last_or (xs ++ (if b then k ∷ [] else [])) d ≤ n
last-case true xs k n d h g = rw (last_or-append xs k d) g
last-case false xs k n d h g = rw (append-nil xs) h

-- the last start lies before the end
pub last-within : (xs : List ℕ) (n : ℕ) → last_or (starts xs n) 0 ≤ n
last-within xs zero = omega arith
last-within xs (suc n) =
    let more : starts xs (suc n) ≡ starts xs n ++ added xs n = rw (← add-one n) (starts-more xs n) in
    let before : last_or (starts xs n) 0 ≤ n = last-within xs n in
    rw more (last-case (nat_lt 2 n && stands_at xs (n - 2)) (starts xs n) (n - 2) (suc n) 0 (omega arith) (omega arith))

-- the starts of a front are the first of the starts
pub starts-front : (xs : List ℕ) (n d : ℕ) → (rest : List ℕ) × (starts xs (n + d) ≡ starts xs n ++ rest)
starts-front xs n zero = ([], rw (add-zero, append-nil (starts xs n)) refl)
starts-front xs n (suc d) =
    let before = starts-front xs n d in
    let e : n + suc d ≡ (n + d) + 1 = omega arith in
    (before.0 ++ added xs (n + d), rw e (starts-more xs (n + d) ∙ ap (λ (l : List ℕ). l ++ added xs (n + d)) before.1 ∙ append_assoc (starts xs n) before.0 (added xs (n + d))))

last-get : (x : ℕ) (xs rest : List ℕ) → slice_get ((x ∷ xs) ++ rest) (length xs) ≡ Some (last_or xs x)
last-get x [] rest = refl
last-get x (y ∷ ys) rest = last-get y ys rest

sum-behind : (payload : List ℕ) (n last : ℕ) → last ≤ n → n ≤ length payload → (if nat_le (last + (n - last)) (length payload) then Some (last + (n - last)) else None) ≡ Some n
sum-behind payload n last h g =
    let e : last + (n - last) ≡ n = omega arith in
    let t : nat_le n (length payload) ≡ true = grind (arith, nat_tests) in
    rw (e, t) refl

-- the start that a front ends with is the same of the whole
pub start-found : (payload : List ℕ) (n : ℕ) → n ≤ length payload → slice_get (starts payload (length payload)) (length (starts payload n) - 1) ≡ Some (last_or (starts payload n) 0)
start-found payload n h =
    let front = starts-front payload n (length payload - n) in
    let e : n + (length payload - n) ≡ length payload = omega arith in
    let tail : List ℕ = filter (λ i. stands_at payload i) (range_with_len 1 (n - 3)) in
    let len : length (starts payload n) - 1 ≡ length tail = omega arith in
    rw (len, ← e, front.1) (last-get 0 tail front.0)

pub read-place : (payload : List ℕ) (n : ℕ) → n ≤ length payload → read_at payload (place_at payload n) ≡ Some n
read-place payload n h = rw (start-found payload n h) (sum-behind payload n (last_or (starts payload n) 0) (last-within payload n) h)
