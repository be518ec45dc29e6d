-- The runs of consecutive numbers, number by number.
use Rattle.std.proofs.Common.{◌≡◌, ◌≢◌, append_assoc, ℕ, ◌+◌, ◌≤◌, ◌<◌, take, get_or, ◌%◌, ◌^◌, ◌==◌, Bool, true, false, List, [], ◌∷◌, ◌++◌, length, if◌then◌else◌, refl, sym, ap, ◌∙◌, arith}
use Rattle.std.proofs.lemmas.Bool.{eq-eqb, ne_eqb}
use Rattle.std.proofs.lemmas.List.{take_more, length-take-le}
use Rattle.amqp_session_core.specs.Echoes.{before_run, runs_of}
use Rattle.amqp_session_core.specs.Disposing.{behind_runs}

abbrev pub Runs : Type 0
Runs = List (ℕ × ℕ)

-- a number is the one behind another
abbrev pub follows : ℕ → ℕ → Bool
follows n m = (n + 1) % 2 ^ 32 == m

front-if : (n : ℕ) (c : Bool) (xs ys : Runs) → before_run n (if c then xs else ys) ≡ (if c then before_run n xs else before_run n ys)
front-if n true xs ys = refl
front-if n false xs ys = refl

back-if : (m : ℕ) (c : Bool) (xs ys : Runs) → behind_runs (if c then xs else ys) m ≡ (if c then behind_runs xs m else behind_runs ys m)
back-if m true xs ys = refl
back-if m false xs ys = refl

swapped : (b c : Bool) (p q r s : Runs) → (if c then (if b then p else q) else (if b then r else s)) ≡ (if b then (if c then p else r) else (if c then q else s))
swapped true c p q r s = refl
swapped false c p q r s = refl

parted : (c : Bool) (x : ℕ × ℕ) (p q : Runs) → (if c then x ∷ p else x ∷ q) ≡ x ∷ (if c then p else q)
parted true x p q = refl
parted false x p q = refl

-- a number in front and one behind, in either order
around : (n m : ℕ) (runs : Runs) → before_run n (behind_runs runs m) ≡ behind_runs (before_run n runs) m
around n m [] = refl
around n m (r ∷ []) =
    front-if n (follows r.1 m) ((r.0, m) ∷ []) (r ∷ (m, m) ∷ [])
    ∙ swapped (follows n r.0) (follows r.1 m) ((n, m) ∷ []) ((n, n) ∷ (r.0, m) ∷ []) ((n, r.1) ∷ (m, m) ∷ []) ((n, n) ∷ r ∷ (m, m) ∷ [])
    ∙ ap (λ (xs : Runs). if follows n r.0 then (if follows r.1 m then (n, m) ∷ [] else (n, r.1) ∷ (m, m) ∷ []) else xs) (parted (follows r.1 m) (n, n) ((r.0, m) ∷ []) (r ∷ (m, m) ∷ []))
    ∙ sym (back-if m (follows n r.0) ((n, r.1) ∷ []) ((n, n) ∷ r ∷ []))
around n m (r ∷ s ∷ runs) = sym (back-if m (follows n r.0) ((n, r.1) ∷ s ∷ runs) ((n, n) ∷ r ∷ s ∷ runs))

-- one more number
pub runs-more : (ns : List ℕ) (m : ℕ) → runs_of (ns ++ m ∷ []) ≡ behind_runs (runs_of ns) m
runs-more [] m = refl
runs-more (n ∷ ns) m = ap (λ (xs : Runs). before_run n xs) (runs-more ns m) ∙ around n m (runs_of ns)

-- the last run is what counts
behind-last : (xs : Runs) (r : ℕ × ℕ) (m : ℕ) → behind_runs (xs ++ r ∷ []) m ≡ xs ++ (if follows r.1 m then (r.0, m) ∷ [] else r ∷ (m, m) ∷ [])
behind-last [] r m = refl
behind-last (x ∷ []) r m = refl
behind-last (x ∷ y ∷ xs) r m = ap (λ (rs : Runs). x ∷ rs) (behind-last (y ∷ xs) r m)

-- a number goes on with the last run
pub goes-on : (old rest new : Runs) (r : ℕ × ℕ) (n : ℕ) → old ≡ rest ++ r ∷ [] → (r.1 + 1) % 2 ^ 32 ≡ n → new ≡ rest ++ (r.0, n) ∷ [] → new ≡ behind_runs old n
goes-on old rest new r n was next is =
    is
    ∙ ap (λ (b : Bool). rest ++ (if b then (r.0, n) ∷ [] else r ∷ (n, n) ∷ [])) (sym (eq-eqb ((r.1 + 1) % 2 ^ 32) n next))
    ∙ sym (behind-last rest r n)
    ∙ ap (λ (rs : Runs). behind_runs rs n) (sym was)

-- a number begins another run
pub begins-anew : (old rest mid new : Runs) (r : ℕ × ℕ) (n : ℕ) → old ≡ rest ++ r ∷ [] → (r.1 + 1) % 2 ^ 32 ≢ n → mid ≡ rest ++ r ∷ [] → new ≡ mid ++ (n, n) ∷ [] → new ≡ behind_runs old n
begins-anew old rest mid new r n was other back is =
    is
    ∙ ap (λ (rs : Runs). rs ++ (n, n) ∷ []) back
    ∙ append_assoc rest (r ∷ []) ((n, n) ∷ [])
    ∙ ap (λ (b : Bool). rest ++ (if b then (r.0, n) ∷ [] else r ∷ (n, n) ∷ [])) (sym (ne_eqb ((r.1 + 1) % 2 ^ 32) n other))
    ∙ sym (behind-last rest r n)
    ∙ ap (λ (rs : Runs). behind_runs rs n) (sym was)

one-more : (n : ℕ) (runs : Runs) → length (before_run n runs) ≤ length runs + 1
one-more n [] = omega arith
one-more n (r ∷ runs) = by (follows n r.0)
  where
    by : (b : Bool) → length (if b then (n, r.1) ∷ runs else (n, n) ∷ r ∷ runs) ≤ length (r ∷ runs) + 1
    by true = omega arith
    by false = omega arith

-- no more runs than numbers
pub runs-bound : (ns : List ℕ) → length (runs_of ns) ≤ length ns
runs-bound [] = omega arith
runs-bound (n ∷ ns) =
    let more : length (before_run n (runs_of ns)) ≤ length (runs_of ns) + 1 = one-more n (runs_of ns) in
    let bound : length (runs_of ns) ≤ length ns = runs-bound ns in
    omega arith

-- a loop over numbers goes on by one
pub runs-next : (ns : List ℕ) (i : ℕ) → i < length ns → runs_of (take (i + 1) ns) ≡ behind_runs (runs_of (take i ns)) (get_or ns i 0)
runs-next ns i lt = ap (λ (xs : List ℕ). runs_of xs) (take_more ns i 0 lt) ∙ runs-more (take i ns) (get_or ns i 0)

-- the runs so far are no more than the numbers so far
pub runs-so-far : (ns : List ℕ) (i : ℕ) → i ≤ length ns → length (runs_of (take i ns)) ≤ i
runs-so-far ns i le = let bound : length (runs_of (take i ns)) ≤ length (take i ns) = runs-bound (take i ns) in omega (arith, length-take-le i ns le)
