-- Pieces joined.
use Rattle.std.proofs.Common.{◌≡◌, ℕ, ◌+◌, ◌<◌, ◌≤◌, zero, suc, List, [], ◌∷◌, ◌++◌, length, take, drop, get_or, ◌-◌, min, drop-cons, append_assoc, ap, sym, ◌∙◌, arith, length-append, set, refl, add-one}
use Rattle.std.specs.List.{concat}
use Rattle.std.proofs.lemmas.List.Folds.{concat-append}
use Rattle.std.proofs.lemmas.List.{take_more, append-nil, take-append-drop, take-append-le}

pub concat-push : (pieces : List (List ℕ)) (piece : List ℕ) → concat (pieces ++ piece ∷ []) ≡ concat pieces ++ piece
concat-push pieces piece = concat-append pieces (piece ∷ []) ∙ ap (λ (l : List ℕ). concat pieces ++ l) (append-nil piece)

pub concat-take : (pieces : List (List ℕ)) (i : ℕ) (d : List ℕ) → i < length pieces → concat (take (i + 1) pieces) ≡ concat (take i pieces) ++ get_or pieces i d
concat-take pieces i d h = ap (λ (l : List (List ℕ)). concat l) (take_more pieces i d h) ∙ concat-push (take i pieces) (get_or pieces i d)

pub concat-parts : (pieces : List (List ℕ)) (i : ℕ) → concat (take i pieces) ++ concat (drop i pieces) ≡ concat pieces
concat-parts pieces i = sym (concat-append (take i pieces) (drop i pieces)) ∙ ap (λ (l : List (List ℕ)). concat l) (take-append-drop i pieces)

-- a front of the pieces is no longer than all of them
pub front-short : (pieces : List (List ℕ)) (i : ℕ) → length (concat (take i pieces)) ≤ length (concat pieces)
front-short pieces i = omega (arith, ap (λ (l : List ℕ). length l) (concat-parts pieces i), length-append (concat (take i pieces)) (concat (drop i pieces)))

take-more : (xs ys : List ℕ) (n : ℕ) → take (length xs + n) (xs ++ ys) ≡ xs ++ take n ys
take-more [] ys n = ap (λ (k : ℕ). take k ys) (omega arith)
take-more (x ∷ xs) ys n =
    let e : length (x ∷ xs) + n ≡ suc (length xs + n) = omega arith in
    ap (λ (k : ℕ). take k ((x ∷ xs) ++ ys)) e ∙ ap (λ (l : List ℕ). x ∷ l) (take-more xs ys n)

-- the pieces before the cut, and the front of the one that is cut
pub cut-at : (pieces : List (List ℕ)) (i left : ℕ) (d : List ℕ) → i < length pieces → left ≤ length (get_or pieces i d)
    → concat (take (suc i) (set pieces i (take left (get_or pieces i d)))) ≡ take (length (concat (take i pieces)) + left) (concat pieces)
cut-at [] i left d h g = absurd (omega arith)
cut-at (p ∷ pieces) zero left d h g =
    append-nil (take left p) ∙ sym (take-append-le left p (concat pieces) g) ∙ ap (λ (k : ℕ). take k (p ++ concat pieces)) (omega arith)
cut-at (p ∷ pieces) (suc i) left d h g =
    let rest = cut-at pieces i left d (omega arith) g in
    let front : List ℕ = concat (take i pieces) in
    let e : length p + (length front + left) ≡ length (p ++ front) + left = omega (arith, length-append p front) in
    ap (λ (l : List ℕ). p ++ l) rest ∙ sym (take-more p (concat pieces) (length front + left)) ∙ ap (λ (k : ℕ). take k (p ++ concat pieces)) e

get-same : (pieces : List (List ℕ)) (i : ℕ) (d e : List ℕ) → i < length pieces → get_or pieces i d ≡ get_or pieces i e
get-same [] i d e h = absurd (omega arith)
get-same (p ∷ pieces) zero d e h = refl
get-same (p ∷ pieces) (suc i) d e h = get-same pieces i d e (omega arith)

-- the same, where the piece was read twice
pub cut-here : (pieces : List (List ℕ)) (i left : ℕ) (seen piece cut : List ℕ) → i < length pieces → seen ≡ get_or pieces i seen → piece ≡ get_or pieces i piece → left ≤ length seen
    → cut ≡ take left piece → concat (take (i + 1) (set pieces i cut)) ≡ take (length (concat (take i pieces)) + left) (concat pieces)
cut-here pieces i left seen piece cut h s p g e =
    let same : seen ≡ get_or pieces i piece = s ∙ get-same pieces i seen piece h in
    let short : left ≤ length (get_or pieces i piece) = omega (arith, ap (λ (l : List ℕ). length l) same) in
    ap (λ (l : List ℕ). concat (take (i + 1) (set pieces i l))) (e ∙ ap (λ (l : List ℕ). take left l) p)
    ∙ ap (λ (k : ℕ). concat (take k (set pieces i (take left (get_or pieces i piece))))) (add-one i) ∙ cut-at pieces i left piece h short

-- the pieces from an index on, by their first
pub concat-drop : (pieces : List (List ℕ)) (i : ℕ) (d : List ℕ) → i < length pieces → concat (drop i pieces) ≡ get_or pieces i d ++ concat (drop (i + 1) pieces)
concat-drop pieces i d h =
    ap (λ (l : List (List ℕ)). concat l) (drop-cons pieces i d h) ∙ ap (λ (k : ℕ). get_or pieces i d ++ concat (drop k pieces)) (sym (add-one i))

-- the first bytes of a piece and what follows it
pub take-over : (xs ys : List ℕ) (n : ℕ) → take n (xs ++ ys) ≡ take (min n (length xs)) xs ++ take (n - min n (length xs)) ys
take-over [] ys n =
    let none : List ℕ = [] in
    let e : min n (length none) ≡ 0 = omega arith in
    let f : n - min n (length none) ≡ n = omega arith in
    sym (ap (λ (k : ℕ). take k none ++ take (n - min n (length none)) ys) e ∙ ap (λ (k : ℕ). take k ys) f)
take-over (x ∷ xs) ys zero =
    let e : min zero (length (x ∷ xs)) ≡ 0 = omega arith in
    let f : zero - min zero (length (x ∷ xs)) ≡ 0 = omega arith in
    sym (ap (λ (k : ℕ). take k (x ∷ xs) ++ take (zero - min zero (length (x ∷ xs))) ys) e ∙ ap (λ (k : ℕ). take k ys) f)
take-over (x ∷ xs) ys (suc n) =
    let e : min (suc n) (length (x ∷ xs)) ≡ suc (min n (length xs)) = omega arith in
    let f : suc n - min (suc n) (length (x ∷ xs)) ≡ n - min n (length xs) = omega arith in
    ap (λ (l : List ℕ). x ∷ l) (take-over xs ys n) ∙ sym (ap (λ (k : ℕ). take k (x ∷ xs) ++ take (suc n - min (suc n) (length (x ∷ xs))) ys) e ∙ ap (λ (k : ℕ). (x ∷ take (min n (length xs)) xs) ++ take k ys) f)

-- one piece more is joined
pub join-more : (pieces : List (List ℕ)) (i left n : ℕ) (all piece cut next whole : List ℕ) → i < length pieces → piece ≡ get_or pieces i piece → n ≡ min left (length piece)
    → cut ≡ take n piece → next ≡ all ++ cut → all ++ take left (concat (drop i pieces)) ≡ whole → next ++ take (left - n) (concat (drop (i + 1) pieces)) ≡ whole
join-more pieces i left n all piece cut next whole h is least front more before =
    let rest : List ℕ = concat (drop (i + 1) pieces) in
    let here : concat (drop i pieces) ≡ piece ++ rest = concat-drop pieces i piece h ∙ ap (λ (l : List ℕ). l ++ rest) (sym is) in
    let split : take left (piece ++ rest) ≡ take n piece ++ take (left - n) rest = take-over piece rest left ∙ ap (λ (k : ℕ). take k piece ++ take (left - k) rest) (sym least) in
    ap (λ (l : List ℕ). l ++ take (left - n) rest) (more ∙ ap (λ (l : List ℕ). all ++ l) front)
    ∙ append_assoc all (take n piece) (take (left - n) rest) ∙ ap (λ (l : List ℕ). all ++ l) (sym split ∙ ap (λ (l : List ℕ). take left l) (sym here)) ∙ before

take-none : (n : ℕ) → take n (concat []) ≡ []
take-none zero = refl
take-none (suc n) = refl

drop-past : (pieces : List (List ℕ)) (i : ℕ) → length pieces ≤ i → drop i pieces ≡ []
drop-past [] zero h = refl
drop-past [] (suc i) h = refl
drop-past (p ∷ ps) zero h = absurd (omega arith)
drop-past (p ∷ ps) (suc i) h = drop-past ps i (omega arith)

-- all pieces are joined
pub join-end : (pieces : List (List ℕ)) (i left : ℕ) (all whole : List ℕ) → length pieces ≤ i → all ++ take left (concat (drop i pieces)) ≡ whole → all ≡ whole
join-end pieces i left all whole h before =
    sym (append-nil all) ∙ ap (λ (l : List ℕ). all ++ l) (sym (take-none left) ∙ ap (λ (l : List (List ℕ)). take left (concat l)) (sym (drop-past pieces i h))) ∙ before
