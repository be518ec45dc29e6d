-- A list that is cut in half.
use Rattle.std.proofs.Common.{◌≡◌, ℕ, ◌/◌, ◌<◌, ◌≤◌, true, Bool, nat_lt, List, [], ◌∷◌, take, length, Option, refl, sym, ap, ◌∙◌, arith, lt-ltb}
use Rattle.std.proofs.lemmas.List.{take-take}
use Rattle.amqp_session_performatives.specs.declared.attach.Attach.{Attach}
use Rattle.amqp_link_unsettled.specs.Listing.{Entries, or_null, or_empty, with_first}

pub empty-null : (es : Entries) → or_empty (or_null es) ≡ es
empty-null [] = refl
empty-null (e ∷ es) = refl

-- half of the entries that an Attach lists
pub half-listed : (a : Attach) (es : Entries) (n : ℕ) → 0 < n → n ≤ length es
    → record (with_first a es n) { unsettled = or_null (take (n / 2) (or_empty (with_first a es n).unsettled)); incomplete_unsettled = true } ≡ with_first a es (n / 2)
half-listed a es n some within =
    let fewer : nat_lt (n / 2) (length es) ≡ true = lt-ltb (n / 2) (length es) (omega (arith, some, within)) in
    let same : take (n / 2) (or_empty (or_null (take n es))) ≡ take (n / 2) es =
    ap (λ (xs : Entries). take (n / 2) xs) (empty-null (take n es)) ∙ take-take (n / 2) n es (omega arith) in
    ap (λ (xs : Entries). record a { unsettled = or_null xs; incomplete_unsettled = true }) same
    ∙ ap (λ (b : Bool). record a { unsettled = or_null (take (n / 2) es); incomplete_unsettled = b }) (sym fewer)
