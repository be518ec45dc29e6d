-- Readers whose bytes are known.
use Rattle.std.proofs.Common.{◌≡◌, ℕ, ◌+◌, ◌<◌, ◌≤◌, List, [], ◌++◌, length, take, drop, sym, ◌∙◌, ap, arith, le_refl, drop_at, length-take-le, take_all, append_assoc, append-nil}
use Rattle.std.proofs.lemmas.Slice.{take-put_mid_below}
use borrow.Rule.Slice.PartMut.{put_mid, post_of}
use lib.Seq.{take-add, take-append-le}

-- what a read into the room behind `at` filled
pub filled : (at n room : ℕ) (old read : List ℕ) → at ≤ length old → n ≤ length read → take (at + n) (put_mid at room old read) ≡ take at old ++ take n read
filled at n room old read within fits =
    let after = post_of at room old in
    let new = put_mid at room old read in
    let front : take at new ≡ take at old = take-put_mid_below at room old read at (le_refl at) within in
    let behind : drop at new ≡ read ++ after = drop_at (take at old) (read ++ after) at (length-take-le at old within) in
    take-add at n new ∙ (ap (λ (l : List ℕ). l ++ take n (drop at new)) front ∙ ap (λ (l : List ℕ). take at old ++ l) (ap (take n) behind ∙ take-append-le n read after fits))

-- more was filled
pub filled_more : (whole rest new : List ℕ) (at n room : ℕ) (old read : List ℕ) → whole ≡ take at old ++ rest → rest ≡ take n read ++ new → at ≤ length old → n ≤ length read → whole ≡ take (at + n) (put_mid at room old read) ++ new
filled_more whole rest new at n room old read w r within fits =
    w ∙ (ap (λ (l : List ℕ). take at old ++ l) r ∙ (sym (append_assoc (take at old) (take n read) new) ∙ ap (λ (l : List ℕ). l ++ new) (sym (filled at n room old read within fits))))

-- all was filled
pub filled_all : (whole rest : List ℕ) (at : ℕ) (old : List ℕ) → whole ≡ take at old ++ rest → length old ≤ at → whole ≡ old ++ rest
filled_all whole rest at old w all = w ∙ ap (λ (l : List ℕ). l ++ rest) (take_all at old all)

-- too few bytes to fill it
pub filled_short : (whole rest : List ℕ) (at : ℕ) (old : List ℕ) → whole ≡ take at old ++ rest → rest ≡ [] → at ≤ length old → at < length old → length whole < length old
filled_short whole rest at old w none within short =
    omega (arith, ap length (w ∙ (ap (λ (l : List ℕ). take at old ++ l) none ∙ append-nil (take at old))), length-take-le at old within)

pub ruleset filling = (filled_more, filled_all, filled_short)
