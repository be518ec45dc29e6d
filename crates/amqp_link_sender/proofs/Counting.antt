-- How many pieces a payload is cut into.
use Rattle.std.proofs.Common.{◌≡◌, ℕ, ◌+◌, ◌-◌, ◌/◌, ◌%◌, ◌<◌, ◌≤◌, zero, suc, min, arith, ap, sym, ◌∙◌, ⊎_elim}
use Rattle.std.specs.Prelude.{max}
use Rattle.std.specs.Int.{div_ceil}
use Rattle.std.proofs.lemmas.Bool.{cases_lt}
use Rattle.std.proofs.Math.Nat.{add-div_right, add-mod_right, div-eq_of_lt, mod-eq_of_lt}

pub ceil-none : (room : ℕ) → 0 < room → div_ceil 0 room ≡ 0
ceil-none room h =
    let d : 0 / room ≡ 0 = div-eq_of_lt h in
    let m : 0 % room ≡ 0 = mod-eq_of_lt h in
    omega (arith, d, m)

-- one piece, and those of what is left
pub ceil-step : (n room : ℕ) → 0 < room → 0 < n → div_ceil n room ≡ 1 + div_ceil (n - min n room) room
ceil-step n room h g =
    ⊎_elim (λ (k : n < room).
    let none : n - min n room ≡ 0 = omega arith in
    let d : n / room ≡ 0 = div-eq_of_lt k in
    let m : n % room ≡ n = mod-eq_of_lt k in
    let z : div_ceil (n - min n room) room ≡ 0 = ap (λ (x : ℕ). div_ceil x room) none ∙ ceil-none room h in
    omega (arith, d, m, z))
    (λ (k : room ≤ n).
    let rest : n - min n room ≡ n - room = omega arith in
    let e : n ≡ (n - room) + room = omega arith in
    let d : n / room ≡ (n - room) / room + 1 = ap (λ (x : ℕ). x / room) e ∙ add-div_right (n - room) h in
    let m : n % room ≡ (n - room) % room = ap (λ (x : ℕ). x % room) e ∙ add-mod_right (n - room) room in
    let z : div_ceil (n - min n room) room ≡ div_ceil (n - room) room = ap (λ (x : ℕ). div_ceil x room) rest in
    omega (arith, d, ap (λ (x : ℕ). min 1 x) m, z))
    (cases_lt n room)

-- the first piece, and those of what is left
pub ceil-first : (n room : ℕ) → 0 < room → 1 + div_ceil (n - min n room) room ≡ max 1 (div_ceil n room)
ceil-first zero room h =
    let z : div_ceil (zero - min zero room) room ≡ 0 = ap (λ (x : ℕ). div_ceil x room) (omega arith) ∙ ceil-none room h in
    omega (arith, z, ceil-none room h)
ceil-first (suc n) room h = omega (arith, ceil-step (suc n) room h (omega arith))

pub none-yet : (n : ℕ) → 0 + n ≡ n
none-yet n = omega arith

pub one-more : (now before here there left total : ℕ) → now ≡ before + 1 → before + here ≡ total → here ≡ 1 + there → left ≡ there → now + left ≡ total
one-more now before here there left total a b c d = omega arith

pub all-counted : (a b total : ℕ) → a + b ≡ total → b ≡ 0 → a ≡ total
all-counted a b total h g = omega arith

pub first-counted : (now rest first all : ℕ) → now ≡ rest + 1 → 1 + first ≡ all → rest ≡ first → now ≡ all
first-counted now rest first all a b c = omega arith
