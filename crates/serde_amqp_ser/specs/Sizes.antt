-- How long a text is, if there is one.
use Rattle.std.specs.Prelude.{◌≡◌, ◌≤◌, ◌^◌, ℕ, List, length, Option, Some, None}

abbrev pub HasLength : Option (List ℕ) → ℕ → Type 0
HasLength None n = ⊥
HasLength (Some text) n = n ≡ length text

-- its length passes 2^64 - 1
abbrev pub IsTooLong : Option (List ℕ) → Type 0
IsTooLong None = ⊥
IsTooLong (Some text) = 2 ^ 64 ≤ length text
