-- What a sink holds: how many bytes, and which, where it keeps them.
use Rattle.std.specs.Prelude.{◌≡◌, ℕ, ◌+◌, ◌^◌, List, ◌++◌, length, min, Option, Some, None}

pub record Written : Type 0 where
  pub size : ℕ
  pub bytes : Option (List ℕ)

-- a count of bytes, which stops at 2^64
abbrev pub capped : ℕ → ℕ
capped n = min n (2 ^ 64)

abbrev pub longer : Option (List ℕ) → List ℕ → Option (List ℕ)
longer None more = None
longer (Some bytes) more = Some (bytes ++ more)

-- with these bytes behind
unfoldable pub extended : Written → List ℕ → Written
extended w more = record { size = capped (w.size + length more); bytes = longer w.bytes more }

-- where the content of a compound value begins: begins says from which number its bytes are counted
unfoldable pub inside : (ℕ → ℕ) → Written → Written
inside begins w = record { size = begins w.size; bytes = w.bytes }

-- the bytes of before are there, with others behind them
pub record Keeps (old new : Written) : Type 0 where
  pub more : List ℕ
  pub kept : new.bytes ≡ longer old.bytes more
