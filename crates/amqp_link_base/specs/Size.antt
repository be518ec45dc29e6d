-- The size of the largest message that both ends of a link take (part 2, 2.7.3): 0 bounds nothing.
use Rattle.std.specs.Prelude.{ℕ, ◌==◌, min, Option, Some, None, if◌then◌else◌}

-- the smaller of the two that aren't 0
abbrev pub smaller_bound : ℕ → ℕ → ℕ
smaller_bound m n = if m == 0 then n else (if n == 0 then m else min m n)

-- a bound that the peer leaves off is none
abbrev pub agreed_size : ℕ → Option ℕ → ℕ
agreed_size own None = smaller_bound own 0
agreed_size own (Some peer) = smaller_bound own peer
