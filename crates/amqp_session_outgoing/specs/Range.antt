-- The delivery numbers that a disposition names (part 2, 2.7.6 and 2.8.10).
use Rattle.std.specs.Prelude.{ℕ, ◌+◌, ◌-◌, ◌%◌, ◌^◌, ◌<◌, Option, Some, None, nat_lt, if◌then◌else◌}
use Rattle.amqp_session_outgoing.specs.declared.range.DeliveryRange.{DeliveryRange}

-- how far a number is ahead of another, on a circle of 2^32
abbrev pub ahead : ℕ → ℕ → ℕ
ahead a b = (a + (2 ^ 32 - b)) % 2 ^ 32

-- from the first to the last; none where the last is 2^31 or more ahead, which is to say that it comes before the first
abbrev pub count_of : ℕ → ℕ → ℕ
count_of first last = if nat_lt (ahead last first) (2 ^ 31) then ahead last first + 1 else 0

-- where no last is given it is the first
abbrev pub range_of : ℕ → Option ℕ → DeliveryRange
range_of first None = record { first = first; count = count_of first first }
range_of first (Some last) = record { first = first; count = count_of first last }

-- a number lies in the range
abbrev pub Names : DeliveryRange → ℕ → Type 0
Names range number = ahead number range.first < range.count
