-- The deliveries that a disposition touches (part 2, 2.7.6).
use Rattle.std.specs.Prelude.{◌≡◌, ℕ, ◌+◌, ◌%◌, ◌^◌, ◌<◌, ◌↔◌, List, map, Contains}
use Rattle.std.specs.List.Sorted.{IsStrictlySortedBy}
use Rattle.std.specs.Ordering.{nat_cmp}
use Rattle.amqp_session_outgoing.specs.Table.{Table, IsUnsettled}
use Rattle.amqp_session_outgoing.specs.declared.range.DeliveryRange.{DeliveryRange}

-- the number at a distance from a first one, over the wrap
abbrev pub number_at : ℕ → ℕ → ℕ
number_at first distance = (first + distance) % 2 ^ 32

-- the numbers of a range that are of unsettled deliveries, each once, in order from the first
pub record Touches (range : DeliveryRange) (table : Table) (numbers : List ℕ) : Type 0 where
  pub distances : List ℕ
  pub are : numbers ≡ map (number_at range.first) distances
  pub rising : IsStrictlySortedBy nat_cmp distances
  pub each : (d : ℕ) → Contains distances d ↔ ((d < range.count) × IsUnsettled table (number_at range.first d))
