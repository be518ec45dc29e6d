-- What is left without the deliveries that a disposition names (part 2, 2.7.6).
use Rattle.std.specs.Prelude.{ℕ, ◌^◌, ◌&&◌, Bool, not, nat_lt}
use Rattle.std.specs.FinMap as map
use Rattle.amqp_session_outgoing.specs.Range.{ahead}
use Rattle.amqp_session_outgoing.specs.Table.{Table}
use Rattle.amqp_session_outgoing.specs.declared.range.DeliveryRange.{DeliveryRange}

-- whether a delivery number lies in the range
abbrev pub names : DeliveryRange → ℕ → Bool
names range number = nat_lt number (2 ^ 32) && nat_lt (ahead number range.first) range.count

-- the deliveries that the range doesn't name
abbrev pub outside : DeliveryRange → Table → Table
outside range table = map.retain_keys table (λ number. not (names range number))
