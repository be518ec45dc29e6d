-- The unsettled deliveries of a session, by their numbers.
use Rattle.std.specs.Prelude.{ℕ, ◌==◌, List, Option, Some, None, if◌then◌else◌, IsSome, refl}
use Rattle.std.specs.Coded.{Coded, code_by, coded×, coded_ℕ, coded_list}
use Rattle.std.specs.Ordering.{nat_cmp}
use Rattle.std.specs.FinMap as map
use Rattle.amqp_session_outgoing.specs.declared.delivery.Delivery.{Delivery}

abbrev pub Table : Type 0
Table = map.FinMap nat_cmp Delivery

abbrev delivery_code : Coded Delivery
delivery_code =
    code_by (ℕ × List ℕ) (coded× coded_ℕ (coded_list coded_ℕ)) (λ d. ((d.handle).0, d.tag))
    (λ p. record { handle = record { 0 = p.0 }; tag = p.1 }) (λ _. refl)

abbrev pub table_code : Coded (map.FinMap nat_cmp Delivery)
table_code = map.code coded_ℕ delivery_code

-- the deliveries, and how many more are sure to find room
pub record Deliveries : Type 0 where
  pub table : map.FinMap nat_cmp Delivery
  pub room : ℕ

-- a delivery of this number is unsettled
abbrev pub IsUnsettled : Table → ℕ → Type 0
IsUnsettled table number = IsSome (map.get table number)

-- a delivery, where it is of another link than this
abbrev pub unless_of : ℕ → Option Delivery → Option Delivery
unless_of handle None = None
unless_of handle (Some d) = if (d.handle).0 == handle then None else Some d
