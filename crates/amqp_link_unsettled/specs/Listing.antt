-- How an Attach lists unsettled deliveries: part 2, 2.7.3.
use Rattle.std.specs.Prelude.{◌≡◌, ℕ, ◌+◌, ◌/◌, ◌<◌, ◌≤◌, List, [], ◌∷◌, length, map, take, nat_lt, Option, Some, None}
use Rattle.std.specs.Prelude.{zero, suc}
use Rattle.serde_amqp_item.specs.Canon.{canon}
use Rattle.amqp_session_states.specs.declared.delivery_state.DeliveryState.{DeliveryState}
use Rattle.amqp_session_performatives.specs.declared.attach.Attach.{Attach}
use Rattle.amqp_session_performatives.specs.Attach.{attach_item}

-- tags, with a state or null
abbrev pub Entries : Type 0
Entries = List (List ℕ × Option DeliveryState)

-- deliveries with the states that they are listed with
abbrev pub entries_listed : {M : Type 0} → (M → Option DeliveryState) → List (List ℕ × M) → Entries
entries_listed listed es = map (λ e. (e.0, listed e.1)) es

-- an empty map is written null
abbrev pub or_null : Entries → Option Entries
or_null [] = None
or_null (e ∷ es) = Some (e ∷ es)

abbrev pub or_empty : Option Entries → Entries
or_empty None = []
or_empty (Some es) = es

-- the Attach with the first n of the entries, which tells whether they are all
abbrev pub with_first : Attach → Entries → ℕ → Attach
with_first a entries n =
    record a { unsettled = or_null (take n entries); incomplete_unsettled = nat_lt n (length entries) }

-- a performative and the 8 bytes of the frame before it (part 2, 2.3.1) are no more than the limit
abbrev pub FitsText : ℕ → Option (List ℕ) → Type 0
FitsText limit None = ⊥
FitsText limit (Some text) = 8 + length text ≤ limit

unfoldable pub FitsFrame : ℕ → Attach → Type 0
FitsFrame limit a = FitsText limit (canon (attach_item a))

-- halved so many times
abbrev pub halved : ℕ → ℕ → ℕ
halved total zero = total
halved total (suc k) = halved total k / 2

-- the first of total, total / 2, total / 4, .. that passes; none where none of them does
abbrev pub IsFirstHalf : (ℕ → Type 0) → ℕ → Option ℕ → Type 0
IsFirstHalf Passes total None = (k : ℕ) → Passes (halved total k) → ⊥
IsFirstHalf Passes total (Some n) =
    (k : ℕ) × (n ≡ halved total k) × Passes n × ((j : ℕ) → j < k → Passes (halved total j) → ⊥)

-- the Attach lists as many of the entries as fit the frame, by halves
pub record Lists (limit : ℕ) (old : Attach) (entries : Entries) (new : Attach) : Type 0 where
  pub count : ℕ
  pub first : IsFirstHalf (λ n. FitsFrame limit (with_first old entries n)) (length entries) (Some count)
  pub is : new ≡ with_first old entries count

-- the Attach fits with none of these numbers of entries, not even with 0
abbrev pub FitsNowhere : ℕ → Attach → Entries → Type 0
FitsNowhere limit old entries = IsFirstHalf (λ n. FitsFrame limit (with_first old entries n)) (length entries) None
