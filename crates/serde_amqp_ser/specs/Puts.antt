-- What a value adds to what a serializer has written.
use Rattle.std.specs.Prelude.{◌≡◌, ◌≢◌, ◌==◌, ℕ, List, [], ◌∷◌, length, Bool, true, Option, Some, None, Result, Ok, Err}
use Rattle.std.specs.Prelude.{if◌then◌else◌}
use Rattle.serde_amqp_item.specs.Item.{Item, Items}
use Rattle.serde_amqp_item.specs.Canon.{Place, alone, first, next, placed, settled, canon_all, sized_text, wide_sized}
use Rattle.serde_amqp_item.specs.Canon.{counted_text, counted_wide, ◌>>=◌}
use Rattle.serde_amqp_item.specs.declared.error.Error.{Error}
use Rattle.serde_amqp_item.specs.declared.error.Error.TheVariants.{Memory}
use Rattle.serde_amqp_ser.specs.Written.{Written, capped, extended}
use Rattle.serde_amqp_ser.specs.declared.place.IsArrayElement.{IsArrayElement}
use Rattle.serde_amqp_ser.specs.declared.place.IsArrayElement.TheVariants.{False, FirstElement, OtherElement}

abbrev pub place_of : IsArrayElement → Place
place_of False = alone
place_of FirstElement = first
place_of (OtherElement c) = next c

-- what a sink holds, and where in an array it stands
pub record State : Type 0 where
  pub written : Written
  pub place : Place

-- what a serializer writes to, and where the next value is written
pub record Writing (W : Type 0) : Type 0 where
  pub writer : W
  pub element : IsArrayElement

-- the state of a serializer, by what its sink holds
abbrev pub state_of : {W : Type 0} → (W → Written) → Writing W → State
state_of written s = record { written = written s.writer; place = place_of s.element }

-- the state of a serializer over these bytes
abbrev pub bytes_state : List ℕ → IsArrayElement → State
bytes_state bytes element =
    record { written = record { size = capped (length bytes); bytes = Some bytes }; place = place_of element }

-- the state behind what is added; none where there is nothing to add
abbrev pub behind : State → Option (Place × List ℕ) → Option State
behind s None = None
behind s (Some p) = Some (record { written = extended s.written p.1; place = p.0 })

-- the state behind an item
abbrev pub serialized : State → Item → Option State
serialized s x = behind s (placed s.place x)

-- what a sink holds behind items, one after the other
abbrev pub listed : Written → Items → Option Written
listed w xs = canon_all xs >>= λ b. Some (extended w b)

-- the state behind the constructor of a wide form, which in an array stands before the first element alone
abbrev pub begun_at : Written → Place → ℕ → Option State
begun_at w alone c = Some (record { written = extended w (c ∷ []); place = alone })
begun_at w first c = Some (record { written = extended w (c ∷ []); place = next c })
begun_at w (next d) c = if c == d then Some (record { written = w; place = next d }) else None

abbrev pub begun : State → ℕ → Option State
begun s c = begun_at s.written s.place c

-- what a value with a size and this content adds at a place
abbrev pub sized_placed : Place → ℕ → ℕ → List ℕ → Option (Place × List ℕ)
sized_placed alone narrow wide content = sized_text narrow wide content >>= λ a. Some (alone, a)
sized_placed first narrow wide content = wide_sized wide content >>= settled first
sized_placed (next c) narrow wide content = wide_sized wide content >>= settled (next c)

-- what a value with a size, a count and this content adds at a place
abbrev pub counted_placed : Place → ℕ → ℕ → ℕ → List ℕ → Option (Place × List ℕ)
counted_placed alone narrow wide count content = counted_text narrow wide count content >>= λ a. Some (alone, a)
counted_placed first narrow wide count content = counted_wide wide count content >>= settled first
counted_placed (next c) narrow wide count content = counted_wide wide count content >>= settled (next c)

-- a refusal that isn't for memory comes only where there is nothing to give
abbrev pub OnlyWhere : {X Y : Type 0} → Result X Error → Option Y → Type 0
OnlyWhere (Ok x) gives = Unit {0}
OnlyWhere (Err e) gives = e ≢ Memory → gives ≡ None

-- memory is wanted only by a sink that takes memory
abbrev pub WantsMemory : {X : Type 0} → Bool → Result X Error → Type 0
WantsMemory takes (Ok x) = Unit {0}
WantsMemory takes (Err e) = e ≡ Memory → takes ≡ true
