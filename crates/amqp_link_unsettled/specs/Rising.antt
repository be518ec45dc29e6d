-- What stands under the tags of deliveries, and their numbers where these rise in the order in which the deliveries were registered.
use Rattle.std.specs.Prelude.{◌≡◌, ℕ, ◌+◌, ◌-◌, ◌≤◌, ◌^◌, ◌==◌, nat_lt, is_none, Bool, List, [], ◌∷◌, Option, Some, None, if◌then◌else◌}
use Rattle.amqp_link_unsettled.specs.declared.slot.Slot.{Slot}
use Rattle.amqp_link_unsettled.specs.Entries.{live}
use Rattle.amqp_link_unsettled.specs.Numbers.{is_number, kept_number}

module _ {M : Type 0} where
  -- what is kept under each tag
  abbrev pub kept_of : List (List ℕ × Slot M) → List (List ℕ × Option M)
  kept_of [] = []
  kept_of (e ∷ es) = (e.0, (e.1).kept) ∷ kept_of es

  -- the tags under which something is kept
  abbrev pub standing : List (List ℕ × Slot M) → List (List ℕ × M)
  standing es = live (kept_of es)

  -- what is more than each number up to the last of these, which stand behind those with numbers below a floor
  abbrev pub ends : ℕ → List (List ℕ × Slot M) → ℕ
  ends floor [] = floor
  ends floor (e ∷ es) = ends (e.1).below es

-- a number that is not below a floor, and the least that is more than it
abbrev pub Fits : ℕ → ℕ → Option ℕ → Type 0
Fits floor below None = Unit {0}
Fits floor below (Some n) = (floor ≤ n) × (below ≡ n + 1)

module _ {M : Type 0} (number_of : M → Option ℕ) where
  -- the numbers rise from a floor to a bound
  abbrev pub Rises : ℕ → ℕ → List (List ℕ × Slot M) → Type 0
  Rises floor bound [] = floor ≤ bound
  Rises floor bound (e ∷ es) =
      (floor ≤ (e.1).below) × Fits floor (e.1).below (kept_number number_of (e.1).kept) × Rises (e.1).below bound es

  -- the numbers rise, where a bound of them is known
  abbrev pub InOrder : Option ℕ → List (List ℕ × Slot M) → Type 0
  InOrder None es = Unit {0}
  InOrder (Some bound) es = Rises 0 bound es

  -- the numbers rise, from some floor to some bound
  pub record Rising (es : List (List ℕ × Slot M)) : Type 0 where
    pub floor : ℕ
    pub bound : ℕ
    pub rises : Rises floor bound es

-- the bound, once a delivery that bears this number stands behind the others
abbrev pub raised_to : ℕ → Option ℕ → Option ℕ
raised_to bound None = Some bound
raised_to bound (Some n) = if nat_lt n bound then None else if n == 2 ^ 64 - 1 then None else Some (n + 1)

abbrev pub raised : Option ℕ → Option ℕ → Option ℕ
raised None number = None
raised (Some bound) number = raised_to bound number

-- whether two deliveries bear the same number, or none
abbrev pub same_number : Option ℕ → Option ℕ → Bool
same_number one None = is_none one
same_number one (Some n) = is_number n one

-- what a delivery's slot says and the bound, once the delivery bears another number
abbrev pub stamp : ℕ → Option ℕ → ℕ × Option ℕ
stamp below None = (below, None)
stamp below (Some bound) = (bound, Some bound)

abbrev pub restamped : ℕ → Option ℕ → Bool → Option ℕ → Option ℕ → ℕ × Option ℕ
restamped below bound is_last before after =
    if same_number before after then (below, bound) else if is_last then stamp below (raised bound after) else (below, None)
