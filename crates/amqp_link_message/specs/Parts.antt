-- What stands one behind the other in a message, part by part (part 3, 3.2).
use Rattle.std.specs.Prelude.{◌≡◌, ◌⊎◌, ℕ, List, [], ◌∷◌, ◌++◌, Option, Some, None}
use Rattle.serde_amqp_item.specs.Item.{Item}
use Rattle.serde_amqp_item.specs.Canon.{◌>>=◌}
use Rattle.amqp_link_message.specs.Payload.{Says}
use Rattle.amqp_link_message.specs.Sections.{BeginsFrom}

-- the items of a section that may be absent
abbrev pub if_there : {S : Type 0} → (S → Item) → Option S → List Item
if_there item None = []
if_there item (Some s) = item s ∷ []

-- a section at most once
abbrev pub at_most_one : (Item → Option Item) → List Item → Option (List Item)
at_most_one take [] = Some []
at_most_one take (x ∷ []) = take x >>= λ y. Some (y ∷ [])
at_most_one take (x ∷ y ∷ xs) = None

-- a section exactly once
abbrev pub exactly_one : (Item → Option Item) → List Item → Option (List Item)
exactly_one take [] = None
exactly_one take (x ∷ []) = take x >>= λ y. Some (y ∷ [])
exactly_one take (x ∷ y ∷ xs) = None

-- a section as often as it stands there
abbrev pub any_number : (Item → Option Item) → List Item → Option (List Item)
any_number take [] = Some []
any_number take (x ∷ xs) = take x >>= λ y. any_number take xs >>= λ ys. Some (y ∷ ys)

-- a section once or more often
abbrev pub one_or_more : (Item → Option Item) → List Item → Option (List Item)
one_or_more take [] = None
one_or_more take (x ∷ xs) = any_number take (x ∷ xs)

-- the parts, one behind the other
abbrev pub joined : List (List Item) → List Item
joined [] = []
joined (xs ∷ parts) = xs ++ joined parts

-- the items are parts one behind the other, of which each is taken, and these are what the parts are taken as
abbrev pub PartsTaken : List (List Item → Option (List Item)) → List Item → List (List Item) → Type 0
PartsTaken [] xs [] = xs ≡ []
PartsTaken (take ∷ takes) xs (ys ∷ parts) =
    (part : List Item) × (rest : List Item) × (xs ≡ part ++ rest) × (take part ≡ Some ys) × PartsTaken takes rest parts
PartsTaken takes xs parts = ⊥

-- the bytes say items that are taken as these parts
pub record ReadsParts (takes : List (List Item → Option (List Item))) (bytes : List ℕ) (parts : List (List Item)) : Type
    0 where
  pub items : List Item
  pub said : Says bytes items
  pub taken : PartsTaken takes items parts

-- the bytes say no items that are taken as parts
pub record NoParts (takes : List (List Item → Option (List Item))) (bytes : List ℕ) : Type 0 where
  pub none : (parts : List (List Item)) → ReadsParts takes bytes parts → ⊥

-- bytes that say a part give one value, also where they are meant as other items
abbrev pub OneValue : (List Item → Option (List Item)) → Type 0
OneValue take =
    (bytes : List ℕ) (xs zs ys us : List Item) → Says bytes xs → Says bytes zs → take xs ≡ Some ys → take zs ≡ Some us
    → ys ≡ us

-- there are no bytes, or they begin with a section of this code or a higher one
abbrev pub EndsOrBegins : ℕ → List ℕ → Type 0
EndsOrBegins least bytes = (bytes ≡ []) ⊎ BeginsFrom least bytes
