-- The links of an endpoint, by their numbers and their names (part 2, 2.6.1).
use Rattle.std.specs.Prelude.{◌≡◌, ◌≢◌, ℕ, List, [], Option, Some, None, slice_get, slice_index_or, slice_set}
use Rattle.amqp_session_types.specs.declared.handles.OutputHandle.{OutputHandle}
use Rattle.amqp_endpoint_tables.specs.declared.link_place.LinkPlace.{LinkPlace}
use Rattle.amqp_endpoint_tables.specs.declared.link_place.LinkPlace.TheVariants.{Held, AtRest}
use Rattle.amqp_endpoint_tables.specs.declared.link_place.Named.{Named}

pub record State (L : Type 0) : Type 0 where
  -- each link that was entered, by its number: nothing where it is closed
  pub links : List (Option (Named L))
  -- how many links more are sure to find room
  pub room : ℕ

module _ {L : Type 0} where
  -- without links
  abbrev pub fresh : State L
  fresh = record { links = []; room = 0 }

  -- a link that isn't closed
  abbrev pub open_of : Option (Option (Named L)) → Option (Named L)
  open_of None = None
  open_of (Some slot) = slot

  -- the link with a number; nothing where none has it, or where that is closed
  abbrev pub link_at : List (Option (Named L)) → ℕ → Option (Named L)
  link_at links number = open_of (slice_get links number)

  -- where a link is
  abbrev pub place_of : Option (Named L) → Option (LinkPlace L)
  place_of None = None
  place_of (Some link) = Some link.place

  abbrev pub place_at : State L → ℕ → Option (LinkPlace L)
  place_at s number = place_of (link_at s.links number)

  -- its name
  abbrev pub name_of : Option (Named L) → Option (List ℕ)
  name_of None = None
  name_of (Some link) = Some link.name

  abbrev pub name_in : List (Option (Named L)) → ℕ → Option (List ℕ)
  name_in links number = name_of (link_at links number)

  abbrev pub name_at : State L → ℕ → Option (List ℕ)
  name_at s number = name_in s.links number

  -- the session that holds a link, and the own handle that it has there (part 2, 2.6.2)
  abbrev pub held_of : Option (LinkPlace L) → Option (ℕ × OutputHandle)
  held_of (Some (Held session handle)) = Some (session, handle)
  held_of place = None

  abbrev pub held_at : State L → ℕ → Option (ℕ × OutputHandle)
  held_at s number = held_of (place_at s number)

  -- a link that is at rest
  abbrev pub rest_of : Option (LinkPlace L) → Option L
  rest_of (Some (AtRest link)) = Some link
  rest_of place = None

  abbrev pub rest_at : State L → ℕ → Option L
  rest_at s number = rest_of (place_at s number)

  -- a link in another place, where it isn't closed: its name stays
  abbrev pub moved : Option (Named L) → LinkPlace L → Option (Named L)
  moved None place = None
  moved (Some link) place = Some (record link { place = place })

  abbrev pub put_in : List (Option (Named L)) → ℕ → LinkPlace L → List (Option (Named L))
  put_in links number place = slice_set links number (moved (slice_index_or links number None) place)

  abbrev pub put : State L → ℕ → LinkPlace L → State L
  put s number place = record s { links = put_in s.links number place }

  -- a link is closed: its number leads nowhere any more
  abbrev pub without : State L → ℕ → State L
  without s number = record s { links = slice_set s.links number None }

  -- no link that isn't closed has this name
  abbrev pub IsNewName : List (Option (Named L)) → List ℕ → Type 0
  IsNewName links name = (number : ℕ) → name_in links number ≢ Some name

  -- the number of the link that isn't closed and has this name, if there is one
  abbrev pub Names : List (Option (Named L)) → List ℕ → Option ℕ → Type 0
  Names links name None = IsNewName links name
  Names links name (Some number) = name_in links number ≡ Some name

  -- no two links that aren't closed have one name (part 2, 2.6.1)
  abbrev pub AreApart : List (Option (Named L)) → Type 0
  AreApart links =
      (m n : ℕ) (name : List ℕ) → name_in links m ≡ Some name → name_in links n ≡ Some name → m ≡ n
