-- What becomes of the links of a session that is over (part 2, 2.5.2, 2.6.4, 2.6.6).
use Rattle.std.specs.Prelude.{◌≡◌, ℕ, List, [], ◌∷◌, Bool, true, false, Option, Some, None, Result, ⊤, All}
use Rattle.amqp_link.specs.declared.end.End.{End}
use Rattle.amqp_endpoint_tables.specs.declared.link_place.LinkPlace.{LinkPlace}
use Rattle.amqp_endpoint_tables.specs.LinkSteps.{Closed, Closes, History, Rested, Rests, Act}
use Rattle.amqp_endpoint_attached.specs.Ends.{broken, is_closed_end}
use Rattle.amqp_endpoint_linking.specs.Linking.{Link, Links, Session, links_of}

-- a link that is closed for good is unknown from then on; nothing changes where it was so before
pub record IsClosed (old : Links) (number : ℕ) (new : Links) : Type 0 where
  pub place : Option (LinkPlace End)
  pub closed : Closed old number place new

-- any other is at rest; nothing changes where no session held it
pub record IsAtRest (old : Links) (number : ℕ) (link : End) (new : Links) : Type 0 where
  pub back : Result ⊤ End
  pub rested : Rested old number link back new

abbrev pub StandsAs : Bool → Links → ℕ → End → Links → Type 0
StandsAs true old number link new = IsClosed old number new
StandsAs false old number link new = IsAtRest old number link new

-- the session of a link is over: the link is detached by that, or closed for good where its own closing Detach had gone
-- (part 2, 2.6.5, 2.6.6)
abbrev pub GivenBack : Links → Link → Links → Type 0
GivenBack old it new = StandsAs (is_closed_end (broken it.link)) old it.number (broken it.link) new

-- the session of these links is: one after the other is given back
abbrev pub AllGivenBack : Links → List Link → Links → Type 0
AllGivenBack old [] new = new ≡ old
AllGivenBack old (it ∷ others) new = (mid : Links) × GivenBack old it mid × AllGivenBack mid others new

-- a session is over that had begun, if one is
abbrev pub SessionGivenBack : Links → Option Session → Links → Type 0
SessionGivenBack old None new = new ≡ old
SessionGivenBack old (Some session) new = AllGivenBack old (links_of session) new

-- a link comes to rest, or is closed
abbrev pub IsGivenBack : Act End → Type 0
IsGivenBack (Rests number link) = Unit {0}
IsGivenBack (Closes number place) = Unit {0}
IsGivenBack step = ⊥

-- links go on by such steps alone
pub record GoOn (old new : Links) : Type 0 where
  pub steps : List (Act End)
  pub history : History old steps new
  pub given_back : All IsGivenBack steps
