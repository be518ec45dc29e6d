-- What happens to one of the links: the words in which laws on histories are said.
use Rattle.std.specs.Prelude.{◌≡◌, ℕ, ◌+◌, ◌==◌, List, [], ◌∷◌, Bool, false, Option, Some, None, IsSome, slice_get}
use Rattle.std.specs.Prelude.{if◌then◌else◌}
use Rattle.amqp_endpoint_tables.specs.declared.link_place.LinkPlace.TheVariants.{Held, AtRest}
use Rattle.amqp_endpoint_tables.specs.declared.link_place.Named.{Named}
use Rattle.amqp_endpoint_tables.specs.LinkState.{State, held_of}
use Rattle.amqp_endpoint_tables.specs.LinkSteps.{Act, MakesRoom, LowersRoom, Enters, Rests, Holds, ChangesAtRest}
use Rattle.amqp_endpoint_tables.specs.LinkSteps.{Closes}

module _ {L : Type 0} where
  -- what stands at a number: nothing before it is given, and nothing in it once the link is closed
  abbrev pub slot_at : State L → ℕ → Option (Option (Named L))
  slot_at s number = slice_get s.links number

  -- whether a step is about the link with this number
  abbrev pub is_about : ℕ → Act L → Bool
  is_about n (MakesRoom name) = false
  is_about n (LowersRoom room) = false
  is_about n (Enters number name session handle) = n == number
  is_about n (Rests number link) = n == number
  is_about n (Holds number session handle link) = n == number
  is_about n (ChangesAtRest number before after) = n == number
  is_about n (Closes number place) = n == number

  -- the steps that are about it, in order
  abbrev pub steps_of : ℕ → List (Act L) → List (Act L)
  steps_of n [] = []
  steps_of n (step ∷ steps) = if is_about n step then step ∷ steps_of n steps else steps_of n steps

  -- what a step does to its link: one that is closed has none
  abbrev pub SlotStep : Option (Option (Named L)) → Act L → Option (Option (Named L)) → Type 0
  SlotStep old (MakesRoom name) new = ⊥
  SlotStep old (LowersRoom room) new = ⊥
  SlotStep old (Enters number name session handle) new =
      (old ≡ None) × (new ≡ Some (Some (record { name = name; place = Held session handle })))
  SlotStep old (Rests number link) new =
      (stood : Named L) × (old ≡ Some (Some stood)) × IsSome (held_of (Some stood.place))
      × (new ≡ Some (Some (record stood { place = AtRest link })))
  SlotStep old (Holds number session handle link) new =
      (stood : Named L) × (old ≡ Some (Some stood)) × (stood.place ≡ AtRest link)
      × (new ≡ Some (Some (record stood { place = Held session handle })))
  SlotStep old (ChangesAtRest number before after) new =
      (stood : Named L) × (old ≡ Some (Some stood)) × (stood.place ≡ AtRest before)
      × (new ≡ Some (Some (record stood { place = AtRest after })))
  SlotStep old (Closes number place) new =
      (stood : Named L) × (old ≡ Some (Some stood)) × (stood.place ≡ place) × (new ≡ Some None)

  abbrev pub SlotHistory : Option (Option (Named L)) → List (Act L) → Option (Option (Named L)) → Type 0
  SlotHistory start [] end = end ≡ start
  SlotHistory start (step ∷ steps) end =
      (mid : Option (Option (Named L))) × SlotStep start step mid × SlotHistory mid steps end

  -- how many links these steps give the number
  abbrev pub times_given : ℕ → List (Act L) → ℕ
  times_given n [] = 0
  times_given n (Enters number name session handle ∷ steps) =
      (if n == number then 1 else 0) + times_given n steps
  times_given n (step ∷ steps) = times_given n steps
