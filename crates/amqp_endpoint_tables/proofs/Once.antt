-- No number is given twice.
use Rattle.std.proofs.Common.{◌≡◌, ℕ, ◌+◌, ◌<◌, ◌≤◌, Bool, true, false, List, [], ◌∷◌, ◌++◌, Option, Some, None, refl, ap, ◌==◌, length, length-append, length-set, slice_index_or, arith, if◌then◌else◌}
use Rattle.amqp_endpoint_tables.specs.declared.link_place.LinkPlace.{LinkPlace}
use Rattle.amqp_endpoint_tables.specs.declared.link_place.LinkPlace.TheVariants.{Held, AtRest}
use Rattle.amqp_endpoint_tables.specs.declared.link_place.Named.{Named}
use Rattle.amqp_endpoint_tables.specs.LinkState.{State, moved, put_in}
use Rattle.amqp_endpoint_tables.specs.LinkSteps.{Act, Step, History, MakesRoom, LowersRoom, Enters, Rests, Holds}
use Rattle.amqp_endpoint_tables.specs.LinkSteps.{ChangesAtRest, Closes}
use Rattle.amqp_endpoint_tables.specs.OwnLinks.{times_given}
use Rattle.amqp_endpoint_tables.proofs.OwningLinks.{same_number}

module _ {L : Type 0} where
  abbrev count : State L → ℕ
  count s = length s.links

  put_count : (s : State L) (number : ℕ) (place : LinkPlace L) → length (put_in s.links number place) ≡ count s
  put_count s number place = length-set s.links number (moved (slice_index_or s.links number None) place)

  one_more : (s : State L) (slot : Option (Named L)) → length (s.links ++ slot ∷ []) ≡ count s + 1
  one_more s slot = length-append s.links (slot ∷ [])

  -- no step makes the links fewer
  kept : (old : State L) (step : Act L) (new : State L) → Step old step new → count old ≤ count new
  kept old (MakesRoom name) new s = omega (arith, ap count s.1)
  kept old (LowersRoom room) new s = omega (arith, ap count s)
  kept old (Enters number name session handle) new s =
      omega (arith, ap count s.3, one_more old (Some (record { name = name; place = Held session handle })))
  kept old (Rests number link) new s = omega (arith, ap count s.1, put_count old number (AtRest link))
  kept old (Holds number session handle link) new s =
      omega (arith, ap count s.1, put_count old number (Held session handle))
  kept old (ChangesAtRest number before after) new s = omega (arith, ap count s.1, put_count old number (AtRest after))
  kept old (Closes number place) new s = omega (arith, ap count s.1, length-set old.links number None)

  module _ (n : ℕ) where
    pub never : (start : State L) (steps : List (Act L)) (end : State L) → History start steps end → n < count start
        → times_given n steps ≡ 0
    never start [] end h below = refl
    never start (MakesRoom name ∷ steps) end (mid, s, h) below =
        never mid steps end h (omega (arith, kept start (MakesRoom name) mid s))
    never start (LowersRoom room ∷ steps) end (mid, s, h) below =
        never mid steps end h (omega (arith, kept start (LowersRoom room) mid s))
    never start (Enters number name session handle ∷ steps) end (mid, s, h) below =
        by (n == number) refl
        (never mid steps end h (omega (arith, kept start (Enters number name session handle) mid s)))
      where
        by : (b : Bool) → (n == number) ≡ b → times_given n steps ≡ 0
            → (if n == number then 1 else 0) + times_given n steps ≡ 0
        by true e rest = absurd (omega (arith, same_number n number e, s.2))
        by false e rest =
            let none : ◌≡◌ {A = ℕ} (if n == number then 1 else 0) 0 = ap (λ (c : Bool). if c then 1 else 0) e in
            omega (arith, none, rest)
    never start (Rests number link ∷ steps) end (mid, s, h) below =
        never mid steps end h (omega (arith, kept start (Rests number link) mid s))
    never start (Holds number session handle link ∷ steps) end (mid, s, h) below =
        never mid steps end h (omega (arith, kept start (Holds number session handle link) mid s))
    never start (ChangesAtRest number before after ∷ steps) end (mid, s, h) below =
        never mid steps end h (omega (arith, kept start (ChangesAtRest number before after) mid s))
    never start (Closes number place ∷ steps) end (mid, s, h) below =
        never mid steps end h (omega (arith, kept start (Closes number place) mid s))

    pub once : (start end : State L) (steps : List (Act L)) → History start steps end → times_given n steps ≤ 1
    once start end [] h = omega arith
    once start end (MakesRoom name ∷ steps) (mid, s, h) = once mid end steps h
    once start end (LowersRoom room ∷ steps) (mid, s, h) = once mid end steps h
    once start end (Enters number name session handle ∷ steps) (mid, s, h) =
        by (n == number) refl (once mid end steps h)
      where
        by : (b : Bool) → (n == number) ≡ b → times_given n steps ≤ 1
            → (if n == number then 1 else 0) + times_given n steps ≤ 1
        by true e rest =
            let below : n < count mid =
            omega (
              arith,
              ap count s.3,
              one_more start (Some (record { name = name; place = Held session handle })),
              same_number n number e,
              s.2,
            ) in
            let one : ◌≡◌ {A = ℕ} (if n == number then 1 else 0) 1 = ap (λ (c : Bool). if c then 1 else 0) e in
            omega (arith, one, never mid steps end h below)
        by false e rest =
            let none : ◌≡◌ {A = ℕ} (if n == number then 1 else 0) 0 = ap (λ (c : Bool). if c then 1 else 0) e in
            omega (arith, none, rest)
    once start end (Rests number link ∷ steps) (mid, s, h) = once mid end steps h
    once start end (Holds number session handle link ∷ steps) (mid, s, h) = once mid end steps h
    once start end (ChangesAtRest number before after ∷ steps) (mid, s, h) = once mid end steps h
    once start end (Closes number place ∷ steps) (mid, s, h) = once mid end steps h
