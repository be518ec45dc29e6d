use Rattle.std.proofs.Common.{inl, inr, sym, ap, ◌∙◌, ◌-◌, min, subst, ℕ, List, Option, Some, is_some, length-set, arith}
use Rattle.std.proofs.lemmas.Option.{slice_get-get_or}
use Rattle.std.specs.Vec.{vec_capacity, vec_len}
use Rattle.indexmap.specs.IndexMap.{spare}
use Rattle.indexmap.proofs.MapLemmas.{Found-position}
use Rattle.std.proofs.Common.{nat_eq}
use Rattle.amqp_endpoint_tables.specs.Spread.{AreGiven, Slots, beside, living, spread, with_slot}
use Rattle.amqp_endpoint_tables.proofs.Beside.{found-at, missing, put-at}
use Rattle.amqp_endpoint_tables.proofs.Spreading.{given-set, living-spread, spread-set}
use Rattle.amqp_endpoint_tables.proofs.numbered.Numbered.get_mut.Goals as goal

pub invariant_of-self-lent : goal.invariant_of-self-lent
invariant_of-self-lent g c w =
    let ps = c.self.inside.places.entries in
    let xs = c.self.inside.live.items in
    let es = beside ps xs in (
      subst (λ (fs : List (ℕ × _)). AreGiven c.self.inside.next fs)
          (sym (put-at ps xs c.self.invariant.1 c.args.number c.in-Some.index
          (sym c.get_index_of.ensures.index ∙ c.in-Some.is) w))
          (given-set c.self.inside.next es c.args.number w c.self.invariant.0),
      length-set xs c.in-Some.index w ∙ c.self.invariant.1,
    )

pub returns-in-Some : goal.returns-in-Some
returns-in-Some g c =
    let next = c.self.inside.next in
    let ps = c.self.inside.places.entries in
    let xs = c.self.inside.live.items in
    let es = beside ps xs in
    let number = c.args.number in
    let i = c.in-Some.index in
    let at = sym c.get_index_of.ensures.index ∙ c.in-Some.is in
    let here = found-at ps xs c.self.invariant.1 number i at
    ∙ slice_get-get_or xs i c.index_mut.result.now
    (omega (arith, c.self.invariant.1, (Found-position (nat_eq number) ps i at).within)) in
    let there = ap (λ (o : Option _). is_some o) here in (
      λ j. inl (
        c.index_mut.result.ghost_name,
        λ w. (ap (λ (items : List (Option _)). record { items = items; spare = min (spare c.self.inside.places) (vec_capacity c.self.inside.live - vec_len c.self.inside.live) })
            (ap (λ (fs : List (ℕ × _)). spread next fs) (put-at ps xs c.self.invariant.1 number i at w)
            ∙ spread-set next es number w there)
            ∙ ap (λ (s : Slots _). with_slot s number w) c.self.view_is) j,
      ),
      record {
        writes_back = tt;
        value = ap (λ (x : _). Some x) c.index_mut.ensures.value ∙ sym here
            ∙ sym (living-spread next es c.self.invariant.0 number)
            ∙ ap (λ (s : Slots _). living s.items number) c.self.view_is;
      },
    )

pub returns-in-None : goal.returns-in-None
returns-in-None g c =
    let ps = c.self.inside.places.entries in
    let xs = c.self.inside.live.items in (
      λ j. inr (c.self.view_is j),
      record {
        writes_back = tt;
        value = sym (missing ps xs c.self.invariant.1 c.args.number (sym c.get_index_of.ensures.index ∙ c.in-None.is))
            ∙ sym (living-spread c.self.inside.next (beside ps xs) c.self.invariant.0 c.args.number)
            ∙ ap (λ (s : Slots _). living s.items c.args.number) c.self.view_is;
      },
    )
