use Rattle.std.proofs.Common.{sym, ap, refl, ◌∙◌, ◌-◌, min, subst, ℕ, List, Option, Some, is_some, length-set, arith, true≢false}
use Rattle.std.proofs.lemmas.Option.{slice_get-get_or}
use Rattle.std.specs.Vec.{vec_capacity, vec_len}
use Rattle.indexmap.specs.IndexMap.{spare}
use Rattle.indexmap.proofs.MapLemmas.{Found-position}
use Rattle.std.proofs.Common.{nat_eq}
use Rattle.amqp_endpoint_tables.specs.Spread.{AreGiven, Slots, beside, living, spread, with_slot}
use Rattle.amqp_endpoint_tables.proofs.Beside.{found-at, missing, put-at}
use Rattle.amqp_endpoint_tables.proofs.Spreading.{given-set, living-spread, spread-set}
use Rattle.amqp_endpoint_tables.proofs.numbered.Numbered.at_mut.Goals as goal

pub unreachable-requires : goal.unreachable-requires
unreachable-requires g c =
    let ps = c.self.inside.places.entries in
    let xs = c.self.inside.live.items in
    true≢false
    (sym c.requires
    ∙ sym (ap (λ (s : Slots _). is_some (living s.items c.args.number)) c.self.view_is)
    ∙ ap (λ (o : Option _). is_some o)
    (living-spread c.self.inside.next (beside ps xs) c.self.invariant.0 c.args.number
    ∙ missing ps xs c.self.invariant.1 c.args.number (sym c.get_index_of.ensures.index ∙ c.in_default.is)))

pub invariant_of-self-lent : goal.invariant_of-self-lent
invariant_of-self-lent g c w =
    let ps = c.self.inside.places.entries in
    let xs = c.self.inside.live.items in
    let es = beside ps xs in (
      subst (λ (fs : List (ℕ × _)). AreGiven c.self.inside.next fs)
          (sym (put-at ps xs c.self.invariant.1 c.args.number c.in-Some.index
          (sym c.get_index_of.ensures.index ∙ c.in-Some.is) w))
          (given-set c.self.inside.next es c.args.number w c.self.invariant.0),
      length-set xs c.in-Some.index w ∙ c.self.invariant.1,
    )

pub returns : goal.returns
returns g c =
    let next = c.self.inside.next in
    let ps = c.self.inside.places.entries in
    let xs = c.self.inside.live.items in
    let es = beside ps xs in
    let number = c.args.number in
    let i = c.in-Some.index in
    let at = sym c.get_index_of.ensures.index ∙ c.in-Some.is in
    let there = ap (λ (o : Option _). is_some o) (sym (living-spread next es c.self.invariant.0 number))
    ∙ ap (λ (s : Slots _). is_some (living s.items number)) c.self.view_is
    ∙ c.requires in (
      (
        refl,
        λ w. ap (λ (items : List (Option _)). record { items = items; spare = min (spare c.self.inside.places) (vec_capacity c.self.inside.live - vec_len c.self.inside.live) })
            (ap (λ (fs : List (ℕ × _)). spread next fs) (put-at ps xs c.self.invariant.1 number i at w)
            ∙ spread-set next es number w there)
            ∙ ap (λ (s : Slots _). with_slot s number w) c.self.view_is,
      ),
      record {
        lends = tt;
        value = ap (λ (s : Slots _). living s.items number) (sym c.self.view_is)
            ∙ living-spread next es c.self.invariant.0 number
            ∙ found-at ps xs c.self.invariant.1 number i at
            ∙ slice_get-get_or xs i c.index_mut.result.now
            (omega (arith, c.self.invariant.1, (Found-position (nat_eq number) ps i at).within))
            ∙ ap (λ (x : _). Some x) (sym c.index_mut.ensures.value);
      },
    )
