use Rattle.std.proofs.Common.{sym, ap, ◌∙◌, inl, length-set, Option, Some, arith}
use Rattle.amqp_endpoint_tables.specs.declared.link_place.LinkPlace.TheVariants.{AtRest}
use Rattle.amqp_endpoint_tables.specs.LinkState.{State, open_of, place_of, put, rest_at, rest_of}
use Rattle.amqp_endpoint_tables.proofs.Lent.{lent_rest, lent_slot}
use Rattle.amqp_endpoint_tables.proofs.Naming.{lent-named}
use Rattle.amqp_endpoint_tables.proofs.Spreading.{living-is}
use Rattle.amqp_endpoint_tables.proofs.links.Links.at_rest_mut.Goals as goal

pub invariant_of-self-lent : goal.invariant_of-self-lent
invariant_of-self-lent g c w =
    let inside : State _ = record { links = c.self.inside.links.items; room = c.self.inside.room } in
    let link = c.at_mut.result.now in
    let number = c.args.number in (
      lent-named inside.links c.self.inside.numbers.entries number (Some link) (AtRest w)
          (lent_slot inside number link (living-is inside.links number link c.at_mut.ensures.value))
          c.self.invariant.0,
      c.self.invariant.1,
      c.self.invariant.2,
      omega (arith, length-set inside.links number (Some (record link { place = AtRest w })), c.self.invariant.3),
    )

pub returns : goal.returns
returns g c =
    let inside : State _ = record { links = c.self.inside.links.items; room = c.self.inside.room } in
    let link = c.at_mut.result.now in
    let number = c.args.number in
    let here = living-is inside.links number link c.at_mut.ensures.value in (
      λ i. inl (
        c.at_rest_mut.result.ghost_name,
        λ w. (lent_rest inside number link here w ∙ ap (λ (s : State _). put s number (AtRest w)) c.self.view_is) i,
      ),
      record {
        writes_back = tt;
        value =
            sym c.at_rest_mut.ensures.value ∙ sym (ap (λ (o : Option (Option _)). rest_of (place_of (open_of o))) here)
            ∙ ap (λ (s : State _). rest_at s number) c.self.view_is;
      },
    )
