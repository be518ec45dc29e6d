use Rattle.std.proofs.Common.{sym, ap, ◌∙◌, inl}
use Rattle.amqp_endpoint_tables.specs.Lends.{set_live}
use Rattle.amqp_endpoint_tables.specs.State.{State, live_at, live_of}
use Rattle.amqp_endpoint_tables.proofs.Places.{lent_live, place_of_live}
use Rattle.amqp_endpoint_tables.proofs.sessions.Sessions.live_mut.Goals as goal

pub returns : goal.returns
returns g c =
    let inside : State _ _ = record { connection = c.self.inside.connection; places = c.self.inside.places.items; asked = c.self.inside.asked } in
    let seen = ap (λ (s : State _ _). live_at s c.args.number) c.self.view_is in
    let found = place_of_live inside c.args.number c.index_mut.result.now c.index_mut.ensures.value c.live.result
    c.live.ensures c.if-is_none.ensures in (
      λ i. inl (
        c.live_mut.result.ghost_name,
        λ w. (lent_live inside c.args.number c.index_mut.result.now c.index_mut.ensures.value found w
            ∙ ap (λ (s : State _ _). set_live s c.args.number w) c.self.view_is) i,
      ),
      record { writes_back = tt; value = sym c.live_mut.ensures.value ∙ sym (ap live_of found) ∙ seen },
    )
