use Rattle.std.proofs.Common.{sym, ap, ◌∙◌, inl}
use Rattle.amqp_endpoint_tables.specs.Lends.{set_asked}
use Rattle.amqp_endpoint_tables.specs.State.{State, asked_at, asked_of}
use Rattle.amqp_endpoint_tables.proofs.Places.{lent_asked, place_of_asked}
use Rattle.amqp_endpoint_tables.proofs.sessions.Sessions.asked_mut.Goals as goal

pub returns : goal.returns
returns g c =
    let inside : State _ _ = record { connection = c.self.inside.connection; places = c.self.inside.places.items; asked = c.self.inside.asked } in
    let seen = ap (λ (s : State _ _). asked_at s c.args.number) c.self.view_is in
    let found = place_of_asked inside c.args.number c.index_mut.result.now c.index_mut.ensures.value c.asked.result
    c.asked.ensures c.if-is_none.ensures in (
      λ i. inl (
        c.asked_mut.result.ghost_name,
        λ w. (lent_asked inside c.args.number c.index_mut.result.now c.index_mut.ensures.value found w
            ∙ ap (λ (s : State _ _). set_asked s c.args.number w) c.self.view_is) i,
      ),
      record { writes_back = tt; value = sym c.asked_mut.ensures.value ∙ sym (ap asked_of found) ∙ seen },
    )
