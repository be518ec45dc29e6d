use Rattle.std.proofs.Common.{sym, ap, ◌∙◌, length}
use Rattle.amqp_endpoint_tables.specs.Spread.{Slots, beside}
use Rattle.amqp_endpoint_tables.proofs.Spreading.{length-spread}
use Rattle.amqp_endpoint_tables.proofs.numbered.Numbered.next.Goals as goal

pub returns : goal.returns
returns g c =
    sym (length-spread c.self.inside.next (beside c.self.inside.places.entries c.self.inside.live.items))
    ∙ ap (λ (s : Slots _). length s.items) c.self.view_is
