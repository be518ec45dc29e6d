use Rattle.std.proofs.Common.{ℕ, List, map, ap, ◌∙◌}
use Rattle.amqp_session_core.specs.State.{State, links_in}
use Rattle.amqp_session_core.proofs.Linking.{links-entries}
use Rattle.amqp_session_core.proofs.session.Session.into_links.Goals as goal

pub returns : goal.returns
returns g c =
    ap (λ (es : List (ℕ × _)). map (λ e. e.1) es) c.into_iter.ensures.into_iter_gives
    ∙ links-entries 0 c.self.inside.links.slots
    ∙ ap (λ (s : State _). links_in s.links) c.self.view_is
