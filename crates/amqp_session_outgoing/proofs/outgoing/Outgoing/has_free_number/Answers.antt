use Rattle.std.proofs.Common.{ℕ, ap, subst, ◌↔◌, ◌∙◌}
use Rattle.std.specs.Prelude.{IsTrue}
use Rattle.amqp_session_outgoing.specs.Queues.{firsts_in}
use Rattle.amqp_session_outgoing.specs.State.{State}
use Rattle.amqp_session_outgoing.specs.History.{IsFree}
use Rattle.amqp_session_outgoing.proofs.outgoing.Outgoing.has_free_number.Goals as goal

pub returns : goal.returns
returns g c =
    subst (λ (n : ℕ). IsTrue c.is_free.result ↔ IsFree c.args.self.now n)
    (c.self.invariant.firsts ∙ ap (λ (s : State _ _). firsts_in s.queues) c.self.view_is) c.is_free.ensures
