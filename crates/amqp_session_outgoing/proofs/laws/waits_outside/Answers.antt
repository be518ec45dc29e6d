use Rattle.std.proofs.Common.{sym, refl, arith, false}
use Rattle.std.proofs.Math.Nat.{mod-eq_of_lt}
use Rattle.amqp_session_outgoing.specs.History.{fresh}
use Rattle.amqp_session_outgoing.proofs.Outside.{outside}
use Rattle.amqp_session_outgoing.proofs.laws.waits_outside.Goals as goal

pub returns : goal.returns
returns g c = λ first steps end small run caught some.
    outside steps (fresh first) end first first 0 false (record { next = sym (mod-eq_of_lt small); base = refl; width = refl }) (λ e h. absurd (omega arith)) run caught some
