use Rattle.std.proofs.Common.{sym, refl}
use Rattle.std.proofs.Math.Nat.{mod-eq_of_lt}
use Rattle.amqp_session_outgoing.specs.History.{fresh}
use Rattle.amqp_session_outgoing.proofs.Numbers.{history-numbered}
use Rattle.amqp_session_outgoing.proofs.laws.each_numbered.Goals as goal

pub returns : goal.returns
returns g c = λ first steps end small run. history-numbered steps (fresh first) end first 0 (record { next = sym (mod-eq_of_lt small); delivery = refl }) run
