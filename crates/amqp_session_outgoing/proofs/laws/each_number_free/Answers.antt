use Rattle.std.proofs.Common.{arith}
use Rattle.amqp_session_outgoing.specs.History.{fresh}
use Rattle.amqp_session_outgoing.proofs.Free.{history-free, gives-free}
use Rattle.amqp_session_outgoing.proofs.laws.each_number_free.Goals as goal

pub returns : goal.returns
returns g c = λ first steps step old new run x sent here leaves.
    gives-free step old new sent here x leaves (history-free steps (fresh first) old run (record { small = omega arith; free = λ k lt. absurd (omega (arith, lt)) }))
