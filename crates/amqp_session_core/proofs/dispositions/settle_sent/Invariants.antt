use Rattle.std.proofs.Common.{◌≡◌, take}
use Rattle.amqp_session_core.specs.Echoes.{without}
use Rattle.amqp_session_core.proofs.dispositions.settle_sent.Given as goal

abbrev pub invariant-loop-number : goal.invariant-loop-number
invariant-loop-number l = l.outgoing ≡ record l.fn.outgoing { unsettled = without l.fn.outgoing.unsettled (take l.number-index l.numbers) }
