use Rattle.std.proofs.Common.{◌≡◌, take}
use Rattle.amqp_session_core.specs.Echoes.{without}
use Rattle.amqp_session_core.proofs.dispositions.settle_received.Given as goal

abbrev pub invariant-loop-number : goal.invariant-loop-number
invariant-loop-number l = l.received ≡ record l.fn.received { table = without l.fn.received.table (take l.number-index l.numbers) }
