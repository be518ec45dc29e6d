use Rattle.std.proofs.Common.{arith}
use Rattle.std.proofs.lemmas.Bool.Decides.{nat_tests}
use Rattle.amqp_endpoint_messages.proofs.GoesOn.{none-long}
use Rattle.amqp_endpoint_messages.proofs.going_on.make_on_ready.Goals as goal

pub returns-then-is_empty-clause-ready : goal.returns-then-is_empty-clause-ready
returns-then-is_empty-clause-ready c =
    none-long c.args.ons.items (grind (arith, nat_tests, c.is_empty.ensures, c.if-is_empty.true))

pub returns-in-Ok-clause-ready : goal.returns-in-Ok-clause-ready
returns-in-Ok-clause-ready c = c.in_ok-sending.ensures.ready

pub returns-in-Ok-clause-counted : goal.returns-in-Ok-clause-counted
returns-in-Ok-clause-counted c = c.in_ok-sending.ensures.ready.count

pub returns-in-Ok-clause-tagged : goal.returns-in-Ok-clause-tagged
returns-in-Ok-clause-tagged c = c.in_ok-sending.ensures.tagged

pub returns-in-Ok-clause-behind : goal.returns-in-Ok-clause-behind
returns-in-Ok-clause-behind c = (c.in-Ok.ensures.more, c.in-Ok.ensures.room)
