use Rattle.std.proofs.Common.{sym}
use Rattle.amqp_endpoint_attached.proofs.Handing.{prepared}
use Rattle.amqp_endpoint_attached.proofs.Refusing.{prepared_refused}
use Rattle.amqp_endpoint_attached.proofs.exchanging.prepare_answer.Goals as goal

pub returns-clause-ok : goal.returns-clause-ok
returns-clause-ok c =
    prepared c.args.limit c.args.session.now c.args.link.now c.args.input c.in-Some.asked.now c.make_ready.result
    c.in-Some.ensures c.make_ready.ensures.ok c.make_ready.ensures.passes

pub returns-clause-err : goal.returns-clause-err
returns-clause-err c =
    prepared_refused c.args.limit c.args.session.now c.args.link.now c.args.input c.in-Some.asked.now
    (sym c.in-Some.ensures) c.make_ready.result c.make_ready.ensures.err
