use Rattle.std.proofs.Common.{refl}
use Rattle.amqp_endpoint_link_hearing.proofs.Partings.{parts-answered, parts-silent}
use Rattle.amqp_endpoint_link_hearing.proofs.leaving.part_in.Goals as goal

pub returns-then-answers : goal.returns-then-answers
returns-then-answers c =
    parts-answered c.args.session.now c.answer_detach.new.session c.args.handle c.args.answers c.args.answer.closed
    c.args.answer.error c.take_out.result c.take_out.new.session c.args.out.now.items c.answer_detach.new.out.items
    c.take_out.ensures c.if-answers.true c.answer_detach.ensures.reply

pub returns : goal.returns
returns c =
    parts-silent c.args.session.now c.args.session.now c.args.handle c.args.answers c.args.answer.closed
    c.args.answer.error c.take_out-2.result c.take_out-2.new.session c.args.out.now.items c.args.out.now.items
    c.take_out-2.ensures c.if-answers.false refl refl
