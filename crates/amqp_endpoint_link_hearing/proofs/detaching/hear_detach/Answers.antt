use Rattle.std.proofs.Common.{List, subst}
use Rattle.amqp_session_performatives.specs.declared.session_frame.SessionFrame.{SessionFrame}
use Rattle.amqp_endpoint_conversation.specs.Going.{Goes}
use Rattle.amqp_endpoint_link_hearing.proofs.detaching.hear_detach.Goals as goal

pub returns-in_err-take_detach-clause-goes : goal.returns-in_err-take_detach-clause-goes
returns-in_err-take_detach-clause-goes c least =
    subst
    (λ (o : List SessionFrame).
    Goes c.args.limit c.args.talk.now c.take_detach.new.talk o c.take_detach.new.out.items)
    c.reserve.ensures.items (c.take_detach.ensures.goes least)

pub returns-clause-goes : goal.returns-clause-goes
returns-clause-goes c least =
    subst
    (λ (o : List SessionFrame).
    Goes c.args.limit c.args.talk.now c.take_detach.new.talk o c.take_detach.new.out.items)
    c.reserve.ensures.items (c.take_detach.ensures.goes least)
