use Rattle.std.proofs.Common.{List, subst}
use Rattle.amqp_session_performatives.specs.declared.session_frame.SessionFrame.{SessionFrame}
use Rattle.amqp_endpoint_conversation.specs.Going.{Goes}
use Rattle.amqp_endpoint_link_hearing.proofs.disposing.hear_any.Goals as goal

pub returns-in_err-take_disposition-clause-goes : goal.returns-in_err-take_disposition-clause-goes
returns-in_err-take_disposition-clause-goes c least =
    subst
    (λ (o : List SessionFrame).
    Goes c.args.limit c.args.talk.now c.take_disposition.new.talk o c.take_disposition.new.out.items)
    c.in_ok-ready.ensures.frames (c.take_disposition.ensures.goes least)

pub returns-clause-goes : goal.returns-clause-goes
returns-clause-goes c least =
    subst
    (λ (o : List SessionFrame).
    Goes c.args.limit c.args.talk.now c.take_disposition.new.talk o c.take_disposition.new.out.items)
    c.in_ok-ready.ensures.frames (c.take_disposition.ensures.goes least)
