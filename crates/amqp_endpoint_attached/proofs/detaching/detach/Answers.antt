use Rattle.std.proofs.Common.{List, subst}
use Rattle.amqp_session_performatives.specs.declared.session_frame.SessionFrame.{SessionFrame}
use Rattle.amqp_endpoint_attached.specs.Detaching.{DetachGiven}
use Rattle.amqp_endpoint_attached.proofs.detaching.detach.Goals as goal

pub returns-clause-answer : goal.returns-clause-answer
returns-clause-answer c =
    subst (λ (out : List SessionFrame).
    DetachGiven c.args.session.now c.args.handle c.args.closed c.args.error out c.detach_placed.new.session
    c.detach_placed.new.out.items)
    c.in-Ok.ensures.same c.detach_placed.ensures.given
