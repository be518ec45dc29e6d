use Rattle.std.proofs.Common.{Bool, None, ap, ◌∙◌}
use Rattle.amqp_endpoint_messages.specs.Sending.{behind_link}
use Rattle.amqp_endpoint_messages.proofs.Prepared.{by_link, by_number}
use Rattle.amqp_endpoint_messages.proofs.preparing.room_for.Goals as goal

pub returns-in-Err-clause-err : goal.returns-in-Err-clause-err
returns-in-Err-clause-err c =
    by_link c.args.session.now c.args.handle c.args.tag.now c.args.size c.in-Err.refusal c.refusal_of.result
    c.refusal_of.ensures c.in-Err.ensures.err

pub returns-then-has_free_number-clause-none : goal.returns-then-has_free_number-clause-none
returns-then-has_free_number-clause-none c =
    by_number c.args.session.now c.args.handle c.args.tag.now c.args.size c.in-Ok.room c.has_free_number.result
    c.in-Ok.ensures.ok c.has_free_number.ensures
    ∙ ap (λ (b : Bool). behind_link None b) c.if-has_free_number.true

pub returns-clause-err : goal.returns-clause-err
returns-clause-err c =
    by_number c.args.session.now c.args.handle c.args.tag.now c.args.size c.in-Ok.room c.has_free_number.result
    c.in-Ok.ensures.ok c.has_free_number.ensures
    ∙ ap (λ (b : Bool). behind_link None b) c.if-has_free_number.false
