use Rattle.std.proofs.Common.{◌∙◌}
use Rattle.amqp_endpoint_link_calls.specs.Calling.{DoneIn}
use Rattle.amqp_endpoint_link_calls.specs.Closing.{closes}
use Rattle.amqp_endpoint_link_calls.proofs.Closed.{closed-goes, either}
use Rattle.amqp_endpoint_link_calls.proofs.Going.{same-goes}
use Rattle.amqp_endpoint_link_calls.proofs.closing.close_held.Goals as goal

pub returns-clause-goes : goal.returns-clause-goes
returns-clause-goes c limit least =
    let call = c.close_in-closed in
    let talk = c.args.talk.now in
    let out = c.args.out.now.items in
    either
    (λ events. DoneIn (closes events.items) c.args.session c.args.handle talk out call.new.talk call.new.out.items)
    call.result
    (λ events done.
    closed-goes talk call.new.talk c.args.session c.args.handle out call.new.out.items c.len-from.result
    (c.len-from.ensures ∙ c.args.out.now.ok.0) c.handle_is_short.ensures c.frames_are_read.ensures limit least
    events.items done)
    (λ kept. same-goes talk call.new.talk out call.new.out.items kept.0 kept.1 limit) call.ensures.ok
    call.ensures.kept
