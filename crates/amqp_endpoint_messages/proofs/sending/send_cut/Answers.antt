use Rattle.std.proofs.Common.{ap, sym, ℕ, ◌∙◌}
use Rattle.amqp_endpoint_attached.specs.Linked.{LinksIn, end_in}
use Rattle.amqp_endpoint_messages.specs.Sending.{link_refusal, with_tag}
use Rattle.amqp_endpoint_messages.proofs.Prepared.{nothing_refused}
use Rattle.amqp_endpoint_messages.proofs.Sent.{as_before, has_frame, is_there, may_send, message_sent, not_a_frame}
use Rattle.amqp_endpoint_messages.proofs.Sent.{refused_look, stays, tagged, without_memory}
use Rattle.amqp_endpoint_messages.proofs.sending.send_cut.Goals as goal

pub returns-in-Err-clause-answer : goal.returns-in-Err-clause-answer
returns-in-Err-clause-answer c =
    refused_look c.args.limit c.args.session.now.session c.args.handle (with_tag c.args.tag c.args.message.now)
    c.len.result c.in-Err.refused c.len.ensures.value c.in-Err.ensures.err

pub returns-in-Err-clause-frame : goal.returns-in-Err-clause-frame
returns-in-Err-clause-frame c = λ least short.
    not_a_frame c.args.session.now.session c.args.handle c.args.tag c.len.result c.in-Err.refused
    c.in-Err.ensures.err

pub prepare_in-requires : goal.prepare_in-requires
prepare_in-requires c =
    ap (λ (n : ℕ). link_refusal (end_in c.args.session.now.session c.args.handle) c.args.tag n)
    (sym c.len.ensures.value)
    ∙ nothing_refused (end_in c.args.session.now.session c.args.handle) c.args.tag c.len.result c.in-Ok.room
    c.in-Ok.ensures.ok

pub returns-in_default-clause-answer : goal.returns-in_default-clause-answer
returns-in_default-clause-answer c =
    without_memory c.args.limit c.args.session.now.session c.args.handle
    (with_tag c.args.tag c.args.message.now) c.len.result c.len.ensures.value c.in-Ok.ensures.none

pub send_ready-requires-clause-may : goal.send_ready-requires-clause-may
send_ready-requires-clause-may c =
    may_send c.args.session.now.session c.args.handle (with_tag c.args.tag c.args.message.now)
    c.in-Ok-prepare_in.ready c.prepare_in.new.session c.in-Ok-prepare_in.ensures.ok

pub send_ready-requires-clause-tagged : goal.send_ready-requires-clause-tagged
send_ready-requires-clause-tagged c =
    tagged c.args.session.now.session c.args.handle (with_tag c.args.tag c.args.message.now)
    c.in-Ok-prepare_in.ready c.prepare_in.new.session c.in-Ok-prepare_in.ensures.ok

pub returns-in-Ok-send_ready-clause-answer : goal.returns-in-Ok-send_ready-clause-answer
returns-in-Ok-send_ready-clause-answer c =
    message_sent c.args.session.now c.args.limit c.args.handle (with_tag c.args.tag c.args.message.now)
    c.in-Ok-prepare_in.ready c.prepare_in.new.session c.send_ready.new.session c.in-Ok-send_ready.went
    c.args.out.now.items c.send_ready.new.out.items c.in-Ok-prepare_in.ensures.ok c.in-Ok-send_ready.ensures.ok
    c.ranges.limit.fits

pub lower_room_in-requires : goal.lower_room_in-requires
lower_room_in-requires c =
    is_there c.args.session.now.session c.args.handle (with_tag c.args.tag c.args.message.now)
    c.in-Ok-prepare_in.ready c.prepare_in.new.session c.in-Ok-prepare_in.ensures.ok c.send_ready.new.session
    c.in-Err-send_ready.ensures.kept.0

pub returns-in-Err-send_ready-clause-answer : goal.returns-in-Err-send_ready-clause-answer
returns-in-Err-send_ready-clause-answer c =
    stays c.args.session.now.session c.args.handle (with_tag c.args.tag c.args.message.now)
    c.in-Ok-prepare_in.ready c.prepare_in.new.session c.in-Ok-prepare_in.ensures.ok c.args.limit c.len.result
    c.in-Err-send_ready.refused c.len.ensures.value c.in-Ok.ensures.none c.in-Err-send_ready.ensures.err

pub returns-in-Err-send_ready-clause-kept : goal.returns-in-Err-send_ready-clause-kept
returns-in-Err-send_ready-clause-kept c = (
  ap (λ (t : LinksIn). record c.args.session.now { session = t })
      (as_before c.args.session.now.session c.args.handle (with_tag c.args.tag c.args.message.now)
      c.in-Ok-prepare_in.ready c.prepare_in.new.session c.in-Ok-prepare_in.ensures.ok c.send_ready.new.session
      c.lower_room_in.new.session c.len.result c.in-Ok.room c.in-Err-send_ready.ensures.kept.0 c.in-Ok.ensures.ok
      c.lower_room_in.ensures),
  c.in-Err-send_ready.ensures.kept.1,
)

pub returns-in-Err-send_ready-clause-frame : goal.returns-in-Err-send_ready-clause-frame
returns-in-Err-send_ready-clause-frame c = λ least short.
    has_frame c.args.session.now.session c.args.handle (with_tag c.args.tag c.args.message.now)
    c.in-Ok-prepare_in.ready c.prepare_in.new.session c.in-Ok-prepare_in.ensures.ok c.args.limit
    c.in-Err-send_ready.refused c.numbers_are_read.ensures.handle c.numbers_are_read.ensures.format
    c.in-Err-send_ready.ensures.err least short
