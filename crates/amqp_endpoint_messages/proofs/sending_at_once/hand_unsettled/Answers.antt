use Rattle.std.proofs.Common.{false, Some, subst, sym}
use Rattle.amqp_link_sender.specs.Sends.{new_message}
use Rattle.amqp_link_unsettled.specs.declared.open.Open.{Open}
use Rattle.amqp_endpoint_attached.specs.Linked.{end_in}
use Rattle.amqp_endpoint_messages.specs.Sending.{Commits, MaySend, with_tag}
use Rattle.amqp_endpoint_messages.proofs.AtOnce.{handed, may_send_taken}
use Rattle.amqp_endpoint_messages.proofs.sending_at_once.hand_unsettled.Goals as goal

pub commit_in-requires : goal.commit_in-requires
commit_in-requires c =
    subst (λ (m : Open). MaySend (end_in c.sends_at_once.new.self c.args.handle) (Some m)) (sym c.in-Ok.ensures)
    (may_send_taken c.args.session.now c.sends_at_once.new.self c.args.handle _
    (Some (new_message c.args.tag.now c.args.message.now.message_format c.args.message.now.payload))
    c.args.out.now.items c.sends_at_once.new.out.items c.if-not-sends_at_once.ensures.step c.requires)

pub returns-clause-handed : goal.returns-clause-handed
returns-clause-handed c =
    handed c.args.session.now c.sends_at_once.new.self c.commit_in.new.session c.args.handle
    (with_tag c.args.tag.now c.args.message.now) false c.args.out.now.items c.sends_at_once.new.out.items
    c.if-not-sends_at_once.ensures.step
    (subst (λ (m : Open). Commits c.sends_at_once.new.self c.args.handle (Some m) c.commit_in.new.session)
    c.in-Ok.ensures c.commit_in.ensures)
