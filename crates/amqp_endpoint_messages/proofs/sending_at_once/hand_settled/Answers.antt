use Rattle.std.proofs.Common.{true, None}
use Rattle.amqp_endpoint_messages.specs.Sending.{with_tag}
use Rattle.amqp_endpoint_messages.proofs.AtOnce.{handed, may_send_taken}
use Rattle.amqp_endpoint_messages.proofs.sending_at_once.hand_settled.Goals as goal

pub commit_in-requires : goal.commit_in-requires
commit_in-requires c =
    may_send_taken c.args.session.now c.sends_at_once.new.self c.args.handle _ None c.args.out.now.items
    c.sends_at_once.new.out.items c.if-not-sends_at_once.ensures.step c.requires

pub returns-clause-handed : goal.returns-clause-handed
returns-clause-handed c =
    handed c.args.session.now c.sends_at_once.new.self c.commit_in.new.session c.args.handle
    (with_tag c.args.tag.now c.args.message.now) true c.args.out.now.items c.sends_at_once.new.out.items
    c.if-not-sends_at_once.ensures.step c.commit_in.ensures
