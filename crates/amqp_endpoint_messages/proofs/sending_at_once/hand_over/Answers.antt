use Rattle.std.proofs.Common.{Bool, subst, sym}
use Rattle.amqp_link_sender.specs.Sends.{entry_unless}
use Rattle.amqp_endpoint_attached.specs.Linked.{end_in}
use Rattle.amqp_endpoint_messages.specs.Sending.{MaySend, with_tag}
use Rattle.amqp_endpoint_messages.specs.SendsAtOnce.{HandsAtOnce}
use Rattle.amqp_endpoint_messages.proofs.sending_at_once.hand_over.Goals as goal

pub hand_settled-requires : goal.hand_settled-requires
hand_settled-requires c =
    subst
    (λ (b : Bool).
    MaySend (end_in c.args.session.now c.args.handle)
    (entry_unless b c.args.tag.now c.args.message.now.message_format c.args.message.now.payload))
    c.if-settled.true c.requires

pub hand_unsettled-requires : goal.hand_unsettled-requires
hand_unsettled-requires c =
    subst
    (λ (b : Bool).
    MaySend (end_in c.args.session.now c.args.handle)
    (entry_unless b c.args.tag.now c.args.message.now.message_format c.args.message.now.payload))
    c.if-settled.false c.requires

pub returns-then-settled-clause-handed : goal.returns-then-settled-clause-handed
returns-then-settled-clause-handed c =
    subst
    (λ (b : Bool).
    HandsAtOnce c.args.session.now c.args.handle (with_tag c.args.tag.now c.args.message.now) b c.hand_settled.result
    c.args.out.now.items c.hand_settled.new.session c.hand_settled.new.out.items)
    (sym c.if-settled.true) c.hand_settled.ensures.handed

pub returns-clause-handed : goal.returns-clause-handed
returns-clause-handed c =
    subst
    (λ (b : Bool).
    HandsAtOnce c.args.session.now c.args.handle (with_tag c.args.tag.now c.args.message.now) b
    c.hand_unsettled.result c.args.out.now.items c.hand_unsettled.new.session c.hand_unsettled.new.out.items)
    (sym c.if-settled.false) c.hand_unsettled.ensures.handed
