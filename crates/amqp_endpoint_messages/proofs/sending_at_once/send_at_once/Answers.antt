use Rattle.std.proofs.Common.{ap}
use Rattle.amqp_endpoint_attached.specs.Linked.{LinksIn}
use Rattle.amqp_endpoint_messages.specs.Sending.{with_tag}
use Rattle.amqp_endpoint_messages.proofs.AtOnce.{back, may_hand, sent_whole, stands}
use Rattle.amqp_endpoint_messages.proofs.sending_at_once.send_at_once.Goals as goal

pub hand_over-requires : goal.hand_over-requires
hand_over-requires c =
    may_hand c.args.session.now.session c.args.handle (with_tag c.args.tag.now c.args.message.now) c.in-Some.ready
    c.ready_in.new.session c.in-Some.ensures.some

pub lower_room_in-requires : goal.lower_room_in-requires
lower_room_in-requires c =
    stands c.args.session.now.session c.args.handle (with_tag c.args.tag.now c.args.message.now) c.in-Some.ready
    c.ready_in.new.session c.in-Some.ensures.some c.hand_over.new.session c.if-not-hand_over.ensures.handed.0

pub returns-then-not-hand_over-clause-answer : goal.returns-then-not-hand_over-clause-answer
returns-then-not-hand_over-clause-answer c = (
  ap (λ (t : LinksIn). record c.args.session.now { session = t })
      (back c.args.session.now.session c.args.handle (with_tag c.args.tag.now c.args.message.now) c.in-Some.ready
      c.ready_in.new.session c.in-Some.ensures.some c.hand_over.new.session c.lower_room_in.new.session
      c.if-not-hand_over.ensures.handed.0 c.lower_room_in.ensures),
  c.if-not-hand_over.ensures.handed.1,
)

pub returns-clause-answer : goal.returns-clause-answer
returns-clause-answer c =
    sent_whole c.args.session.now c.args.limit c.args.handle (with_tag c.args.tag.now c.args.message.now)
    c.in-Some.ready c.ready_in.new.session c.hand_over.new.session c.args.out.now.items c.hand_over.new.out.items
    c.in-Some.ensures.some (c.fits.ensures c.if-not-fits.false) c.numbers_are_read.ensures.handle
    c.numbers_are_read.ensures.format c.ranges.limit.fits c.if-not-hand_over.ensures.handed
