use Rattle.std.proofs.Common.{arith}
use Rattle.amqp_endpoint_conversation.proofs.Goings.{goes-on, rests-on}
use Rattle.amqp_endpoint_link_hearing.proofs.Barrings.{closed-can, closed-live, is-refused, told-can}
use Rattle.amqp_endpoint_link_hearing.proofs.Takes.{numbered}
use Rattle.amqp_endpoint_link_hearing.proofs.unechoed.refuse_one.Goals as goal

pub tell_some-requires-clause-there : goal.tell_some-requires-clause-there
tell_some-requires-clause-there c =
    closed-live _ c.args.talk.now c.close.new.talk c.args.session (c.close.ensures.closed).is_so

pub tell_some-requires-clause-room : goal.tell_some-requires-clause-room
tell_some-requires-clause-room c = omega (
  arith,
  c.requires.room,
  c.requires.most,
  c.open_of-count.ensures,
  c.tell_too_large.ensures.len,
  c.tell_too_large.ensures.capacity,
)

pub returns-clause-refused : goal.returns-clause-refused
returns-clause-refused c =
    is-refused c.args.talk.now c.close.new.talk c.tell_some.new.talk c.args.session c.args.closing.handle
    c.number_of-link.result
    (numbered c.args.talk.now c.args.session c.args.closing.handle c.number_of-link.result c.requires.there
    c.number_of-link.ensures)
    c.args.closing.answer.error c.requires.says c.open_of-count.result c.open_of-count.ensures c.args.out.now.items
    c.close.new.out.items c.args.events.now.items c.tell_too_large.new.events.items c.tell_some.new.events.items
    c.close.ensures.closed c.tell_too_large.ensures.told c.tell_some.ensures.tells c.tell_some.ensures.told

pub returns-clause-keeps : goal.returns-clause-keeps
returns-clause-keeps c other can =
    told-can c.close.new.talk c.tell_some.new.talk c.args.session c.args.closing.handle c.open_of-count.result
    c.tell_some.ensures.tells other
    (closed-can c.args.talk.now c.close.new.talk c.args.session c.args.closing.handle c.args.closing.answer.error
    (c.close.ensures.closed).frames (c.close.ensures.closed).is_so other can)

pub returns-clause-few : goal.returns-clause-few
returns-clause-few c = omega (
  arith,
  c.requires.most,
  c.open_of-count.ensures,
  c.tell_too_large.ensures.len,
  c.tell_some.ensures.few,
)

pub returns-clause-goes : goal.returns-clause-goes
returns-clause-goes c limit least =
    goes-on limit c.args.talk.now c.close.new.talk c.tell_some.new.talk c.args.out.now.items c.close.new.out.items
    c.close.new.out.items (c.close.ensures.goes limit least) (c.tell_some.ensures.goes limit c.close.new.out.items)

pub returns-clause-rests : goal.returns-clause-rests
returns-clause-rests c =
    rests-on c.args.talk.now c.close.new.talk c.tell_some.new.talk c.args.out.now.items c.close.new.out.items
    c.close.new.out.items c.close.ensures.rests (c.tell_some.ensures.rests c.close.new.out.items)
