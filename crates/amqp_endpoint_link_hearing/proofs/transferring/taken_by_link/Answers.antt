use Rattle.amqp_endpoint_link_hearing.proofs.Transferred.{taken-by, taken-goes, taken-rests}
use Rattle.amqp_endpoint_link_hearing.proofs.transferring.taken_by_link.Goals as goal

pub returns-in-Ok-clause-ok : goal.returns-in-Ok-clause-ok
returns-in-Ok-clause-ok c =
    taken-by c.args.talk.now c.args.session c.args.handle.0 c.args.out.now.items c.do_for.new.out.items
    c.args.taken.flow c.do_for.new.talk c.hand_out.new.out.items c.hand_out.ensures.handed c.args.taken.told
    c.args.given.now c.do_for.new.given c.args.events.now.items c.do_for.new.events.items c.in-Ok.ensures.ok

pub returns-in-Ok-clause-goes : goal.returns-in-Ok-clause-goes
returns-in-Ok-clause-goes c limit least =
    taken-goes c.args.talk.now c.args.session c.args.handle.0 c.args.out.now.items c.do_for.new.out.items
    c.args.taken.flow c.do_for.new.talk c.hand_out.new.out.items c.hand_out.ensures.handed limit least
    c.requires.flow c.hand_out.ensures.read (c.do_for.ensures.goes limit least)

pub returns-in-Ok-clause-rests : goal.returns-in-Ok-clause-rests
returns-in-Ok-clause-rests c =
    taken-rests c.args.talk.now c.args.session c.args.handle.0 c.args.out.now.items c.do_for.new.out.items
    c.args.taken.flow c.do_for.new.talk c.hand_out.new.out.items c.hand_out.ensures.handed c.requires.there
    c.do_for.ensures.rests
