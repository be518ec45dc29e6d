use Rattle.std.proofs.Common.{refl, sym, true≢false}
use Rattle.amqp_endpoint_link_hearing.proofs.OneSettled.{goes-settled, hears-settled, lives, rests-settled}
use Rattle.amqp_endpoint_link_hearing.proofs.settled.hear_settled.Goals as goal

pub tell_settled-requires-clause-there : goal.tell_settled-requires-clause-there
tell_settled-requires-clause-there c =
    lives c.args.talk.now c.args.channel c.args.disposition.now c.in-Some.session c.in-Some.settled
    c.settles_at_once.new.self c.in-Some.ensures.step

pub returns-clause-hears : goal.returns-clause-hears
returns-clause-hears c so =
    hears-settled c.args.talk.now c.args.channel c.args.disposition.now c.in-Some.session c.in-Some.settled
    c.settles_at_once.new.self c.in-Some.ensures.step c.tell_settled.new.talk c.args.events.now.items
    c.tell_settled.new.events.items c.tell_settled.ensures

pub returns-clause-goes : goal.returns-clause-goes
returns-clause-goes c limit out =
    goes-settled c.args.talk.now c.args.channel c.args.disposition.now c.in-Some.session c.in-Some.settled
    c.settles_at_once.new.self c.in-Some.ensures.step c.tell_settled.new.talk c.args.events.now.items
    c.tell_settled.new.events.items c.tell_settled.ensures limit out (c.settles_at_once.ensures.goes limit out)

pub returns-clause-rests : goal.returns-clause-rests
returns-clause-rests c out =
    rests-settled c.args.talk.now c.args.channel c.args.disposition.now c.in-Some.session c.in-Some.settled
    c.settles_at_once.new.self c.in-Some.ensures.step c.tell_settled.new.talk c.args.events.now.items
    c.tell_settled.new.events.items c.tell_settled.ensures out (c.settles_at_once.ensures.rests out)

pub returns-clause-none : goal.returns-clause-none
returns-clause-none c is = absurd (true≢false is)

pub returns-in_default-clause-hears : goal.returns-in_default-clause-hears
returns-in_default-clause-hears c so = absurd (true≢false (sym so))

pub returns-in_default-clause-none : goal.returns-in_default-clause-none
returns-in_default-clause-none c is = (c.in_default.ensures.step, refl)

pub returns-in_default-clause-goes : goal.returns-in_default-clause-goes
returns-in_default-clause-goes c limit out = c.settles_at_once.ensures.goes limit out

pub returns-in_default-clause-rests : goal.returns-in_default-clause-rests
returns-in_default-clause-rests c out = c.settles_at_once.ensures.rests out
