use Rattle.std.proofs.Common.{refl, sym, ◌∙◌}
use Rattle.amqp_endpoint_link_hearing.specs.Unechoed.{is_refused}
use Rattle.amqp_endpoint_link_hearing.proofs.Barrings.{attached-made, attached-most, attached-says, attached-there}
use Rattle.amqp_endpoint_link_hearing.proofs.Barrings.{closes-so, refused-attached, stays-so}
use Rattle.amqp_endpoint_link_hearing.proofs.Lent.{goes-same, rests-same}
use Rattle.amqp_endpoint_link_hearing.proofs.unechoed.refuse_if.Goals as goal

pub refuse_one-requires-clause-there : goal.refuse_one-requires-clause-there
refuse_one-requires-clause-there c =
    attached-there c.args.talk.now c.args.session c.args.closing.handle
    (refused-attached c.args.talk.now c.args.session c.args.barred.now c.args.reached.now c.args.closing.handle
    (sym c.is_refused.ensures ∙ c.if-is_refused.true))

pub refuse_one-requires-clause-says : goal.refuse_one-requires-clause-says
refuse_one-requires-clause-says c =
    attached-says c.args.talk.now c.args.session c.args.closing
    (refused-attached c.args.talk.now c.args.session c.args.barred.now c.args.reached.now c.args.closing.handle
    (sym c.is_refused.ensures ∙ c.if-is_refused.true)) c.requires.can

pub refuse_one-requires-clause-place : goal.refuse_one-requires-clause-place
refuse_one-requires-clause-place c s live =
    (attached-made c.args.talk.now c.args.session c.args.closing
    (refused-attached c.args.talk.now c.args.session c.args.barred.now c.args.reached.now c.args.closing.handle
    (sym c.is_refused.ensures ∙ c.if-is_refused.true)) c.requires.can s live).place

pub refuse_one-requires-clause-most : goal.refuse_one-requires-clause-most
refuse_one-requires-clause-most c =
    attached-most c.args.talk.now c.args.session c.args.closing
    (refused-attached c.args.talk.now c.args.session c.args.barred.now c.args.reached.now c.args.closing.handle
    (sym c.is_refused.ensures ∙ c.if-is_refused.true)) c.requires.can

pub returns-then-is_refused-clause-refuses : goal.returns-then-is_refused-clause-refuses
returns-then-is_refused-clause-refuses c =
    closes-so (is_refused c.args.talk.now c.args.session c.args.barred.now c.args.reached.now c.args.closing.handle)
    c.args.session c.args.closing.handle c.args.talk.now c.refuse_one.new.talk c.args.out.now.items
    c.refuse_one.new.out.items c.args.events.now.items c.refuse_one.new.events.items
    (sym c.is_refused.ensures ∙ c.if-is_refused.true) c.refuse_one.ensures.refused

pub returns-clause-refuses : goal.returns-clause-refuses
returns-clause-refuses c =
    stays-so (is_refused c.args.talk.now c.args.session c.args.barred.now c.args.reached.now c.args.closing.handle)
    c.args.session c.args.closing.handle c.args.talk.now c.args.out.now.items c.args.events.now.items
    (sym c.is_refused.ensures ∙ c.if-is_refused.false)

pub returns-clause-goes : goal.returns-clause-goes
returns-clause-goes c limit least =
    goes-same limit c.args.talk.now c.args.talk.now c.args.out.now.items c.args.out.now.items refl refl

pub returns-clause-rests : goal.returns-clause-rests
returns-clause-rests c =
    rests-same c.args.talk.now c.args.talk.now c.args.out.now.items c.args.out.now.items refl refl
