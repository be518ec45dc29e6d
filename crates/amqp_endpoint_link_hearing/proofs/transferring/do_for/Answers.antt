use Rattle.std.proofs.Common.{subst}
use Rattle.amqp_link_receiver.specs.declared.answer.Told.{Told}
use Rattle.amqp_endpoint_link_hearing.specs.Taking.{HasNumber}
use Rattle.amqp_endpoint_link_hearing.proofs.Messages.{handed-goes, handed-rests, message-done}
use Rattle.amqp_endpoint_link_hearing.proofs.Transferred.{closed-told, done-dropped, done-joined, done-nothing}
use Rattle.amqp_endpoint_link_hearing.proofs.Transferred.{unclosed-told}
use Rattle.amqp_endpoint_link_hearing.proofs.transferring.do_for.Goals as goal

pub hand_over-requires-clause-left : goal.hand_over-requires-clause-left
hand_over-requires-clause-left c =
    subst (λ (o : Told). HasNumber o c.args.given.now) c.in-Message.is c.requires.left

pub returns-in-Message-clause-ok : goal.returns-in-Message-clause-ok
returns-in-Message-clause-ok c =
    message-done c.in-Message.message c.args.given.now
    (subst (λ (o : Told). HasNumber o c.args.given.now) c.in-Message.is c.requires.left) c.args.talk.now c.args.session c.args.handle.0
    c.own_handle-handle.result c.own_handle-handle.ensures.reaches c.own_handle-handle.ensures.there c.args.told
    c.in-Message.is c.hand_over.new.talk c.hand_over.new.given c.args.out.now.items c.args.events.now.items
    c.hand_over.new.events.items c.hand_over.ensures.remembers c.hand_over.ensures.tells c.hand_over.ensures.counted

pub returns-in-Message-clause-goes : goal.returns-in-Message-clause-goes
returns-in-Message-clause-goes c limit least =
    handed-goes c.own_handle-handle.result c.in-Message.message.delivery_tag c.args.given.now c.args.talk.now
    c.args.session c.hand_over.new.talk c.args.out.now.items c.in-Message.message.settled limit
    c.hand_over.ensures.remembers

pub returns-in-Message-clause-rests : goal.returns-in-Message-clause-rests
returns-in-Message-clause-rests c =
    handed-rests c.own_handle-handle.result c.in-Message.message.delivery_tag c.args.given.now c.args.talk.now
    c.args.session c.hand_over.new.talk c.args.out.now.items c.in-Message.message.settled
    c.hand_over.ensures.remembers

pub returns-in-Refused-clause-ok : goal.returns-in-Refused-clause-ok
returns-in-Refused-clause-ok c =
    closed-told c.args.told c.in-Refused.error c.in-Refused.is c.close_for.result c.args.given.now c.args.talk.now
    c.args.session c.args.handle.0 c.close_for.new.talk c.args.out.now.items c.close_for.new.out.items
    c.args.events.now.items c.close_for.new.events.items c.close_for.ensures.ok

pub returns-in-Refused-clause-err : goal.returns-in-Refused-clause-err
returns-in-Refused-clause-err c =
    unclosed-told c.args.told c.in-Refused.error c.in-Refused.is c.close_for.result c.args.counts c.args.talk.now
    c.args.session c.args.handle.0 c.close_for.new.talk c.close_for.ensures.err

pub returns-in-Nothing-clause-ok : goal.returns-in-Nothing-clause-ok
returns-in-Nothing-clause-ok c =
    done-nothing c.args.given.now c.args.talk.now c.args.session c.args.handle.0 c.args.out.now.items
    c.args.events.now.items c.args.told c.in-Nothing.is

pub returns-in-Joined-clause-ok : goal.returns-in-Joined-clause-ok
returns-in-Joined-clause-ok c =
    done-joined c.args.given.now c.args.talk.now c.args.session c.args.handle.0 c.args.out.now.items
    c.args.events.now.items c.args.told _ _ c.in-Joined.is

pub returns-clause-ok : goal.returns-clause-ok
returns-clause-ok c =
    done-dropped c.args.given.now c.args.talk.now c.args.session c.args.handle.0 c.args.out.now.items
    c.args.events.now.items c.args.told c.in-Dropped.is
