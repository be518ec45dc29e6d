use Rattle.amqp_endpoint_messages.proofs.Handing.{cut_may, cut_tagged, stays_uncut, stays_untaken}
use Rattle.amqp_endpoint_messages.proofs.sending.send_by.Goals as goal

pub hand_over-requires-clause-may : goal.hand_over-requires-clause-may
hand_over-requires-clause-may c =
    cut_may c.args.limit c.args.session.now c.args.handle c.args.ready c.in-Ok.cut c.in-Ok.ensures.ok c.requires.may

pub hand_over-requires-clause-tags : goal.hand_over-requires-clause-tags
hand_over-requires-clause-tags c =
    cut_tagged c.args.limit c.args.session.now c.args.handle c.args.ready c.in-Ok.cut c.in-Ok.ensures.ok
    c.requires.tagged

pub returns-in-Err-clause-err : goal.returns-in-Err-clause-err
returns-in-Err-clause-err c =
    stays_uncut c.args.limit c.args.session.now c.args.handle c.args.ready c.in-Err.refused c.in-Err.ensures.err

pub returns-in-Ok-hand_over-clause-ok : goal.returns-in-Ok-hand_over-clause-ok
returns-in-Ok-hand_over-clause-ok c =
    record { cut = c.in-Ok.cut; is_cut = c.in-Ok.ensures.ok; over = c.in-Ok-hand_over.ensures.ok }

pub returns-in-Err-hand_over-clause-err : goal.returns-in-Err-hand_over-clause-err
returns-in-Err-hand_over-clause-err c =
    stays_untaken c.args.limit c.args.session.now c.args.handle c.args.ready c.in-Ok.cut c.in-Err-hand_over.untaken
    c.in-Ok.ensures.ok c.in-Err-hand_over.ensures.err
