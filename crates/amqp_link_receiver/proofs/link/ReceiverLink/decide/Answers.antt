use Rattle.std.proofs.Common.{Ok, sym, subst, ◌∙◌}
use Rattle.amqp_link_base.specs.Moves.{Moves, took_attach}
use Rattle.amqp_link_receiver.specs.State.{ReceiverState}
use Rattle.amqp_link_receiver.specs.Attaching.{AttachTaken}
use Rattle.amqp_link_receiver.specs.declared.attaching.Attached.TheVariants.{Refused}
use Rattle.amqp_link_receiver.proofs.Planning.{refused, taken}
use Rattle.amqp_link_receiver.proofs.link.ReceiverLink.decide.Goals as goal

pub returns-in-Ok : goal.returns-in-Ok
returns-in-Ok c =
    taken c.args.self.now c.args.attach.now c.in-Ok.prepared c.commit_attach.result c.commit_attach.new.self
    (sym c.requires ∙ c.in-Ok.is) c.commit_attach.ensures.left c.commit_attach.ensures.link

pub returns-in-Err : goal.returns-in-Err
returns-in-Err c =
    subst (λ (s : ReceiverState). AttachTaken c.args.self.now c.args.attach.now (Ok (Refused c.in-Err.error))
    (record s { base = c.on_incoming_attach.new.self })) (sym c.self.view_is)
    (refused c.args.self.now c.args.attach.now c.in-Err.error c.on_incoming_attach.new.self c.on_incoming_attach.result
    (sym c.requires ∙ c.in-Err.is)
    (subst (λ (s : ReceiverState). Moves (took_attach s.base c.args.attach.now) s.base c.on_incoming_attach.result
    c.on_incoming_attach.new.self) c.self.view_is c.on_incoming_attach.ensures))
