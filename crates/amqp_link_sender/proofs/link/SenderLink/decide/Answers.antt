use Rattle.std.proofs.Common.{Ok, sym, subst, ◌∙◌}
use Rattle.amqp_link_base.specs.Moves.{Moves, took_attach}
use Rattle.amqp_link_sender.specs.Sending.{Sending}
use Rattle.amqp_link_sender.specs.Attaching.{TakesAttach}
use Rattle.amqp_link_sender.specs.declared.attaching.AttachAnswer.TheVariants.{Refused}
use Rattle.amqp_link_sender.proofs.Planning.{refused}
use Rattle.amqp_link_sender.proofs.link.SenderLink.decide.Goals as goal

pub returns-in-Err : goal.returns-in-Err
returns-in-Err c =
    subst (λ (s : Sending). TakesAttach c.args.self.now c.args.attach.now (Ok (Refused c.in-Err.error))
    (record s { base = c.on_incoming_attach.new.self })) (sym c.self.view_is)
    (refused c.args.self.now c.args.attach.now c.in-Err.error c.on_incoming_attach.new.self c.on_incoming_attach.result
    (sym c.requires ∙ c.in-Err.is)
    (subst (λ (s : Sending). Moves (took_attach s.base c.args.attach.now) s.base c.on_incoming_attach.result
    c.on_incoming_attach.new.self) c.self.view_is c.on_incoming_attach.ensures))
