use Rattle.std.proofs.Common.{None, Option, subst}
use Rattle.std.specs.Prelude.{IsSome}
use Rattle.amqp_link.specs.declared.end.End.{End}
use Rattle.amqp_endpoint_attached.proofs.There.{none_there}
use Rattle.amqp_endpoint_link_hearing.specs.Transferring.{remembering}
use Rattle.amqp_endpoint_link_hearing.proofs.Messages.{changes-in}
use Rattle.amqp_endpoint_link_hearing.proofs.handing.remember_in.Goals as goal

pub unreachable-requires : goal.unreachable-requires
unreachable-requires c =
    let clash : IsSome {T = End} None =
    subst (λ (o : Option End). IsSome o)
    (none_there c.args.session.now.session c.args.handle c.in_default.ensures.value) c.requires in absurd cc

pub returns : goal.returns
returns c =
    changes-in (λ end. remembering end c.args.tag.now c.args.number) c.args.session.now c.args.handle
    c.in-Some.link.now c.remember_by.new.link c.in-Some.ensures.value c.remember_by.ensures
