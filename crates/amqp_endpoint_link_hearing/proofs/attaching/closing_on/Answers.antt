use Rattle.std.proofs.Common.{IfOk, refl, subst, sym}
use Rattle.amqp_endpoint_links.specs.declared.asking.NamedLink.{NamedLink}
use Rattle.amqp_endpoint_links.specs.declared.asking.NamedLink.TheVariants.{Absent, Attached}
use Rattle.amqp_endpoint_link_hearing.specs.Readied.{ClosesOn}
use Rattle.amqp_endpoint_link_hearing.proofs.AttachReadied.{unwaited}
use Rattle.amqp_endpoint_link_hearing.proofs.attaching.closing_on.Goals as goal

pub returns-in-Waiting : goal.returns-in-Waiting
returns-in-Waiting c =
    subst (λ (n : NamedLink). IfOk c.closing_in.result (ClosesOn c.args.talk.now c.args.channel n))
    (sym c.in-Waiting.is)
    c.closing_in.ensures

pub returns-in-Absent : goal.returns-in-Absent
returns-in-Absent c = unwaited c.args.talk.now c.args.channel c.args.named Absent c.in-Absent.is refl

pub returns-in-Attached : goal.returns-in-Attached
returns-in-Attached c = unwaited c.args.talk.now c.args.channel c.args.named Attached c.in-Attached.is refl
