use Rattle.std.proofs.Common.{sym, subst}
use Rattle.std.specs.Prelude.{IsSome}
use Rattle.amqp_endpoint_attached.specs.Linked.{Linked, end_at}
use Rattle.amqp_endpoint_link_hearing.proofs.Lent.{end-lent, none-lent}
use Rattle.amqp_endpoint_link_hearing.specs.Transferring.{remembering}
use Rattle.amqp_endpoint_link_hearing.proofs.Messages.{changes-on}
use Rattle.amqp_endpoint_link_hearing.proofs.handing.remember.Goals as goal

pub unreachable-requires : goal.unreachable-requires
unreachable-requires c =
    absurd (none-lent c.args.talk.now c.args.session c.args.handle c.in_default.ensures.value c.requires)

pub remember_in-requires : goal.remember_in-requires
remember_in-requires c =
    subst (λ (s : Linked). IsSome (end_at s c.args.handle)) (sym c.deref_mut.ensures.value)
    (end-lent c.args.talk.now c.args.session c.args.handle c.in-Some.session.now c.in-Some.ensures.value
    c.requires)

pub returns : goal.returns
returns c =
    changes-on (λ end. remembering end c.args.tag.now c.args.number) c.args.handle c.args.talk.now c.args.session
    c.in-Some.session.now c.in-Some.ensures.value c.deref_mut.result.now c.remember_in.new.session c.deref_mut.ensures.value
    c.remember_in.ensures
