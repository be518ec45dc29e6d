use Rattle.std.proofs.Common.{sym, subst}
use Rattle.std.specs.Prelude.{IsSome}
use Rattle.amqp_endpoint_attached.specs.Linked.{Linked, end_at}
use Rattle.amqp_endpoint_link_hearing.proofs.Lent.{end-lent, none-lent}
use Rattle.amqp_endpoint_link_hearing.specs.Reached.{recounted}
use Rattle.amqp_endpoint_link_hearing.proofs.Messages.{changes-on}
use Rattle.amqp_endpoint_link_hearing.proofs.reaching.set_counts.Goals as goal

pub unreachable-requires : goal.unreachable-requires
unreachable-requires c =
    absurd (none-lent c.args.talk.now c.args.session c.args.handle c.in_default.ensures.value c.requires)

pub set_counts_in-requires : goal.set_counts_in-requires
set_counts_in-requires c =
    subst (λ (s : Linked). IsSome (end_at s c.args.handle)) (sym c.deref_mut.ensures.value)
    (end-lent c.args.talk.now c.args.session c.args.handle c.in-Some.session.now c.in-Some.ensures.value
    c.requires)

pub returns : goal.returns
returns c =
    changes-on (recounted c.args.counts) c.args.handle c.args.talk.now c.args.session
    c.in-Some.session.now c.in-Some.ensures.value c.deref_mut.result.now c.set_counts_in.new.session c.deref_mut.ensures.value
    c.set_counts_in.ensures
