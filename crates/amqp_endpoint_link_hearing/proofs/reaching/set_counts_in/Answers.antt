use Rattle.std.proofs.Common.{None, Option, subst}
use Rattle.std.specs.Prelude.{IsSome}
use Rattle.amqp_link.specs.declared.end.End.{End}
use Rattle.amqp_endpoint_attached.proofs.There.{none_there}
use Rattle.amqp_endpoint_link_hearing.specs.Reached.{recounted}
use Rattle.amqp_endpoint_link_hearing.proofs.Messages.{changes-in}
use Rattle.amqp_endpoint_link_hearing.proofs.reaching.set_counts_in.Goals as goal

pub unreachable-requires : goal.unreachable-requires
unreachable-requires c =
    let clash : IsSome {T = End} None =
    subst (λ (o : Option End). IsSome o)
    (none_there c.args.session.now.session c.args.handle c.in_default.ensures.value) c.requires in absurd cc

pub returns : goal.returns
returns c =
    changes-in (recounted c.args.counts) c.args.session.now c.args.handle
    c.in-Some.link.now c.set_counts_by.new.link c.in-Some.ensures.value c.set_counts_by.ensures
