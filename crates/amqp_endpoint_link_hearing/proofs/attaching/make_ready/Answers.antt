use Rattle.amqp_endpoint_link_hearing.proofs.AttachReadied.{counted, none-lives, none-made, place-lent, readied}
use Rattle.amqp_endpoint_link_hearing.proofs.AttachReadied.{room-made, unready-none}
use Rattle.amqp_endpoint_link_hearing.proofs.Lent.{unlent-talk}
use Rattle.std.proofs.Common.{ap, sym, ◌∙◌, Option}
use Rattle.amqp_endpoint_messages.specs.declared.giving_up.Closing.{Closing}
use Rattle.amqp_endpoint_link_hearing.specs.Readied.{count_in}
use Rattle.amqp_endpoint_link_hearing.proofs.attaching.make_ready.Goals as goal

pub returns-in_default-clause-ready : goal.returns-in_default-clause-ready
returns-in_default-clause-ready c = λ channel named closes.
    unready-none c.args.talk.now channel named c.args.closing closes c.args.limit c.args.attach.now _ _ c.in_default.is

pub returns-in_default-clause-counts : goal.returns-in_default-clause-counts
returns-in_default-clause-counts c = ap (λ (o : Option Closing). count_in o) (sym c.in_default.is)

pub returns-in_default-clause-made : goal.returns-in_default-clause-made
returns-in_default-clause-made c = λ channel named closes.
    none-made c.args.talk.now channel named c.args.closing closes c.in_default.is

pub unreachable-requires : goal.unreachable-requires
unreachable-requires c =
    absurd
    (none-lives c.args.talk.now c.args.closing c.requires c.in-Some.closing c.in-Some.is
    c.in_default-live_mut.ensures.value)

pub make_attach_ready-requires : goal.make_attach_ready-requires
make_attach_ready-requires c =
    place-lent c.args.talk.now c.args.closing c.requires c.in-Some.closing c.in-Some.is
    c.in-Some-live_mut.session.now c.deref_mut.result.now c.in-Some-live_mut.ensures.value c.deref_mut.ensures.value

pub returns-in-Ok-clause-ready : goal.returns-in-Ok-clause-ready
returns-in-Ok-clause-ready c = λ channel named closes.
    readied c.args.limit c.args.talk.now channel named c.args.attach.now _ _ c.args.closing closes c.in-Some.closing
    c.in-Some.is c.in-Some-live_mut.session.now c.deref_mut.result.now c.make_attach_ready.new.session
    c.in-Some-live_mut.ensures.value c.deref_mut.ensures.value c.in-Ok.ensures.made c.in-Ok.ready
    c.in-Ok.ensures.ready c.in-Ok.ensures.sends c.in-Ok.ensures.bare c.in-Ok.ensures.none

pub returns-in-Ok-clause-counts : goal.returns-in-Ok-clause-counts
returns-in-Ok-clause-counts c =
    counted c.in-Some.closing c.args.closing c.in-Some.is c.in-Ok.ready c.in-Ok.ensures.ready.closing

pub returns-in-Ok-clause-made : goal.returns-in-Ok-clause-made
returns-in-Ok-clause-made c = λ channel named closes.
    room-made c.args.limit c.args.talk.now channel named c.args.attach.now 0 0 c.args.closing closes c.in-Some.closing
    c.in-Some.is c.in-Some-live_mut.session.now c.deref_mut.result.now c.make_attach_ready.new.session
    c.in-Some-live_mut.ensures.value c.deref_mut.ensures.value c.in-Ok.ensures.made

pub returns-in-Err-clause-kept : goal.returns-in-Err-clause-kept
returns-in-Err-clause-kept c =
    unlent-talk c.args.talk.now c.in-Some.closing.session c.in-Some-live_mut.session.now
    c.make_attach_ready.new.session c.in-Some-live_mut.ensures.value
    (c.in-Err.ensures.kept ∙ c.deref_mut.ensures.value)
