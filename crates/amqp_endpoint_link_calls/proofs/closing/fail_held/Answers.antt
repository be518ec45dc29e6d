use Rattle.std.proofs.Common.{sym}
use Rattle.amqp_endpoint_link_calls.proofs.Closed.{fail-done, fail-goes, fail-kept, fail-rests, parted-none}
use Rattle.amqp_endpoint_link_calls.proofs.Closed.{parted-there}
use Rattle.amqp_endpoint_link_calls.proofs.closing.fail_held.Goals as goal

pub unreachable-requires : goal.unreachable-requires
unreachable-requires c =
    absurd (parted-none c.args.talk.now c.args.session c.args.handle c.in_default.ensures.value c.requires)

pub fail_in-requires : goal.fail_in-requires
fail_in-requires c =
    parted-there c.args.talk.now c.args.session c.args.handle c.in-Some.session.now (sym c.in-Some.ensures.value)
    c.deref_mut.result.now c.deref_mut.ensures.value c.requires

pub returns-clause-ok : goal.returns-clause-ok
returns-clause-ok c out =
    fail-done c.args.talk.now c.args.session c.args.handle c.in-Some.session.now (sym c.in-Some.ensures.value)
    c.deref_mut.result.now c.fail_in.new.session c.args.link c.deref_mut.ensures.value c.fail_in.result
    c.fail_in.ensures.ok out

pub returns-clause-kept : goal.returns-clause-kept
returns-clause-kept c =
    fail-kept c.args.talk.now c.args.session c.args.handle c.in-Some.session.now (sym c.in-Some.ensures.value)
    c.deref_mut.result.now c.fail_in.new.session c.args.link c.deref_mut.ensures.value c.fail_in.result
    c.fail_in.ensures.ok c.fail_in.ensures.kept

pub returns-clause-goes : goal.returns-clause-goes
returns-clause-goes c limit out =
    fail-goes c.args.talk.now c.args.session c.args.handle c.in-Some.session.now (sym c.in-Some.ensures.value)
    c.deref_mut.result.now c.fail_in.new.session c.args.link c.deref_mut.ensures.value c.fail_in.result
    c.fail_in.ensures.ok c.fail_in.ensures.kept limit out

pub returns-clause-rests : goal.returns-clause-rests
returns-clause-rests c out =
    fail-rests c.args.talk.now c.args.session c.args.handle c.in-Some.session.now (sym c.in-Some.ensures.value)
    c.deref_mut.result.now c.fail_in.new.session c.args.link c.deref_mut.ensures.value c.fail_in.result
    c.fail_in.ensures.ok c.fail_in.ensures.kept out
