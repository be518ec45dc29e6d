use Rattle.std.proofs.Common.{drop}
use Rattle.amqp_endpoint_tables.specs.State.{live_at}
use Rattle.amqp_endpoint_link_hearing.proofs.Lent.{behind-talk}
use Rattle.amqp_endpoint_link_hearing.proofs.Releases.{none-live, released, released-goes, released-rests}
use Rattle.amqp_endpoint_link_hearing.proofs.flowing.let_go_in.Goals as goal

pub unreachable-requires : goal.unreachable-requires
unreachable-requires c =
    absurd (none-live (live_at c.args.talk.now.sessions c.args.session) c.in_default.ensures.value c.requires)

pub returns-clause-leave : goal.returns-clause-leave
returns-clause-leave c =
    released (drop c.args.from c.args.out.now.items) c.args.links.now c.leave_with_each.new.links c.args.talk.now
    c.args.session c.in-Some.session.now c.in-Some.ensures.value c.deref_mut.result.now c.leave_with_each.new.session
    c.deref_mut.ensures.value c.leave_with_each.ensures

pub returns-clause-goes : goal.returns-clause-goes
returns-clause-goes c limit =
    released-goes (drop c.args.from c.args.out.now.items) c.args.links.now c.leave_with_each.new.links c.args.session
    c.args.talk.now
    (behind-talk c.args.talk.now c.args.session c.in-Some.session.now c.leave_with_each.new.session)
    (released (drop c.args.from c.args.out.now.items) c.args.links.now c.leave_with_each.new.links c.args.talk.now
    c.args.session c.in-Some.session.now c.in-Some.ensures.value c.deref_mut.result.now c.leave_with_each.new.session
    c.deref_mut.ensures.value c.leave_with_each.ensures)
    c.args.out.now.items limit

pub returns-clause-rests : goal.returns-clause-rests
returns-clause-rests c =
    released-rests (drop c.args.from c.args.out.now.items) c.args.links.now c.leave_with_each.new.links c.args.session
    c.args.talk.now
    (behind-talk c.args.talk.now c.args.session c.in-Some.session.now c.leave_with_each.new.session)
    (released (drop c.args.from c.args.out.now.items) c.args.links.now c.leave_with_each.new.links c.args.talk.now
    c.args.session c.in-Some.session.now c.in-Some.ensures.value c.deref_mut.result.now c.leave_with_each.new.session
    c.deref_mut.ensures.value c.leave_with_each.ensures)
    c.args.out.now.items
