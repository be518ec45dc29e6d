use Rattle.std.proofs.Common.{List, ap, sym, ◌∙◌}
use Rattle.amqp_session_performatives.specs.declared.disposition.Disposition.{Disposition}
use Rattle.amqp_endpoint_messages.specs.Longest.{all_fit}
use Rattle.amqp_endpoint_attached.specs.Linked.{end_in}
use Rattle.amqp_endpoint_messages.proofs.Disposed.{all-disposed, all-done, all-waits}
use Rattle.amqp_endpoint_messages.proofs.TooLong.{too-long}
use Rattle.amqp_endpoint_messages.proofs.disposing_all.dispose_all.Goals as goal

pub returns-clause-answer : goal.returns-clause-answer
returns-clause-answer c =
    all-disposed c.args.limit c.args.session.now c.args.handle c.args.tags.now c.args.state c.args.settled
    c.commit_in-told.result.items c.commit_in-told.new.session c.send_each.new.session
    (all-done c.args.session.now.session c.args.handle c.args.tags.now c.args.state c.args.settled c.in-Ok.prepared
    c.commit_in-told.result.items c.commit_in-told.new.session c.commit_in-told.ensures.told
    c.commit_in-told.ensures.commits c.in-Ok.ensures.ready)
    c.send_each.ensures.sent c.args.out.now.items c.reserve.new.self.items c.send_each.new.out.items
    c.ranges.limit.fits
    (ap (λ (l : List Disposition). all_fit c.args.limit l) (c.commit_in-told.ensures.told ∙ sym c.told-going.ensures)
    ∙ sym c.all_fit-fit.ensures ∙ c.if-not-fit.false)
    c.reserve.ensures.items c.send_each.ensures.added

pub returns-clause-waiting : goal.returns-clause-waiting
returns-clause-waiting c =
    (all-waits c.args.limit c.args.session.now c.args.handle c.args.tags.now c.args.state c.args.settled
    c.commit_in-told.result.items c.commit_in-told.new.session c.send_each.new.session
    (all-done c.args.session.now.session c.args.handle c.args.tags.now c.args.state c.args.settled c.in-Ok.prepared
    c.commit_in-told.result.items c.commit_in-told.new.session c.commit_in-told.ensures.told
    c.commit_in-told.ensures.commits c.in-Ok.ensures.ready)
    c.send_each.ensures.sent).0

pub returns-clause-fields : goal.returns-clause-fields
returns-clause-fields c =
    (all-waits c.args.limit c.args.session.now c.args.handle c.args.tags.now c.args.state c.args.settled
    c.commit_in-told.result.items c.commit_in-told.new.session c.send_each.new.session
    (all-done c.args.session.now.session c.args.handle c.args.tags.now c.args.state c.args.settled c.in-Ok.prepared
    c.commit_in-told.result.items c.commit_in-told.new.session c.commit_in-told.ensures.told
    c.commit_in-told.ensures.commits c.in-Ok.ensures.ready)
    c.send_each.ensures.sent).1

pub returns-then-not-fit-clause-answer : goal.returns-then-not-fit-clause-answer
returns-then-not-fit-clause-answer c =
    let long =
    too-long c.args.limit c.args.tags.now c.args.state c.args.settled c.in-Ok.prepared
    (end_in c.args.session.now.session c.args.handle) c.in-Ok.ensures.ready
    (ap (λ (l : List Disposition). all_fit c.args.limit l) (sym c.told-going.ensures)
    ∙ sym c.all_fit-fit.ensures ∙ c.if-not-fit.true) in (
      sym c.is_receiving.ensures ∙ c.if-not-is_receiving.false,
      long.0,
      long.1,
    )
