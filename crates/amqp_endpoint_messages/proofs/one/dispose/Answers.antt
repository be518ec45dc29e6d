use Rattle.std.proofs.Common.{sym, ◌∙◌}
use Rattle.amqp_endpoint_messages.proofs.Disposed.{one-disposed}
use Rattle.amqp_endpoint_messages.proofs.one.dispose.Goals as goal

pub returns-clause-answer : goal.returns-clause-answer
returns-clause-answer c =
    one-disposed c.args.limit c.args.session.now c.args.handle c.args.tag.now c.args.state c.args.settled
    c.in-Ok-dispose_in.told c.dispose_in.new.session c.send_one.new.session c.in-Ok-dispose_in.ensures.disposes
    c.send_one.ensures.sent (sym c.fits-fit.ensures ∙ c.if-not-fit.false)
    c.args.out.now.items c.reserve.new.self.items c.send_one.new.out.items c.ranges.limit.fits
    c.reserve.ensures.items c.send_one.ensures.added
