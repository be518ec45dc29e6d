use Rattle.std.proofs.Common.{sym, ◌∙◌}
use Rattle.amqp_endpoint_messages.proofs.Attached.{closes-none, closes-there}
use Rattle.amqp_endpoint_messages.proofs.giving_up.close_where.Goals as goal

pub returns-then-not-is_attached : goal.returns-then-not-is_attached
returns-then-not-is_attached c =
    closes-none c.args.handle c.args.detach.1 c.args.session.now c.args.out.now.items
    (sym c.is_attached.ensures ∙ c.if-not-is_attached.true)

pub returns : goal.returns
returns c =
    closes-there c.args.handle c.args.detach.1 c.args.session.now c.detach_placed.new.session c.args.out.now.items
    c.detach_placed.new.out.items (sym c.is_attached.ensures ∙ c.if-not-is_attached.false)
    c.detach_placed.ensures.given
