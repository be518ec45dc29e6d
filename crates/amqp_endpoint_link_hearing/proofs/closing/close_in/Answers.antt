use Rattle.std.proofs.Common.{sym, ◌∙◌}
use Rattle.amqp_endpoint_link_hearing.proofs.Closings.{closed-given}
use Rattle.amqp_endpoint_link_hearing.proofs.closing.close_in.Goals as goal

pub returns-clause-closed : goal.returns-clause-closed
returns-clause-closed c =
    closed-given c.args.closing.error c.args.session.now c.args.handle c.detach_placed.new.session
    c.args.out.now.items c.detach_placed.new.out.items (sym c.if-not-is_attached.false ∙ c.is_attached.ensures)
    c.detach_placed.ensures.given
