use Rattle.std.proofs.Common.{Ok, sym, subst}
use Rattle.amqp_session_frames.specs.State as channels
use Rattle.amqp_session_frames.specs.Steps.{AllocateSession}
use Rattle.amqp_endpoint_tables.proofs.Places.{untaken}
use Rattle.amqp_endpoint_tables.proofs.asking.give_channel.Goals as goal

pub returns-in-Err-clause-kept : goal.returns-in-Err-clause-kept
returns-in-Err-clause-kept c =
    untaken c.args.connection.now c.route_accepted.new.self c.deallocate_session.new.self c.args.number c.in_ok-outgoing.outgoing
    (subst (λ (m : channels.State). AllocateSession c.args.connection.now c.args.number (Ok c.in_ok-outgoing.outgoing) m)
    (sym c.in-Err.ensures.step) c.in_ok-outgoing.ensures.step)
    c.deallocate_session.ensures.step c.deallocate_session.ensures.offered
