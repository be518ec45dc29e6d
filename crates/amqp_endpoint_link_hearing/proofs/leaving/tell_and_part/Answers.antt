use Rattle.std.proofs.Common.{◌≤◌, sym, subst}
use Rattle.amqp_session_core.specs.declared.batch.BehindFrame.{BehindFrame}
use Rattle.amqp_session_core.specs.declared.batch.TransferFrame.{TransferFrame}
use Rattle.amqp_session_outgoing.specs.Queues.{room_behind}
use Rattle.amqp_session_outgoing.specs.State as sending
use Rattle.amqp_endpoint_link_hearing.proofs.Leavings.{tells-and-parts}
use Rattle.amqp_endpoint_link_hearing.proofs.leaving.tell_and_part.Goals as goal

pub part_in-requires-clause-place : goal.part_in-requires-clause-place
part_in-requires-clause-place c =
    subst
    (λ (o : sending.State TransferFrame BehindFrame). room_behind c.args.handle.0 1 o.queues ≤ c.args.answer.place)
    (sym c.tell_first.ensures.waiting) c.requires.place

pub returns-clause-parted : goal.returns-clause-parted
returns-clause-parted c =
    tells-and-parts c.args.session.now c.tell_first.new.session c.part_in.new.session c.args.count c.args.handle
    c.args.answers c.args.answer.closed c.args.answer.error c.part_in.result c.args.out.now.items
    c.part_in.new.out.items c.tell_first.ensures.tells c.part_in.ensures
