use Rattle.amqp_link_sender.specs.Room.{room_of}
use Rattle.amqp_endpoint_messages.proofs.Transfers.{are_cut, are_not_cut}
use Rattle.amqp_endpoint_messages.proofs.cutting.transfers.Goals as goal

pub returns-in-Ok : goal.returns-in-Ok
returns-in-Ok c =
    are_cut (room_of c.args.first c.args.limit) c.args.first c.args.payload c.in-Ok.batch c.in-Ok.ensures.ok

pub returns-in-Err : goal.returns-in-Err
returns-in-Err c =
    are_not_cut (room_of c.args.first c.args.limit) c.in-Err.refusal c.uncut.result c.uncut.ensures
    c.in-Err.ensures.refused c.in-Err.ensures.only
