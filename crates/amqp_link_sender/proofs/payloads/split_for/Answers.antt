use Rattle.amqp_link_sender.specs.Room.{room_of}
use Rattle.amqp_link_sender.proofs.Cutting.{are_not_split}
use Rattle.amqp_link_sender.proofs.payloads.split_for.Goals as goal

-- src/payloads.rt:93:1
pub returns-in-Err : goal.returns-in-Err
returns-in-Err c =
    are_not_split (room_of c.args.first c.args.limit) c.args.first c.args.payload c.in-Err.error c.from.result
    c.from.ensures c.in-Err.ensures.refused c.in-Err.ensures.only
