use Rattle.std.proofs.Common.{arith, ap, length, length-drop}
use Rattle.amqp_session_frames.proofs.Dividing.{first_less, continued_fits, whole}
use Rattle.amqp_session_frames.proofs.encoder.FrameEncoder.encode_parts.Goals as goal

pub split_to-requires : goal.split_to-requires
split_to-requires c = omega (arith, first_less c.args.self.now c.in_ok-room.room c.args.transfer.now c.args.payload c.requires c.in_ok-room.ensures.room)

pub push_others-requires-clause-room : goal.push_others-requires-clause-room
push_others-requires-clause-room c = continued_fits c.args.self.now c.in_ok-room.room c.args.transfer.now c.in_ok-room.ensures.room

pub push_others-requires-clause-payload : goal.push_others-requires-clause-payload
push_others-requires-clause-payload c =
    omega (arith, first_less c.args.self.now c.in_ok-room.room c.args.transfer.now c.args.payload c.requires c.in_ok-room.ensures.room, ap length c.in_ok-first.ensures.rest, length-drop c.in_ok-room.room c.args.payload)

pub returns-clause-text : goal.returns-clause-text
returns-clause-text c =
    (whole c.args.self.now c.args.channel c.in_ok-room.room c.args.transfer.now c.args.payload _ c.in_ok-head.head.items c.in_ok-first.first _ _ _ _
    c.requires c.in_ok-room.ensures.room c.in_ok-head.ensures.ok c.in_ok-first.ensures.front c.in_ok-first.ensures.rest c.new.ensures c.new-others.ensures.items c.in_ok-push_others.ensures.ok c.new-2.ensures).written

pub returns-clause-limit : goal.returns-clause-limit
returns-clause-limit c =
    (whole c.args.self.now c.args.channel c.in_ok-room.room c.args.transfer.now c.args.payload _ c.in_ok-head.head.items c.in_ok-first.first _ _ _ _
    c.requires c.in_ok-room.ensures.room c.in_ok-head.ensures.ok c.in_ok-first.ensures.front c.in_ok-first.ensures.rest c.new.ensures c.new-others.ensures.items c.in_ok-push_others.ensures.ok c.new-2.ensures).within
