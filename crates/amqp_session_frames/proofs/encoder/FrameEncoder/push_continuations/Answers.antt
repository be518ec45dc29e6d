use Rattle.amqp_session_frames.proofs.Dividing.{last_text, others_pushed}
use Rattle.amqp_session_frames.proofs.encoder.FrameEncoder.push_continuations.Goals as goal

pub write_part-requires : goal.write_part-requires
write_part-requires c = last_text c.args.self.now c.in_ok-room.room c.args.behind.now c.args.behind.now.more c.in_ok-room.ensures.room

pub returns-clause-ok : goal.returns-clause-ok
returns-clause-ok c =
    others_pushed c.args.self.now c.args.channel c.in_ok-room.room c.args.behind.now c.args.payload c.push_middles.new.payload c.in_ok-head.head c.in_ok-last.last.items c.new.result _ _ _
    c.requires.continues c.requires.payload c.in_ok-room.ensures.room c.in_ok-head.ensures.ok c.in_ok-push_middles.ensures.pieces c.in_ok-push_middles.ensures.left c.in_ok-last.ensures.ok c.new.ensures c.in_ok-push.ensures.items
