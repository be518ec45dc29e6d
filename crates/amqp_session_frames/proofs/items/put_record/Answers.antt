use Rattle.std.proofs.Common.{rules, refl}
use Rattle.amqp_session_frames.proofs.Puts.{record_put}
use Rattle.amqp_session_frames.proofs.items.put_record.Goals as goal

pub returns : goal.returns
returns c =
    record_put c.args.code c.args.count _ c.put.result c.args.end c.args.to.now c.put.new.to (search rules) (search rules) refl
    c.put.ensures.puts c.put.ensures.behind
