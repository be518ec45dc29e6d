use Rattle.std.proofs.Common.{◌∙◌}
use Rattle.amqp_endpoint_link_hearing.proofs.Transferred.{flow-read, one-read}
use Rattle.amqp_endpoint_link_hearing.proofs.transferring.hand_out.Goals as goal

pub returns-clause-read : goal.returns-clause-read
returns-clause-read c =
    flow-read c.args.flow c.in-Some.frame c.in-Some.is
    (one-read c.in-Some.frame c.args.out.now.items c.push_back_reserved.new.self.items c.len-from.result
    (c.len-from.ensures ∙ c.args.out.now.ok.0) c.push_back_reserved.ensures.items c.frames_are_read.ensures)
