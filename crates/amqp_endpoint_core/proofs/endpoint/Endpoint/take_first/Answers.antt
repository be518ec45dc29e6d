use Rattle.amqp_endpoint_model.specs.State.{limit_of}
use Rattle.amqp_endpoint_core.specs.Queue.{frames_waiting}
use Rattle.std.proofs.Common.{◌++◌, drop}
use Rattle.amqp_endpoint_core.proofs.QueueLaws.{within-drop, within-same}
use Rattle.amqp_endpoint_core.proofs.endpoint.Endpoint.take_first.Goals as goal

pub invariant_of-self : goal.invariant_of-self
invariant_of-self g c =
    let (stands, fits, least, within, waits, idle) = c.self.invariant in
    let limit = limit_of c.self.inside.peer_limit in
    let all = c.self.inside.queue.items ++ frames_waiting c.self.inside.out.items in
    let rest = c.drop_first.new.queue.items ++ frames_waiting c.drop_first.new.out.items in (
      stands,
      fits,
      least,
      within-same limit rest (drop 1 all) c.drop_first.ensures (within-drop limit all within),
      waits,
      idle,
    )
