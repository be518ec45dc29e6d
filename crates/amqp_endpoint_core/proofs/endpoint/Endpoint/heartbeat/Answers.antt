use Rattle.std.proofs.Common.{refl}
use Rattle.amqp_endpoint_model.specs.State.{heartbeat, limit_of}
use Rattle.amqp_endpoint_core.proofs.QueueLaws.{frame-within, within-pushed}
use Rattle.amqp_endpoint_core.proofs.endpoint.Endpoint.heartbeat.Goals as goal

pub invariant_of-self-2 : goal.invariant_of-self-2
invariant_of-self-2 g c =
    let (stands, fits, least, within, waits, idle) = c.self.invariant in
    let (gathered, none, room) = c.in_ok-gather.ensures.ok in
    let limit = limit_of c.self.inside.peer_limit in
    let one = frame-within limit c.empty.result heartbeat c.frame.result c.frame.ensures c.empty.ensures least refl in (
      stands,
      fits,
      least,
      within-pushed limit c.self.inside.queue.items c.gather.new.queue.items c.push_back_reserved.new.self.items
          c.self.inside.out.items c.gather.new.out.items c.frame.result within gathered none one
          c.push_back_reserved.ensures.items,
      waits,
      idle,
    )
