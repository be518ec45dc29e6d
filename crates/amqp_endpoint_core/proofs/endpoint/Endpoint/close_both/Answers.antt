use Rattle.std.proofs.Common.{None, refl}
use Rattle.amqp_endpoint_model.specs.State.{limit_of, own_close_with}
use Rattle.amqp_endpoint_core.proofs.ConnectedLaws.{stands_over}
use Rattle.amqp_endpoint_core.proofs.QueueLaws.{frame-within, within-pushed}
use Rattle.amqp_endpoint_core.proofs.WithinLaws.{wait_none}
use Rattle.amqp_endpoint_core.proofs.endpoint.Endpoint.close_both.Goals as goal

pub invariant_of-self-2 : goal.invariant_of-self-2
invariant_of-self-2 g c =
    let (stands, fits, least, within, waits, idle) = c.self.invariant in
    let (gathered, none, room) = c.in_ok-gather.ensures.ok in
    let limit = limit_of c.self.inside.peer_limit in
    let close = own_close_with None in
    let one = frame-within limit close close c.in_ok-answer.answer c.in_ok-answer.ensures.frame refl least refl in (
      stands_over g.S.SessionRelay.does c.self.inside.settings c.self.inside.phase c.self.inside.peer_limit
          c.self.inside.sessions c.take_peers_close-2.new.sessions c.send_close.new.sessions c.finish-2.new.self stands
          c.in_ok-take_peers_close-2.ensures.connection.is c.in_ok-answer.ensures.connection.is
          c.in_ok-answer.ensures.own c.finish-2.ensures.still,
      fits,
      least,
      within-pushed limit _ _ _ _ _ _ within gathered none one c.push_back_reserved.ensures.items,
      wait_none g.S.SessionRelay.does _ c.self.inside.peer_limit c.self.inside.sessions _ c.finish-2.ensures.within,
      λ out. c.finish-2.ensures.idle,
    )
