use Rattle.amqp_endpoint_core.proofs.ReadingLaws.{empty_skipped}
use Rattle.amqp_endpoint_core.proofs.endpoint.Endpoint.read_frame.Goals as goal

pub returns-in-Some-empty_in_front-clause-ok : goal.returns-in-Some-empty_in_front-clause-ok
returns-in-Some-empty_in_front-clause-ok g c =
    let piece = rw c.in-Some.is at c.in_ok-size.ensures.ok in
    empty_skipped g.S.SessionRelay.does c.args.self.now c.skip.new.self c.in-Some.size _ c.args.events.now.items
    c.requires piece c.in-Some-empty_in_front.ensures c.skip.ensures
