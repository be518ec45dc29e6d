use Rattle.amqp_session_frames.specs.declared.frame.FrameBody.TheVariants as body
use Rattle.amqp_endpoint_core.proofs.ArrivalLaws.{arrival_told, refused_from, taken_from}
use Rattle.amqp_endpoint_core.proofs.endpoint.Endpoint.take_transfer.Goals as goal

pub returns-in-Some-clause-ok : goal.returns-in-Some-clause-ok
returns-in-Some-clause-ok g c =
    arrival_told g.S.SessionRelay.does c.args.channel.0 (body.Transfer c.args.performative c.args.payload) c.args.self.now
    c.takes_at_once.new.self c.args.events.now.items c.takes_at_once.new.events.items
    c.push_reserved.new.self.items _ _ c.in-Some.ensures.taken c.takes_at_once.ensures.events
    c.push_reserved.ensures.items c.told.ensures

pub returns-clause-ok : goal.returns-clause-ok
returns-clause-ok g c =
    taken_from g.S.SessionRelay.does c.args.channel.0 (body.Transfer c.args.performative c.args.payload) c.args.self.now
    c.takes_at_once.new.self c.take_session.new.self c.args.events.now.items c.takes_at_once.new.events.items
    c.take_session.new.events.items c.in_default.ensures.none c.takes_at_once.ensures.events c.take_session.result
    c.take_session.ensures.ok

pub returns-clause-err : goal.returns-clause-err
returns-clause-err g c =
    refused_from g.S.SessionRelay.does c.args.channel.0 (body.Transfer c.args.performative c.args.payload) c.args.self.now
    c.takes_at_once.new.self c.take_session.new.self c.args.events.now.items c.takes_at_once.new.events.items
    c.take_session.new.events.items c.in_default.ensures.none c.takes_at_once.ensures.events c.take_session.result
    c.take_session.ensures.err
