use Rattle.std.proofs.lemmas.Result.{err_from_is_err_and}
use Rattle.amqp_endpoint_core.proofs.TurnLaws.{answers_more, refuses_next, told_more, told_next}
use Rattle.amqp_endpoint_core.proofs.turning.react_to.Goals as goal

pub loop-event-preserved : goal.loop-event-preserved
loop-event-preserved g c =
    let s = c.loop-event in
    record {
      answers =
          answers_more g.P.Program.reacts c.args.program.now s.program c.react.new.self c.args.endpoint.now s.endpoint
          c.react.new.endpoint s.yielded c.in-Some.event s.invariant.answers c.in_ok-react.ensures;
      in_order =
          told_more c.args.events.items s.yielded s.event-iterator.rest.items c.next.new.self.rest.items
          c.in-Some.event s.invariant.in_order c.in-Some.ensures.steps.0;
    }

pub returns-in_err-react : goal.returns-in_err-react
returns-in_err-react g c =
    let s = c.loop-event in
    let left = c.next.new.self.rest.items in
    let (d, is, same) = err_from_is_err_and c.from_residual.result c.from_residual.ensures.1 in
    refuses_next g.P.Program.reacts c.args.program.now s.program c.react.new.self c.args.endpoint.now s.endpoint
    c.react.new.endpoint c.args.events.items s.yielded left c.in-Some.event c.in_err-react.field-0.0 d
    c.from_residual.result
    (told_next c.args.events.items s.yielded s.event-iterator.rest.items left c.in-Some.event s.invariant.in_order
    c.in-Some.ensures.steps.0)
    s.invariant.answers c.in_err-react.ensures is same
