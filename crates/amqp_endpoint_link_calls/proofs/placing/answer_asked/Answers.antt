use Rattle.std.proofs.Common.{List, subst}
use Rattle.amqp_session_performatives.specs.declared.session_frame.SessionFrame.{SessionFrame}
use Rattle.amqp_endpoint_link_calls.specs.Attaching.{AnswersAsked}
use Rattle.amqp_endpoint_link_calls.proofs.AskedAnswered.{asked-answered, credit-then, sends-still, taken-still, there}
use Rattle.amqp_endpoint_link_calls.proofs.placing.answer_asked.Goals as goal

pub answer-requires-clause-taken : goal.answer-requires-clause-taken
answer-requires-clause-taken c =
    let made = c.in-Ok.ensures.ok in
    taken-still c.args.limit c.args.live.now c.make_answer.new.live made.room c.args.coming.link c.args.input
    c.in-Ok.ready.prepared made.prepared

pub go_on-requires-clause-there : goal.go_on-requires-clause-there
go_on-requires-clause-there c =
    there c.args.limit c.args.live.now c.make_answer.new.live c.answer.new.session c.args.coming.link c.args.input
    c.args.coming.session c.args.coming.number c.in-Ok.ready c.in-Ok-answer.answered c.make_answer.new.out.items
    c.answer.new.out.items _ _ c.in-Ok.ensures.ok (c.in-Ok-answer.ensures.ok c.args.limit)

pub go_on-requires-clause-sends : goal.go_on-requires-clause-sends
go_on-requires-clause-sends c =
    sends-still c.args.limit c.args.live.now c.make_answer.new.live c.answer.new.session c.args.coming.link c.args.input
    c.args.coming.session c.args.coming.number c.in-Ok.ready c.in-Ok-answer.answered c.make_answer.new.out.items
    c.answer.new.out.items _ _ c.in-Ok.ensures.ok (c.in-Ok-answer.ensures.ok c.args.limit) _ _ c.answer.ensures.room
    c.answer.ensures.capacity

pub go_on-requires-clause-credit : goal.go_on-requires-clause-credit
go_on-requires-clause-credit c =
    credit-then c.args.limit c.args.live.now c.make_answer.new.live c.answer.new.session c.args.coming.link c.args.input
    c.args.coming.session c.args.coming.number c.in-Ok.ready c.in-Ok-answer.answered c.make_answer.new.out.items
    c.answer.new.out.items _ _ c.in-Ok.ensures.ok (c.in-Ok-answer.ensures.ok c.args.limit) c.requires.at_rest

pub returns-in-Ok-answer-clause-ok : goal.returns-in-Ok-answer-clause-ok
returns-in-Ok-answer-clause-ok c =
    subst
    (λ (out : List SessionFrame). AnswersAsked c.args.live.now out c.args.limit c.args.coming.link c.args.input
    c.go_on.result c.go_on.new.live c.go_on.new.out.items)
    c.make_answer.ensures.out
    (asked-answered c.args.limit c.args.live.now c.make_answer.new.live c.answer.new.session c.args.coming.link
    c.args.input c.args.coming.session c.args.coming.number c.in-Ok.ready c.in-Ok-answer.answered
    c.make_answer.new.out.items c.answer.new.out.items _ _ c.in-Ok.ensures.ok (c.in-Ok-answer.ensures.ok c.args.limit)
    c.go_on.new.live c.go_on.result c.go_on.new.out.items c.in-Ok-answer.ensures.left c.go_on.ensures.placed.0
    c.go_on.ensures.placed.1 c.go_on.ensures.placed.2 c.go_on.ensures.does)
