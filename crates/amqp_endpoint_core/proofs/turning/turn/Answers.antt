use Rattle.std.proofs.Common.{Ok, Err, not, ap, ◌∙◌}
use Rattle.std.proofs.lemmas.Option.{MatchOption-at_none, MatchOption-at_some}
use Rattle.std.proofs.lemmas.Result.{err_from_is_err_and}
use Rattle.amqp_endpoint_model.specs.declared.answer.Fed.{Fed}
use Rattle.amqp_endpoint_core.specs.Moves.{EndsReading, Receives}
use Rattle.amqp_endpoint_core.specs.Turns.{caller}
use Rattle.amqp_endpoint_core.proofs.TurnLaws.{comes_to_read, ends_broken, ends_by_fault, goes_on, hears}
use Rattle.amqp_endpoint_core.proofs.TurnLaws.{stops_at_event, stops_at_reading, stops_at_writing, stops_behind_fault}
use Rattle.amqp_endpoint_core.proofs.TurnLaws.{writes_all}
use Rattle.amqp_endpoint_core.proofs.turning.turn.Goals as goal

pub returns-in_err-fed-clause-turn : goal.returns-in_err-fed-clause-turn
returns-in_err-fed-clause-turn g c =
    let (d, is, why) = err_from_is_err_and c.from_residual-in_err-fed.result c.from_residual-in_err-fed.ensures.1 in
    let (nothing, same) = c.in_err-fed.ensures.err in
    let comes = comes_to_read c.args.program.now (g.R.Read.remaining c.args.reader.now) c.write_out.ensures.sends
    c.in_ok-write_out.ensures.all c.is_closed.ensures c.if-is_closed.false in
    stops_at_reading g.S.SessionRelay.does g.P.Program.reacts (g.R.Read.remaining c.read_in.new.reader) comes nothing
    same is why

pub returns-in_default-clause-turn : goal.returns-in_default-clause-turn
returns-in_default-clause-turn g c =
    let left = g.R.Read.remaining c.args.reader.now in
    let left_new = g.R.Read.remaining c.read_in.new.reader in
    let comes = comes_to_read c.args.program.now left c.write_out.ensures.sends
    c.in_ok-write_out.ensures.all c.is_closed.ensures c.if-is_closed.false in
    let ends = MatchOption-at_none
    (EndsReading g.S.SessionRelay.does left left_new c.write_out.new.endpoint c.read_in.new.endpoint)
    (λ (fed : Fed). Receives g.S.SessionRelay.does left left_new c.write_out.new.endpoint fed.events.items fed.fault
    c.read_in.new.endpoint) c.in_default.is c.in_ok-fed.ensures.ok in
    ends_broken g.S.SessionRelay.does g.P.Program.reacts comes ends

pub returns-in_err-react_to-clause-turn : goal.returns-in_err-react_to-clause-turn
returns-in_err-react_to-clause-turn g c =
    let (d, is, why) = err_from_is_err_and c.from_residual-in_err-react_to.result
    c.from_residual-in_err-react_to.ensures.1 in
    let left = g.R.Read.remaining c.args.reader.now in
    let left_new = g.R.Read.remaining c.read_in.new.reader in
    let comes = comes_to_read c.args.program.now left c.write_out.ensures.sends
    c.in_ok-write_out.ensures.all c.is_closed.ensures c.if-is_closed.false in
    let receives = MatchOption-at_some
    (EndsReading g.S.SessionRelay.does left left_new c.write_out.new.endpoint c.read_in.new.endpoint)
    (λ (fed : Fed). Receives g.S.SessionRelay.does left left_new c.write_out.new.endpoint fed.events.items fed.fault
    c.read_in.new.endpoint) c.in-Some.fed c.in-Some.is c.in_ok-fed.ensures.ok in
    stops_at_event g.S.SessionRelay.does g.P.Program.reacts
    (hears g.S.SessionRelay.does g.P.Program.reacts (Err c.in_err-react_to.field-0.0) c.react_to.new.program
    c.react_to.new.endpoint comes receives c.in_err-react_to.ensures) is why

pub returns-then-is_none-clause-turn : goal.returns-then-is_none-clause-turn
returns-then-is_none-clause-turn g c =
    let left = g.R.Read.remaining c.args.reader.now in
    let left_new = g.R.Read.remaining c.read_in.new.reader in
    let comes = comes_to_read c.args.program.now left c.write_out.ensures.sends
    c.in_ok-write_out.ensures.all c.is_closed.ensures c.if-is_closed.false in
    let receives = MatchOption-at_some
    (EndsReading g.S.SessionRelay.does left left_new c.write_out.new.endpoint c.read_in.new.endpoint)
    (λ (fed : Fed). Receives g.S.SessionRelay.does left left_new c.write_out.new.endpoint fed.events.items fed.fault
    c.read_in.new.endpoint) c.in-Some.fed c.in-Some.is c.in_ok-fed.ensures.ok in
    goes_on g.S.SessionRelay.does g.P.Program.reacts
    (caller c.args.program.now c.args.endpoint.now c.args.output.now.items left (g.W.Write.contents c.args.writer.now))
    (caller c.react_to.new.program c.react_to.new.endpoint c.write_out.new.output.items left_new
    (g.W.Write.contents c.write_out.new.writer))
    c.in-Some.fed.fault
    (hears g.S.SessionRelay.does g.P.Program.reacts (Ok tt) c.react_to.new.program
    c.react_to.new.endpoint comes receives c.in_ok-react_to.ensures)
    (c.is_none.ensures ∙ ap not c.if-is_none.true)

pub returns-in_err-write_out-2-clause-turn : goal.returns-in_err-write_out-2-clause-turn
returns-in_err-write_out-2-clause-turn g c =
    let (d, is, why) = err_from_is_err_and c.from_residual-in_err-write_out-2.result
    c.from_residual-in_err-write_out-2.ensures.1 in
    let left = g.R.Read.remaining c.args.reader.now in
    let left_new = g.R.Read.remaining c.read_in.new.reader in
    let comes = comes_to_read c.args.program.now left c.write_out.ensures.sends
    c.in_ok-write_out.ensures.all c.is_closed.ensures c.if-is_closed.false in
    let receives = MatchOption-at_some
    (EndsReading g.S.SessionRelay.does left left_new c.write_out.new.endpoint c.read_in.new.endpoint)
    (λ (fed : Fed). Receives g.S.SessionRelay.does left left_new c.write_out.new.endpoint fed.events.items fed.fault
    c.read_in.new.endpoint) c.in-Some.fed c.in-Some.is c.in_ok-fed.ensures.ok in
    stops_behind_fault g.S.SessionRelay.does g.P.Program.reacts
    (caller c.args.program.now c.args.endpoint.now c.args.output.now.items left (g.W.Write.contents c.args.writer.now))
    (caller c.react_to.new.program c.react_to.new.endpoint c.write_out.new.output.items left_new
    (g.W.Write.contents c.write_out.new.writer))
    (caller c.react_to.new.program c.write_out-2.new.endpoint c.write_out-2.new.output.items left_new
    (g.W.Write.contents c.write_out-2.new.writer))
    c.in-Some.fed.fault c.in_err-write_out-2.field-0.0 d c.from_residual-in_err-write_out-2.result
    (hears g.S.SessionRelay.does g.P.Program.reacts (Ok tt) c.react_to.new.program
    c.react_to.new.endpoint comes receives c.in_ok-react_to.ensures)
    (c.is_none.ensures ∙ ap not c.if-is_none.false)
    (stops_at_writing c.react_to.new.program left_new c.write_out-2.ensures.sends c.in_err-write_out-2.ensures.err)
    is why

pub returns-clause-turn : goal.returns-clause-turn
returns-clause-turn g c =
    let left = g.R.Read.remaining c.args.reader.now in
    let left_new = g.R.Read.remaining c.read_in.new.reader in
    let comes = comes_to_read c.args.program.now left c.write_out.ensures.sends
    c.in_ok-write_out.ensures.all c.is_closed.ensures c.if-is_closed.false in
    let receives = MatchOption-at_some
    (EndsReading g.S.SessionRelay.does left left_new c.write_out.new.endpoint c.read_in.new.endpoint)
    (λ (fed : Fed). Receives g.S.SessionRelay.does left left_new c.write_out.new.endpoint fed.events.items fed.fault
    c.read_in.new.endpoint) c.in-Some.fed c.in-Some.is c.in_ok-fed.ensures.ok in
    ends_by_fault g.S.SessionRelay.does g.P.Program.reacts
    (caller c.args.program.now c.args.endpoint.now c.args.output.now.items left (g.W.Write.contents c.args.writer.now))
    (caller c.react_to.new.program c.react_to.new.endpoint c.write_out.new.output.items left_new
    (g.W.Write.contents c.write_out.new.writer))
    (caller c.react_to.new.program c.write_out-2.new.endpoint c.write_out-2.new.output.items left_new
    (g.W.Write.contents c.write_out-2.new.writer))
    c.in-Some.fed.fault
    (hears g.S.SessionRelay.does g.P.Program.reacts (Ok tt) c.react_to.new.program
    c.react_to.new.endpoint comes receives c.in_ok-react_to.ensures)
    (c.is_none.ensures ∙ ap not c.if-is_none.false)
    (writes_all c.react_to.new.program left_new c.write_out-2.ensures.sends c.in_ok-write_out-2.ensures.all)
