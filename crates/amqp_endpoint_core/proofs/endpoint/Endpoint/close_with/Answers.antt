use Rattle.std.proofs.Common.{ap, sym, ◌∙◌}
use Rattle.amqp_endpoint_model.specs.State.{error_of}
use Rattle.amqp_endpoint_core.specs.Reading.{condition_text}
use Rattle.amqp_endpoint_core.proofs.CodingLaws.{close_fits}
use Rattle.amqp_endpoint_core.proofs.SessionLaws.{closed_with_error}
use Rattle.amqp_endpoint_core.proofs.endpoint.Endpoint.close_with.Goals as goal

pub send_close-requires-clause-short : goal.send_close-requires-clause-short
send_close-requires-clause-short g c = rw c.in_ok-error.ensures.ok (rw c.as_str.ensures (close_fits c.args.condition))

pub returns-clause-ok : goal.returns-clause-ok
returns-clause-ok g c =
    let (moves, is) = c.in_ok-send_close.ensures.ok in
    closed_with_error g.S.SessionRelay.does c.args.self.now c.send_close.new.self c.in_ok-error.error
    (error_of (condition_text c.args.condition)) (sym c.own_close.ensures ∙ c.if-own_close.false) moves is
    (c.in_ok-error.ensures.ok ∙ ap error_of c.as_str.ensures)
