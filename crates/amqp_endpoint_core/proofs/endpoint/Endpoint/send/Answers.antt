use Rattle.std.proofs.Common.{refl, sym, ◌∙◌}
use Rattle.amqp_endpoint_core.proofs.Unsent.{unsent}
use Rattle.amqp_endpoint_core.proofs.endpoint.Endpoint.send.Goals as goal

pub returns-in-Some-clause-err : goal.returns-in-Some-clause-err
returns-in-Some-clause-err g c = (
  unsent g.S.SessionRelay.does c.args.self.now c.args.link c.args.sendable.now _ c.capped_size.result
      c.in-Some.refusal c.capped_size.ensures c.in-Some.ensures,
  refl,
)

pub send_written-requires : goal.send_written-requires
send_written-requires g c message is = c.in-None.ensures message (is ∙ sym c.capped_size.ensures)
