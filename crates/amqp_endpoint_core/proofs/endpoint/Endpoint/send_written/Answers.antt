use Rattle.std.proofs.Common.{refl}
use Rattle.amqp_endpoint_model.specs.declared.error.EndpointError.TheVariants.{Memory}
use Rattle.amqp_endpoint_core.proofs.Unsent.{unsent}
use Rattle.amqp_endpoint_core.proofs.endpoint.Endpoint.send_written.Goals as goal

pub returns-in_default-clause-err : goal.returns-in_default-clause-err
returns-in_default-clause-err g c = (
  unsent g.S.SessionRelay.does c.args.self.now c.args.link c.args.sendable.now _ _ Memory refl c.requires,
  refl,
)
