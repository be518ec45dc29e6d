use Rattle.serde_amqp_values.specs.MapDeciding.{no_wire}
use Rattle.serde_amqp_values.proofs.map_laws.no_map_has_no_form.Goals as goal

pub returns : goal.returns
returns c = no_wire
