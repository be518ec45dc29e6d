use Rattle.amqp_endpoint_tables.proofs.Spreading.{none-given}
use Rattle.amqp_endpoint_tables.proofs.numbered.Numbered.new.Goals as goal

pub returns : goal.returns
returns g c = none-given _
