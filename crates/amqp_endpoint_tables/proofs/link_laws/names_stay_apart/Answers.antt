use Rattle.amqp_endpoint_tables.proofs.NamesApart.{none_apart, stay_apart}
use Rattle.amqp_endpoint_tables.proofs.link_laws.names_stay_apart.Goals as goal

pub returns : goal.returns
returns g c = record { none = none_apart g.row.L.Denot; kept = stay_apart }
