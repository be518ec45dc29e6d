use Rattle.std.proofs.lemmas.List.Elements.{All-nil}
use Rattle.amqp_endpoint_fitting.specs.Fits.{QueueFits}
use Rattle.amqp_endpoint_fitting.proofs.laws.a_fresh_session_holds_nothing.Goals as goal

pub returns : goal.returns
returns g c = λ channel first window limit. record { each = All-nil (QueueFits channel.0 limit) }
