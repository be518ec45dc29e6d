-- What is told of a link: part 2, 2.6.7.
use Rattle.std.specs.Prelude.{ℕ, Option, Some, None, Result, Ok, Err}
use Rattle.amqp_link.specs.declared.end.End.{End}
use Rattle.amqp_endpoint_model.specs.declared.error.EndpointError.{EndpointError}
use Rattle.amqp_endpoint_model.specs.declared.error.EndpointError.TheVariants.{UnknownLink}
use Rattle.amqp_endpoint_attached.specs.Ends.{credit_of}

-- how many more deliveries may be sent by a link, if there is one
abbrev pub credit_told : Option End → Result ℕ EndpointError
credit_told None = Err UnknownLink
credit_told (Some end) = Ok (credit_of end)
