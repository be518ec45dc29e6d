-- What is left to be done once a sending link and its peer have exchanged their Attach frames: part 2, 2.6.13.
use Rattle.std.specs.Prelude.{Result, Ok, Err}
use Rattle.amqp_link_unsettled.specs.declared.exchange.SenderAttachExchange.{SenderAttachExchange}
use Rattle.amqp_link_unsettled.specs.declared.exchange.SenderAttachExchange.TheVariants.{Complete}

-- nothing is left to be done
abbrev pub completed : {E : Type 0} → SenderAttachExchange → E → Result Unit E
completed Complete e = Ok tt
completed _ e = Err e
