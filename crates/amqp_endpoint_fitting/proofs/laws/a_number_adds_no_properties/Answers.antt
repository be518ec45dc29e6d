use Rattle.amqp_endpoint_fitting.proofs.laws.a_number_adds_no_properties.Goals as goal

pub returns : goal.returns
returns g c = λ replies. record { each = λ old new flow reply does. replies.each old.link new.link flow reply does.0 }
