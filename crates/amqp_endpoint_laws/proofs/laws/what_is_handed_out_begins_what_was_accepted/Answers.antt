use Rattle.std.proofs.Common.{◌++◌, List, ap, map, sym, ◌∙◌}
use Rattle.amqp_endpoint_laws.specs.Handed.{Handed}
use Rattle.amqp_endpoint_laws.specs.Taken.{message_handed}
use Rattle.amqp_endpoint_laws.proofs.TakenJoining.{joined}
use Rattle.amqp_endpoint_laws.proofs.laws.what_is_handed_out_begins_what_was_accepted.Goals as goal

pub returns : goal.returns
returns c = λ name others link own sent waiting old new deeds came more handed said are is.
    let (rest, all) = joined name others link own sent waiting old deeds new came more said are in
    (rest, all ∙ ap (λ (hs : List Handed). map message_handed hs ++ rest) (sym is))
