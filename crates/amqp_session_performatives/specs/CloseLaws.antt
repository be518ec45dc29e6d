-- A close is read as it is written, two have two items, and bytes give one.
use Rattle.std.proofs.Common.{◌≡◌, [], ◌∷◌, Option, Some, refl, sym, ◌∙◌}
use Rattle.serde_amqp_de.specs.Decides.{Decided, AllDecided}
use Rattle.serde_amqp_de.specs.Deciding.{record_decided}
use Rattle.serde_amqp_de.specs.Again.{EachAgain, record_again, record_faithful}
use Rattle.amqp_session_types.specs.declared.error.Error.{Error}
use Rattle.amqp_session_performatives.specs.Close.{close_name, close_fields, close_item, close_takes, close_taken}
use Rattle.amqp_session_performatives.specs.declared.close.Close.{Close}
use Rattle.amqp_session_performatives.specs.FieldLaws.{optional_error_again, optional_error_decided}
use Rattle.amqp_session_performatives.specs.FieldLaws.{optional_error_same}

pub close_each_decided : AllDecided close_takes
close_each_decided = (optional_error_decided, tt)

pub close_decided : Decided close_taken
close_decided = record_decided 0x18 close_name close_takes close_each_decided

pub close_each_again : (c : Close) → EachAgain close_takes (close_fields c)
close_each_again c = (optional_error_again c.error, tt)

pub close_again : (c : Close) → close_taken (close_item c) ≡ Some (close_item c)
close_again c = record_again 0x18 close_name close_takes (close_fields c) (close_each_again c)

-- with these fields
unfoldable close_of : Option Error → Close
close_of a = record { error = a }

close_built : (c : Close) → close_of c.error ≡ c
unfolding close_of
close_built c = refl

-- two with the same fields are the same
pub close_parts : (c d : Close) → c.error ≡ d.error → c ≡ d
close_parts c d error =
    let built : close_of c.error ≡ close_of d.error = cc in
    sym (close_built c) ∙ (built ∙ close_built d)

pub close_same : (c d : Close) → close_item c ≡ close_item d → c ≡ d
close_same c d is =
    let all : close_fields c ≡ close_fields d = record_faithful 0x18 (close_fields c) (close_fields d) refl is in
    close_parts c d
    (optional_error_same c.error d.error cc)
