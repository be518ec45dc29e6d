-- An end is read as it is written, two have two items, and bytes give one.
use Rattle.std.proofs.Common.{◌≡◌, [], ◌∷◌, Option, Some, refl, sym, ◌∙◌}
use Rattle.serde_amqp_de.specs.Decides.{Decided, AllDecided}
use Rattle.serde_amqp_de.specs.Deciding.{record_decided}
use Rattle.serde_amqp_de.specs.Again.{EachAgain, record_again, record_faithful}
use Rattle.amqp_session_types.specs.declared.error.Error.{Error}
use Rattle.amqp_session_performatives.specs.End.{end_name, end_fields, end_item, end_takes, end_taken}
use Rattle.amqp_session_performatives.specs.declared.end.End.{End}
use Rattle.amqp_session_performatives.specs.FieldLaws.{optional_error_again, optional_error_decided}
use Rattle.amqp_session_performatives.specs.FieldLaws.{optional_error_same}

pub end_each_decided : AllDecided end_takes
end_each_decided = (optional_error_decided, tt)

pub end_decided : Decided end_taken
end_decided = record_decided 0x17 end_name end_takes end_each_decided

pub end_each_again : (e : End) → EachAgain end_takes (end_fields e)
end_each_again e = (optional_error_again e.error, tt)

pub end_again : (e : End) → end_taken (end_item e) ≡ Some (end_item e)
end_again e = record_again 0x17 end_name end_takes (end_fields e) (end_each_again e)

-- with these fields
unfoldable end_of : Option Error → End
end_of a = record { error = a }

end_built : (e : End) → end_of e.error ≡ e
unfolding end_of
end_built e = refl

-- two with the same fields are the same
pub end_parts : (e f : End) → e.error ≡ f.error → e ≡ f
end_parts e f error =
    let built : end_of e.error ≡ end_of f.error = cc in
    sym (end_built e) ∙ (built ∙ end_built f)

pub end_same : (e f : End) → end_item e ≡ end_item f → e ≡ f
end_same e f is =
    let all : end_fields e ≡ end_fields f = record_faithful 0x17 (end_fields e) (end_fields f) refl is in
    end_parts e f
    (optional_error_same e.error f.error cc)
