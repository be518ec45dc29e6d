-- A detach is read as it is written, two have two items, and bytes give one.
use Rattle.std.proofs.Common.{◌≡◌, Bool, false, [], ◌∷◌, Option, Some, refl, sym, ◌∙◌}
use Rattle.serde_amqp_de.specs.Decides.{Decided, AllDecided}
use Rattle.serde_amqp_de.specs.Deciding.{uint_decided, record_decided}
use Rattle.serde_amqp_de.specs.Again.{EachAgain, record_again, record_faithful}
use Rattle.amqp_session_types.specs.declared.error.Error.{Error}
use Rattle.amqp_session_types.specs.declared.handles.Handle.{Handle}
use Rattle.amqp_session_performatives.specs.Detach.{detach_name, detach_fields, detach_item, detach_takes, detach_taken}
use Rattle.amqp_session_performatives.specs.declared.detach.Detach.{Detach}
use Rattle.amqp_session_performatives.specs.FieldLaws.{boolean_or_again, boolean_or_decided, boolean_or_same}
use Rattle.amqp_session_performatives.specs.FieldLaws.{handle_same, optional_error_again, optional_error_decided}
use Rattle.amqp_session_performatives.specs.FieldLaws.{optional_error_same}

pub detach_each_decided : AllDecided detach_takes
detach_each_decided = (uint_decided, (boolean_or_decided false, (optional_error_decided, tt)))

pub detach_decided : Decided detach_taken
detach_decided = record_decided 0x16 detach_name detach_takes detach_each_decided

pub detach_each_again : (d : Detach) → EachAgain detach_takes (detach_fields d)
detach_each_again d = (refl, (boolean_or_again false d.closed, (optional_error_again d.error, tt)))

pub detach_again : (d : Detach) → detach_taken (detach_item d) ≡ Some (detach_item d)
detach_again d = record_again 0x16 detach_name detach_takes (detach_fields d) (detach_each_again d)

-- with these fields
unfoldable detach_of : Handle → Bool → Option Error → Detach
detach_of a b c = record { handle = a; closed = b; error = c }

detach_built : (d : Detach) → detach_of d.handle d.closed d.error ≡ d
unfolding detach_of
detach_built d = refl

-- two with the same fields are the same
pub detach_parts : (d e : Detach) → d.handle ≡ e.handle → d.closed ≡ e.closed → d.error ≡ e.error → d ≡ e
detach_parts d e handle closed error =
    let built : detach_of d.handle d.closed d.error ≡ detach_of e.handle e.closed e.error = cc in
    sym (detach_built d) ∙ (built ∙ detach_built e)

pub detach_same : (d e : Detach) → detach_item d ≡ detach_item e → d ≡ e
detach_same d e is =
    let all : detach_fields d ≡ detach_fields e = record_faithful 0x16 (detach_fields d) (detach_fields e) refl is in
    detach_parts d e
    (handle_same d.handle e.handle cc)
    (boolean_or_same false d.closed e.closed cc)
    (optional_error_same d.error e.error cc)
