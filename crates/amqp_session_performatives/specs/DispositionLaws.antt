-- A disposition is read as it is written, two have two items, and bytes give one.
use Rattle.std.proofs.Common.{◌≡◌, ℕ, Bool, false, [], ◌∷◌, Option, Some, refl, sym, ◌∙◌}
use Rattle.serde_amqp_de.specs.Decides.{Decided, AllDecided}
use Rattle.serde_amqp_de.specs.Deciding.{uint_decided, boolean_decided, record_decided}
use Rattle.serde_amqp_de.specs.Again.{uint_faithful, EachAgain, record_again, record_faithful}
use Rattle.amqp_session_types.specs.ModeLaws.{role_again, role_same}
use Rattle.amqp_session_states.specs.declared.delivery_state.DeliveryState.{DeliveryState}
use Rattle.amqp_session_types.specs.declared.modes.Role.{Role}
use Rattle.amqp_session_performatives.specs.Disposition.{disposition_name, disposition_fields, disposition_item, disposition_takes, disposition_taken}
use Rattle.amqp_session_performatives.specs.declared.disposition.Disposition.{Disposition}
use Rattle.amqp_session_performatives.specs.FieldLaws.{boolean_or_again, boolean_or_decided, boolean_or_same, optional_state_again, optional_state_decided, optional_state_same, optional_uint_again, optional_uint_decided, optional_uint_same}

pub disposition_each_decided : AllDecided disposition_takes
disposition_each_decided = (boolean_decided, (uint_decided, (optional_uint_decided, (boolean_or_decided false, (optional_state_decided, (boolean_or_decided false, tt))))))

pub disposition_decided : Decided disposition_taken
disposition_decided = record_decided 0x15 disposition_name disposition_takes disposition_each_decided

pub disposition_each_again : (d : Disposition) → EachAgain disposition_takes (disposition_fields d)
disposition_each_again d = (role_again d.role, (refl, (optional_uint_again d.last, (boolean_or_again false d.settled, (optional_state_again d.state, (boolean_or_again false d.batchable, tt))))))

pub disposition_again : (d : Disposition) → disposition_taken (disposition_item d) ≡ Some (disposition_item d)
disposition_again d = record_again 0x15 disposition_name disposition_takes (disposition_fields d) (disposition_each_again d)

-- with these fields
unfoldable disposition_of : Role → ℕ → Option ℕ → Bool → Option DeliveryState → Bool → Disposition
disposition_of a b c d e f = record { role = a; first = b; last = c; settled = d; state = e; batchable = f }

disposition_built : (d : Disposition) → disposition_of d.role d.first d.last d.settled d.state d.batchable ≡ d
unfolding disposition_of
disposition_built d = refl

-- two with the same fields are the same
pub disposition_parts : (d e : Disposition) → d.role ≡ e.role → d.first ≡ e.first → d.last ≡ e.last → d.settled ≡ e.settled → d.state ≡ e.state → d.batchable ≡ e.batchable → d ≡ e
disposition_parts d e role first last settled state batchable =
    let built : disposition_of d.role d.first d.last d.settled d.state d.batchable ≡ disposition_of e.role e.first e.last e.settled e.state e.batchable = cc in
    sym (disposition_built d) ∙ (built ∙ disposition_built e)

pub disposition_same : (d e : Disposition) → disposition_item d ≡ disposition_item e → d ≡ e
disposition_same d e is =
    let all : disposition_fields d ≡ disposition_fields e = record_faithful 0x15 (disposition_fields d) (disposition_fields e) refl is in
    disposition_parts d e
    (role_same d.role e.role cc)
    (uint_faithful d.first e.first cc)
    (optional_uint_same d.last e.last cc)
    (boolean_or_same false d.settled e.settled cc)
    (optional_state_same d.state e.state cc)
    (boolean_or_same false d.batchable e.batchable cc)
