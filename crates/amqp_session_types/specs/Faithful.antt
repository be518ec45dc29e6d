-- A value's item says which value it is.
use Rattle.std.proofs.Common.{◌≡◌, ℕ, List, Option, ◌∙◌, ap, refl}
use Rattle.std.specs.Prelude.{bytes_eq}
use Rattle.serde_amqp_item.specs.Item.{scalar, symbol, string, raw}
use Rattle.serde_amqp_item.specs.Record.{option_item}
use Rattle.serde_amqp_de.specs.Again.{option_faithful, several_faithful, record_faithful}
use Rattle.serde_amqp_de.specs.Kept.{raw_faithful}
use Rattle.serde_amqp_types.specs.Faithful.{symbol_faithful, string_faithful}
use Rattle.serde_amqp_values.specs.MapAgain.{ordered_faithful}
use Rattle.amqp_session_types.specs.Again.{named_values_present}
use Rattle.amqp_session_types.specs.Error.{error_fields, error_item}
use Rattle.amqp_session_types.specs.Fields.{named_values_item, symbols_item}
use Rattle.amqp_session_types.specs.declared.error.Error.{Error}

pub named_values_same : (ps qs : List (List ℕ × List ℕ)) → named_values_item ps ≡ named_values_item qs → ps ≡ qs
named_values_same = ordered_faithful bytes_eq (λ s. scalar (symbol s)) (λ v. raw v) symbol_faithful raw_faithful

pub optional_values_same : (o p : Option (List (List ℕ × List ℕ)))
    → option_item named_values_item o ≡ option_item named_values_item p → o ≡ p
optional_values_same = option_faithful named_values_item named_values_same named_values_present

pub optional_string_same : (o p : Option (List ℕ))
    → option_item (λ t. scalar (string t)) o ≡ option_item (λ t. scalar (string t)) p → o ≡ p
optional_string_same = option_faithful (λ t. scalar (string t)) string_faithful (λ _. refl)

pub symbols_same : (names others : List (List ℕ)) → symbols_item names ≡ symbols_item others → names ≡ others
symbols_same = several_faithful (λ s. scalar (symbol s)) symbol_faithful

-- two errors with the same fields are one
pub error_parts : (d e : Error) → d.condition ≡ e.condition → d.description ≡ e.description → d.info ≡ e.info → d ≡ e
error_parts d e e0 e1 e2 =
    ap (λ x. record d { condition = x }) e0
    ∙ (ap (λ x. record e { description = x; info = d.info }) e1
    ∙ ap (λ x. record e { info = x }) e2)

pub error_same : (d e : Error) → error_item d ≡ error_item e → d ≡ e
error_same d e s =
    let fields : error_fields d ≡ error_fields e = record_faithful 0x1d (error_fields d) (error_fields e) refl s in
    error_parts d e
    (symbol_faithful d.condition e.condition cc)
    (optional_string_same d.description e.description cc)
    (optional_values_same d.info e.info cc)
