-- A value's item is taken as that value.
use Rattle.std.proofs.Common.{◌≡◌, ℕ, List, Some, refl}
use Rattle.std.specs.Prelude.{bytes_eq, false}
use Rattle.serde_amqp_item.specs.Item.{scalar, symbol, string, raw}
use Rattle.serde_amqp_de.specs.Again.{option_again, multiple_again, record_again}
use Rattle.serde_amqp_de.specs.Kept.{raw_taken}
use Rattle.serde_amqp_de.specs.Takes.{string_taken, symbol_taken, reads_as_null}
use Rattle.serde_amqp_values.specs.MapAgain.{ordered_again, ordered_present}
use Rattle.amqp_session_types.specs.Error.{error_name, error_fields, error_item, error_takes, error_taken}
use Rattle.amqp_session_types.specs.Fields.{named_values_item, named_values_taken, symbols_item, symbols_taken}
use Rattle.amqp_session_types.specs.declared.error.Error.{Error}

pub named_values_again : (ps : List (List ℕ × List ℕ))
    → named_values_taken (named_values_item ps) ≡ Some (named_values_item ps)
named_values_again =
    ordered_again bytes_eq symbol_taken raw_taken (λ s. scalar (symbol s)) (λ v. raw v) (λ _ _. refl) (λ _. refl)
    (λ _. refl)

pub named_values_present : (ps : List (List ℕ × List ℕ)) → reads_as_null (named_values_item ps) ≡ false
named_values_present = ordered_present bytes_eq (λ s. scalar (symbol s)) (λ v. raw v)

pub symbols_again : (names : List (List ℕ)) → symbols_taken (symbols_item names) ≡ Some (symbols_item names)
symbols_again = multiple_again symbol_taken (λ s. scalar (symbol s)) (λ _. refl)

pub error_again : (e : Error) → error_taken (error_item e) ≡ Some (error_item e)
error_again e = record_again 0x1d error_name error_takes (error_fields e) (
  refl,
  (
    option_again string_taken (λ t. scalar (string t)) (λ _. refl) (λ _. refl) e.description,
    (option_again named_values_taken named_values_item named_values_again named_values_present e.info, tt),
  ),
)
