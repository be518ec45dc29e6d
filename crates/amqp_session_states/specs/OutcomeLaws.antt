-- Bytes give one outcome, an outcome is read as it is written, and its item says which it is.
use Rattle.std.proofs.Common.{◌≡◌, ℕ, List, [], Bool, true, false, Some, ◌∙◌, ap, refl, arith}
use Rattle.std.specs.Prelude.{◌==◌}
use Rattle.std.proofs.lemmas.Bool.Decides.{nat_tests}
use Rattle.serde_amqp_item.specs.Item.{Item}
use Rattle.serde_amqp_item.specs.Record.{record_item}
use Rattle.serde_amqp_de.specs.Decides.{Decided}
use Rattle.serde_amqp_de.specs.Takes.{reads_as_null}
use Rattle.serde_amqp_values.specs.Choice.{RowsDecided, codes_differ}
use Rattle.serde_amqp_values.specs.ChoiceAgain.{choice_again, codes_apart}
use Rattle.serde_amqp_values.specs.ChoiceDeciding.{choice_decided}
use Rattle.amqp_session_states.specs.Accepted.{accepted_name, accepted_takes}
use Rattle.amqp_session_states.specs.Modified.{modified_name, modified_takes, modified_fields}
use Rattle.amqp_session_states.specs.Rejected.{rejected_name, rejected_takes, rejected_fields}
use Rattle.amqp_session_states.specs.Released.{released_name, released_takes}
use Rattle.amqp_session_states.specs.Again.{rejected_fields_again, modified_fields_again}
use Rattle.amqp_session_states.specs.Deciding.{rejected_fields_decided, modified_fields_decided}
use Rattle.amqp_session_states.specs.Faithful.{accepted_same, rejected_same, released_same, modified_same}
use Rattle.amqp_session_states.specs.Outcome.{outcome_item, outcome_rows, outcome_taken}
use Rattle.amqp_session_states.specs.declared.outcome.Outcome.{Outcome}
use Rattle.amqp_session_states.specs.declared.outcome.Outcome.TheVariants.{Accepted, Rejected, Released, Modified}

pub outcome_rows_decided : RowsDecided outcome_rows
outcome_rows_decided = (tt, (rejected_fields_decided, (tt, (modified_fields_decided, tt))))

pub outcome_rows_differ : codes_differ outcome_rows ≡ true
outcome_rows_differ = refl

pub outcome_decided : Decided outcome_taken
outcome_decided = choice_decided outcome_rows outcome_rows_decided

pub outcome_again : (o : Outcome) → outcome_taken (outcome_item o) ≡ Some (outcome_item o)
outcome_again (Accepted x) =
    choice_again outcome_rows 0x24 (record { code = 0x24; name = accepted_name; takes = accepted_takes }) [] refl refl
    tt
outcome_again (Rejected x) =
    choice_again outcome_rows 0x25 (record { code = 0x25; name = rejected_name; takes = rejected_takes })
    (rejected_fields x) refl refl (rejected_fields_again x)
outcome_again (Released x) =
    choice_again outcome_rows 0x26 (record { code = 0x26; name = released_name; takes = released_takes }) [] refl refl
    tt
outcome_again (Modified x) =
    choice_again outcome_rows 0x27 (record { code = 0x27; name = modified_name; takes = modified_takes })
    (modified_fields x) refl refl (modified_fields_again x)

pub outcome_present : (o : Outcome) → reads_as_null (outcome_item o) ≡ false
outcome_present (Accepted x) = refl
outcome_present (Rejected x) = refl
outcome_present (Released x) = refl
outcome_present (Modified x) = refl

same_number : (n : ℕ) → (n == n) ≡ true
same_number n = grind (arith, nat_tests)

not_both : (b : Bool) → b ≡ true → b ≡ false → ⊥
not_both true e f = absurd cc
not_both false e f = absurd cc

-- items of two composite types are two
pub other_codes : (c d : ℕ) (xs ys : List Item) → (c == d) ≡ false → record_item c xs ≡ record_item d ys → ⊥
other_codes c d xs ys n e = not_both (c == d) (ap (λ (i : ℕ). i == d) (codes_apart c d xs ys e) ∙ same_number d) n

pub outcome_same : (x y : Outcome) → outcome_item x ≡ outcome_item y → x ≡ y
outcome_same (Accepted x) (Accepted y) e = ap (λ z. Accepted z) (accepted_same x y e)
outcome_same (Accepted x) (Rejected y) e = absurd (other_codes 0x24 0x25 [] (rejected_fields y) refl e)
outcome_same (Accepted x) (Released y) e = absurd (other_codes 0x24 0x26 [] [] refl e)
outcome_same (Accepted x) (Modified y) e = absurd (other_codes 0x24 0x27 [] (modified_fields y) refl e)
outcome_same (Rejected x) (Accepted y) e = absurd (other_codes 0x25 0x24 (rejected_fields x) [] refl e)
outcome_same (Rejected x) (Rejected y) e = ap (λ z. Rejected z) (rejected_same x y e)
outcome_same (Rejected x) (Released y) e = absurd (other_codes 0x25 0x26 (rejected_fields x) [] refl e)
outcome_same (Rejected x) (Modified y) e = absurd (other_codes 0x25 0x27 (rejected_fields x) (modified_fields y) refl e)
outcome_same (Released x) (Accepted y) e = absurd (other_codes 0x26 0x24 [] [] refl e)
outcome_same (Released x) (Rejected y) e = absurd (other_codes 0x26 0x25 [] (rejected_fields y) refl e)
outcome_same (Released x) (Released y) e = ap (λ z. Released z) (released_same x y e)
outcome_same (Released x) (Modified y) e = absurd (other_codes 0x26 0x27 [] (modified_fields y) refl e)
outcome_same (Modified x) (Accepted y) e = absurd (other_codes 0x27 0x24 (modified_fields x) [] refl e)
outcome_same (Modified x) (Rejected y) e = absurd (other_codes 0x27 0x25 (modified_fields x) (rejected_fields y) refl e)
outcome_same (Modified x) (Released y) e = absurd (other_codes 0x27 0x26 (modified_fields x) [] refl e)
outcome_same (Modified x) (Modified y) e = ap (λ z. Modified z) (modified_same x y e)
