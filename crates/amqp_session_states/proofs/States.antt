-- The fields of a state that isn't received are those of an outcome.
use Rattle.std.proofs.Common.{◌≡◌, ◌≢◌, ℕ, Bool, true, false, Option, Some, None, sym, ◌∙◌, ap, subst, refl, arith}
use Rattle.std.specs.Prelude.{◌==◌, if◌then◌else◌}
use Rattle.std.proofs.lemmas.Bool.Decides.{nat_tests}
use Rattle.serde_amqp_item.specs.Item.{Item}
use Rattle.serde_amqp_item.specs.Canon.{◌>>=◌}
use Rattle.serde_amqp_de.specs.Reads.{At, Refuses, Took}
use Rattle.serde_amqp_values.specs.Choice.{Row, row_coded, fields_of, fields_chosen}
use Rattle.amqp_session_states.specs.DeliveryState.{delivery_state_item, delivery_state_rows}
use Rattle.amqp_session_states.specs.Outcome.{outcome_item, outcome_rows}
use Rattle.amqp_session_states.specs.Received.{received_name, received_takes}
use Rattle.amqp_session_states.specs.Terminal.{terminal_state}
use Rattle.amqp_session_states.specs.declared.delivery_state.DeliveryState.{DeliveryState}
use Rattle.amqp_session_states.specs.declared.outcome.Outcome.{Outcome}
use Rattle.amqp_session_states.specs.declared.outcome.Outcome.TheVariants.{Accepted, Rejected, Released, Modified}

later_row : (code : ℕ) → code ≢ 0x23 → row_coded delivery_state_rows code ≡ row_coded outcome_rows code
later_row code n =
    let e : (code == 0x23) ≡ false = grind (arith, nat_tests) in
    ap (λ (b : Bool). if b then Some (record { code = 0x23; name = received_name; takes = received_takes }) else row_coded outcome_rows code) e

later_chosen : (code : ℕ) → code ≢ 0x23 → (x : Item) → fields_chosen delivery_state_rows code x ≡ fields_chosen outcome_rows code x
unfolding fields_chosen
later_chosen code n x = ap (λ (o : Option Row). o >>= λ r. fields_of r x) (later_row code n)

same_item : (o : Outcome) → outcome_item o ≡ delivery_state_item (terminal_state o)
same_item (Accepted x) = refl
same_item (Rejected x) = refl
same_item (Released x) = refl
same_item (Modified x) = refl

pub later_took : (code : ℕ) (o : Outcome) (s : DeliveryState) (k : Option ℕ) (old new : At) → Took (fields_chosen outcome_rows code) k old new (outcome_item o) → code ≢ 0x23 → s ≡ terminal_state o → Took (fields_chosen delivery_state_rows code) k old new (delivery_state_item s)
later_took code o s k old new t n e = record {
  item = t.item;
  reads = t.reads;
  taken = later_chosen code n t.item ∙ (t.taken ∙ ap (λ (y : Item). Some y) (same_item o ∙ ap delivery_state_item (sym e)));
}

pub later_refused : (code : ℕ) (k : Option ℕ) (old : At) → Refuses (fields_chosen outcome_rows code) k old → code ≢ 0x23 → Refuses (fields_chosen delivery_state_rows code) k old
later_refused code k old r n = record { none = λ x f more w e. later_chosen code n x ∙ r.none x f more w e }
