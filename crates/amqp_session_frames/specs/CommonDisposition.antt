-- A Disposition in its common form: a list of one byte's size and count, of a role, a first and a last number, whether
-- the deliveries are settled, and an outcome without fields (part 1, 1.6.22; part 2, 2.7.6; part 3, 3.4).
use Rattle.std.specs.Prelude.{◌≡◌, ℕ, ◌<◌, ◌^◌, List, [], ◌∷◌, ◌++◌, Bool, true, false, Option, Some, None, IfSome}
use Rattle.serde_amqp_item.specs.Item.{Item, scalar, ulong, list, described, no_items}
use Rattle.serde_amqp_item.specs.Canon.{canon}
use Rattle.amqp_session_states.specs.declared.delivery_state.DeliveryState.{DeliveryState}
use Rattle.amqp_session_states.specs.declared.delivery_state.DeliveryState.TheVariants as states
use Rattle.amqp_session_states.specs.declared.modified.Modified.{Modified as Modifying}
use Rattle.amqp_session_types.specs.declared.modes.Role.{Role}
use Rattle.amqp_session_types.specs.declared.modes.Role.TheVariants.{Sender, Receiver}
use Rattle.amqp_session_performatives.specs.Disposition.{disposition_item}
use Rattle.amqp_session_performatives.specs.declared.disposition.Disposition.{Disposition}
use Rattle.amqp_session_frames.specs.Items.{boolean_text, short_record, uint_text}
use Rattle.amqp_session_frames.specs.declared.common_disposition.BareOutcome.{BareOutcome}
use Rattle.amqp_session_frames.specs.declared.common_disposition.BareOutcome.TheVariants.{Accepted, Rejected, Released}
use Rattle.amqp_session_frames.specs.declared.common_disposition.BareOutcome.TheVariants.{Modified}
use Rattle.amqp_session_frames.specs.declared.common_disposition.DispositionFields.{DispositionFields}

-- the descriptor's code (part 3, 3.4.2 to 3.4.5)
abbrev pub outcome_code : BareOutcome → ℕ
outcome_code Accepted = 0x24
outcome_code Rejected = 0x25
outcome_code Released = 0x26
outcome_code Modified = 0x27

-- the state that is this outcome, without fields
abbrev pub state_of : BareOutcome → DeliveryState
state_of Accepted = states.Accepted (record {})
state_of Rejected = states.Rejected (record { error = None })
state_of Released = states.Released (record {})
state_of Modified =
    states.Modified (record { delivery_failed = None; undeliverable_here = None; message_annotations = None })

abbrev pub bare_item : BareOutcome → Item
bare_item o = described (scalar (ulong (outcome_code o))) (list no_items)

-- a modified outcome says nothing
pub record IsBare (m : Modifying) : Type 0 where
  pub failed : m.delivery_failed ≡ None
  pub here : m.undeliverable_here ≡ None
  pub annotations : m.message_annotations ≡ None

-- the disposition that says these fields alone
abbrev pub saying_only : DispositionFields → Disposition
saying_only f =
    record {
      role = f.role;
      first = f.first;
      last = f.last;
      settled = f.settled;
      state = Some (state_of f.outcome);
      batchable = false;
    }

-- what a disposition is written as
unfoldable pub disposition_text : Disposition → Option (List ℕ)
disposition_text d = canon (disposition_item d)

-- false: sender, true: receiver (part 2, 2.8.1)
abbrev pub receives : Role → Bool
receives Sender = false
receives Receiver = true

abbrev pub last_text : Option ℕ → List ℕ
last_text None = 0x40 ∷ []
last_text (Some n) = uint_text n

-- false is left out, as what stands behind it isn't
abbrev pub settled_text : Bool → List ℕ
settled_text true = 0x41 ∷ []
settled_text false = 0x40 ∷ []

abbrev pub outcome_text : BareOutcome → List ℕ
outcome_text o = 0 ∷ 0x53 ∷ outcome_code o ∷ 0x45 ∷ []

unfoldable pub fields_text : DispositionFields → List ℕ
fields_text f =
    boolean_text (receives f.role)
    ++ (uint_text f.first ++ (last_text f.last ++ (settled_text f.settled ++ outcome_text f.outcome)))

unfoldable pub common_text : DispositionFields → List ℕ
common_text f = short_record 0x15 5 (fields_text f)

-- the numbers are uints (part 1, 1.6.6)
pub record HaveRange (f : DispositionFields) : Type 0 where
  pub first : f.first < 2 ^ 32
  pub last : IfSome f.last (λ n. n < 2 ^ 32)
