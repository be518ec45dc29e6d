-- What holds of each kind of field: bytes give one value, a value is read as it is written, and two have two items.
use Rattle.std.proofs.Common.{◌≡◌, ℕ, Bool, false, List, Option, Some, refl, ap}
use Rattle.std.specs.Prelude.{bytes_eq}
use Rattle.serde_amqp_item.specs.Item.{scalar, boolean, ushort, uint, ulong, binary, string}
use Rattle.serde_amqp_item.specs.Record.{option_item}
use Rattle.serde_amqp_de.specs.Decides.{Decided}
use Rattle.serde_amqp_de.specs.Deciding.{boolean_decided, ubyte_decided, ushort_decided, uint_decided, ulong_decided}
use Rattle.serde_amqp_de.specs.Deciding.{binary_decided, string_decided, option_decided, mapped_decided}
use Rattle.serde_amqp_de.specs.Again.{boolean_faithful, ushort_faithful, uint_faithful, ulong_faithful, option_again}
use Rattle.serde_amqp_de.specs.Again.{option_faithful, default_again, default_faithful, one_boolean, one_ushort}
use Rattle.serde_amqp_de.specs.Again.{one_uint}
use Rattle.serde_amqp_de.specs.Takes.{boolean_taken, ubyte_taken, ushort_taken, uint_taken, ulong_taken, binary_taken}
use Rattle.serde_amqp_de.specs.Takes.{string_taken, option_taken, reads_as_null, mapped, or_null, is_boolean, is_ushort}
use Rattle.serde_amqp_de.specs.Takes.{is_uint}
use Rattle.serde_amqp_types.specs.Takes.{is_ubyte}
use Rattle.serde_amqp_types.specs.Faithful.{string_faithful, binary_faithful}
use Rattle.serde_amqp_values.specs.MapAgain.{ordered_again, ordered_faithful, ordered_present}
use Rattle.serde_amqp_values.specs.MapDeciding.{ordered_decided}
use Rattle.amqp_session_types.specs.Again.{named_values_again, named_values_present, error_again}
use Rattle.amqp_session_types.specs.Deciding.{named_values_decided, error_decided}
use Rattle.amqp_session_types.specs.Error.{error_item, error_taken}
use Rattle.amqp_session_types.specs.Faithful.{named_values_same, error_same}
use Rattle.amqp_session_types.specs.Fields.{named_values_item, named_values_taken}
use Rattle.amqp_session_types.specs.Limits.{is_ubyte_upto}
use Rattle.amqp_session_types.specs.LimitLaws.{limited_decided}
use Rattle.amqp_session_types.specs.Modes.{sender_settle_mode_item, sender_settle_mode_taken, receiver_settle_mode_item}
use Rattle.amqp_session_types.specs.Modes.{receiver_settle_mode_taken}
use Rattle.amqp_session_types.specs.ModeLaws.{sender_mode_again, sender_mode_same, sender_mode_present, sender_mode_one}
use Rattle.amqp_session_types.specs.ModeLaws.{receiver_mode_again, receiver_mode_same, receiver_mode_present}
use Rattle.amqp_session_types.specs.ModeLaws.{receiver_mode_one}
use Rattle.amqp_session_types.specs.declared.error.Error.{Error}
use Rattle.amqp_session_types.specs.declared.handles.Handle.{Handle}
use Rattle.amqp_session_types.specs.declared.modes.SenderSettleMode.{SenderSettleMode}
use Rattle.amqp_session_types.specs.declared.modes.ReceiverSettleMode.{ReceiverSettleMode}
use Rattle.amqp_session_states.specs.ArchetypeLaws.{target_archetype_again, target_archetype_decided}
use Rattle.amqp_session_states.specs.ArchetypeLaws.{target_archetype_present, target_archetype_same}
use Rattle.amqp_session_states.specs.DeliveryStateLaws.{delivery_state_again, delivery_state_decided}
use Rattle.amqp_session_states.specs.DeliveryStateLaws.{delivery_state_present, delivery_state_same}
use Rattle.amqp_session_states.specs.DeliveryState.{delivery_state_item, delivery_state_taken}
use Rattle.amqp_session_states.specs.Source.{source_item, source_taken}
use Rattle.amqp_session_states.specs.SourceLaws.{source_again, source_decided, source_same}
use Rattle.amqp_session_states.specs.TargetArchetype.{target_archetype_item, target_archetype_taken}
use Rattle.amqp_session_states.specs.declared.delivery_state.DeliveryState.{DeliveryState}
use Rattle.amqp_session_states.specs.declared.source.Source.{Source}
use Rattle.amqp_session_states.specs.declared.target_archetype.TargetArchetype.{TargetArchetype}
use Rattle.amqp_session_performatives.specs.Parts.{handle_item, unsettled_item, unsettled_taken}

-- a handle
pub handle_same : (h i : Handle) → handle_item h ≡ handle_item i → h ≡ i
handle_same h i e = ap (λ (n : ℕ). record { 0 = n }) (uint_faithful h.0 i.0 e)

-- a mode
pub receiver_mode_decided : Decided receiver_settle_mode_taken
receiver_mode_decided = limited_decided (is_ubyte_upto 1) ubyte_taken ubyte_decided

pub sender_mode_decided : Decided sender_settle_mode_taken
sender_mode_decided = limited_decided (is_ubyte_upto 2) ubyte_taken ubyte_decided

-- a field with a default
pub uint_or_decided : (d : ℕ) → Decided (mapped (or_null (is_uint d)) (option_taken uint_taken))
uint_or_decided d =
    mapped_decided (or_null (is_uint d)) (option_taken uint_taken) (option_decided uint_taken uint_decided)

pub uint_or_again : (d n : ℕ) → mapped (or_null (is_uint d)) (option_taken uint_taken)
    (or_null (is_uint d) (scalar (uint n))) ≡ Some (or_null (is_uint d) (scalar (uint n)))
uint_or_again d n = default_again (is_uint d) uint_taken (scalar (uint n)) refl refl

pub uint_or_same : (d m n : ℕ) → or_null (is_uint d) (scalar (uint m)) ≡ or_null (is_uint d) (scalar (uint n)) → m ≡ n
uint_or_same d m n e =
    uint_faithful m n (default_faithful (is_uint d) (scalar (uint m)) (scalar (uint n)) (one_uint d m n) refl refl e)

pub ushort_or_decided : (d : ℕ) → Decided (mapped (or_null (is_ushort d)) (option_taken ushort_taken))
ushort_or_decided d =
    mapped_decided (or_null (is_ushort d)) (option_taken ushort_taken) (option_decided ushort_taken ushort_decided)

pub ushort_or_again : (d n : ℕ) → mapped (or_null (is_ushort d)) (option_taken ushort_taken)
    (or_null (is_ushort d) (scalar (ushort n))) ≡ Some (or_null (is_ushort d) (scalar (ushort n)))
ushort_or_again d n = default_again (is_ushort d) ushort_taken (scalar (ushort n)) refl refl

pub ushort_or_same : (d m n : ℕ) → or_null (is_ushort d) (scalar (ushort m)) ≡ or_null (is_ushort d) (scalar (ushort n))
    → m ≡ n
ushort_or_same d m n e =
    ushort_faithful m n (default_faithful (is_ushort d) (scalar (ushort m)) (scalar (ushort n)) (one_ushort d m n) refl
    refl e)

pub boolean_or_decided : (d : Bool) → Decided (mapped (or_null (is_boolean d)) (option_taken boolean_taken))
boolean_or_decided d =
    mapped_decided (or_null (is_boolean d)) (option_taken boolean_taken) (option_decided boolean_taken boolean_decided)

pub boolean_or_again : (d b : Bool) → mapped (or_null (is_boolean d)) (option_taken boolean_taken)
    (or_null (is_boolean d) (scalar (boolean b))) ≡ Some (or_null (is_boolean d) (scalar (boolean b)))
boolean_or_again d b = default_again (is_boolean d) boolean_taken (scalar (boolean b)) refl refl

pub boolean_or_same : (d b c : Bool) → or_null (is_boolean d) (scalar (boolean b))
    ≡ or_null (is_boolean d) (scalar (boolean c)) → b ≡ c
boolean_or_same d b c e =
    boolean_faithful b c (default_faithful (is_boolean d) (scalar (boolean b)) (scalar (boolean c)) (one_boolean d b c)
    refl refl e)

pub sender_mode_or_decided : Decided (mapped (or_null (is_ubyte 2)) (option_taken sender_settle_mode_taken))
sender_mode_or_decided =
    mapped_decided (or_null (is_ubyte 2)) (option_taken sender_settle_mode_taken)
    (option_decided sender_settle_mode_taken sender_mode_decided)

pub sender_mode_or_again : (m : SenderSettleMode)
    → mapped (or_null (is_ubyte 2)) (option_taken sender_settle_mode_taken)
    (or_null (is_ubyte 2) (sender_settle_mode_item m)) ≡ Some (or_null (is_ubyte 2) (sender_settle_mode_item m))
sender_mode_or_again m =
    default_again (is_ubyte 2) sender_settle_mode_taken (sender_settle_mode_item m) (sender_mode_again m)
    (sender_mode_present m)

pub sender_mode_or_same : (m n : SenderSettleMode)
    → or_null (is_ubyte 2) (sender_settle_mode_item m) ≡ or_null (is_ubyte 2) (sender_settle_mode_item n) → m ≡ n
sender_mode_or_same m n e =
    sender_mode_same m n (default_faithful (is_ubyte 2) (sender_settle_mode_item m) (sender_settle_mode_item n)
    (sender_mode_one m n) (sender_mode_present m) (sender_mode_present n) e)

pub receiver_mode_or_decided : Decided (mapped (or_null (is_ubyte 0)) (option_taken receiver_settle_mode_taken))
receiver_mode_or_decided =
    mapped_decided (or_null (is_ubyte 0)) (option_taken receiver_settle_mode_taken)
    (option_decided receiver_settle_mode_taken receiver_mode_decided)

pub receiver_mode_or_again : (m : ReceiverSettleMode)
    → mapped (or_null (is_ubyte 0)) (option_taken receiver_settle_mode_taken)
    (or_null (is_ubyte 0) (receiver_settle_mode_item m)) ≡ Some (or_null (is_ubyte 0) (receiver_settle_mode_item m))
receiver_mode_or_again m =
    default_again (is_ubyte 0) receiver_settle_mode_taken (receiver_settle_mode_item m) (receiver_mode_again m)
    (receiver_mode_present m)

pub receiver_mode_or_same : (m n : ReceiverSettleMode)
    → or_null (is_ubyte 0) (receiver_settle_mode_item m) ≡ or_null (is_ubyte 0) (receiver_settle_mode_item n) → m ≡ n
receiver_mode_or_same m n e =
    receiver_mode_same m n (default_faithful (is_ubyte 0) (receiver_settle_mode_item m) (receiver_settle_mode_item n)
    (receiver_mode_one m n) (receiver_mode_present m) (receiver_mode_present n) e)

-- the unsettled deliveries of a link
pub unsettled_decided : Decided unsettled_taken
unsettled_decided =
    ordered_decided binary_taken (option_taken delivery_state_taken) binary_decided
    (option_decided delivery_state_taken delivery_state_decided)

pub unsettled_again : (ps : List (List ℕ × Option DeliveryState))
    → unsettled_taken (unsettled_item ps) ≡ Some (unsettled_item ps)
unsettled_again =
    ordered_again bytes_eq binary_taken (option_taken delivery_state_taken) (λ t. scalar (binary t))
    (option_item delivery_state_item) (λ _ _. refl) (λ _. refl)
    (option_again delivery_state_taken delivery_state_item delivery_state_again delivery_state_present)

pub unsettled_present : (ps : List (List ℕ × Option DeliveryState)) → reads_as_null (unsettled_item ps) ≡ false
unsettled_present = ordered_present bytes_eq (λ t. scalar (binary t)) (option_item delivery_state_item)

pub unsettled_same : (ps qs : List (List ℕ × Option DeliveryState)) → unsettled_item ps ≡ unsettled_item qs → ps ≡ qs
unsettled_same =
    ordered_faithful bytes_eq (λ t. scalar (binary t)) (option_item delivery_state_item) binary_faithful
    (option_faithful delivery_state_item delivery_state_same delivery_state_present)

-- a field that may be absent
pub optional_string_decided : Decided (option_taken string_taken)
optional_string_decided = option_decided string_taken string_decided

pub optional_string_again : (o : Option (List ℕ))
    → option_taken string_taken (option_item (λ t. scalar (string t)) o) ≡ Some (option_item (λ t. scalar (string t)) o)
optional_string_again = option_again string_taken (λ t. scalar (string t)) (λ _. refl) (λ _. refl)

pub optional_string_same : (o p : Option (List ℕ))
    → option_item (λ t. scalar (string t)) o ≡ option_item (λ t. scalar (string t)) p → o ≡ p
optional_string_same = option_faithful (λ t. scalar (string t)) string_faithful (λ _. refl)

pub optional_uint_decided : Decided (option_taken uint_taken)
optional_uint_decided = option_decided uint_taken uint_decided

pub optional_uint_again : (o : Option ℕ) → option_taken uint_taken (option_item (λ n. scalar (uint n)) o)
    ≡ Some (option_item (λ n. scalar (uint n)) o)
optional_uint_again = option_again uint_taken (λ n. scalar (uint n)) (λ _. refl) (λ _. refl)

pub optional_uint_same : (o p : Option ℕ) → option_item (λ n. scalar (uint n)) o ≡ option_item (λ n. scalar (uint n)) p
    → o ≡ p
optional_uint_same = option_faithful (λ n. scalar (uint n)) uint_faithful (λ _. refl)

pub optional_ushort_decided : Decided (option_taken ushort_taken)
optional_ushort_decided = option_decided ushort_taken ushort_decided

pub optional_ushort_again : (o : Option ℕ) → option_taken ushort_taken (option_item (λ n. scalar (ushort n)) o)
    ≡ Some (option_item (λ n. scalar (ushort n)) o)
optional_ushort_again = option_again ushort_taken (λ n. scalar (ushort n)) (λ _. refl) (λ _. refl)

pub optional_ushort_same : (o p : Option ℕ) → option_item (λ n. scalar (ushort n)) o
    ≡ option_item (λ n. scalar (ushort n)) p → o ≡ p
optional_ushort_same = option_faithful (λ n. scalar (ushort n)) ushort_faithful (λ _. refl)

pub optional_ulong_decided : Decided (option_taken ulong_taken)
optional_ulong_decided = option_decided ulong_taken ulong_decided

pub optional_ulong_again : (o : Option ℕ) → option_taken ulong_taken (option_item (λ n. scalar (ulong n)) o)
    ≡ Some (option_item (λ n. scalar (ulong n)) o)
optional_ulong_again = option_again ulong_taken (λ n. scalar (ulong n)) (λ _. refl) (λ _. refl)

pub optional_ulong_same : (o p : Option ℕ) → option_item (λ n. scalar (ulong n)) o
    ≡ option_item (λ n. scalar (ulong n)) p → o ≡ p
optional_ulong_same = option_faithful (λ n. scalar (ulong n)) ulong_faithful (λ _. refl)

pub optional_boolean_decided : Decided (option_taken boolean_taken)
optional_boolean_decided = option_decided boolean_taken boolean_decided

pub optional_boolean_again : (o : Option Bool)
    → option_taken boolean_taken (option_item (λ b. scalar (boolean b)) o)
    ≡ Some (option_item (λ b. scalar (boolean b)) o)
optional_boolean_again = option_again boolean_taken (λ b. scalar (boolean b)) (λ _. refl) (λ _. refl)

pub optional_boolean_same : (o p : Option Bool)
    → option_item (λ b. scalar (boolean b)) o ≡ option_item (λ b. scalar (boolean b)) p → o ≡ p
optional_boolean_same = option_faithful (λ b. scalar (boolean b)) boolean_faithful (λ _. refl)

pub optional_tag_decided : Decided (option_taken binary_taken)
optional_tag_decided = option_decided binary_taken binary_decided

pub optional_tag_again : (o : Option (List ℕ))
    → option_taken binary_taken (option_item (λ t. scalar (binary t)) o) ≡ Some (option_item (λ t. scalar (binary t)) o)
optional_tag_again = option_again binary_taken (λ t. scalar (binary t)) (λ _. refl) (λ _. refl)

pub optional_tag_same : (o p : Option (List ℕ))
    → option_item (λ t. scalar (binary t)) o ≡ option_item (λ t. scalar (binary t)) p → o ≡ p
optional_tag_same = option_faithful (λ t. scalar (binary t)) binary_faithful (λ _. refl)

pub optional_handle_decided : Decided (option_taken uint_taken)
optional_handle_decided = option_decided uint_taken uint_decided

pub optional_handle_again : (o : Option Handle)
    → option_taken uint_taken (option_item handle_item o) ≡ Some (option_item handle_item o)
optional_handle_again = option_again uint_taken handle_item (λ _. refl) (λ _. refl)

pub optional_handle_same : (o p : Option Handle) → option_item handle_item o ≡ option_item handle_item p → o ≡ p
optional_handle_same = option_faithful handle_item handle_same (λ _. refl)

pub optional_receiver_mode_decided : Decided (option_taken receiver_settle_mode_taken)
optional_receiver_mode_decided = option_decided receiver_settle_mode_taken receiver_mode_decided

pub optional_receiver_mode_again : (o : Option ReceiverSettleMode)
    → option_taken receiver_settle_mode_taken (option_item receiver_settle_mode_item o)
    ≡ Some (option_item receiver_settle_mode_item o)
optional_receiver_mode_again =
    option_again receiver_settle_mode_taken receiver_settle_mode_item receiver_mode_again receiver_mode_present

pub optional_receiver_mode_same : (o p : Option ReceiverSettleMode)
    → option_item receiver_settle_mode_item o ≡ option_item receiver_settle_mode_item p → o ≡ p
optional_receiver_mode_same = option_faithful receiver_settle_mode_item receiver_mode_same receiver_mode_present

pub optional_values_decided : Decided (option_taken named_values_taken)
optional_values_decided = option_decided named_values_taken named_values_decided

pub optional_values_again : (o : Option (List (List ℕ × List ℕ)))
    → option_taken named_values_taken (option_item named_values_item o) ≡ Some (option_item named_values_item o)
optional_values_again = option_again named_values_taken named_values_item named_values_again named_values_present

pub optional_values_same : (o p : Option (List (List ℕ × List ℕ)))
    → option_item named_values_item o ≡ option_item named_values_item p → o ≡ p
optional_values_same = option_faithful named_values_item named_values_same named_values_present

pub optional_error_decided : Decided (option_taken error_taken)
optional_error_decided = option_decided error_taken error_decided

pub optional_error_again : (o : Option Error)
    → option_taken error_taken (option_item error_item o) ≡ Some (option_item error_item o)
optional_error_again = option_again error_taken error_item error_again (λ _. refl)

pub optional_error_same : (o p : Option Error) → option_item error_item o ≡ option_item error_item p → o ≡ p
optional_error_same = option_faithful error_item error_same (λ _. refl)

pub optional_state_decided : Decided (option_taken delivery_state_taken)
optional_state_decided = option_decided delivery_state_taken delivery_state_decided

pub optional_state_again : (o : Option DeliveryState)
    → option_taken delivery_state_taken (option_item delivery_state_item o) ≡ Some (option_item delivery_state_item o)
optional_state_again = option_again delivery_state_taken delivery_state_item delivery_state_again delivery_state_present

pub optional_state_same : (o p : Option DeliveryState)
    → option_item delivery_state_item o ≡ option_item delivery_state_item p → o ≡ p
optional_state_same = option_faithful delivery_state_item delivery_state_same delivery_state_present

pub optional_source_decided : Decided (option_taken source_taken)
optional_source_decided = option_decided source_taken source_decided

pub optional_source_again : (o : Option Source)
    → option_taken source_taken (option_item source_item o) ≡ Some (option_item source_item o)
optional_source_again = option_again source_taken source_item source_again (λ _. refl)

pub optional_source_same : (o p : Option Source) → option_item source_item o ≡ option_item source_item p → o ≡ p
optional_source_same = option_faithful source_item source_same (λ _. refl)

pub optional_target_decided : Decided (option_taken target_archetype_taken)
optional_target_decided = option_decided target_archetype_taken target_archetype_decided

pub optional_target_again : (o : Option TargetArchetype)
    → option_taken target_archetype_taken (option_item target_archetype_item o)
    ≡ Some (option_item target_archetype_item o)
optional_target_again =
    option_again target_archetype_taken target_archetype_item target_archetype_again target_archetype_present

pub optional_target_same : (o p : Option TargetArchetype)
    → option_item target_archetype_item o ≡ option_item target_archetype_item p → o ≡ p
optional_target_same = option_faithful target_archetype_item target_archetype_same target_archetype_present

pub optional_unsettled_decided : Decided (option_taken unsettled_taken)
optional_unsettled_decided = option_decided unsettled_taken unsettled_decided

pub optional_unsettled_again : (o : Option (List (List ℕ × Option DeliveryState)))
    → option_taken unsettled_taken (option_item unsettled_item o) ≡ Some (option_item unsettled_item o)
optional_unsettled_again = option_again unsettled_taken unsettled_item unsettled_again unsettled_present

pub optional_unsettled_same : (o p : Option (List (List ℕ × Option DeliveryState)))
    → option_item unsettled_item o ≡ option_item unsettled_item p → o ≡ p
optional_unsettled_same = option_faithful unsettled_item unsettled_same unsettled_present
