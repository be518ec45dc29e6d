-- An attach is read as it is written, two have two items, and bytes give one.
use Rattle.std.proofs.Common.{◌≡◌, ℕ, Bool, false, List, [], ◌∷◌, Option, Some, refl, sym, ◌∙◌}
use Rattle.serde_amqp_de.specs.Decides.{Decided, AllDecided}
use Rattle.serde_amqp_de.specs.Deciding.{string_decided, uint_decided, boolean_decided, record_decided}
use Rattle.serde_amqp_de.specs.Again.{EachAgain, record_again, record_faithful}
use Rattle.serde_amqp_types.specs.Faithful.{string_faithful}
use Rattle.amqp_session_types.specs.Again.{symbols_again}
use Rattle.amqp_session_types.specs.Deciding.{symbols_decided}
use Rattle.amqp_session_types.specs.Faithful.{symbols_same}
use Rattle.amqp_session_types.specs.ModeLaws.{role_again, role_same}
use Rattle.amqp_session_states.specs.declared.delivery_state.DeliveryState.{DeliveryState}
use Rattle.amqp_session_states.specs.declared.source.Source.{Source}
use Rattle.amqp_session_states.specs.declared.target_archetype.TargetArchetype.{TargetArchetype}
use Rattle.amqp_session_types.specs.declared.handles.Handle.{Handle}
use Rattle.amqp_session_types.specs.declared.modes.Role.{Role}
use Rattle.amqp_session_types.specs.declared.modes.SenderSettleMode.{SenderSettleMode}
use Rattle.amqp_session_types.specs.declared.modes.ReceiverSettleMode.{ReceiverSettleMode}
use Rattle.amqp_session_performatives.specs.Attach.{attach_name, attach_fields, attach_item, attach_takes, attach_taken}
use Rattle.amqp_session_performatives.specs.declared.attach.Attach.{Attach}
use Rattle.amqp_session_performatives.specs.FieldLaws.{boolean_or_again, boolean_or_decided, boolean_or_same, handle_same, optional_source_again, optional_source_decided, optional_source_same, optional_target_again, optional_target_decided, optional_target_same, optional_uint_again, optional_uint_decided, optional_uint_same, optional_ulong_again, optional_ulong_decided, optional_ulong_same, optional_unsettled_again, optional_unsettled_decided, optional_unsettled_same, optional_values_again, optional_values_decided, optional_values_same, receiver_mode_or_again, receiver_mode_or_decided, receiver_mode_or_same, sender_mode_or_again, sender_mode_or_decided, sender_mode_or_same}

pub attach_each_decided : AllDecided attach_takes
attach_each_decided = (string_decided, (uint_decided, (boolean_decided, (sender_mode_or_decided, (receiver_mode_or_decided, (optional_source_decided, (optional_target_decided, (optional_unsettled_decided, (boolean_or_decided false, (optional_uint_decided, (optional_ulong_decided, (symbols_decided, (symbols_decided, (optional_values_decided, tt))))))))))))))

pub attach_decided : Decided attach_taken
attach_decided = record_decided 0x12 attach_name attach_takes attach_each_decided

pub attach_each_again : (a : Attach) → EachAgain attach_takes (attach_fields a)
attach_each_again a = (refl, (refl, (role_again a.role, (sender_mode_or_again a.snd_settle_mode, (receiver_mode_or_again a.rcv_settle_mode, (optional_source_again a.source, (optional_target_again a.target, (optional_unsettled_again a.unsettled, (boolean_or_again false a.incomplete_unsettled, (optional_uint_again a.initial_delivery_count, (optional_ulong_again a.max_message_size, (symbols_again a.offered_capabilities, (symbols_again a.desired_capabilities, (optional_values_again a.properties, tt))))))))))))))

pub attach_again : (a : Attach) → attach_taken (attach_item a) ≡ Some (attach_item a)
attach_again a = record_again 0x12 attach_name attach_takes (attach_fields a) (attach_each_again a)

-- with these fields
unfoldable attach_of : List ℕ → Handle → Role → SenderSettleMode → ReceiverSettleMode → Option Source → Option TargetArchetype → Option (List (List ℕ × Option DeliveryState)) → Bool → Option ℕ → Option ℕ → List (List ℕ) → List (List ℕ) → Option (List (List ℕ × List ℕ)) → Attach
attach_of a b c d e f g h i j k l m n = record { name = a; handle = b; role = c; snd_settle_mode = d; rcv_settle_mode = e; source = f; target = g; unsettled = h; incomplete_unsettled = i; initial_delivery_count = j; max_message_size = k; offered_capabilities = l; desired_capabilities = m; properties = n }

attach_built : (a : Attach) → attach_of a.name a.handle a.role a.snd_settle_mode a.rcv_settle_mode a.source a.target a.unsettled a.incomplete_unsettled a.initial_delivery_count a.max_message_size a.offered_capabilities a.desired_capabilities a.properties ≡ a
unfolding attach_of
attach_built a = refl

-- two with the same fields are the same
pub attach_parts : (a b : Attach) → a.name ≡ b.name → a.handle ≡ b.handle → a.role ≡ b.role → a.snd_settle_mode ≡ b.snd_settle_mode → a.rcv_settle_mode ≡ b.rcv_settle_mode → a.source ≡ b.source → a.target ≡ b.target → a.unsettled ≡ b.unsettled → a.incomplete_unsettled ≡ b.incomplete_unsettled → a.initial_delivery_count ≡ b.initial_delivery_count → a.max_message_size ≡ b.max_message_size → a.offered_capabilities ≡ b.offered_capabilities → a.desired_capabilities ≡ b.desired_capabilities → a.properties ≡ b.properties → a ≡ b
attach_parts a b name handle role snd_settle_mode rcv_settle_mode source target unsettled incomplete_unsettled initial_delivery_count max_message_size offered_capabilities desired_capabilities properties =
    let built : attach_of a.name a.handle a.role a.snd_settle_mode a.rcv_settle_mode a.source a.target a.unsettled a.incomplete_unsettled a.initial_delivery_count a.max_message_size a.offered_capabilities a.desired_capabilities a.properties ≡ attach_of b.name b.handle b.role b.snd_settle_mode b.rcv_settle_mode b.source b.target b.unsettled b.incomplete_unsettled b.initial_delivery_count b.max_message_size b.offered_capabilities b.desired_capabilities b.properties = cc in
    sym (attach_built a) ∙ (built ∙ attach_built b)

pub attach_same : (a b : Attach) → attach_item a ≡ attach_item b → a ≡ b
attach_same a b is =
    let all : attach_fields a ≡ attach_fields b = record_faithful 0x12 (attach_fields a) (attach_fields b) refl is in
    attach_parts a b
    (string_faithful a.name b.name cc)
    (handle_same a.handle b.handle cc)
    (role_same a.role b.role cc)
    (sender_mode_or_same a.snd_settle_mode b.snd_settle_mode cc)
    (receiver_mode_or_same a.rcv_settle_mode b.rcv_settle_mode cc)
    (optional_source_same a.source b.source cc)
    (optional_target_same a.target b.target cc)
    (optional_unsettled_same a.unsettled b.unsettled cc)
    (boolean_or_same false a.incomplete_unsettled b.incomplete_unsettled cc)
    (optional_uint_same a.initial_delivery_count b.initial_delivery_count cc)
    (optional_ulong_same a.max_message_size b.max_message_size cc)
    (symbols_same a.offered_capabilities b.offered_capabilities cc)
    (symbols_same a.desired_capabilities b.desired_capabilities cc)
    (optional_values_same a.properties b.properties cc)
