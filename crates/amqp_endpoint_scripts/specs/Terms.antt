-- The links that a script attaches: no link has a maximum, and no field of a source or a target is set.
use Rattle.std.specs.Prelude.{ℕ, ◌^◌, false, List, [], Option, Some, None, if◌then◌else◌, codes}
use Rattle.std.specs.Str.{bytes_eq}
use Rattle.amqp_session_types.specs.declared.modes.ReceiverSettleMode.{ReceiverSettleMode}
use Rattle.amqp_session_types.specs.declared.modes.ReceiverSettleMode.TheVariants.{First, Second}
use Rattle.amqp_session_types.specs.declared.modes.SenderSettleMode.{SenderSettleMode}
use Rattle.amqp_session_types.specs.declared.modes.SenderSettleMode.TheVariants.{Unsettled, Settled, Mixed}
use Rattle.amqp_session_states.specs.declared.source.Source.{Source}
use Rattle.amqp_session_states.specs.declared.target.Target.{Target}
use Rattle.amqp_session_states.specs.declared.target_archetype.TargetArchetype.TheVariants as archetype
use Rattle.amqp_session_states.specs.declared.terminus.TerminusDurability.TheVariants as durability
use Rattle.amqp_session_states.specs.declared.terminus.TerminusExpiryPolicy.TheVariants.{SessionEnd}
use Rattle.amqp_endpoint_model.specs.declared.link.LinkSettings.{LinkSettings}
use Rattle.amqp_endpoint_scripts.specs.Digits.{number_under}

-- a source of which no field is set (part 3, 3.5.3)
abbrev pub plain_source : Source
plain_source =
    record {
      address = None;
      durable = durability.None;
      expiry_policy = SessionEnd;
      timeout = 0;
      dynamic = false;
      dynamic_node_properties = None;
      distribution_mode = None;
      filter = None;
      default_outcome = None;
      outcomes = [];
      capabilities = [];
    }

-- a target of which no field is set (part 3, 3.5.4)
abbrev pub plain_target : Target
plain_target =
    record {
      address = None;
      durable = durability.None;
      expiry_policy = SessionEnd;
      timeout = 0;
      dynamic = false;
      dynamic_node_properties = None;
      capabilities = [];
    }

abbrev pub plain_settings : List ℕ → ℕ → SenderSettleMode → ReceiverSettleMode → LinkSettings
plain_settings name count sending receiving =
    record {
      name = name;
      source = Some plain_source;
      target = Some (archetype.Target plain_target);
      snd_settle_mode = sending;
      rcv_settle_mode = receiving;
      initial_delivery_count = count;
      max_message_size = 0;
    }

-- how a sender settles (part 2, 2.8.2)
abbrev pub sending_mode : List ℕ → Option SenderSettleMode
sending_mode word =
    if bytes_eq word (codes "unsettled") then Some Unsettled else
    if bytes_eq word (codes "settled") then Some Settled else
    if bytes_eq word (codes "mixed") then Some Mixed else
    None

-- how a receiver settles (part 2, 2.8.3)
abbrev pub receiving_mode : List ℕ → Option ReceiverSettleMode
receiving_mode word =
    if bytes_eq word (codes "first") then Some First else
    if bytes_eq word (codes "second") then Some Second else
    None

abbrev pub sender_from : List ℕ → Option ℕ → Option SenderSettleMode → Option ReceiverSettleMode → Option LinkSettings
sender_from name (Some count) (Some sending) (Some receiving) = Some (plain_settings name count sending receiving)
sender_from name count sending receiving = None

-- a sending link of this name: where the count of its deliveries begins, and how its ends settle them
abbrev pub sender_settings : List ℕ → List ℕ → List ℕ → List ℕ → Option LinkSettings
sender_settings name count sending receiving =
    sender_from name (number_under (2 ^ 32) count) (sending_mode sending) (receiving_mode receiving)

abbrev pub receiver_from : List ℕ → Option ReceiverSettleMode → Option LinkSettings
receiver_from name (Some receiving) = Some (plain_settings name 0 Mixed receiving)
receiver_from name None = None

-- a receiving link of this name: how it settles its deliveries. Its sender may settle each or not
abbrev pub receiver_settings : List ℕ → List ℕ → Option LinkSettings
receiver_settings name receiving = receiver_from name (receiving_mode receiving)
