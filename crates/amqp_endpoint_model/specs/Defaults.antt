-- What an endpoint and a link are made with where nothing else is said: what the standard says of absent fields.
use Rattle.std.specs.Prelude.{ℕ, List, Some, None}
use Rattle.amqp_session_types.specs.declared.modes.SenderSettleMode.TheVariants.{Mixed}
use Rattle.amqp_session_types.specs.declared.modes.ReceiverSettleMode.TheVariants.{First}
use Rattle.amqp_session_states.specs.declared.source.Source.{Source}
use Rattle.amqp_session_states.specs.declared.target.Target.{Target}
use Rattle.amqp_session_states.specs.declared.target_archetype.TargetArchetype.TheVariants as archetype
use Rattle.amqp_endpoint_model.specs.declared.link.LinkSettings.{LinkSettings}
use Rattle.amqp_endpoint_model.specs.declared.settings.Settings.{Settings}

-- an endpoint with a container-id: no bound on frames and channels but the field's own, and no time-out (part 2, 2.7.1);
-- windows, for which there is no default, of 2,048 transfers
abbrev pub settings_of : List ℕ → Settings
settings_of container = record {
  container_id = container;
  max_frame_size = 4294967295;
  channel_max = 65535;
  incoming_window = 2048;
  idle_time_out = None;
  first_transfer_number = 0;
}

-- a link with a name and both termini: settle modes mixed and first, and no bound on messages (part 2, 2.7.3)
abbrev pub link_of : List ℕ → Source → Target → LinkSettings
link_of name source target = record {
  name = name;
  source = Some source;
  target = Some (archetype.Target target);
  snd_settle_mode = Mixed;
  rcv_settle_mode = First;
  initial_delivery_count = 0;
  max_message_size = 0;
}
