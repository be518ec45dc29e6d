-- What a connection is to its callers.
use Rattle.std.specs.Prelude.{ℕ, Option, Some, None, min}
use Rattle.std.specs.Coded.{Coded, coded_ℕ}
use Rattle.std.specs.Ordering.{nat_cmp}
use Rattle.std.specs.FinMap as map
use Rattle.amqp_session_types.specs.declared.refusals.ConnectionStopReason.{ConnectionStopReason}
use Rattle.amqp_session_performatives.specs.declared.open.Open.{Open}
use Rattle.amqp_session_frames.specs.declared.state.ConnectionState.{ConnectionState}

-- sessions by channel
abbrev pub Table : Type 0
Table = map.FinMap nat_cmp ℕ

abbrev pub table_code : Coded Table
table_code = map.code coded_ℕ coded_ℕ

-- the sessions that have an outgoing channel, by that channel
pub record Channels : Type 0 where
  pub sessions : Table
  -- the channel that is offered to the next session
  pub offered : ℕ

pub record State : Type 0 where
  pub local_state : ConnectionState
  -- the own Open, as it was or will be sent
  pub local_open : Open
  -- the channel-max of the peer's Open, once it came
  pub remote_channel_max : Option ℕ
  -- the live sessions, by outgoing channel
  pub live : Table
  -- the outgoing channel that is offered to the next session
  pub offered : ℕ
  -- the sessions to which the peer's frames go, by the channel that they come on
  pub routes : Table
  pub stop_reason : Option ConnectionStopReason

-- a connection in this state, with this Open to send
abbrev pub fresh : ConnectionState → Open → State
fresh state opening =
    record {
      local_state = state;
      local_open = opening;
      remote_channel_max = None;
      live = map.empty;
      offered = 0;
      routes = map.empty;
      stop_reason = None;
    }

-- the highest outgoing channel: the smaller of both channel-max, the own alone where the peer's Open did not come (part
-- 2, 2.7.1)
abbrev pub highest_channel : ℕ → Option ℕ → ℕ
highest_channel own None = own
highest_channel own (Some peer) = min own peer

abbrev pub channel_limit : State → ℕ
channel_limit s = highest_channel s.local_open.channel_max s.remote_channel_max
