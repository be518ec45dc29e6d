-- What a contract sees of a session.
use Rattle.std.specs.Prelude.{◌≡◌, ℕ, ◌-◌, ◌^◌, List, [], ◌∷◌, Bool, true, nat_le, Option, Some, None, Result, Ok, Err}
use Rattle.std.specs.Prelude.{is_some, if◌then◌else◌, slice_index_or, slice_set}
use Rattle.std.specs.FinMap as map
use Rattle.std.specs.Ordering.{nat_cmp}
use Rattle.amqp_session_types.specs.declared.channels.IncomingChannel.{IncomingChannel}
use Rattle.amqp_session_types.specs.declared.channels.OutgoingChannel.{OutgoingChannel}
use Rattle.amqp_session_types.specs.declared.handles.Handle.{Handle}
use Rattle.amqp_session_types.specs.declared.handles.OutputHandle.{OutputHandle}
use Rattle.amqp_session_types.specs.declared.refusals.SessionError.{SessionError}
use Rattle.amqp_session_types.specs.declared.refusals.SessionError.TheVariants.{HandleMaxReached}
use Rattle.amqp_session_outgoing.specs.declared.delivery.Delivery.{Delivery}
use Rattle.amqp_session_outgoing.specs.State as sending
use Rattle.amqp_session_outgoing.specs.History as sending_history
use Rattle.amqp_session_core.specs.declared.state.SessionState.{SessionState}
use Rattle.amqp_session_core.specs.declared.state.SessionState.TheVariants.{Unmapped}
use Rattle.amqp_session_core.specs.declared.fields.SessionFields.{SessionFields}
use Rattle.amqp_session_core.specs.declared.batch.TransferFrame.{TransferFrame}
use Rattle.amqp_session_core.specs.declared.batch.BehindFrame.{BehindFrame}

pub record State (R : Type 0) : Type 0 where
  pub local_state : SessionState
  -- the channel of the peer's Begin, once it came
  pub incoming_channel : Option IncomingChannel
  -- what the session tells of itself
  pub fields : SessionFields
  -- how many transfers were taken since a Flow left
  pub taken : ℕ
  -- the peer's handle-max (part 2, 2.7.2)
  pub handle_max : ℕ
  -- the links, by their own handles
  pub links : List (Option R)
  -- the own handle that is offered to the next link
  pub offered : ℕ
  -- the own handles of links, by the handles that the peer gave them
  pub routes : map.FinMap nat_cmp ℕ
  -- the sending side
  pub outgoing : sending.State TransferFrame BehindFrame
  -- the deliveries that came and aren't settled, by their numbers
  pub received : map.FinMap nat_cmp Delivery

module _ {R : Type 0} where
  -- a session that has neither begun nor links. Until the peer's Begin comes, any handle may be given
  abbrev pub fresh : OutgoingChannel → ℕ → ℕ → State R
  fresh channel first window =
      record {
        local_state = Unmapped;
        incoming_channel = None;
        fields = record { channel = channel; next_incoming_id = None; incoming_window = window };
        taken = 0;
        handle_max = 2 ^ 32 - 1;
        links = [];
        offered = 0;
        routes = map.empty;
        outgoing = sending_history.fresh first;
        received = map.empty;
      }

  -- the link with an own handle
  abbrev pub link_at : State R → ℕ → Option R
  link_at s handle = slice_index_or s.links handle None

  -- the own handle that the next link gets, unless it is above the peer's handle-max (part 2, 2.7.2)
  abbrev pub offered_handle : State R → Result OutputHandle SessionError
  offered_handle s = if nat_le s.offered s.handle_max then Ok (record { 0 = s.offered }) else Err HandleMaxReached

  -- the links, by rising own handle
  abbrev pub links_in : List (Option R) → List R
  links_in [] = []
  links_in (None ∷ links) = links_in links
  links_in (Some link ∷ links) = link ∷ links_in links

  abbrev pub live_in : List (Option R) → Option ℕ → Option ℕ
  live_in links None = None
  live_in links (Some handle) = if is_some (slice_index_or links handle None) then Some handle else None

  -- the own handle of the link that the peer's frames with a handle reach (part 2, 2.6.2)
  abbrev pub reached : State R → ℕ → Option ℕ
  reached s handle = live_in s.links (map.get s.routes handle)

  -- a frame that may have a handle has none, or that of a link
  abbrev pub leads_in : List (Option R) → map.FinMap nat_cmp ℕ → Option Handle → Bool
  leads_in links routes None = true
  leads_in links routes (Some handle) = is_some (live_in links (map.get routes handle.0))

  abbrev pub leads : State R → Option Handle → Bool
  leads s handle = leads_in s.links s.routes handle

-- the link with this own handle takes a step, and every other link stays
pub record StepsAt {R : Type 0} (step : R → R → Type 0) (old : List (Option R)) (handle : ℕ)
    (new : List (Option R)) : Type 0 where
  pub before : R
  pub after : R
  pub had : slice_index_or old handle None ≡ Some before
  pub stepped : step before after
  pub others : new ≡ slice_set old handle (Some after)
