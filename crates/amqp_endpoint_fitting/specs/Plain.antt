-- Performatives that say no more than numbers and flags, and a condition where there is an error: part 2, 2.7.
use Rattle.std.specs.Prelude.{◌≡◌, ℕ, ◌<◌, ◌≤◌, ◌^◌, true, List, [], length, Option, None, IfSome, codes}
use Rattle.std.specs.Str.{is_utf8}
use Rattle.amqp_session_types.specs.declared.error.Error.{Error}
use Rattle.amqp_session_states.specs.declared.delivery_state.DeliveryState.{DeliveryState}
use Rattle.amqp_session_states.specs.declared.delivery_state.DeliveryState.TheVariants.{Accepted, Released}
use Rattle.amqp_session_performatives.specs.declared.begin.Begin.{Begin}
use Rattle.amqp_session_performatives.specs.declared.detach.Detach.{Detach}
use Rattle.amqp_session_performatives.specs.declared.disposition.Disposition.{Disposition}
use Rattle.amqp_session_performatives.specs.declared.end.End.{End}
use Rattle.amqp_session_performatives.specs.declared.flow.Flow.{Flow}

-- a number of a uint (part 1, 1.6.5), and one that may be absent
abbrev pub IsUint : ℕ → Type 0
IsUint n = n < 2 ^ 32

abbrev pub MayBeUint : Option ℕ → Type 0
MayBeUint number = IfSome number IsUint

-- an error that says its condition alone, a text of at most 200 bytes (2.8.14)
pub record SaysConditionAlone (error : Error) : Type 0 where
  pub text : is_utf8 error.condition ≡ true
  pub short : length error.condition ≤ 200
  pub description : error.description ≡ None
  pub info : error.info ≡ None

-- no capabilities, and no properties (2.7.2)
pub record IsPlainBegin (begin : Begin) : Type 0 where
  pub remote_channel : IfSome begin.remote_channel (λ n. n < 2 ^ 16)
  pub next_outgoing_id : IsUint begin.next_outgoing_id
  pub incoming_window : IsUint begin.incoming_window
  pub outgoing_window : IsUint begin.outgoing_window
  pub handle_max : IsUint begin.handle_max
  pub offered_capabilities : begin.offered_capabilities ≡ []
  pub desired_capabilities : begin.desired_capabilities ≡ []
  pub properties : begin.properties ≡ None

-- no properties (2.7.4)
pub record IsPlainFlow (flow : Flow) : Type 0 where
  pub next_incoming_id : MayBeUint flow.next_incoming_id
  pub incoming_window : IsUint flow.incoming_window
  pub next_outgoing_id : IsUint flow.next_outgoing_id
  pub outgoing_window : IsUint flow.outgoing_window
  pub handle : IfSome flow.handle (λ h. IsUint h.0)
  pub delivery_count : MayBeUint flow.delivery_count
  pub link_credit : MayBeUint flow.link_credit
  pub available : MayBeUint flow.available
  pub properties : flow.properties ≡ None

-- a state that says nothing more (part 3, 3.4.2, 3.4.4)
abbrev pub IsPlainState : DeliveryState → Type 0
IsPlainState (Accepted x) = Unit {0}
IsPlainState (Released x) = Unit {0}
IsPlainState state = ⊥

-- the state is absent, accepted or released (2.7.6)
pub record IsPlainDisposition (disposition : Disposition) : Type 0 where
  pub first : IsUint disposition.first
  pub last : MayBeUint disposition.last
  pub state : IfSome disposition.state IsPlainState

-- no error, or one that says its condition alone (2.7.7)
pub record IsPlainDetach (detach : Detach) : Type 0 where
  pub handle : IsUint (detach.handle).0
  pub error : IfSome detach.error SaysConditionAlone

-- likewise (2.7.8)
pub record IsPlainEnd (end : End) : Type 0 where
  pub error : IfSome end.error SaysConditionAlone

-- conditions of sessions (2.8.17), and of links (2.8.18)
abbrev pub unattached_handle : List ℕ
unattached_handle = codes "amqp:session:unattached-handle"

abbrev pub handle_in_use : List ℕ
handle_in_use = codes "amqp:session:handle-in-use"

abbrev pub transfer_limit_exceeded : List ℕ
transfer_limit_exceeded = codes "amqp:link:transfer-limit-exceeded"

abbrev pub message_size_exceeded : List ℕ
message_size_exceeded = codes "amqp:link:message-size-exceeded"
