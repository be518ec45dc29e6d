-- How an attachment of a receiving link begins: part 2, 2.6.3 and 2.6.13.
use Rattle.std.specs.Prelude.{◌≡◌, ◌⊎◌, ℕ, Bool, Option, Some, None, option_map, unwrap_or, Result, Ok, Err, alloc_error}
use Rattle.std.specs.declared.alloc.AllocError.{AllocError}
use Rattle.amqp_session_types.specs.declared.handles.InputHandle.{InputHandle}
use Rattle.amqp_session_types.specs.declared.handles.OutputHandle.{OutputHandle}
use Rattle.amqp_session_types.specs.declared.modes.Role.TheVariants.{Receiver}
use Rattle.amqp_session_performatives.specs.declared.attach.Attach.{Attach}
use Rattle.amqp_link_types.specs.declared.attaching.ReceiverAttachError.{ReceiverAttachError}
use Rattle.amqp_link_types.specs.declared.attaching.ReceiverAttachError.TheVariants as refused
use Rattle.amqp_link_base.specs.Attach.{receiver_tests}
use Rattle.amqp_link_base.specs.Exchange.{exchange, lists_none}
use Rattle.amqp_link_base.specs.Properties.{Properties, merged}
use Rattle.amqp_link_base.specs.State.{after_incoming_attach}
use Rattle.amqp_link_base.specs.Terms.{adopted_by_receiver}
use Rattle.amqp_link_base.specs.Tests.{first_of, IsOfFilters}
use Rattle.amqp_link_base.specs.Moves.{sent_attach, took_attach}
use Rattle.amqp_link_base.specs.Own.{own_attach}
use Rattle.amqp_link_base.specs.declared.base.LinkBase.{LinkBase}
use Rattle.amqp_link_base.specs.declared.exchange.AttachExchange.{AttachExchange}
use Rattle.amqp_link_base.specs.declared.state.LinkState.{LinkState}
use Rattle.amqp_link_base.specs.declared.terms.Terms.{Terms}
use Rattle.amqp_link_base.specs.Flows.{attached}
use Rattle.amqp_link_receiver.specs.Listed.{listed_as}
use Rattle.amqp_link_unsettled.specs.Listing.{Entries, entries_listed}
use Rattle.amqp_link_receiver.specs.declared.attaching.Attached.{Attached}
use Rattle.amqp_link_receiver.specs.declared.attaching.Attached.TheVariants as answer
use Rattle.amqp_link_receiver.specs.State.{ReceiverState}

-- the own Attach under an own handle, without its list, and what it is to list
abbrev pub unlisted : ReceiverState → OutputHandle → Attach
unlisted s handle = own_attach s.base handle Receiver s.end.flow.initial_delivery_count

abbrev pub to_list : ReceiverState → Entries
to_list s = entries_listed listed_as s.end.unsettled

-- the own Attach is sent: there is no credit in the attachment that it begins
abbrev pub attach_sent : ReceiverState → Bool → Option ReceiverState
attach_sent s incomplete =
    option_map
    (λ (b : LinkBase).
    record s {
      base = b;
      end = record s.end { flow = attached s.end.flow s.end.flow.initial_delivery_count };
    })
    (sent_attach s.base incomplete)

-- why the peer's Attach is refused: the first of the receiver's tests that applies
abbrev pub attach_error : ReceiverState → Attach → Option ReceiverAttachError
attach_error s attach = first_of (receiver_tests s.base.terms.source s.base.terms.target attach)

-- the peer's Attach is accepted: its terms, its count of deliveries and its properties are taken over
abbrev pub accepted : ReceiverState → LinkBase → Attach → ReceiverState
accepted s moved attach =
    record s {
      base = record moved { terms = adopted_by_receiver moved.terms attach };
      end = record s.end { flow = attached s.end.flow (unwrap_or attach.initial_delivery_count 0) };
      properties = merged s.properties attach.properties;
    }

-- what is left to be done then
abbrev pub left_to_do : LinkBase → Attach → Attached
left_to_do moved attach = answer.Attached (exchange moved.local_state (lists_none attach.unsettled))

-- what the peer's Attach makes of a link: where it stands, the handle that stands for it, its terms and properties, its
-- count of deliveries, and what is left to be done
pub record Plan : Type 0 where
  pub state : LinkState
  pub handle : InputHandle
  pub terms : Terms
  pub properties : Option Properties
  pub count : ℕ
  pub exchange : AttachExchange

-- by an Attach that is accepted and leads to this state
abbrev pub planned : ReceiverState → LinkState → Attach → Plan
planned s state attach =
    record {
      state = state;
      handle = record { 0 = attach.handle.0 };
      terms = adopted_by_receiver s.base.terms attach;
      properties = merged s.properties attach.properties;
      count = unwrap_or attach.initial_delivery_count 0;
      exchange = exchange state (lists_none attach.unsettled);
    }

-- the link as it is planned
abbrev pub carried_out : ReceiverState → Plan → ReceiverState
carried_out s plan =
    record s {
      base = record s.base { local_state = plan.state; input_handle = Some plan.handle; terms = plan.terms };
      end = record s.end { flow = attached s.end.flow plan.count };
      properties = plan.properties;
    }

-- what is planned where the state allows an Attach and no test refuses it, or why it is refused
abbrev pub planned_by : Option LinkState → Option ReceiverAttachError → ReceiverState → Attach
    → Result Plan ReceiverAttachError
planned_by None error s attach = Err refused.IllegalState
planned_by (Some state) (Some error) s attach = Err error
planned_by (Some state) None s attach = Ok (planned s state attach)

abbrev pub attach_planned : ReceiverState → Attach → Result Plan ReceiverAttachError
attach_planned s attach =
    planned_by (after_incoming_attach s.base.local_state attach.incomplete_unsettled) (attach_error s attach) s attach

-- there may be no memory for what is planned, or for the list of filters that an Attach is refused with
abbrev pub MayWantMemory : Result Plan ReceiverAttachError → Type 0
MayWantMemory (Ok plan) = Unit {0}
MayWantMemory (Err error) = IsOfFilters (Some error)

-- there is no memory for what is taken over, and the link stays; or the peer's Attach is accepted
abbrev pub Accepts : LinkBase → ReceiverState → Attach → Result Attached AllocError → ReceiverState → Type 0
Accepts moved old attach result new =
    ((result ≡ Err alloc_error) × (new ≡ old))
    ⊎ ((result ≡ Ok (left_to_do moved attach)) × (new ≡ accepted old moved attach))

-- the peer's Attach comes where the state allows none, or is refused, which moves state and handle alone, or is
-- accepted. There may be no memory for what is taken over, or for the list of filters that it is refused with; the
-- link stays then
abbrev pub TakesAttach : Option LinkBase → Option ReceiverAttachError → ReceiverState → Attach
    → Result Attached AllocError → ReceiverState → Type 0
TakesAttach None error old attach result new = (result ≡ Ok (answer.Refused refused.IllegalState)) × (new ≡ old)
TakesAttach (Some moved) (Some error) old attach result new =
    (IsOfFilters (Some error) × (result ≡ Err alloc_error) × (new ≡ old))
    ⊎ ((result ≡ Ok (answer.Refused error)) × (new ≡ record old { base = moved }))
TakesAttach (Some moved) None old attach result new = Accepts moved old attach result new

abbrev pub AttachTaken : ReceiverState → Attach → Result Attached AllocError → ReceiverState → Type 0
AttachTaken old attach result new =
    TakesAttach (took_attach old.base attach) (attach_error old attach) old attach result new
