-- How an attachment of a sending link begins: part 2, 2.6.3 and 2.6.13.
use Rattle.std.specs.Prelude.{◌≡◌, ◌⊎◌, ◌==◌, ◌&&◌, ℕ, Bool, true, false, length, Option, Some, None, option_map}
use Rattle.std.specs.Prelude.{Result, Ok, Err, IsOk, alloc_error}
use Rattle.std.specs.declared.alloc.AllocError.{AllocError}
use Rattle.amqp_session_types.specs.declared.handles.InputHandle.{InputHandle}
use Rattle.amqp_session_types.specs.declared.handles.OutputHandle.{OutputHandle}
use Rattle.amqp_session_performatives.specs.declared.attach.Attach.{Attach}
use Rattle.amqp_session_performatives.specs.declared.transfer.Transfer.{Transfer}
use Rattle.amqp_session_types.specs.declared.modes.Role.TheVariants.{Sender}
use Rattle.amqp_link_types.specs.declared.attaching.SenderAttachError.{SenderAttachError}
use Rattle.amqp_link_types.specs.declared.attaching.SenderAttachError.TheVariants.{IllegalState}
use Rattle.amqp_link_base.specs.Attach.{sender_tests}
use Rattle.amqp_link_base.specs.Exchange.{exchange, lists_none}
use Rattle.amqp_link_base.specs.Properties.{Properties, merged}
use Rattle.amqp_link_base.specs.Terms.{adopted_by_sender}
use Rattle.amqp_link_base.specs.Tests.{first_of}
use Rattle.amqp_link_base.specs.declared.exchange.AttachExchange.{AttachExchange}
use Rattle.amqp_link_base.specs.Moves.{moved_to, sent_attach, took_attach}
use Rattle.amqp_link_base.specs.Own.{own_attach}
use Rattle.amqp_link_base.specs.State.{after_incoming_attach}
use Rattle.amqp_link_base.specs.declared.base.LinkBase.{LinkBase}
use Rattle.amqp_link_base.specs.declared.state.LinkState.{LinkState}
use Rattle.amqp_link_base.specs.declared.terms.Terms.{Terms}
use Rattle.amqp_link_base.specs.Flows.{attached}
use Rattle.amqp_link_unsettled.specs.Exchanging.{aborts, exchanged}
use Rattle.amqp_link_unsettled.specs.Exchanging as messages
use Rattle.amqp_link_unsettled.specs.Messages.{failed}
use Rattle.amqp_link_unsettled.specs.declared.exchanging.Abort.{Abort}
use Rattle.amqp_link_unsettled.specs.declared.resolution.Failure.TheVariants as failure
use Rattle.amqp_link_unsettled.specs.Listing.{Entries, Lists, FitsNowhere, entries_listed}
use Rattle.amqp_link_unsettled.specs.declared.listing.ListError.{ListError}
use Rattle.amqp_link_unsettled.specs.declared.listing.ListError.TheVariants.{TooLarge, Memory}
use Rattle.amqp_link_sender.specs.declared.attaching.AttachAnswer.{AttachAnswer}
use Rattle.amqp_link_sender.specs.declared.attaching.AttachAnswer.TheVariants.{Refused, Attached}
use Rattle.amqp_link_sender.specs.declared.attaching.Attaching.{Attaching}
use Rattle.amqp_link_sender.specs.Sending.{Sending}

-- the own Attach under an own handle, without its list: its count of deliveries is that of the link
abbrev pub attach_without_list : Sending → OutputHandle → Attach
attach_without_list s handle = own_attach s.base handle Sender s.flow.delivery_count

-- the open messages with the states that the receiver told of them
abbrev pub listed : Sending → Entries
listed s = entries_listed (λ m. m.state) s.messages.unsettled

-- the own Attach lists as many of the open messages as a frame of at most so many bytes holds, or it doesn't fit
-- without any of them, or there is no memory
abbrev pub TellsAttach : ℕ → OutputHandle → Sending → Result Attach ListError → Type 0
TellsAttach limit handle s (Ok attach) = Lists limit (attach_without_list s handle) (listed s) attach
TellsAttach limit handle s (Err TooLarge) = FitsNowhere limit (attach_without_list s handle) (listed s)
TellsAttach limit handle s (Err Memory) = Unit {0}

-- there is no credit in an attachment as it begins, and its count begins where the link's stands
abbrev pub with_attach_sent : Sending → LinkBase → Sending
with_attach_sent s moved = record s { base = moved; flow = attached s.flow s.flow.delivery_count }

-- the own Attach is sent
abbrev pub attach_sent : Sending → Bool → Option Sending
attach_sent s incomplete = option_map (λ (moved : LinkBase). with_attach_sent s moved) (sent_attach s.base incomplete)

-- it is sent anew, and nothing that was unsettled is known any more
abbrev pub attach_sent_anew : Sending → Option Sending
attach_sent_anew s =
    option_map
    (λ (moved : LinkBase). record (with_attach_sent s moved) { messages = failed s.messages failure.Closed })
    (sent_attach s.base false)

-- what the receiver's Attach is refused for
abbrev pub attach_refusal : Sending → Attach → Option SenderAttachError
attach_refusal s attach =
    first_of (sender_tests s.base.terms.source s.base.terms.target s.base.terms.snd_settle_mode attach)

-- it is taken over, and the open messages come to what it lists of them
abbrev pub attach_taken : Sending → LinkBase → Attach → Sending
attach_taken s moved attach =
    record s {
      base = record moved { terms = adopted_by_sender s.base.terms attach };
      flow = record s.flow { properties = merged s.flow.properties attach.properties };
      messages = exchanged s.messages attach.unsettled attach.incomplete_unsettled;
    }

-- what is left to be done for messages: nothing where neither end has an unsettled one
abbrev pub exchange_left : Sending → LinkBase → Attach → AttachExchange
exchange_left s moved attach =
    exchange moved.local_state (length s.messages.unsettled == 0 && lists_none attach.unsettled)

-- what is told of an Attach that is taken
abbrev pub attach_told : Sending → LinkBase → Attach → AttachAnswer
attach_told s moved attach =
    Attached (record {
      exchange = exchange_left s moved attach;
      aborts = aborts s.messages attach.unsettled attach.incomplete_unsettled;
    })

-- there is no memory, and the link stays; or the Attach is taken
abbrev pub TakesOver : LinkBase → Sending → Attach → Result AttachAnswer AllocError → Sending → Type 0
TakesOver moved old attach answer new =
    ((answer ≡ Err alloc_error) × (new ≡ old))
    ⊎ ((answer ≡ Ok (attach_told old moved attach)) × (new ≡ attach_taken old moved attach))

-- an Attach is refused by the first test that fails, and the link's state and the peer's handle alone are new; or it
-- isn't
abbrev pub TakesTested : Option SenderAttachError → LinkBase → Sending → Attach → Result AttachAnswer AllocError
    → Sending → Type 0
TakesTested (Some error) moved old attach answer new =
    (answer ≡ Ok (Refused error)) × (new ≡ record old { base = moved })
TakesTested None moved old attach answer new = TakesOver moved old attach answer new

-- an Attach that the link's state doesn't allow changes nothing
abbrev pub TakesMoved : Option LinkBase → Sending → Attach → Result AttachAnswer AllocError → Sending → Type 0
TakesMoved None old attach answer new = (answer ≡ Ok (Refused IllegalState)) × (new ≡ old)
TakesMoved (Some moved) old attach answer new = TakesTested (attach_refusal old attach) moved old attach answer new

-- what the receiver's Attach makes of a link: where it stands, the handle that stands for it, its terms and properties,
-- what becomes of its open messages, and what is left to be done for them
pub record Plan : Type 0 where
  pub state : LinkState
  pub handle : InputHandle
  pub terms : Terms
  pub properties : Option Properties
  pub messages : messages.Plan
  pub exchange : AttachExchange

-- by an Attach that is taken and leads to this state
abbrev pub planned : Sending → LinkState → Attach → Plan
planned s state attach =
    record {
      state = state;
      handle = record { 0 = attach.handle.0 };
      terms = adopted_by_sender s.base.terms attach;
      properties = merged s.flow.properties attach.properties;
      messages = messages.planned s.messages attach.unsettled attach.incomplete_unsettled;
      exchange = exchange_left s (moved_to s.base attach state) attach;
    }

-- the link as it is planned
abbrev pub carried_out : Sending → Plan → Sending
carried_out s plan =
    record s {
      base = record s.base { local_state = plan.state; input_handle = Some plan.handle; terms = plan.terms };
      flow = record s.flow { properties = plan.properties };
      messages = messages.carried_out s.messages plan.messages;
    }

-- and what is left to be done
abbrev pub left_by : Plan → Attaching
left_by plan = record { exchange = plan.exchange; aborts = plan.messages.aborts }

-- what is planned where the state allows an Attach and no test refuses it, or why it is refused
abbrev pub planned_by : Option LinkState → Option SenderAttachError → Sending → Attach → Result Plan SenderAttachError
planned_by None error s attach = Err IllegalState
planned_by (Some state) (Some error) s attach = Err error
planned_by (Some state) None s attach = Ok (planned s state attach)

abbrev pub attach_planned : Sending → Attach → Result Plan SenderAttachError
attach_planned s attach =
    planned_by (after_incoming_attach s.base.local_state attach.incomplete_unsettled) (attach_refusal s attach) s attach

-- the receiver's Attach comes
abbrev pub TakesAttach : Sending → Attach → Result AttachAnswer AllocError → Sending → Type 0
TakesAttach old attach answer new = TakesMoved (took_attach old.base attach) old attach answer new

-- the transfer that gives a delivery up, which says nothing of a message (part 2, 2.6.13 and 2.7.5)
abbrev pub abort_transfer : Abort → Transfer
abort_transfer abort =
    record {
      handle = record { 0 = 0 };
      delivery_id = None;
      delivery_tag = Some abort.tag;
      message_format = Some abort.message_format;
      settled = None;
      more = false;
      rcv_settle_mode = None;
      state = None;
      resume = true;
      aborted = true;
      batchable = false;
    }
