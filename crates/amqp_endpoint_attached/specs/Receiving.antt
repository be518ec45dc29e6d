-- The credit that an endpoint gives by a receiving link: part 2, 2.6.7.
use Rattle.std.specs.Prelude.{◌≡◌, ℕ, ◌<◌, ◌≤◌, ◌^◌, List, ◌++◌, Bool, true, false, Option, Some, None, Result, Ok, Err}
use Rattle.std.specs.Prelude.{⊤}
use Rattle.amqp_session_types.specs.declared.handles.OutputHandle.{OutputHandle}
use Rattle.amqp_session_performatives.specs.declared.link_flow.LinkFlow.{LinkFlow}
use Rattle.amqp_session_performatives.specs.declared.session_frame.SessionFrame.{SessionFrame}
use Rattle.amqp_session_core.specs.declared.batch.BehindFrame.TheVariants.{Flow}
use Rattle.amqp_session_core.specs.Steps.{Step, Changes}
use Rattle.amqp_link_base.specs.State.{is_attached}
use Rattle.amqp_link_base.specs.Flows.{draining}
use Rattle.amqp_link_receiver.specs.declared.flowing.Granted.{Granted}
use Rattle.amqp_link_receiver.specs.Flowing.{credited, own_flow, with_flow}
use Rattle.amqp_link_receiver.specs.State.{ReceiverState}
use Rattle.amqp_link.specs.declared.end.End.{End}
use Rattle.amqp_link.specs.declared.end.End.TheVariants.{Sender, Receiver}
use Rattle.amqp_endpoint_links.specs.declared.numbered.Numbered.{Numbered}
use Rattle.amqp_endpoint_model.specs.declared.error.EndpointError.{EndpointError}
use Rattle.amqp_endpoint_model.specs.declared.error.EndpointError.TheVariants.{Memory, CreditOutOfRange, IllegalState}
use Rattle.amqp_endpoint_attached.specs.Linked.{Linked, LinksIn, gives, end_at}
use Rattle.amqp_endpoint_attached.specs.Sent.{Sends}

-- it is a receiving link, and attached
abbrev pub is_receiving : Option End → Bool
is_receiving None = false
is_receiving (Some (Sender s)) = false
is_receiving (Some (Receiver r)) = is_attached r.base.local_state

-- a receiving link, with its number
abbrev pub receiving : ℕ → ReceiverState → Numbered End
receiving number r = record { number = number; link = Receiver r }

-- the credit is to be used up
abbrev pub drained : ReceiverState → ReceiverState
drained r = with_flow r (draining r.end.flow)

-- the Flow that shows count, credit and drain of the link with this own handle, and no properties (part 2, 2.7.4)
abbrev pub shown_flow : OutputHandle → ReceiverState → LinkFlow
shown_flow handle r = record (own_flow r) { handle = record { 0 = handle.0 } }

-- the owner of an end of a link gives so much credit by it
abbrev pub GivesCredit : End → ℕ → Granted → End → Type 0
GivesCredit (Receiver r) credit granted (Receiver after) =
    (granted ≡ record { left = r.end.flow.link_credit; flow = own_flow (credited r credit) })
    × (after ≡ credited r credit)
GivesCredit old credit granted new = ⊥

-- or wants it used up
abbrev pub WantsDrain : End → LinkFlow → End → Type 0
WantsDrain (Receiver r) flow (Receiver after) = (flow ≡ own_flow (drained r)) × (after ≡ drained r)
WantsDrain old flow new = ⊥

-- so much credit is given by a link of a session: what was left before, and the Flow that shows it, are told
pub record GivesIn (old : LinksIn) (handle : OutputHandle) (credit : ℕ) (granted : Granted) (new : LinksIn)
    : Type 0 where
  pub number : ℕ
  pub receiver : ReceiverState
  pub attached : is_attached receiver.base.local_state ≡ true
  pub told : granted ≡ record { left = receiver.end.flow.link_credit; flow = own_flow (credited receiver credit) }
  pub changed : Step gives old
      (Changes handle.0 (receiving number receiver) (receiving number (credited receiver credit))) new

-- the credit of a link of a session is to be used up: the Flow that shows it is told
pub record DrainsIn (old : LinksIn) (handle : OutputHandle) (flow : LinkFlow) (new : LinksIn) : Type 0 where
  pub number : ℕ
  pub receiver : ReceiverState
  pub attached : is_attached receiver.base.local_state ≡ true
  pub told : flow ≡ own_flow (drained receiver)
  pub changed : Step gives old (Changes handle.0 (receiving number receiver) (receiving number (drained receiver))) new

-- an attached receiving link gives so much credit, in place of what was left, and its Flow is sent
pub record CreditGiven (old : Linked) (handle : OutputHandle) (credit left : ℕ) (out : List SessionFrame) (new : Linked)
    (out_new : List SessionFrame) : Type 0 where
  pub number : ℕ
  pub receiver : ReceiverState
  pub frames : List SessionFrame
  pub attached : is_attached receiver.base.local_state ≡ true
  pub in_range : credit < 2 ^ 31
  pub was_left : left ≡ receiver.end.flow.link_credit
  pub sent : Sends old handle (receiving number receiver) (receiving number (credited receiver credit))
      (Flow (shown_flow handle (credited receiver credit))) frames new
  pub added : out_new ≡ out ++ frames

-- an attached receiving link wants its credit used up, and its Flow is sent
pub record DrainWanted (old : Linked) (handle : OutputHandle) (out : List SessionFrame) (new : Linked)
    (out_new : List SessionFrame) : Type 0 where
  pub number : ℕ
  pub receiver : ReceiverState
  pub frames : List SessionFrame
  pub attached : is_attached receiver.base.local_state ≡ true
  pub sent : Sends old handle (receiving number receiver) (receiving number (drained receiver))
      (Flow (shown_flow handle (drained receiver))) frames new
  pub added : out_new ≡ out ++ frames

-- why so much credit isn't given: no attached receiving link is there, then it is too much, then there is no memory
abbrev pub RefusesGrant : Option End → ℕ → EndpointError → Type 0
RefusesGrant link credit IllegalState = is_receiving link ≡ false
RefusesGrant link credit CreditOutOfRange = (is_receiving link ≡ true) × (2 ^ 31 ≤ credit)
RefusesGrant link credit Memory = (is_receiving link ≡ true) × (credit < 2 ^ 31)
RefusesGrant link credit e = ⊥

-- why the credit isn't to be used up: no attached receiving link is there, or there is no memory
abbrev pub RefusesDrain : Option End → EndpointError → Type 0
RefusesDrain link IllegalState = is_receiving link ≡ false
RefusesDrain link Memory = is_receiving link ≡ true
RefusesDrain link e = ⊥

-- how so much credit is given: the credit that was left is told
abbrev pub GrantAnswered : Linked → OutputHandle → ℕ → Result ℕ EndpointError → List SessionFrame → Linked
    → List SessionFrame → Type 0
GrantAnswered old handle credit (Ok left) out new out_new = CreditGiven old handle credit left out new out_new
GrantAnswered old handle credit (Err e) out new out_new = RefusesGrant (end_at old handle) credit e

-- how a drain is wanted
abbrev pub DrainAnswered : Linked → OutputHandle → Result ⊤ EndpointError → List SessionFrame → Linked
    → List SessionFrame → Type 0
DrainAnswered old handle (Ok done) out new out_new = DrainWanted old handle out new out_new
DrainAnswered old handle (Err e) out new out_new = RefusesDrain (end_at old handle) e
