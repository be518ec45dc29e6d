-- A link attaches that answers one that the peer asks for (part 2, 2.6.3).
use Rattle.std.specs.Prelude.{◌≡◌, ℕ, ◌<◌, Bool, true, List, [], ◌∷◌, ◌++◌, Option, Some, None, option_map, Ok}
use Rattle.std.specs.Prelude.{IsSome}
use Rattle.std.specs.FinMap as map
use Rattle.amqp_session_types.specs.declared.handles.InputHandle.{InputHandle}
use Rattle.amqp_session_types.specs.declared.handles.OutputHandle.{OutputHandle}
use Rattle.amqp_session_performatives.specs.declared.attach.Attach.{Attach}
use Rattle.amqp_session_performatives.specs.declared.link_flow.LinkFlow.{LinkFlow}
use Rattle.amqp_session_performatives.specs.declared.session_frame.SessionFrame.{SessionFrame}
use Rattle.amqp_session_core.specs.State.{State}
use Rattle.amqp_session_core.specs.Steps.{Step, Allocates, Changes}
use Rattle.amqp_link_types.specs.declared.link_error.LinkError.{LinkError}
use Rattle.amqp_link.specs.Ends.{with_handle}
use Rattle.amqp_link.specs.Gives.{attaches}
use Rattle.amqp_link.specs.Preparing.{attach_planned, carried_out, left_by}
use Rattle.amqp_link.specs.declared.end.End.{End}
use Rattle.amqp_link.specs.declared.preparing.PreparedAttach.{PreparedAttach}
use Rattle.amqp_link.specs.declared.relay.AttachTold.{AttachTold}
use Rattle.amqp_link_base.specs.declared.exchange.AttachExchange.{AttachExchange}
use Rattle.amqp_link_base.specs.declared.exchange.AttachExchange.TheVariants.{IncompleteUnsettled, Resume}
use Rattle.amqp_link_sender.specs.declared.attaching.Attaching.{Attaching}
use Rattle.amqp_endpoint_links.specs.declared.links.AskedLink.{AskedLink}
use Rattle.amqp_endpoint_links.specs.declared.numbered.Numbered.{Numbered}
use Rattle.amqp_endpoint_attached.specs.Linked.{Linked, LinksIn, gives}
use Rattle.amqp_endpoint_attached.specs.Links.{Announces, FitsNoFrame, attach_frame, attach_sent, offered, with_number}
use Rattle.amqp_endpoint_attached.specs.Refusals.{IsOffered, MayWant, outcome, test_failed}
use Rattle.amqp_endpoint_attached.specs.declared.answering.Answered.{Answered}
use Rattle.amqp_endpoint_attached.specs.declared.exchanging.PreparedAnswer.{PreparedAnswer}
use Rattle.amqp_endpoint_attached.specs.declared.refusal.AttachRefusal.{AttachRefusal}
use Rattle.amqp_endpoint_attached.specs.declared.refusal.AttachRefusal.TheVariants.{HandleMaxReached, HandleInUse, Link}
use Rattle.amqp_endpoint_attached.specs.declared.refusal.AttachRefusal.TheVariants.{FrameTooLarge, Memory}

-- which of the link's tests the Attach of an asked link fails first, if it fails one
abbrev pub asked_failed : End → Option AskedLink → Option LinkError
asked_failed link None = None
asked_failed link (Some asked) = test_failed link asked.attach

-- why it doesn't: no handle is offered that the peer allows, or a test fails, or its own Attach fits no frame, or a
-- link of the session has the peer's handle. Want of memory stands in place of the last two, and of a test alone that
-- tells a list
abbrev pub RefusesAnswer : ℕ → Linked → End → InputHandle → AttachRefusal → Type 0
RefusesAnswer limit s link input HandleMaxReached = s.session.handle_max < s.session.offered
RefusesAnswer limit s link input (Link error) =
    IsOffered s.session × (asked_failed link (map.get s.asked input.0) ≡ Some error)
RefusesAnswer limit s link input FrameTooLarge =
    IsOffered s.session × (asked_failed link (map.get s.asked input.0) ≡ None)
    × FitsNoFrame limit link (offered s.session)
RefusesAnswer limit s link input HandleInUse =
    IsOffered s.session × (asked_failed link (map.get s.asked input.0) ≡ None)
    × IsSome (map.get s.session.routes input.0)
RefusesAnswer limit s link input Memory =
    IsOffered s.session × MayWant (asked_failed link (map.get s.asked input.0))

-- why a link doesn't answer an asked one, but for what the peer's handle leads to
abbrev pub RefusesExchange : {R : Type 0} → ℕ → State R → End → AskedLink → AttachRefusal → Type 0
RefusesExchange limit s link asked HandleMaxReached = s.handle_max < s.offered
RefusesExchange limit s link asked (Link error) = IsOffered s × (test_failed link asked.attach ≡ Some error)
RefusesExchange limit s link asked FrameTooLarge =
    IsOffered s × (test_failed link asked.attach ≡ None) × FitsNoFrame limit link (offered s)
RefusesExchange limit s link asked HandleInUse = ⊥
RefusesExchange limit s link asked Memory = IsOffered s × MayWant (test_failed link asked.attach)

-- a link takes an Attach of the peer, and this is left to be done
pub record Takes (old : End) (attach : Attach) (attaching : Attaching) (new : End) : Type 0 where
  pub told : AttachTold
  pub takes : attaches old attach (Ok told) new
  pub accepts : outcome told ≡ Ok attaching

-- what is told of an exchange: where deliveries go on, and the own Attach lists only a part of those that there are, it
-- is told as incomplete (part 2, 2.7.3)
abbrev pub told_of : Bool → AttachExchange → AttachExchange
told_of true Resume = IncompleteUnsettled
told_of incomplete exchange = exchange

abbrev pub said_by : Bool → Attaching → Attaching
said_by incomplete left = record left { exchange = told_of incomplete left.exchange }

-- a link answers the asked one: it takes the peer's Attach, its own is written of it as it was before, and sent under
-- this handle; this is told of what is left to be done
pub record Exchanges (limit : ℕ) (old : End) (asked : AskedLink) (handle : OutputHandle) (told : Attaching)
    (attach : Attach) (new : End) : Type 0 where
  pub taken : End
  pub left : Attaching
  pub takes : Takes old asked.attach left taken
  pub says : told ≡ said_by attach.incomplete_unsettled left
  pub announces : Announces limit old handle attach
  pub sent : attach_sent (with_handle taken handle) attach.incomplete_unsettled ≡ Some new

-- no link takes the properties of a Flow
abbrev pub plain : LinkFlow → LinkFlow
plain flow = record flow { properties = None }

-- this was made ready for a link that answers the asked one: what the peer's Attach makes of it, its own Attach under
-- this handle, written of the link as it was before, and what was kept of a Flow
pub record IsReady (limit : ℕ) (link : End) (asked : AskedLink) (handle : OutputHandle) (ready : PreparedAnswer)
    : Type 0 where
  pub planned : attach_planned link asked.attach ≡ Ok ready.taken
  pub announces : Announces limit link handle ready.attach
  pub kept : ready.kept ≡ option_map plain asked.flow

-- what the peer's Attach makes of the link, which answers the asked one with this handle, is this
pub record IsTakenSo (s : Linked) (link : End) (input : InputHandle) (taken : PreparedAttach) : Type 0 where
  pub asked : AskedLink
  pub is_asked : map.get s.asked input.0 ≡ Some asked
  pub planned : attach_planned link asked.attach ≡ Ok taken

-- and that is ready with which it answers it under the handle that is offered: one is offered, and no test fails
pub record IsPrepared (limit : ℕ) (s : Linked) (link : End) (input : InputHandle) (ready : PreparedAnswer)
    : Type 0 where
  pub asked : AskedLink
  pub is_asked : map.get s.asked input.0 ≡ Some asked
  pub is : IsReady limit link asked (offered s.session) ready
  pub offers : IsOffered s.session
  pub passes : test_failed link asked.attach ≡ None

-- a link comes to what was made ready, and sends its own Attach under this handle
pub record TakesAll (old : End) (handle : OutputHandle) (prepared : PreparedAttach) (incomplete : Bool)
    (attaching : Attaching) (new : End) : Type 0 where
  pub sent : attach_sent (with_handle (carried_out old prepared) handle) incomplete ≡ Some new
  pub left : attaching ≡ left_by prepared

-- one of a session does
pub record TakesIn (old : LinksIn) (handle : OutputHandle) (prepared : PreparedAttach) (incomplete : Bool)
    (attaching : Attaching) (new : LinksIn) : Type 0 where
  pub number : ℕ
  pub before : End
  pub after : End
  pub takes : TakesAll before handle prepared incomplete attaching after
  pub changed : Step gives old (Changes handle.0 (with_number number before) (with_number number after)) new

-- and its Attach is handed out
pub record SaysAll (old : LinksIn) (out : List SessionFrame) (handle : OutputHandle) (ready : PreparedAnswer)
    (answered : Answered) (new : LinksIn) (out_new : List SessionFrame) : Type 0 where
  pub attaching : Attaching
  pub takes : TakesIn old handle ready.taken ready.attach.incomplete_unsettled attaching new
  pub told : answered ≡ record {
    handle = handle;
    exchange = told_of ready.attach.incomplete_unsettled attaching.exchange;
    aborts = attaching.aborts;
    kept = ready.kept;
  }
  pub handed : out_new ≡ out ++ attach_frame new ready.attach ∷ []

-- what is told of the answer: what is left to be done
abbrev pub left_to_do : Answered → Attaching
left_to_do answered = record { exchange = answered.exchange; aborts = answered.aborts }

-- the link answers the asked one with this handle, and gets the handle that is offered; its Attach is handed out, and
-- what was kept of a Flow is left to be taken
pub record Answers (old : Linked) (out : List SessionFrame) (limit number : ℕ) (link : End) (input : InputHandle)
    (answered : Answered) (new : Linked) (out_new : List SessionFrame) : Type 0 where
  pub asked : AskedLink
  pub is_asked : map.get old.asked input.0 ≡ Some asked
  pub attach : Attach
  pub becomes : End
  pub exchanges : Exchanges limit link asked answered.handle (left_to_do answered) attach becomes
  pub allocates :
      Step gives old.session (Allocates answered.handle.0 (with_number number becomes) (Some input.0)) new.session
  pub kept : answered.kept ≡ option_map plain asked.flow
  pub rest : new ≡ record old { session = new.session; asked = map.remove old.asked input.0 }
  pub handed : out_new ≡ out ++ attach_frame old.session attach ∷ []
