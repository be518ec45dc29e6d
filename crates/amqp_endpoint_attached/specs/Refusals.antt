-- Why a link of an endpoint doesn't attach (part 2, 2.6.3, 2.7.2, 2.7.3).
use Rattle.std.specs.Prelude.{◌≡◌, ◌⊎◌, ℕ, ◌<◌, ◌≤◌, [], Option, Some, None, option_map, Result, Ok, Err, IsSome}
use Rattle.std.specs.FinMap as map
use Rattle.amqp_session_types.specs.declared.handles.OutputHandle.{OutputHandle}
use Rattle.amqp_session_types.specs.declared.refusals.SessionError.{SessionError}
use Rattle.amqp_session_types.specs.declared.refusals.SessionError.TheVariants as session
use Rattle.amqp_session_performatives.specs.declared.attach.Attach.{Attach}
use Rattle.amqp_session_core.specs.State.{State}
use Rattle.amqp_link_types.specs.declared.attaching.ReceiverAttachError.{ReceiverAttachError}
use Rattle.amqp_link_types.specs.declared.attaching.ReceiverAttachError.TheVariants.{DesiredFilterNotSupported}
use Rattle.amqp_link_types.specs.declared.attaching.ReceiverAttachError.TheVariants.{Memory as NoMemory}
use Rattle.amqp_link_types.specs.declared.link_error.LinkError.{LinkError}
use Rattle.amqp_link_types.specs.declared.link_error.LinkError.TheVariants.{SenderAttach, ReceiverAttach}
use Rattle.amqp_link.specs.declared.end.End.{End}
use Rattle.amqp_link.specs.declared.end.End.TheVariants.{Sender, Receiver}
use Rattle.amqp_link.specs.declared.relay.AttachTold.{AttachTold}
use Rattle.amqp_link.specs.declared.relay.AttachTold.TheVariants as told
use Rattle.amqp_link_receiver.specs.Attaching as receiver
use Rattle.amqp_link_receiver.specs.declared.attaching.Attached.{Attached}
use Rattle.amqp_link_receiver.specs.declared.attaching.Attached.TheVariants as receiver_told
use Rattle.amqp_link_sender.specs.Attaching as sender
use Rattle.amqp_link_sender.specs.declared.attaching.AttachAnswer.{AttachAnswer}
use Rattle.amqp_link_sender.specs.declared.attaching.AttachAnswer.TheVariants as sender_told
use Rattle.amqp_link_sender.specs.declared.attaching.Attaching.{Attaching}
use Rattle.amqp_endpoint_attached.specs.Links.{FitsNoFrame}
use Rattle.amqp_endpoint_attached.specs.declared.refusal.AttachRefusal.{AttachRefusal}
use Rattle.amqp_endpoint_attached.specs.declared.refusal.AttachRefusal.TheVariants.{HandleMaxReached, HandleInUse, Link}
use Rattle.amqp_endpoint_attached.specs.declared.refusal.AttachRefusal.TheVariants.{FrameTooLarge, Memory}

-- the session's refusal of a handle
abbrev pub refusal_of : SessionError → AttachRefusal
refusal_of session.HandleMaxReached = HandleMaxReached
refusal_of session.HandleInUse = HandleInUse
refusal_of e = Memory

-- which of the link's tests a peer's Attach fails first, if it fails one
abbrev pub test_failed : End → Attach → Option LinkError
test_failed (Sender s) attach = option_map SenderAttach (sender.attach_refusal s attach)
test_failed (Receiver r) attach = option_map ReceiverAttach (receiver.attach_error r attach)

-- what is left to be done behind a peer's Attach, or the link's own refusal of it. A receiver gives no delivery up
abbrev pub sender_outcome : AttachAnswer → Result Attaching AttachRefusal
sender_outcome (sender_told.Refused error) = Err (Link (SenderAttach error))
sender_outcome (sender_told.Attached attaching) = Ok attaching

abbrev pub receiver_outcome : Attached → Result Attaching AttachRefusal
receiver_outcome (receiver_told.Refused error) = Err (Link (ReceiverAttach error))
receiver_outcome (receiver_told.Attached exchange) = Ok (record { exchange = exchange; aborts = [] })

abbrev pub outcome : AttachTold → Result Attaching AttachRefusal
outcome (told.Sender answer) = sender_outcome answer
outcome (told.Receiver answer) = receiver_outcome answer

-- a test tells a list: the filters that the peer doesn't apply
abbrev pub TellsList : Option LinkError → Type 0
TellsList (Some (ReceiverAttach (DesiredFilterNotSupported filters))) = Unit {0}
TellsList failed = ⊥

-- no test fails, or the first that does tells a list: there may be no memory
abbrev pub MayWant : Option LinkError → Type 0
MayWant failed = (failed ≡ None) ⊎ TellsList failed

-- the link refuses the peer's Attach, or there is no memory for what it makes of the link, or for a test's list
abbrev pub RefusesPeer : End → Attach → AttachRefusal → Type 0
RefusesPeer link attach (Link error) = test_failed link attach ≡ Some error
RefusesPeer link attach Memory = MayWant (test_failed link attach)
RefusesPeer link attach refusal = ⊥

-- what is found of the link's tests, of which the first that fails is this: that none fails, its error, or, in place of
-- a list alone, want of memory for it
abbrev pub FindsTested : Option LinkError → Option AttachRefusal → Type 0
FindsTested failed None = failed ≡ None
FindsTested failed (Some (Link error)) = failed ≡ Some error
FindsTested failed (Some Memory) = TellsList failed
FindsTested failed (Some refusal) = ⊥

-- what a receiver's test answers is told so
abbrev pub told_of : ReceiverAttachError → AttachRefusal
told_of NoMemory = Memory
told_of error = Link (ReceiverAttach error)

-- the own Attach doesn't fit a frame, or there is no memory for it
abbrev pub RefusesOwn : ℕ → End → OutputHandle → AttachRefusal → Type 0
RefusesOwn limit link handle FrameTooLarge = FitsNoFrame limit link handle
RefusesOwn limit link handle Memory = Unit {0}
RefusesOwn limit link handle refusal = ⊥

-- a handle is offered that the peer allows (part 2, 2.7.2)
abbrev pub IsOffered : {R : Type 0} → State R → Type 0
IsOffered s = s.offered ≤ s.handle_max

-- a link gets no handle, with the peer's where there is one: the one that is offered is above the peer's handle-max, a
-- link has the peer's, or there is no memory
abbrev pub RefusesHandle : {R : Type 0} → State R → Option ℕ → AttachRefusal → Type 0
RefusesHandle s input HandleMaxReached = s.handle_max < s.offered
RefusesHandle s (Some input) HandleInUse = IsSome (map.get s.routes input)
RefusesHandle s None HandleInUse = ⊥
RefusesHandle s input Memory = IsOffered s
RefusesHandle s input FrameTooLarge = ⊥
RefusesHandle s input (Link error) = ⊥
