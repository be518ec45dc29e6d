-- What a peer's Attach is refused for: part 2, 2.6.3 and 2.7.3.
use Rattle.std.specs.Prelude.{ℕ, Bool, true, false, is_none, List, [], ◌∷◌, ◌++◌, Option, Some, None}
use Rattle.amqp_link_types.specs.declared.attaching.ReceiverAttachError.{ReceiverAttachError}
use Rattle.amqp_link_types.specs.declared.attaching.ReceiverAttachError.TheVariants as receiver
use Rattle.amqp_link_types.specs.declared.attaching.SenderAttachError.{SenderAttachError}
use Rattle.amqp_link_types.specs.declared.attaching.SenderAttachError.TheVariants as sender
use Rattle.amqp_session_performatives.specs.declared.attach.Attach.{Attach}
use Rattle.amqp_session_states.specs.declared.source.Source.{Source}
use Rattle.amqp_session_states.specs.declared.target_archetype.TargetArchetype.{TargetArchetype}
use Rattle.amqp_session_types.specs.declared.modes.SenderSettleMode.{SenderSettleMode}
use Rattle.amqp_session_types.specs.declared.modes.SenderSettleMode.TheVariants.{Unsettled, Settled, Mixed}
use Rattle.amqp_link_base.specs.Source.{sender_source_tests, receiver_source_tests}
use Rattle.amqp_link_base.specs.Target.{is_coordinator, sender_archetype_tests, receiver_archetype_tests}
use Rattle.amqp_link_base.specs.Tests.{of_both}

-- the peer names an archetype of another type than a target
abbrev pub names_coordinator : Option TargetArchetype → Bool
names_coordinator None = false
names_coordinator (Some archetype) = is_coordinator archetype

-- the one sends all deliveries settled, and the other wants all of them unsettled: part 2, 2.8.2
abbrev pub modes_conflict : SenderSettleMode → SenderSettleMode → Bool
modes_conflict Settled Unsettled = true
modes_conflict Unsettled Settled = true
modes_conflict own peer = false

-- a sender, of the source: the two are compared where both are there
abbrev pub source_tests_of_sender : Option Source → Option Source → List (Bool × SenderAttachError)
source_tests_of_sender = of_both (λ own peer. sender_source_tests peer)

-- a sender, of the target: it is a target, it is there, and the two are compared where both are there
abbrev pub target_tests_of_sender : Option TargetArchetype → Option TargetArchetype → List (Bool × SenderAttachError)
target_tests_of_sender own peer =
    (names_coordinator peer, sender.CoordinatorIsNotImplemented)
    ∷ (is_none peer, sender.IncomingTargetIsNone)
    ∷ of_both (λ own peer. sender_archetype_tests peer) own peer

-- a sender, of the modes
abbrev pub mode_tests : SenderSettleMode → SenderSettleMode → List (Bool × SenderAttachError)
mode_tests own peer = (modes_conflict own peer, sender.SndSettleModeNotSupported) ∷ []

-- a sender, in this order
abbrev pub sender_tests : Option Source → Option TargetArchetype → SenderSettleMode → Attach
    → List (Bool × SenderAttachError)
sender_tests source target mode attach =
    source_tests_of_sender source attach.source
    ++ target_tests_of_sender target attach.target
    ++ mode_tests mode attach.snd_settle_mode

-- a receiver, of the source: it is there, and the two are compared where both are there
abbrev pub source_tests_of_receiver : Option Source → Option Source → List (Bool × ReceiverAttachError)
source_tests_of_receiver own peer =
    (is_none peer, receiver.IncomingSourceIsNone) ∷ of_both receiver_source_tests own peer

-- a receiver, of the count of deliveries: the sender says it
abbrev pub count_tests : Option ℕ → List (Bool × ReceiverAttachError)
count_tests count = (is_none count, receiver.InitialDeliveryCountIsNone) ∷ []

-- a receiver, of the target: it is a target if there is one, and the two are compared where both are there
abbrev pub target_tests_of_receiver : Option TargetArchetype → Option TargetArchetype
    → List (Bool × ReceiverAttachError)
target_tests_of_receiver own peer =
    (names_coordinator peer, receiver.CoordinatorIsNotImplemented)
    ∷ of_both (λ own peer. receiver_archetype_tests peer) own peer

-- a receiver, in this order
abbrev pub receiver_tests : Option Source → Option TargetArchetype → Attach → List (Bool × ReceiverAttachError)
receiver_tests source target attach =
    source_tests_of_receiver source attach.source
    ++ count_tests attach.initial_delivery_count
    ++ target_tests_of_receiver target attach.target
