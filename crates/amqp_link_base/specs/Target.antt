-- What the target of a peer's Attach is refused for: part 2, 2.7.3, and part 3, 3.5.4.
use Rattle.std.specs.Prelude.{Bool, true, false, not, ◌&&◌, is_some, is_none, List, [], ◌∷◌, Option, Some, None}
use Rattle.amqp_link_types.specs.declared.attaching.ReceiverAttachError.{ReceiverAttachError}
use Rattle.amqp_link_types.specs.declared.attaching.ReceiverAttachError.TheVariants as receiver
use Rattle.amqp_link_types.specs.declared.attaching.SenderAttachError.{SenderAttachError}
use Rattle.amqp_link_types.specs.declared.attaching.SenderAttachError.TheVariants as sender
use Rattle.amqp_session_states.specs.declared.target.Target.{Target}
use Rattle.amqp_session_states.specs.declared.target_archetype.TargetArchetype.{TargetArchetype}
use Rattle.amqp_session_states.specs.declared.target_archetype.TargetArchetype.TheVariants as archetype

-- a sender: a target that the receiver made has an address, and one that it didn't make has no properties
abbrev pub sender_target_tests : Target → List (Bool × SenderAttachError)
sender_target_tests peer =
    (peer.dynamic && is_none peer.address, sender.TargetAddressIsNoneWhenDynamicIsTrue)
    ∷ (not peer.dynamic && is_some peer.dynamic_node_properties, sender.DynamicNodePropertiesIsSomeWhenDynamicIsFalse)
    ∷ []

-- a receiver: a target that it is to make has no address yet, and one that it isn't to make has no properties
abbrev pub receiver_target_tests : Target → List (Bool × ReceiverAttachError)
receiver_target_tests peer =
    (peer.dynamic && is_some peer.address, receiver.TargetAddressIsSomeWhenDynamicIsTrue)
    ∷ (not peer.dynamic && is_some peer.dynamic_node_properties, receiver.DynamicNodePropertiesIsSomeWhenDynamicIsFalse)
    ∷ []

-- an archetype of another type than a target, such as a coordinator
abbrev pub is_coordinator : TargetArchetype → Bool
is_coordinator (archetype.Target target) = false
is_coordinator (archetype.Other value) = true

-- whether a target is to be made
abbrev pub dynamic_of : TargetArchetype → Option Bool
dynamic_of (archetype.Target target) = Some target.dynamic
dynamic_of (archetype.Other value) = None

-- an archetype of another type is refused
abbrev pub sender_archetype_tests : TargetArchetype → List (Bool × SenderAttachError)
sender_archetype_tests (archetype.Target target) = sender_target_tests target
sender_archetype_tests (archetype.Other value) = (true, sender.CoordinatorIsNotImplemented) ∷ []

abbrev pub receiver_archetype_tests : TargetArchetype → List (Bool × ReceiverAttachError)
receiver_archetype_tests (archetype.Target target) = receiver_target_tests target
receiver_archetype_tests (archetype.Other value) = (true, receiver.CoordinatorIsNotImplemented) ∷ []
