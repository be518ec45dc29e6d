-- What the source of a peer's Attach is refused for: part 3, 3.5.3.
use Rattle.std.specs.Prelude.{ℕ, Bool, true, false, not, ◌&&◌, is_some, is_none, List, [], ◌∷◌, ◌++◌, Option, Some}
use Rattle.std.specs.Prelude.{None, filter}
use Rattle.std.specs.Map.{keys_of, lookup}
use Rattle.std.specs.Str.{bytes_eq}
use Rattle.amqp_link_types.specs.declared.attaching.ReceiverAttachError.{ReceiverAttachError}
use Rattle.amqp_link_types.specs.declared.attaching.ReceiverAttachError.TheVariants as receiver
use Rattle.amqp_link_types.specs.declared.attaching.SenderAttachError.{SenderAttachError}
use Rattle.amqp_link_types.specs.declared.attaching.SenderAttachError.TheVariants as sender
use Rattle.amqp_session_states.specs.declared.source.Source.{Source}

-- a sender: a source that it is to make has no address yet, and one that it isn't to make has no properties
abbrev pub sender_source_tests : Source → List (Bool × SenderAttachError)
sender_source_tests peer =
    (peer.dynamic && is_some peer.address, sender.SourceAddressIsSomeWhenDynamicIsTrue)
    ∷ (not peer.dynamic && is_some peer.dynamic_node_properties, sender.DynamicNodePropertiesIsSomeWhenDynamicIsFalse)
    ∷ []

-- filters by their names
abbrev pub Filters : Type 0
Filters = List (List ℕ × List ℕ)

abbrev pub filters_of : Option Filters → Filters
filters_of None = []
filters_of (Some filters) = filters

-- the null value: part 1, 1.6.1
abbrev pub is_null : List ℕ → Bool
is_null = bytes_eq (0x40 ∷ [])

abbrev pub is_set : Option (List ℕ) → Bool
is_set None = false
is_set (Some value) = not (is_null value)

-- a filter of this name is applied: it is there, and it isn't null
abbrev pub is_in_place : Filters → List ℕ → Bool
is_in_place filters name = is_set (lookup (bytes_eq name) filters)

-- the names of the filters that are wanted and not applied, in the order in which they are wanted
abbrev pub unsupported : Filters → Filters → List (List ℕ)
unsupported wanted applied = filter (λ name. not (is_in_place applied name)) (keys_of wanted)

abbrev pub is_any : List (List ℕ) → Bool
is_any [] = false
is_any (name ∷ names) = true

-- a receiver: each filter that it wants is applied
abbrev pub filter_tests : Option Filters → Option Filters → List (Bool × ReceiverAttachError)
filter_tests wanted applied =
    let names = unsupported (filters_of wanted) (filters_of applied) in
    (is_any names, receiver.DesiredFilterNotSupported (record { not_supported = names })) ∷ []

-- a receiver: a source that the sender made has an address, and one that it didn't make has no properties
abbrev pub made_source_tests : Source → List (Bool × ReceiverAttachError)
made_source_tests peer =
    (peer.dynamic && is_none peer.address, receiver.SourceAddressIsNoneWhenDynamicIsTrue)
    ∷ (not peer.dynamic && is_some peer.dynamic_node_properties, receiver.DynamicNodePropertiesIsSomeWhenDynamicIsFalse)
    ∷ []

-- the filters first
abbrev pub receiver_source_tests : Source → Source → List (Bool × ReceiverAttachError)
receiver_source_tests own peer = filter_tests own.filter peer.filter ++ made_source_tests peer
