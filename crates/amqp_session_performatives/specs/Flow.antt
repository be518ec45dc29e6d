-- The flow performative: part 2, 2.7.4.
use Rattle.std.specs.Prelude.{ℕ, false, List, [], ◌∷◌, Option}
use Rattle.serde_amqp_item.specs.Item.{Item, scalar, boolean, uint}
use Rattle.serde_amqp_item.specs.Record.{option_item, record_item}
use Rattle.serde_amqp_de.specs.Takes.{boolean_taken, uint_taken, option_taken, record_taken, mapped, or_null}
use Rattle.serde_amqp_de.specs.Takes.{is_boolean}
use Rattle.amqp_session_types.specs.Fields.{named_values_item, named_values_taken}
use Rattle.amqp_session_performatives.specs.Parts.{handle_item}
use Rattle.amqp_session_performatives.specs.declared.flow.Flow.{Flow}

-- amqp:flow:list
abbrev pub flow_name : List ℕ
flow_name = 0x61 ∷ 0x6d ∷ 0x71 ∷ 0x70 ∷ 0x3a ∷ 0x66 ∷ 0x6c ∷ 0x6f ∷ 0x77 ∷ 0x3a ∷ 0x6c ∷ 0x69 ∷ 0x73 ∷ 0x74 ∷ []

-- next-incoming-id, incoming-window, next-outgoing-id, outgoing-window, handle, delivery-count, link-credit, available,
-- drain, echo, properties
abbrev pub flow_fields : Flow → List Item
flow_fields l =
    option_item (λ n. scalar (uint n)) l.next_incoming_id
    ∷ scalar (uint l.incoming_window)
    ∷ scalar (uint l.next_outgoing_id)
    ∷ scalar (uint l.outgoing_window)
    ∷ option_item handle_item l.handle
    ∷ option_item (λ n. scalar (uint n)) l.delivery_count
    ∷ option_item (λ n. scalar (uint n)) l.link_credit
    ∷ option_item (λ n. scalar (uint n)) l.available
    ∷ or_null (is_boolean false) (scalar (boolean l.drain))
    ∷ or_null (is_boolean false) (scalar (boolean l.echo))
    ∷ option_item named_values_item l.properties
    ∷ []

abbrev pub flow_item : Flow → Item
flow_item l = record_item 0x13 (flow_fields l)

abbrev pub flow_takes : List (Item → Option Item)
flow_takes =
    option_taken uint_taken
    ∷ uint_taken
    ∷ uint_taken
    ∷ uint_taken
    ∷ option_taken uint_taken
    ∷ option_taken uint_taken
    ∷ option_taken uint_taken
    ∷ option_taken uint_taken
    ∷ mapped (or_null (is_boolean false)) (option_taken boolean_taken)
    ∷ mapped (or_null (is_boolean false)) (option_taken boolean_taken)
    ∷ option_taken named_values_taken
    ∷ []

-- the items that are read as a flow, and the item of that flow
abbrev pub flow_taken : Item → Option Item
flow_taken = record_taken 0x13 flow_name flow_takes
