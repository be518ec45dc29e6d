-- A flow is read as it is written, two have two items, and bytes give one.
use Rattle.std.proofs.Common.{◌≡◌, ℕ, Bool, false, List, [], ◌∷◌, Option, Some, refl, sym, ◌∙◌}
use Rattle.serde_amqp_de.specs.Decides.{Decided, AllDecided}
use Rattle.serde_amqp_de.specs.Deciding.{uint_decided, record_decided}
use Rattle.serde_amqp_de.specs.Again.{uint_faithful, EachAgain, record_again, record_faithful}
use Rattle.amqp_session_types.specs.declared.handles.Handle.{Handle}
use Rattle.amqp_session_performatives.specs.Flow.{flow_name, flow_fields, flow_item, flow_takes, flow_taken}
use Rattle.amqp_session_performatives.specs.declared.flow.Flow.{Flow}
use Rattle.amqp_session_performatives.specs.FieldLaws.{boolean_or_again, boolean_or_decided, boolean_or_same, optional_handle_again, optional_handle_decided, optional_handle_same, optional_uint_again, optional_uint_decided, optional_uint_same, optional_values_again, optional_values_decided, optional_values_same}

pub flow_each_decided : AllDecided flow_takes
flow_each_decided = (optional_uint_decided, (uint_decided, (uint_decided, (uint_decided, (optional_handle_decided, (optional_uint_decided, (optional_uint_decided, (optional_uint_decided, (boolean_or_decided false, (boolean_or_decided false, (optional_values_decided, tt)))))))))))

pub flow_decided : Decided flow_taken
flow_decided = record_decided 0x13 flow_name flow_takes flow_each_decided

pub flow_each_again : (l : Flow) → EachAgain flow_takes (flow_fields l)
flow_each_again l = (optional_uint_again l.next_incoming_id, (refl, (refl, (refl, (optional_handle_again l.handle, (optional_uint_again l.delivery_count, (optional_uint_again l.link_credit, (optional_uint_again l.available, (boolean_or_again false l.drain, (boolean_or_again false l.echo, (optional_values_again l.properties, tt)))))))))))

pub flow_again : (l : Flow) → flow_taken (flow_item l) ≡ Some (flow_item l)
flow_again l = record_again 0x13 flow_name flow_takes (flow_fields l) (flow_each_again l)

-- with these fields
unfoldable flow_of : Option ℕ → ℕ → ℕ → ℕ → Option Handle → Option ℕ → Option ℕ → Option ℕ → Bool → Bool → Option (List (List ℕ × List ℕ)) → Flow
flow_of a b c d e f g h i j k = record { next_incoming_id = a; incoming_window = b; next_outgoing_id = c; outgoing_window = d; handle = e; delivery_count = f; link_credit = g; available = h; drain = i; echo = j; properties = k }

flow_built : (l : Flow) → flow_of l.next_incoming_id l.incoming_window l.next_outgoing_id l.outgoing_window l.handle l.delivery_count l.link_credit l.available l.drain l.echo l.properties ≡ l
unfolding flow_of
flow_built l = refl

-- two with the same fields are the same
pub flow_parts : (l m : Flow) → l.next_incoming_id ≡ m.next_incoming_id → l.incoming_window ≡ m.incoming_window → l.next_outgoing_id ≡ m.next_outgoing_id → l.outgoing_window ≡ m.outgoing_window → l.handle ≡ m.handle → l.delivery_count ≡ m.delivery_count → l.link_credit ≡ m.link_credit → l.available ≡ m.available → l.drain ≡ m.drain → l.echo ≡ m.echo → l.properties ≡ m.properties → l ≡ m
flow_parts l m next_incoming_id incoming_window next_outgoing_id outgoing_window handle delivery_count link_credit available drain echo properties =
    let built : flow_of l.next_incoming_id l.incoming_window l.next_outgoing_id l.outgoing_window l.handle l.delivery_count l.link_credit l.available l.drain l.echo l.properties ≡ flow_of m.next_incoming_id m.incoming_window m.next_outgoing_id m.outgoing_window m.handle m.delivery_count m.link_credit m.available m.drain m.echo m.properties = cc in
    sym (flow_built l) ∙ (built ∙ flow_built m)

pub flow_same : (l m : Flow) → flow_item l ≡ flow_item m → l ≡ m
flow_same l m is =
    let all : flow_fields l ≡ flow_fields m = record_faithful 0x13 (flow_fields l) (flow_fields m) refl is in
    flow_parts l m
    (optional_uint_same l.next_incoming_id m.next_incoming_id cc)
    (uint_faithful l.incoming_window m.incoming_window cc)
    (uint_faithful l.next_outgoing_id m.next_outgoing_id cc)
    (uint_faithful l.outgoing_window m.outgoing_window cc)
    (optional_handle_same l.handle m.handle cc)
    (optional_uint_same l.delivery_count m.delivery_count cc)
    (optional_uint_same l.link_credit m.link_credit cc)
    (optional_uint_same l.available m.available cc)
    (boolean_or_same false l.drain m.drain cc)
    (boolean_or_same false l.echo m.echo cc)
    (optional_values_same l.properties m.properties cc)
