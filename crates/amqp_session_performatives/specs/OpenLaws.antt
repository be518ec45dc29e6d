-- An open is read as it is written, two have two items, and bytes give one.
use Rattle.std.proofs.Common.{◌≡◌, ℕ, List, [], ◌∷◌, Option, Some, refl, sym, ◌∙◌}
use Rattle.serde_amqp_de.specs.Decides.{Decided, AllDecided}
use Rattle.serde_amqp_de.specs.Deciding.{string_decided, record_decided}
use Rattle.serde_amqp_de.specs.Again.{EachAgain, record_again, record_faithful}
use Rattle.serde_amqp_types.specs.Faithful.{string_faithful}
use Rattle.amqp_session_types.specs.Again.{symbols_again}
use Rattle.amqp_session_types.specs.Deciding.{symbols_decided}
use Rattle.amqp_session_types.specs.Faithful.{symbols_same}
use Rattle.amqp_session_performatives.specs.Open.{open_name, open_fields, open_item, open_takes, open_taken}
use Rattle.amqp_session_performatives.specs.declared.open.Open.{Open}
use Rattle.amqp_session_performatives.specs.FieldLaws.{optional_string_again, optional_string_decided, optional_string_same, optional_uint_again, optional_uint_decided, optional_uint_same, optional_values_again, optional_values_decided, optional_values_same, uint_or_again, uint_or_decided, uint_or_same, ushort_or_again, ushort_or_decided, ushort_or_same}

pub open_each_decided : AllDecided open_takes
open_each_decided = (string_decided, (optional_string_decided, (uint_or_decided 4294967295, (ushort_or_decided 65535, (optional_uint_decided, (symbols_decided, (symbols_decided, (symbols_decided, (symbols_decided, (optional_values_decided, tt))))))))))

pub open_decided : Decided open_taken
open_decided = record_decided 0x10 open_name open_takes open_each_decided

pub open_each_again : (o : Open) → EachAgain open_takes (open_fields o)
open_each_again o = (refl, (optional_string_again o.hostname, (uint_or_again 4294967295 o.max_frame_size, (ushort_or_again 65535 o.channel_max, (optional_uint_again o.idle_time_out, (symbols_again o.outgoing_locales, (symbols_again o.incoming_locales, (symbols_again o.offered_capabilities, (symbols_again o.desired_capabilities, (optional_values_again o.properties, tt))))))))))

pub open_again : (o : Open) → open_taken (open_item o) ≡ Some (open_item o)
open_again o = record_again 0x10 open_name open_takes (open_fields o) (open_each_again o)

-- with these fields
unfoldable open_of : List ℕ → Option (List ℕ) → ℕ → ℕ → Option ℕ → List (List ℕ) → List (List ℕ) → List (List ℕ) → List (List ℕ) → Option (List (List ℕ × List ℕ)) → Open
open_of a b c d e f g h i j = record { container_id = a; hostname = b; max_frame_size = c; channel_max = d; idle_time_out = e; outgoing_locales = f; incoming_locales = g; offered_capabilities = h; desired_capabilities = i; properties = j }

open_built : (o : Open) → open_of o.container_id o.hostname o.max_frame_size o.channel_max o.idle_time_out o.outgoing_locales o.incoming_locales o.offered_capabilities o.desired_capabilities o.properties ≡ o
unfolding open_of
open_built o = refl

-- two with the same fields are the same
pub open_parts : (o p : Open) → o.container_id ≡ p.container_id → o.hostname ≡ p.hostname → o.max_frame_size ≡ p.max_frame_size → o.channel_max ≡ p.channel_max → o.idle_time_out ≡ p.idle_time_out → o.outgoing_locales ≡ p.outgoing_locales → o.incoming_locales ≡ p.incoming_locales → o.offered_capabilities ≡ p.offered_capabilities → o.desired_capabilities ≡ p.desired_capabilities → o.properties ≡ p.properties → o ≡ p
open_parts o p container_id hostname max_frame_size channel_max idle_time_out outgoing_locales incoming_locales offered_capabilities desired_capabilities properties =
    let built : open_of o.container_id o.hostname o.max_frame_size o.channel_max o.idle_time_out o.outgoing_locales o.incoming_locales o.offered_capabilities o.desired_capabilities o.properties ≡ open_of p.container_id p.hostname p.max_frame_size p.channel_max p.idle_time_out p.outgoing_locales p.incoming_locales p.offered_capabilities p.desired_capabilities p.properties = cc in
    sym (open_built o) ∙ (built ∙ open_built p)

pub open_same : (o p : Open) → open_item o ≡ open_item p → o ≡ p
open_same o p is =
    let all : open_fields o ≡ open_fields p = record_faithful 0x10 (open_fields o) (open_fields p) refl is in
    open_parts o p
    (string_faithful o.container_id p.container_id cc)
    (optional_string_same o.hostname p.hostname cc)
    (uint_or_same 4294967295 o.max_frame_size p.max_frame_size cc)
    (ushort_or_same 65535 o.channel_max p.channel_max cc)
    (optional_uint_same o.idle_time_out p.idle_time_out cc)
    (symbols_same o.outgoing_locales p.outgoing_locales cc)
    (symbols_same o.incoming_locales p.incoming_locales cc)
    (symbols_same o.offered_capabilities p.offered_capabilities cc)
    (symbols_same o.desired_capabilities p.desired_capabilities cc)
    (optional_values_same o.properties p.properties cc)
