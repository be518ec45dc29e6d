-- A begin is read as it is written, two have two items, and bytes give one.
use Rattle.std.proofs.Common.{◌≡◌, ℕ, List, [], ◌∷◌, Option, Some, refl, sym, ◌∙◌}
use Rattle.serde_amqp_de.specs.Decides.{Decided, AllDecided}
use Rattle.serde_amqp_de.specs.Deciding.{uint_decided, record_decided}
use Rattle.serde_amqp_de.specs.Again.{uint_faithful, EachAgain, record_again, record_faithful}
use Rattle.amqp_session_types.specs.Again.{symbols_again}
use Rattle.amqp_session_types.specs.Deciding.{symbols_decided}
use Rattle.amqp_session_types.specs.Faithful.{symbols_same}
use Rattle.amqp_session_performatives.specs.Begin.{begin_name, begin_fields, begin_item, begin_takes, begin_taken}
use Rattle.amqp_session_performatives.specs.declared.begin.Begin.{Begin}
use Rattle.amqp_session_performatives.specs.FieldLaws.{optional_ushort_again, optional_ushort_decided, optional_ushort_same, optional_values_again, optional_values_decided, optional_values_same, uint_or_again, uint_or_decided, uint_or_same}

pub begin_each_decided : AllDecided begin_takes
begin_each_decided = (optional_ushort_decided, (uint_decided, (uint_decided, (uint_decided, (uint_or_decided 4294967295, (symbols_decided, (symbols_decided, (optional_values_decided, tt))))))))

pub begin_decided : Decided begin_taken
begin_decided = record_decided 0x11 begin_name begin_takes begin_each_decided

pub begin_each_again : (b : Begin) → EachAgain begin_takes (begin_fields b)
begin_each_again b = (optional_ushort_again b.remote_channel, (refl, (refl, (refl, (uint_or_again 4294967295 b.handle_max, (symbols_again b.offered_capabilities, (symbols_again b.desired_capabilities, (optional_values_again b.properties, tt))))))))

pub begin_again : (b : Begin) → begin_taken (begin_item b) ≡ Some (begin_item b)
begin_again b = record_again 0x11 begin_name begin_takes (begin_fields b) (begin_each_again b)

-- with these fields
unfoldable begin_of : Option ℕ → ℕ → ℕ → ℕ → ℕ → List (List ℕ) → List (List ℕ) → Option (List (List ℕ × List ℕ)) → Begin
begin_of a b c d e f g h = record { remote_channel = a; next_outgoing_id = b; incoming_window = c; outgoing_window = d; handle_max = e; offered_capabilities = f; desired_capabilities = g; properties = h }

begin_built : (b : Begin) → begin_of b.remote_channel b.next_outgoing_id b.incoming_window b.outgoing_window b.handle_max b.offered_capabilities b.desired_capabilities b.properties ≡ b
unfolding begin_of
begin_built b = refl

-- two with the same fields are the same
pub begin_parts : (b c : Begin) → b.remote_channel ≡ c.remote_channel → b.next_outgoing_id ≡ c.next_outgoing_id → b.incoming_window ≡ c.incoming_window → b.outgoing_window ≡ c.outgoing_window → b.handle_max ≡ c.handle_max → b.offered_capabilities ≡ c.offered_capabilities → b.desired_capabilities ≡ c.desired_capabilities → b.properties ≡ c.properties → b ≡ c
begin_parts b c remote_channel next_outgoing_id incoming_window outgoing_window handle_max offered_capabilities desired_capabilities properties =
    let built : begin_of b.remote_channel b.next_outgoing_id b.incoming_window b.outgoing_window b.handle_max b.offered_capabilities b.desired_capabilities b.properties ≡ begin_of c.remote_channel c.next_outgoing_id c.incoming_window c.outgoing_window c.handle_max c.offered_capabilities c.desired_capabilities c.properties = cc in
    sym (begin_built b) ∙ (built ∙ begin_built c)

pub begin_same : (b c : Begin) → begin_item b ≡ begin_item c → b ≡ c
begin_same b c is =
    let all : begin_fields b ≡ begin_fields c = record_faithful 0x11 (begin_fields b) (begin_fields c) refl is in
    begin_parts b c
    (optional_ushort_same b.remote_channel c.remote_channel cc)
    (uint_faithful b.next_outgoing_id c.next_outgoing_id cc)
    (uint_faithful b.incoming_window c.incoming_window cc)
    (uint_faithful b.outgoing_window c.outgoing_window cc)
    (uint_or_same 4294967295 b.handle_max c.handle_max cc)
    (symbols_same b.offered_capabilities c.offered_capabilities cc)
    (symbols_same b.desired_capabilities c.desired_capabilities cc)
    (optional_values_same b.properties c.properties cc)
