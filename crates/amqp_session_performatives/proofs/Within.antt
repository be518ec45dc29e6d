-- Performatives have no list, array or map that is longer than may be read, where their fields have none.
use Rattle.std.proofs.Common.{◌≡◌, ℕ, ◌+◌, ◌*◌, ◌≤◌, List, [], ◌∷◌, length, map, Bool, true, false, Option, Some, None, refl, arith}
use Rattle.std.specs.Prelude.{if◌then◌else◌, bytes_eq}
use Rattle.std.specs.Map.{keys_of}
use Rattle.serde_amqp_item.specs.Item.{Item, scalar, null, raw, boolean, ushort, uint, ulong, binary, string, symbol, items_of, item_count, pairs_of, pair_count}
use Rattle.serde_amqp_item.specs.Wire.{IsCapped}
use Rattle.serde_amqp_item.specs.Canon.{AllWithin, EachWithin, EachPairWithin}
use Rattle.serde_amqp_item.specs.Record.{option_item, all_null, trimmed, record_item}
use Rattle.serde_amqp_item.specs.Entries.{pair_items, map_item}
use Rattle.serde_amqp_de.specs.Takes.{or_null, is_boolean, is_ushort, is_uint}
use Rattle.serde_amqp_types.specs.Takes.{is_ubyte}
use Rattle.serde_amqp_values.specs.Items.{are_apart, no_map, ordered_item}
use Rattle.amqp_session_types.specs.Error.{error_item, error_fields}
use Rattle.amqp_session_types.specs.Fields.{named_values_item, symbols_item}
use Rattle.amqp_session_types.specs.Modes.{role_item, sender_settle_mode_item, receiver_settle_mode_item}
use Rattle.amqp_session_types.specs.declared.error.Error.{Error}
use Rattle.amqp_session_types.specs.declared.modes.Role.{Role}
use Rattle.amqp_session_types.specs.declared.modes.Role.TheVariants.{Sender, Receiver}
use Rattle.amqp_session_types.specs.declared.modes.SenderSettleMode.{SenderSettleMode}
use Rattle.amqp_session_types.specs.declared.modes.SenderSettleMode.TheVariants.{Unsettled, Settled, Mixed}
use Rattle.amqp_session_types.specs.declared.modes.ReceiverSettleMode.{ReceiverSettleMode}
use Rattle.amqp_session_types.specs.declared.modes.ReceiverSettleMode.TheVariants.{First, Second}
use Rattle.amqp_session_performatives.specs.Parts.{handle_item}
use Rattle.amqp_session_performatives.specs.Performative.{performative_item}
use Rattle.amqp_session_performatives.specs.Short.{FewSymbols, FewValues, FewDetails, IsShort, IsShortOpen, IsShortBegin, IsShortAttach, IsShortFlow, IsShortTransfer, IsShortDisposition, IsShortDetach, IsShortEnd, IsShortClose}
use Rattle.amqp_session_performatives.specs.Open.{open_fields, open_item}
use Rattle.amqp_session_performatives.specs.Begin.{begin_fields, begin_item}
use Rattle.amqp_session_performatives.specs.Attach.{attach_fields, attach_item}
use Rattle.amqp_session_performatives.specs.Flow.{flow_fields, flow_item}
use Rattle.amqp_session_performatives.specs.Transfer.{transfer_fields, transfer_item}
use Rattle.amqp_session_performatives.specs.Disposition.{disposition_fields, disposition_item}
use Rattle.amqp_session_performatives.specs.Detach.{detach_fields, detach_item}
use Rattle.amqp_session_performatives.specs.End.{end_fields, end_item}
use Rattle.amqp_session_performatives.specs.Close.{close_fields, close_item}
use Rattle.amqp_session_performatives.specs.declared.open.Open.{Open}
use Rattle.amqp_session_performatives.specs.declared.begin.Begin.{Begin}
use Rattle.amqp_session_performatives.specs.declared.attach.Attach.{Attach}
use Rattle.amqp_session_performatives.specs.declared.flow.Flow.{Flow}
use Rattle.amqp_session_performatives.specs.declared.transfer.Transfer.{Transfer}
use Rattle.amqp_session_performatives.specs.declared.disposition.Disposition.{Disposition}
use Rattle.amqp_session_performatives.specs.declared.detach.Detach.{Detach}
use Rattle.amqp_session_performatives.specs.declared.end.End.{End}
use Rattle.amqp_session_performatives.specs.declared.close.Close.{Close}
use Rattle.amqp_session_performatives.specs.declared.performative.Performative.{Performative}
use Rattle.amqp_session_performatives.specs.declared.performative.Performative.TheVariants.{Open as the_open, Begin as the_begin, Attach as the_attach, Flow as the_flow, Transfer as the_transfer, Disposition as the_disposition, Detach as the_detach, End as the_end, Close as the_close}

AllCapped : List Item → Type 0
AllCapped [] = Unit {0}
AllCapped (x ∷ xs) = AllWithin IsCapped x × AllCapped xs

trimmed_if : (x : Item) (xs : List Item) (n : ℕ) → item_count (items_of (trimmed xs)) ≤ n → (b : Bool) → item_count (items_of (if b then [] else (x ∷ trimmed xs))) ≤ n + 1
trimmed_if x xs n le true = omega arith
trimmed_if x xs n le false = omega (arith, le)

trimmed_short : (xs : List Item) → item_count (items_of (trimmed xs)) ≤ length xs
trimmed_short [] = omega arith
trimmed_short (x ∷ xs) = let h = trimmed_if x xs (length xs) (trimmed_short xs) (all_null (x ∷ xs)) in omega (arith, h)

trimmed_within_if : (x : Item) (xs : List Item) → AllWithin IsCapped x → EachWithin IsCapped (items_of (trimmed xs)) → (b : Bool) → EachWithin IsCapped (items_of (if b then [] else (x ∷ trimmed xs)))
trimmed_within_if x xs h t true = tt
trimmed_within_if x xs h t false = (h, t)

trimmed_within : (xs : List Item) → AllCapped xs → EachWithin IsCapped (items_of (trimmed xs))
unfolding AllCapped
trimmed_within [] a = tt
trimmed_within (x ∷ xs) a = trimmed_within_if x xs a.0 (trimmed_within xs a.1) (all_null (x ∷ xs))

record_within : (code : ℕ) (fields : List Item) → length fields ≤ 65536 → AllCapped fields → AllWithin IsCapped (record_item code fields)
record_within code fields le a = (tt, (omega (arith, trimmed_short fields, le), trimmed_within fields a))

option_within : {X : Type 0} (item : X → Item) → ((x : X) → AllWithin IsCapped (item x)) → (o : Option X) → AllWithin IsCapped (option_item item o)
option_within item h None = tt
option_within item h (Some x) = h x

default_if : (x : Item) → AllWithin IsCapped x → (b : Bool) → AllWithin IsCapped (if b then scalar null else x)
default_if x h true = tt
default_if x h false = h

default_within : (is_default : Item → Bool) (x : Item) → AllWithin IsCapped x → AllWithin IsCapped (or_null is_default x)
default_within is_default x h = default_if x h (is_default x)

role_within : (r : Role) → AllWithin IsCapped (role_item r)
role_within Sender = tt
role_within Receiver = tt

sender_mode_within : (m : SenderSettleMode) → AllWithin IsCapped (sender_settle_mode_item m)
sender_mode_within Unsettled = tt
sender_mode_within Settled = tt
sender_mode_within Mixed = tt

receiver_mode_within : (m : ReceiverSettleMode) → AllWithin IsCapped (receiver_settle_mode_item m)
receiver_mode_within First = tt
receiver_mode_within Second = tt

names_within : (names : List (List ℕ)) → EachWithin IsCapped (items_of (map (λ s. scalar (symbol s)) names))
names_within [] = tt
names_within (s ∷ names) = (tt, names_within names)

names_count : (names : List (List ℕ)) → item_count (items_of (map (λ s. scalar (symbol s)) names)) ≡ length names
names_count [] = refl
names_count (s ∷ names) = let h = names_count names in omega (arith, h)

symbols_within : (names : List (List ℕ)) → FewSymbols names → AllWithin IsCapped (symbols_item names)
symbols_within [] le = tt
symbols_within (s ∷ names) le = (omega (arith, names_count (s ∷ names), le), names_within (s ∷ names))

pairs_within : (ps : List (List ℕ × List ℕ)) → EachPairWithin IsCapped (pairs_of (pair_items (λ s. scalar (symbol s)) (λ v. raw v) ps))
pairs_within [] = tt
pairs_within (p ∷ ps) = (tt, tt, pairs_within ps)

pairs_count : (ps : List (List ℕ × List ℕ)) → pair_count (pairs_of (pair_items (λ s. scalar (symbol s)) (λ v. raw v) ps)) ≡ length ps
pairs_count [] = refl
pairs_count (p ∷ ps) = let h = pairs_count ps in omega (arith, h)

apart_within : (x : Item) → AllWithin IsCapped x → (b : Bool) → AllWithin IsCapped (if b then x else no_map x)
apart_within x h true = h
apart_within x h false = (tt, h)

map_within : (ps : List (List ℕ × List ℕ)) → length ps ≤ 32768 → AllWithin IsCapped (map_item (λ s. scalar (symbol s)) (λ v. raw v) ps)
map_within ps le = (omega (arith, pairs_count ps, le), pairs_within ps)

named_values_within : (ps : List (List ℕ × List ℕ)) → length ps ≤ 32768 → AllWithin IsCapped (named_values_item ps)
unfolding ordered_item
named_values_within ps le = apart_within (map_item (λ s. scalar (symbol s)) (λ v. raw v) ps) (map_within ps le) (are_apart bytes_eq (keys_of ps))

values_within : (o : Option (List (List ℕ × List ℕ))) → FewValues o → AllWithin IsCapped (option_item named_values_item o)
values_within None few = tt
values_within (Some ps) few = named_values_within ps few

error_within : (o : Option Error) → FewDetails o → AllWithin IsCapped (option_item error_item o)
unfolding AllCapped
error_within None few = tt
error_within (Some e) few = record_within 0x1d (error_fields e) (omega arith) (tt, (option_within (λ t. scalar (string t)) (λ t. tt) e.description, (values_within e.info few, tt)))

pub open_within : (o : Open) → IsShortOpen o → AllWithin IsCapped (open_item o)
unfolding AllCapped
open_within o s = record_within 0x10 (open_fields o) (omega arith) (tt, (option_within (λ t. scalar (string t)) (λ t. tt) o.hostname, (default_within (is_uint 4294967295) (scalar (uint o.max_frame_size)) tt, (default_within (is_ushort 65535) (scalar (ushort o.channel_max)) tt, (option_within (λ n. scalar (uint n)) (λ n. tt) o.idle_time_out, (symbols_within o.outgoing_locales s.outgoing_locales, (symbols_within o.incoming_locales s.incoming_locales, (symbols_within o.offered_capabilities s.offered_capabilities, (symbols_within o.desired_capabilities s.desired_capabilities, (values_within o.properties s.properties, tt))))))))))

pub begin_within : (b : Begin) → IsShortBegin b → AllWithin IsCapped (begin_item b)
unfolding AllCapped
begin_within b s = record_within 0x11 (begin_fields b) (omega arith) (option_within (λ n. scalar (ushort n)) (λ n. tt) b.remote_channel, (tt, (tt, (tt, (default_within (is_uint 4294967295) (scalar (uint b.handle_max)) tt, (symbols_within b.offered_capabilities s.offered_capabilities, (symbols_within b.desired_capabilities s.desired_capabilities, (values_within b.properties s.properties, tt))))))))

pub attach_within : (a : Attach) → IsShortAttach a → AllWithin IsCapped (attach_item a)
unfolding AllCapped
attach_within a s = record_within 0x12 (attach_fields a) (omega arith) (tt, (tt, (role_within a.role, (default_within (is_ubyte 2) (sender_settle_mode_item a.snd_settle_mode) (sender_mode_within a.snd_settle_mode), (default_within (is_ubyte 0) (receiver_settle_mode_item a.rcv_settle_mode) (receiver_mode_within a.rcv_settle_mode), (s.source, (s.target, (s.unsettled, (default_within (is_boolean false) (scalar (boolean a.incomplete_unsettled)) tt, (option_within (λ n. scalar (uint n)) (λ n. tt) a.initial_delivery_count, (option_within (λ n. scalar (ulong n)) (λ n. tt) a.max_message_size, (symbols_within a.offered_capabilities s.offered_capabilities, (symbols_within a.desired_capabilities s.desired_capabilities, (values_within a.properties s.properties, tt))))))))))))))

pub flow_within : (l : Flow) → IsShortFlow l → AllWithin IsCapped (flow_item l)
unfolding AllCapped
flow_within l s = record_within 0x13 (flow_fields l) (omega arith) (option_within (λ n. scalar (uint n)) (λ n. tt) l.next_incoming_id, (tt, (tt, (tt, (option_within handle_item (λ h. tt) l.handle, (option_within (λ n. scalar (uint n)) (λ n. tt) l.delivery_count, (option_within (λ n. scalar (uint n)) (λ n. tt) l.link_credit, (option_within (λ n. scalar (uint n)) (λ n. tt) l.available, (default_within (is_boolean false) (scalar (boolean l.drain)) tt, (default_within (is_boolean false) (scalar (boolean l.echo)) tt, (values_within l.properties s.properties, tt)))))))))))

pub transfer_within : (t : Transfer) → IsShortTransfer t → AllWithin IsCapped (transfer_item t)
unfolding AllCapped
transfer_within t s = record_within 0x14 (transfer_fields t) (omega arith) (tt, (option_within (λ n. scalar (uint n)) (λ n. tt) t.delivery_id, (option_within (λ t. scalar (binary t)) (λ t. tt) t.delivery_tag, (option_within (λ n. scalar (uint n)) (λ n. tt) t.message_format, (option_within (λ b. scalar (boolean b)) (λ b. tt) t.settled, (default_within (is_boolean false) (scalar (boolean t.more)) tt, (option_within receiver_settle_mode_item receiver_mode_within t.rcv_settle_mode, (s.state, (default_within (is_boolean false) (scalar (boolean t.resume)) tt, (default_within (is_boolean false) (scalar (boolean t.aborted)) tt, (default_within (is_boolean false) (scalar (boolean t.batchable)) tt, tt)))))))))))

pub disposition_within : (d : Disposition) → IsShortDisposition d → AllWithin IsCapped (disposition_item d)
unfolding AllCapped
disposition_within d s = record_within 0x15 (disposition_fields d) (omega arith) (role_within d.role, (tt, (option_within (λ n. scalar (uint n)) (λ n. tt) d.last, (default_within (is_boolean false) (scalar (boolean d.settled)) tt, (s.state, (default_within (is_boolean false) (scalar (boolean d.batchable)) tt, tt))))))

pub detach_within : (d : Detach) → IsShortDetach d → AllWithin IsCapped (detach_item d)
unfolding AllCapped
detach_within d s = record_within 0x16 (detach_fields d) (omega arith) (tt, (default_within (is_boolean false) (scalar (boolean d.closed)) tt, (error_within d.error s.error, tt)))

pub end_within : (e : End) → IsShortEnd e → AllWithin IsCapped (end_item e)
unfolding AllCapped
end_within e s = record_within 0x17 (end_fields e) (omega arith) (error_within e.error s.error, tt)

pub close_within : (c : Close) → IsShortClose c → AllWithin IsCapped (close_item c)
unfolding AllCapped
close_within c s = record_within 0x18 (close_fields c) (omega arith) (error_within c.error s.error, tt)

pub performative_within : (p : Performative) → IsShort p → AllWithin IsCapped (performative_item p)
performative_within (the_open x) s = open_within x s
performative_within (the_begin x) s = begin_within x s
performative_within (the_attach x) s = attach_within x s
performative_within (the_flow x) s = flow_within x s
performative_within (the_transfer x) s = transfer_within x s
performative_within (the_disposition x) s = disposition_within x s
performative_within (the_detach x) s = detach_within x s
performative_within (the_end x) s = end_within x s
performative_within (the_close x) s = close_within x s
