-- An Attach in its common form is read by hand.
use Rattle.std.proofs.Common.{◌≡◌, ◌≢◌, ℕ, ◌+◌, ◌-◌, ◌<◌, ◌≤◌, List, [], ◌∷◌, length, drop, Bool, false, Option}
use Rattle.std.proofs.Common.{Some, None, refl, sym, ap, subst, arith}
use Rattle.std.specs.Prelude.{unwrap_or}
use Rattle.serde_amqp_item.specs.Item.{Item, scalar, boolean, null, ubyte, uint, ulong, string}
use Rattle.serde_amqp_item.specs.Record.{option_item, record_item}
use Rattle.serde_amqp_item.specs.Canon.{◌>>=◌}
use Rattle.serde_amqp_de.specs.Takes.{is_boolean, mapped, multiple_taken, option_taken, or_null, string_taken}
use Rattle.serde_amqp_de.specs.Takes.{uint_taken}
use Rattle.serde_amqp_values.specs.Choice.{choice_taken, row_said}
use Rattle.amqp_session_types.specs.Limits.{limited}
use Rattle.amqp_session_types.specs.Modes.{role_item, role_taken}
use Rattle.amqp_session_types.specs.declared.modes.ReceiverSettleMode.TheVariants.{First, Second}
use Rattle.amqp_session_types.specs.declared.modes.SenderSettleMode.TheVariants.{Unsettled, Settled, Mixed}
use Rattle.amqp_session_states.specs.Source.{source_item, source_taken}
use Rattle.amqp_session_states.specs.TargetArchetype.{target_archetype_item, target_archetype_taken}
use Rattle.amqp_session_performatives.specs.Attach.{attach_fields, attach_takes}
use Rattle.amqp_session_performatives.specs.Parts.{unsettled_taken}
use Rattle.amqp_session_performatives.specs.declared.performative.Performative.TheVariants as performing
use Rattle.amqp_session_frames.specs.CommonAttach.{IsLink, IsModes, IsTermini, incomplete_items}
use Rattle.amqp_session_frames.specs.CommonAttach.{incomplete_takes, initial_items, initial_takes}
use Rattle.amqp_session_frames.specs.CommonAttach.{last_items, last_takes, most_items, most_takes, nothing_last}
use Rattle.amqp_session_frames.specs.CommonAttach.{receiver_mode_item, receiver_mode_takes}
use Rattle.amqp_session_frames.specs.CommonAttach.{saying_only, sender_mode_item, sender_mode_takes}
use Rattle.amqp_session_frames.specs.CommonTerminus.{TerminusFront, source_said, target_said}
use Rattle.amqp_session_frames.specs.Items.{Fields, Front, RecordFront, flag_item}
use Rattle.amqp_session_frames.specs.Text.{BodyText}
use Rattle.amqp_session_frames.specs.declared.common_attach.AttachFields.{AttachFields}
use Rattle.amqp_session_frames.specs.declared.common_attach.LastFields.{LastFields}
use Rattle.amqp_session_frames.specs.declared.common_attach.LinkFields.{LinkFields}
use Rattle.amqp_session_frames.specs.declared.common_attach.ModeFields.{ModeFields}
use Rattle.amqp_session_frames.specs.declared.common_attach.TerminusFields.{TerminusFields}
use Rattle.amqp_session_frames.specs.declared.frame.FrameBody.TheVariants as bodies
use Rattle.amqp_session_frames.proofs.Fronts.{record_performed}
use Rattle.amqp_session_frames.proofs.LastRead.{fields_left, fields_more, flag_or_false_taken, no_fields}
use Rattle.amqp_session_frames.proofs.LastRead.{uint_or_null_taken, ulong_or_null_taken}
use Rattle.amqp_session_frames.proofs.TerminusRead.{source_is_taken, target_is_taken}

-- ---- settle modes

pub mixed_absent : sender_mode_takes (option_item (λ n. scalar (ubyte n)) None) ≡ Some (sender_mode_item Mixed)
unfolding option_taken mapped
mixed_absent = refl

pub unsettled_said : (n : ℕ) → n ≡ 0
    → sender_mode_takes (option_item (λ k. scalar (ubyte k)) (Some n)) ≡ Some (sender_mode_item Unsettled)
unfolding option_taken mapped limited
unsettled_said n is = ap (λ (k : ℕ). sender_mode_takes (scalar (ubyte k))) is

pub settled_said : (n : ℕ) → n ≡ 1
    → sender_mode_takes (option_item (λ k. scalar (ubyte k)) (Some n)) ≡ Some (sender_mode_item Settled)
unfolding option_taken mapped limited
settled_said n is = ap (λ (k : ℕ). sender_mode_takes (scalar (ubyte k))) is

pub mixed_said : (n : ℕ) → n ≡ 2
    → sender_mode_takes (option_item (λ k. scalar (ubyte k)) (Some n)) ≡ Some (sender_mode_item Mixed)
unfolding option_taken mapped limited
mixed_said n is = ap (λ (k : ℕ). sender_mode_takes (scalar (ubyte k))) is

pub ruleset sender_modes = (mixed_absent, unsettled_said, settled_said, mixed_said)

pub first_absent : receiver_mode_takes (option_item (λ n. scalar (ubyte n)) None) ≡ Some (receiver_mode_item First)
unfolding option_taken mapped
first_absent = refl

pub first_said : (n : ℕ) → n ≡ 0
    → receiver_mode_takes (option_item (λ k. scalar (ubyte k)) (Some n)) ≡ Some (receiver_mode_item First)
unfolding option_taken mapped limited
first_said n is = ap (λ (k : ℕ). receiver_mode_takes (scalar (ubyte k))) is

pub second_said : (n : ℕ) → n ≡ 1
    → receiver_mode_takes (option_item (λ k. scalar (ubyte k)) (Some n)) ≡ Some (receiver_mode_item Second)
unfolding option_taken mapped limited
second_said n is = ap (λ (k : ℕ). receiver_mode_takes (scalar (ubyte k))) is

pub ruleset receiver_modes = (first_absent, first_said, second_said)

-- ---- the fields in front

pub link_found : (f : LinkFields) (bytes one two rest : List ℕ) (receives : Bool)
    → Front (scalar (string f.name.now)) bytes one
    → Front (scalar (uint f.handle)) one two → Front (scalar (boolean receives)) two rest
    → role_item f.role ≡ scalar (boolean receives)
    → IsLink f bytes rest
link_found f bytes one two rest receives n h r is =
    record { behind_name = one; behind_handle = two; receives = receives; name = n; handle = h; role = r; said = is }

pub modes_found : (f : ModeFields) (bytes between rest : List ℕ) (sender receiver : Option ℕ)
    → Front (option_item (λ n. scalar (ubyte n)) sender) bytes between
    → sender_mode_takes (option_item (λ n. scalar (ubyte n)) sender) ≡ Some (sender_mode_item f.sender)
    → Front (option_item (λ n. scalar (ubyte n)) receiver) between rest
    → receiver_mode_takes (option_item (λ n. scalar (ubyte n)) receiver) ≡ Some (receiver_mode_item f.receiver)
    → IsModes f bytes rest
modes_found f bytes between rest sender receiver first sends second receives =
    record {
      sender = sender;
      receiver = receiver;
      between = between;
      first = first;
      second = second;
      sends = sends;
      receives = receives;
    }

pub termini_found : (f : TerminusFields) (bytes between rest : List ℕ) → TerminusFront 0x28 f.source bytes between
    → TerminusFront 0x29 f.target between rest → IsTermini f bytes rest
termini_found f bytes between rest source target = record { between = between; source = source; target = target }

-- ---- the last fields

pub most_none : (left : ℕ) (bytes : List ℕ) → left ≡ 0 → bytes ≡ [] → Fields most_takes (most_items None) left bytes
unfolding option_taken multiple_taken
most_none left bytes zero none = no_fields most_takes (most_items None) left bytes zero none refl

pub most_one : (left : ℕ) (bytes rest : List ℕ) (most : Option ℕ) → left ≡ 1
    → Front (option_item (λ n. scalar (ulong n)) most) bytes rest → rest ≡ []
    → Fields most_takes (most_items most) left bytes
unfolding option_taken multiple_taken
most_one left bytes rest most one f none =
    fields_left _ _ (option_item (λ n. scalar (ulong n)) most) _ _ left bytes rest (omega (arith, one)) f
    (ulong_or_null_taken most)
    (no_fields _ (scalar null ∷ scalar null ∷ scalar null ∷ []) (left - 1) rest (omega (arith, one)) none refl)

pub ruleset most_forms = (most_none, most_one)

pub initial_none : (left : ℕ) (bytes : List ℕ) → left ≡ 0 → bytes ≡ []
    → Fields initial_takes (initial_items None None) left bytes
unfolding option_taken multiple_taken
initial_none left bytes zero none = no_fields initial_takes (initial_items None None) left bytes zero none refl

pub initial_some : (left : ℕ) (bytes rest : List ℕ) (initial most : Option ℕ) → left ≢ 0
    → Front (option_item (λ n. scalar (uint n)) initial) bytes rest
    → Fields most_takes (most_items most) (left - 1) rest
    → Fields initial_takes (initial_items initial most) left bytes
initial_some left bytes rest initial most some f more =
    fields_left _ _ (option_item (λ n. scalar (uint n)) initial) _ _ left bytes rest some f
    (uint_or_null_taken initial) more

pub ruleset initial_forms = (initial_none, initial_some)

pub incomplete_none : (left : ℕ) (bytes : List ℕ) (f : LastFields) → left ≡ 0 → bytes ≡ [] → f ≡ nothing_last
    → Fields incomplete_takes (incomplete_items f) left bytes
unfolding option_taken mapped multiple_taken
incomplete_none left bytes f zero none is =
    subst (λ (g : LastFields). Fields incomplete_takes (incomplete_items g) left bytes) (sym is)
    (no_fields incomplete_takes (incomplete_items nothing_last) left bytes zero none refl)

pub incomplete_some : (left : ℕ) (bytes rest : List ℕ) (flag : Option Bool) (initial most : Option ℕ) → left ≢ 0
    → Front (flag_item flag) bytes rest → Fields initial_takes (initial_items initial most) (left - 1) rest
    → Fields incomplete_takes (or_null (is_boolean false) (scalar (boolean (unwrap_or flag false))) ∷ initial_items
    initial most) left bytes
incomplete_some left bytes rest flag initial most some f more =
    fields_left _ _ (flag_item flag) _ _ left bytes rest some f (flag_or_false_taken flag) more

pub ruleset incomplete_forms = (incomplete_none, incomplete_some)

pub last_none : (left : ℕ) (bytes : List ℕ) (f : LastFields) → left ≡ 0 → bytes ≡ [] → f ≡ nothing_last
    → Fields last_takes (last_items f) left bytes
unfolding option_taken mapped multiple_taken
last_none left bytes f zero none is =
    subst (λ (g : LastFields). Fields last_takes (last_items g) left bytes) (sym is)
    (no_fields last_takes (last_items nothing_last) left bytes zero none refl)

pub last_some : (left : ℕ) (bytes rest : List ℕ) (f : LastFields) → left ≢ 0 → Front (scalar null) bytes rest
    → Fields incomplete_takes (incomplete_items f) (left - 1) rest → Fields last_takes (last_items f) left bytes
unfolding option_taken
last_some left bytes rest f some null_there more =
    fields_left (option_taken unsettled_taken) _ (scalar null) (scalar null) _ left bytes rest some null_there refl more

pub ruleset last_forms = (last_none, last_some)

-- ---- the body

all_fields : (fields one two three : List ℕ) (left : ℕ) (f : AttachFields) → IsLink f.link fields one
    → IsModes f.modes one two → IsTermini f.termini two three
    → Fields last_takes (last_items f.last) left three
    → Fields attach_takes (attach_fields (saying_only f)) (left + 1 + 1 + 1 + 1 + 1 + 1 + 1) fields
all_fields fields one two three left f l m t last =
    let targeted = fields_more (option_taken target_archetype_taken) last_takes t.target.item
    (option_item target_archetype_item (target_said f.termini.target))
    (last_items f.last) left t.between three t.target.front
    (target_is_taken f.termini.target t.target.item t.target.is) last in
    let sourced = fields_more (option_taken source_taken) _ t.source.item
    (option_item source_item (source_said f.termini.source))
    _ (left + 1) two t.between t.source.front (source_is_taken f.termini.source t.source.item t.source.is) targeted in
    let receiving = fields_more receiver_mode_takes _ (option_item (λ n. scalar (ubyte n)) m.receiver)
    (receiver_mode_item f.modes.receiver)
    _ (left + 1 + 1) m.between two m.second m.receives sourced in
    let sending = fields_more sender_mode_takes _ (option_item (λ n. scalar (ubyte n)) m.sender)
    (sender_mode_item f.modes.sender)
    _ (left + 1 + 1 + 1) one m.between m.first m.sends receiving in
    let playing = fields_more role_taken _ (scalar (boolean l.receives)) (role_item f.link.role)
    _ (left + 1 + 1 + 1 + 1) l.behind_handle one l.role (ap (λ (x : Item). Some x) (sym l.said)) sending in
    let handled = fields_more uint_taken _ (scalar (uint f.link.handle)) (scalar (uint f.link.handle))
    _ (left + 1 + 1 + 1 + 1 + 1) l.behind_name l.behind_handle l.handle refl playing in
    fields_more string_taken _ (scalar (string f.link.name.now)) (scalar (string f.link.name.now))
    _ (left + 1 + 1 + 1 + 1 + 1 + 1) fields l.behind_name l.name refl handled

pub performed_attach : (content fields one two three : List ℕ) (count : ℕ) (f : AttachFields)
    → RecordFront 0x12 content count fields → 7 ≤ count → count < 256
    → IsLink f.link fields one → IsModes f.modes one two → IsTermini f.termini two three
    → Fields last_takes (last_items f.last) (count - 7) three
    → BodyText content (bodies.Attach (saying_only f))
unfolding choice_taken row_said
performed_attach content fields one two three count f r least byte l m t last =
    let all = all_fields fields one two three (count - 7) f l m t last in
    let p = record_performed 0x12 content fields count (6 + length fields) all.items
    (performing.Attach (saying_only f)) r all.forms (omega (arith, least, all.counts)) byte refl
    (ap (λ (o : Option (List Item)). o >>= λ ys. Some (record_item 0x12 ys)) all.taken) in
    (drop (6 + length fields) content, p.performs, tt)
