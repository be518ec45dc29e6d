-- A Disposition in its common form is read by hand.
use Rattle.std.proofs.Common.{◌≡◌, ℕ, ◌+◌, ◌≤◌, List, [], ◌∷◌, ◌++◌, length, drop, get_or, Bool, false, Option}
use Rattle.std.proofs.Common.{Some, None, refl, sym, ◌∙◌, ap, subst, arith}
use Rattle.std.specs.Prelude.{unwrap_or}
use Rattle.serde_amqp_item.specs.Item.{Item, Items, scalar, boolean, null, uint, ulong, list, described, no_items, more_items, item_count}
use Rattle.serde_amqp_item.specs.Record.{option_item, record_item}
use Rattle.serde_amqp_item.specs.Wire.{Forms, IsCapped, IsStrict, row_of, code_of}
use Rattle.serde_amqp_item.specs.Canon.{◌>>=◌}
use Rattle.serde_amqp_de.specs.Takes.{boolean_taken, fields_taken, is_boolean, mapped, option_taken, or_null, uint_taken}
use Rattle.serde_amqp_values.specs.Choice.{choice_taken, row_said}
use Rattle.amqp_session_types.specs.Modes.{role_item}
use Rattle.amqp_session_states.specs.DeliveryState.{delivery_state_item, delivery_state_taken}
use Rattle.amqp_session_performatives.specs.Disposition.{disposition_fields, disposition_takes}
use Rattle.amqp_session_performatives.specs.declared.performative.Performative.TheVariants as performing
use Rattle.amqp_session_frames.specs.CommonDisposition.{bare_item, outcome_code, saying_only, state_of}
use Rattle.amqp_session_frames.specs.Items.{Front, RecordFront, flag_item}
use Rattle.amqp_session_frames.specs.Text.{BodyText}
use Rattle.amqp_session_frames.specs.declared.common_disposition.BareOutcome.{BareOutcome}
use Rattle.amqp_session_frames.specs.declared.common_disposition.BareOutcome.TheVariants.{Accepted, Rejected, Released, Modified}
use Rattle.amqp_session_frames.specs.declared.common_disposition.DispositionFields.{DispositionFields}
use Rattle.amqp_session_frames.specs.declared.frame.FrameBody.TheVariants as bodies
use Rattle.amqp_session_frames.proofs.Fronts.{forms_of, record_performed}
use Rattle.amqp_session_frames.proofs.LastRead.{flag_or_false_taken, taken_more, uint_or_null_taken}

-- ---- the outcome

four_bytes : (bytes : List ℕ) → length bytes ≡ 4 → bytes ≡ get_or bytes 0 0 ∷ get_or bytes 1 0 ∷ get_or bytes 2 0 ∷ get_or bytes 3 0 ∷ []
four_bytes (a ∷ b ∷ c ∷ d ∷ []) is = refl
four_bytes (a ∷ b ∷ c ∷ d ∷ e ∷ rest) is = absurd (omega (arith, is))
four_bytes (a ∷ b ∷ c ∷ []) is = absurd (omega (arith, is))
four_bytes (a ∷ b ∷ []) is = absurd (omega (arith, is))
four_bytes (a ∷ []) is = absurd (omega (arith, is))
four_bytes [] is = absurd (omega (arith, is))

pub outcome_found : (bytes : List ℕ) (o : BareOutcome) → length bytes ≡ 4 → get_or bytes 0 0 ≡ 0 → get_or bytes 1 0 ≡ 0x53 → get_or bytes 3 0 ≡ 0x45
    → outcome_code o ≡ get_or bytes 2 0 → Front (bare_item o) bytes []
unfolding row_of code_of
outcome_found bytes o long a b d c =
    record {
      code = 0;
      text = 0x53 ∷ outcome_code o ∷ 0x45 ∷ [];
      whole = four_bytes bytes long
          ∙ ap (λ (k : ℕ). k ∷ get_or bytes 1 0 ∷ get_or bytes 2 0 ∷ get_or bytes 3 0 ∷ []) a
          ∙ ap (λ (k : ℕ). 0 ∷ k ∷ get_or bytes 2 0 ∷ get_or bytes 3 0 ∷ []) b
          ∙ ap (λ (k : ℕ). 0 ∷ 0x53 ∷ k ∷ get_or bytes 3 0 ∷ []) (sym c)
          ∙ ap (λ (k : ℕ). 0 ∷ 0x53 ∷ outcome_code o ∷ k ∷ []) d;
      form = (0x53, outcome_code o ∷ [], 0x45, [], refl, (refl, refl), (refl, refl));
    }

-- ---- what the fields take

outcome_taken : (o : BareOutcome) → option_taken delivery_state_taken (bare_item o) ≡ Some (delivery_state_item (state_of o))
unfolding option_taken choice_taken row_said
outcome_taken Accepted = refl
outcome_taken Rejected = refl
outcome_taken Released = refl
outcome_taken Modified = refl

abbrev items_read : Bool → ℕ → Option ℕ → Option Bool → BareOutcome → Items
items_read b first last settled o =
    more_items (scalar (boolean b)) (more_items (scalar (uint first)) (more_items (option_item (λ n. scalar (uint n)) last) (more_items (flag_item settled) (more_items (bare_item o) no_items))))

all_taken : (b : Bool) (first : ℕ) (last : Option ℕ) (settled : Option Bool) (o : BareOutcome)
    → fields_taken disposition_takes (items_read b first last settled o)
    ≡ Some (scalar (boolean b) ∷ scalar (uint first) ∷ option_item (λ n. scalar (uint n)) last ∷ or_null (is_boolean false) (scalar (boolean (unwrap_or settled false)))
    ∷ delivery_state_item (state_of o) ∷ scalar null ∷ [])
unfolding option_taken mapped
all_taken b first last settled o =
    let flag : Item → Option Item = mapped (or_null (is_boolean false)) (option_taken boolean_taken) in
    let four : List (Item → Option Item) = option_taken delivery_state_taken ∷ flag ∷ [] in
    let three : List (Item → Option Item) = flag ∷ four in
    let two : List (Item → Option Item) = option_taken uint_taken ∷ three in
    let one : List (Item → Option Item) = uint_taken ∷ two in
    let state : Items = more_items (bare_item o) no_items in
    let settling : Items = more_items (flag_item settled) state in
    let lasting : Items = more_items (option_item (λ n. scalar (uint n)) last) settling in
    let numbered : Items = more_items (scalar (uint first)) lasting in
    let states : List Item = delivery_state_item (state_of o) ∷ scalar null ∷ [] in
    let settles : List Item = or_null (is_boolean false) (scalar (boolean (unwrap_or settled false))) ∷ states in
    let lasts : List Item = option_item (λ n. scalar (uint n)) last ∷ settles in
    taken_more boolean_taken one (scalar (boolean b)) (scalar (boolean b)) numbered (scalar (uint first) ∷ lasts) refl
    (taken_more uint_taken two (scalar (uint first)) (scalar (uint first)) lasting lasts refl
    (taken_more (option_taken uint_taken) three (option_item (λ n. scalar (uint n)) last)
    (option_item (λ n. scalar (uint n)) last) settling settles (uint_or_null_taken last)
    (taken_more flag four (flag_item settled)
    (or_null (is_boolean false) (scalar (boolean (unwrap_or settled false)))) state states
    (flag_or_false_taken settled)
    (taken_more (option_taken delivery_state_taken) (flag ∷ []) (bare_item o) (delivery_state_item (state_of o)) no_items (scalar null ∷ []) (outcome_taken o) refl))))

-- ---- the body

pub performed_disposition : (content fields one two three four : List ℕ) (count : ℕ) (b : Bool) (settled : Option Bool) (f : DispositionFields)
    → RecordFront 0x15 content count fields → count ≡ 5
    → Front (scalar (boolean b)) fields one
    → Front (scalar (uint f.first)) one two
    → Front (option_item (λ n. scalar (uint n)) f.last) two three
    → Front (flag_item settled) three four
    → Front (bare_item f.outcome) four []
    → role_item f.role ≡ scalar (boolean b) → f.settled ≡ unwrap_or settled false
    → BodyText content (bodies.Disposition (saying_only f))
unfolding choice_taken row_said
performed_disposition content fields one two three four count b settled f l five r h n s o role said =
    let state : Items = more_items (bare_item f.outcome) no_items in
    let settling : Items = more_items (flag_item settled) state in
    let lasting : Items = more_items (option_item (λ n. scalar (uint n)) f.last) settling in
    let numbered : Items = more_items (scalar (uint f.first)) lasting in
    let xs : Items = items_read b f.first f.last settled f.outcome in
    let forms : Forms IsCapped IsStrict xs None fields =
    forms_of (scalar (boolean b)) numbered fields one r
    (forms_of (scalar (uint f.first)) lasting one two h
    (forms_of (option_item (λ n. scalar (uint n)) f.last) settling two three n
    (forms_of (flag_item settled) state three four s (forms_of (bare_item f.outcome) no_items four [] o refl)))) in
    let fields_are : fields_taken disposition_takes xs ≡ Some (disposition_fields (saying_only f)) =
    all_taken b f.first f.last settled f.outcome
    ∙ ap (λ (x : Item). Some (x ∷ scalar (uint f.first) ∷ option_item (λ n. scalar (uint n)) f.last ∷ or_null (is_boolean false) (scalar (boolean (unwrap_or settled false)))
    ∷ delivery_state_item (state_of f.outcome) ∷ scalar null ∷ [])) (sym role)
    ∙ ap (λ (c : Bool). Some (role_item f.role ∷ scalar (uint f.first) ∷ option_item (λ n. scalar (uint n)) f.last ∷ or_null (is_boolean false) (scalar (boolean c))
    ∷ delivery_state_item (state_of f.outcome) ∷ scalar null ∷ [])) (sym said) in
    let p = record_performed 0x15 content fields count (6 + length fields) xs (performing.Disposition (saying_only f)) l forms five (omega (arith, five)) refl
    (ap (λ (o : Option (List Item)). o >>= λ ys. Some (record_item 0x15 ys)) fields_are) in
    (drop (6 + length fields) content, p.performs, tt)
