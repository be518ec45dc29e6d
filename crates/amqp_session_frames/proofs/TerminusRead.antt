-- A source and a target in their common form are read by hand.
use Rattle.std.proofs.Common.{◌≡◌, inl, inr, ℕ, ◌+◌, ◌≤◌, List, [], ◌∷◌, ◌++◌, length, drop, get_or, Some, refl}
use Rattle.std.proofs.Common.{sym, ◌∙◌, ap, arith, suc}
use Rattle.std.proofs.Math.Seq.{drop-append_seam}
use Rattle.serde_amqp_item.specs.Item.{Item, scalar, null, string, list, no_items, more_items}
use Rattle.serde_amqp_item.specs.Record.{option_item}
use Rattle.serde_amqp_item.specs.Wire.{Form, IsCapped, IsStrict, row_of, code_of}
use Rattle.serde_amqp_de.specs.Takes.{option_taken, mapped, record_taken, descriptor_taken, multiple_taken}
use Rattle.amqp_session_types.specs.Limits.{limited}
use Rattle.amqp_session_states.specs.Source.{source_item, source_taken}
use Rattle.amqp_session_states.specs.TargetArchetype.{target_archetype_item, target_archetype_taken}
use Rattle.amqp_session_frames.specs.CommonTerminus.{IsAddress, IsTerminus, TerminusFront, bare_item}
use Rattle.amqp_session_frames.specs.CommonTerminus.{single_item, source_said, target_said}
use Rattle.amqp_session_frames.specs.Items.{Front, RecordFront}
use Rattle.amqp_session_frames.specs.declared.common_terminus.Terminus.{Terminus}
use Rattle.amqp_session_frames.specs.declared.common_terminus.Terminus.TheVariants.{Absent, Unaddressed, At}
use Rattle.amqp_session_frames.proofs.Fronts.{forms_of, four_first, null_front}

-- ---- null, and a record without fields

pub absent_found : (code first : ℕ) (bytes rest : List ℕ) → bytes ≡ first ∷ rest → first ≡ 0x40
    → TerminusFront code Absent bytes rest
absent_found code first bytes rest is at = record
    { item = scalar null; front = null_front bytes rest first is at; is = refl }

pub unaddressed_found : (code : ℕ) (bytes rest : List ℕ) → Front (bare_item code) bytes rest
    → TerminusFront code Unaddressed bytes rest
unaddressed_found code bytes rest f = record { item = bare_item code; front = f; is = inl refl }

pub ruleset terminus_forms = (absent_found, unaddressed_found)

pub bare_found : (bytes rest : List ℕ) (code : ℕ) → 4 ≤ length bytes → get_or bytes 0 0 ≡ 0
    → get_or bytes 1 0 ≡ 0x53 → get_or bytes 2 0 ≡ code
    → get_or bytes 3 0 ≡ 0x45 → rest ≡ drop 4 bytes → Front (bare_item code) bytes rest
unfolding row_of code_of
bare_found bytes rest code le a b c d behind =
    record {
      code = 0;
      text = 0x53 ∷ code ∷ 0x45 ∷ [];
      whole = four_first bytes le
          ∙ ap (λ (k : ℕ). k ∷ get_or bytes 1 0 ∷ get_or bytes 2 0 ∷ get_or bytes 3 0 ∷ drop 4 bytes) a
          ∙ ap (λ (k : ℕ). 0 ∷ k ∷ get_or bytes 2 0 ∷ get_or bytes 3 0 ∷ drop 4 bytes) b
          ∙ ap (λ (k : ℕ). 0 ∷ 0x53 ∷ k ∷ get_or bytes 3 0 ∷ drop 4 bytes) c
          ∙ ap (λ (k : ℕ). 0 ∷ 0x53 ∷ code ∷ k ∷ drop 4 bytes) d
          ∙ ap (λ (l : List ℕ). 0 ∷ 0x53 ∷ code ∷ 0x45 ∷ l) (sym behind);
      form = (0x53, code ∷ [], 0x45, [], refl, (refl, refl), (refl, refl));
    }

-- ---- a record of one field

-- the field is all the bytes
pub all_found : (x : Item) (bytes rest : List ℕ) → Front x bytes rest → rest ≡ [] → Front x bytes []
all_found x bytes rest f none =
    record {
      code = f.code;
      text = f.text;
      whole = f.whole
          ∙ ap (λ (l : List ℕ). f.code ∷ (f.text ++ l)) none;
      form = f.form;
    }

pub ruleset address_forms = (all_found)

single_found : (x : Item) (code count : ℕ) (bytes fields rest : List ℕ) → RecordFront code bytes count fields
    → count ≡ 1 → Front x fields []
    → rest ≡ drop (6 + length fields) bytes → Front (single_item code x) bytes rest
unfolding row_of code_of
single_found x code count bytes fields rest l one f behind =
    let inner : List ℕ = suc (length fields) ∷ 1 ∷ fields in
    let text : List ℕ = 0x53 ∷ code ∷ 0xc0 ∷ inner in
    let sized : length fields + 1 ≡ suc (length fields) = omega arith in
    let whole : bytes ≡ (0 ∷ text) ++ l.rest =
    l.whole
    ∙ ap (λ (n : ℕ). 0 ∷ 0x53 ∷ code ∷ 0xc0 ∷ n ∷ count ∷ (fields ++ l.rest)) sized
    ∙ ap (λ (n : ℕ). 0 ∷ 0x53 ∷ code ∷ 0xc0 ∷ suc (length fields) ∷ n ∷ (fields ++ l.rest)) one in
    let long : 6 + length fields ≡ length (0 ∷ text) = omega arith in
    let left : rest ≡ l.rest =
    behind ∙ ap (λ (n : ℕ). drop n bytes) long
    ∙ (ap (drop (length (0 ∷ text))) whole ∙ drop-append_seam (0 ∷ text) l.rest) in
    let listed : Form IsCapped IsStrict (list (more_items x no_items)) (Some 0xc0) (row_of 0xc0) inner = (
      fields,
      omega arith,
      omega arith,
      record { fits = omega (arith, l.fits); whole = refl },
      forms_of x no_items fields [] f refl,
    ) in
    record {
      code = 0;
      text = text;
      whole = whole ∙ ap (λ (r : List ℕ). (0 ∷ text) ++ r) (sym left);
      form = (0x53, code ∷ [], 0xc0, inner, refl, (refl, refl), listed);
    }

pub addressed_found : (code count : ℕ) (bytes fields rest : List ℕ) (t : Terminus)
    → RecordFront code bytes count fields → count ≡ 1
    → IsAddress t fields → rest ≡ drop (6 + length fields) bytes → TerminusFront code t bytes rest
addressed_found code count bytes fields rest Absent l one f behind = absurd f
addressed_found code count bytes fields rest Unaddressed l one f behind =
    record {
      item = single_item code (scalar null);
      front = single_found (scalar null) code count bytes fields rest
          l one f behind;
      is = inr refl;
    }
addressed_found code count bytes fields rest (At address) l one f behind =
    record {
      item = single_item code (scalar (string address.now));
      front = single_found (scalar (string address.now)) code count bytes fields rest l one f behind;
      is = refl;
    }

-- ---- what the items are taken as

pub source_is_taken : (t : Terminus) (x : Item) → IsTerminus 0x28 t x
    → option_taken source_taken x ≡ Some (option_item source_item (source_said t))
unfolding option_taken mapped record_taken descriptor_taken limited multiple_taken
source_is_taken Absent x is = ap (option_taken source_taken) is
source_is_taken Unaddressed x (inl is) = ap (option_taken source_taken) is
source_is_taken Unaddressed x (inr is) = ap (option_taken source_taken) is
source_is_taken (At address) x is = ap (option_taken source_taken) is

pub target_is_taken : (t : Terminus) (x : Item) → IsTerminus 0x29 t x
    → option_taken target_archetype_taken x ≡ Some (option_item target_archetype_item (target_said t))
unfolding option_taken mapped record_taken descriptor_taken limited multiple_taken target_archetype_taken
target_is_taken Absent x is = ap (option_taken target_archetype_taken) is
target_is_taken Unaddressed x (inl is) = ap (option_taken target_archetype_taken) is
target_is_taken Unaddressed x (inr is) = ap (option_taken target_archetype_taken) is
target_is_taken (At address) x is = ap (option_taken target_archetype_taken) is
