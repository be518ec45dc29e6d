-- A type of sections takes only those of its own code.
use Rattle.std.proofs.Common.{◌≡◌, ℕ, List, [], ◌∷◌, Option, Some, None, cond, sym, ◌∙◌, ap, refl, arith}
use Rattle.std.specs.Prelude.{◌==◌, ◌≤◌, bytes_eq}
use Rattle.std.specs.Cmp.Lexicographic.{same_text}
use Rattle.std.proofs.lemmas.Bool.Decides.{nat_tests}
use Rattle.serde_amqp_item.specs.Item.{ulong, symbol, Item, scalar, raw, list, map, array, described}
use Rattle.serde_amqp_item.specs.Canon.{◌>>=◌}
use Rattle.serde_amqp_item.proofs.Scalars.{passed}
use Rattle.serde_amqp_item.proofs.Texts.{bind_some}
use Rattle.serde_amqp_de.specs.Takes.{descriptor_taken, record_taken, items_taken, binary_taken}
use Rattle.amqp_link_sections.specs.Described.{described_as}
use Rattle.amqp_link_sections.specs.Header.{header_name, header_takes, header_taken}
use Rattle.amqp_link_sections.specs.Annotations.{annotations_taken, named_values_taken, delivery_annotations_name}
use Rattle.amqp_link_sections.specs.Annotations.{delivery_annotations_taken, message_annotations_name}
use Rattle.amqp_link_sections.specs.Annotations.{message_annotations_taken, application_properties_name}
use Rattle.amqp_link_sections.specs.Annotations.{application_properties_taken, footer_name, footer_taken}
use Rattle.amqp_link_sections.specs.Properties.{properties_name, properties_takes, properties_taken}
use Rattle.amqp_link_sections.specs.Body.{data_name, data_taken, amqp_sequence_name, amqp_sequence_taken}
use Rattle.amqp_link_sections.specs.Body.{amqp_value_name, amqp_value_taken}
use Rattle.amqp_link_message.specs.Sections.{code_named, code_said, section_code, TakesCode, EachOfBody, IsBody}
use Rattle.amqp_link_message.specs.Parts.{exactly_one, any_number, one_or_more}

number_said : (n code : ℕ) (c : Item) → cond (n == code) (Some (scalar (ulong code))) None ≡ Some c → n ≡ code
number_said n code c e = let p = passed (n == code) (scalar (ulong code)) c e in grind (arith, nat_tests, p.0)

name_said : (s name : List ℕ) (code : ℕ) (c : Item) → cond (bytes_eq s name) (Some (scalar (ulong code))) None ≡ Some c
    → s ≡ name
name_said s name code c e = same_text s name (sym (passed (bytes_eq s name) (scalar (ulong code)) c e).0)

descriptor_said : (code : ℕ) (name : List ℕ) (d c : Item) → code_named name ≡ Some code
    → descriptor_taken code name d ≡ Some c → code_said d ≡ Some code
unfolding descriptor_taken code_said
descriptor_said code name (scalar (ulong n)) c k e = ap (λ (m : ℕ). Some m) (number_said n code c e)
descriptor_said code name (scalar (symbol s)) c k e = ap code_named (name_said s name code c e) ∙ k
descriptor_said code name (scalar s) c k e = absurd cc
descriptor_said code name (raw text) c k e = absurd cc
descriptor_said code name (list xs) c k e = absurd cc
descriptor_said code name (map ps) c k e = absurd cc
descriptor_said code name (array xs) c k e = absurd cc
descriptor_said code name (described d v) c k e = absurd cc

record_coded : (code : ℕ) (name : List ℕ) (takes : List (Item → Option Item)) → code_named name ≡ Some code
    → TakesCode (record_taken code name takes) code
unfolding record_taken section_code
record_coded code name takes k (described d v) y e =
    let h = bind_some (descriptor_taken code name d) _ y e in
    descriptor_said code name d h.0 k h.1
record_coded code name takes k (scalar s) y e = absurd cc
record_coded code name takes k (raw text) y e = absurd cc
record_coded code name takes k (list xs) y e = absurd cc
record_coded code name takes k (map ps) y e = absurd cc
record_coded code name takes k (array xs) y e = absurd cc

described_coded : (code : ℕ) (name : List ℕ) (take : Item → Option Item) → code_named name ≡ Some code
    → TakesCode (described_as code name take) code
unfolding described_as section_code
described_coded code name take k (described d v) y e =
    let h = bind_some (descriptor_taken code name d) _ y e in
    descriptor_said code name d h.0 k h.1
described_coded code name take k (scalar s) y e = absurd cc
described_coded code name take k (raw text) y e = absurd cc
described_coded code name take k (list xs) y e = absurd cc
described_coded code name take k (map ps) y e = absurd cc
described_coded code name take k (array xs) y e = absurd cc

pub header_coded : TakesCode header_taken 0x70
header_coded = record_coded 0x70 header_name header_takes refl

pub delivery_annotations_coded : TakesCode delivery_annotations_taken 0x71
delivery_annotations_coded = described_coded 0x71 delivery_annotations_name annotations_taken refl

pub message_annotations_coded : TakesCode message_annotations_taken 0x72
message_annotations_coded = described_coded 0x72 message_annotations_name annotations_taken refl

pub properties_coded : TakesCode properties_taken 0x73
properties_coded = record_coded 0x73 properties_name properties_takes refl

pub application_properties_coded : TakesCode application_properties_taken 0x74
application_properties_coded = described_coded 0x74 application_properties_name named_values_taken refl

pub data_coded : TakesCode data_taken 0x75
data_coded = described_coded 0x75 data_name binary_taken refl

pub amqp_sequence_coded : (take : Item → Option Item) → TakesCode (amqp_sequence_taken take) 0x76
amqp_sequence_coded take = described_coded 0x76 amqp_sequence_name (items_taken take) refl

pub amqp_value_coded : (take : Item → Option Item) → TakesCode (amqp_value_taken take) 0x77
amqp_value_coded take = described_coded 0x77 amqp_value_name take refl

pub footer_coded : TakesCode footer_taken 0x78
footer_coded = described_coded 0x78 footer_name annotations_taken refl

-- a body of one section
pub one_of_body : (take : Item → Option Item) (code : ℕ) → TakesCode take code → 0x75 ≤ code → code ≤ 0x77
    → (xs ys : List Item) → exactly_one take xs ≡ Some ys → IsBody xs
one_of_body take code c l h [] ys e = absurd cc
one_of_body take code c l h (x ∷ []) ys e =
    let y = bind_some (take x) (λ z. Some (z ∷ [])) ys e in
    (record { code = code; coded = c x y.0 y.1; from_data = l; to_value = h }, tt)
one_of_body take code c l h (x ∷ z ∷ xs) ys e = absurd cc

-- a body of one section or more
each_of_body : (take : Item → Option Item) (code : ℕ) → TakesCode take code → 0x75 ≤ code → code ≤ 0x77
    → (xs ys : List Item) → any_number take xs ≡ Some ys → EachOfBody xs
each_of_body take code c l h [] ys e = tt
each_of_body take code c l h (x ∷ xs) ys e =
    let y = bind_some (take x) (λ u. any_number take xs >>= λ us. Some (u ∷ us)) ys e in
    let t = bind_some (any_number take xs) (λ us. Some (y.0 ∷ us)) ys y.2 in
    (record { code = code; coded = c x y.0 y.1; from_data = l; to_value = h }, each_of_body take code c l h xs t.0 t.1)

pub some_of_body : (take : Item → Option Item) (code : ℕ) → TakesCode take code → 0x75 ≤ code → code ≤ 0x77
    → (xs ys : List Item) → one_or_more take xs ≡ Some ys → IsBody xs
some_of_body take code c l h [] ys e = absurd cc
some_of_body take code c l h (x ∷ xs) ys e = each_of_body take code c l h (x ∷ xs) ys e

pub data_of_body : (xs ys : List Item) → exactly_one data_taken xs ≡ Some ys → IsBody xs
data_of_body = one_of_body data_taken 0x75 data_coded (omega arith) (omega arith)

pub amqp_sequence_of_body : (take : Item → Option Item) (xs ys : List Item)
    → exactly_one (amqp_sequence_taken take) xs ≡ Some ys → IsBody xs
amqp_sequence_of_body take =
    one_of_body (amqp_sequence_taken take) 0x76 (amqp_sequence_coded take) (omega arith) (omega arith)

pub amqp_value_of_body : (take : Item → Option Item) (xs ys : List Item)
    → exactly_one (amqp_value_taken take) xs ≡ Some ys → IsBody xs
amqp_value_of_body take = one_of_body (amqp_value_taken take) 0x77 (amqp_value_coded take) (omega arith) (omega arith)
