-- What is read as a section says by its descriptor that it is that section.
use Rattle.std.proofs.Common.{◌≡◌, ℕ, List, Option, Some, None, ◌∙◌, ap, refl, inl, inr}
use Rattle.std.specs.Prelude.{◌==◌, bytes_eq}
use Rattle.std.proofs.lemmas.Bool.Decides.{Decides-eqb}
use Rattle.std.proofs.lemmas.Slice.Eq.{bytes_eq-Decides}
use Rattle.serde_amqp_item.specs.Item.{Item, scalar, ulong, symbol, described}
use Rattle.serde_amqp_item.specs.Canon.{◌>>=◌}
use Rattle.serde_amqp_item.specs.Record.{record_item}
use Rattle.serde_amqp_item.proofs.Scalars.{chosen}
use Rattle.serde_amqp_de.specs.Takes.{descriptor_taken, fields_taken, items_taken, list_with, record_taken}
use Rattle.amqp_link_sections.specs.Described.{described_as}
use Rattle.amqp_link_sections.specs.Header.{header_name, header_takes, header_taken}
use Rattle.amqp_link_sections.specs.Annotations.{annotations_taken, named_values_taken, delivery_annotations_name, delivery_annotations_taken, message_annotations_name, message_annotations_taken, application_properties_name, application_properties_taken, footer_name, footer_taken}
use Rattle.amqp_link_sections.specs.Properties.{properties_name, properties_takes, properties_taken}
use Rattle.amqp_link_sections.specs.Body.{data_name, data_taken, amqp_sequence_name, amqp_sequence_taken, amqp_value_name, amqp_value_taken}
use Rattle.serde_amqp_de.specs.Takes.{binary_taken}
use Rattle.amqp_link_sections.specs.Section.{section_of, section_named, section_by, section_said}
use Rattle.amqp_link_sections.specs.declared.section.Section.{Section}
use Rattle.amqp_link_sections.specs.declared.section.Section.TheVariants as is

-- a descriptor with this code or this name says this section
descriptor_said : (code : ℕ) (name : List ℕ) (s : Section) → section_of code ≡ Some s → section_named name ≡ Some s → (d c : Item) → descriptor_taken code name d ≡ Some c → section_by d ≡ Some s
unfolding descriptor_taken section_by
descriptor_said code name s coded named (scalar (ulong n)) c e = elim (chosen (n == code) _ _ _ e) [ inl h ↦ ap section_of ((Decides-eqb n code).0 h.0) ∙ coded | inr h ↦ let w = h.1 in absurd cc ]
descriptor_said code name s coded named (scalar (symbol t)) c e = elim (chosen (bytes_eq t name) _ _ _ e) [ inl h ↦ ap section_named ((bytes_eq-Decides t name).0 h.0) ∙ named | inr h ↦ let w = h.1 in absurd cc ]
descriptor_said code name s coded named (scalar z) c e = absurd cc
descriptor_said code name s coded named d c e = absurd cc

first_some : {A B : Type 0} (o : Option A) (f : A → Option B) (u : B) → (o >>= f) ≡ Some u → (c : A) × (o ≡ Some c)
first_some None f u e = absurd cc
first_some (Some c) f u e = (c, refl)

described_said : (code : ℕ) (name : List ℕ) (s : Section) → section_of code ≡ Some s → section_named name ≡ Some s → (take : Item → Option Item) (x u : Item) → described_as code name take x ≡ Some u → section_said x ≡ Some s
unfolding described_as section_said
described_said code name s coded named take (described d v) u e =
    let p = first_some (descriptor_taken code name d) (λ c. take v >>= λ y. Some (described c y)) u e in
    descriptor_said code name s coded named d p.0 p.1
described_said code name s coded named take x u e = absurd cc

record_said : (code : ℕ) (name : List ℕ) (s : Section) → section_of code ≡ Some s → section_named name ≡ Some s → (takes : List (Item → Option Item)) (x u : Item) → record_taken code name takes x ≡ Some u → section_said x ≡ Some s
unfolding record_taken section_said
record_said code name s coded named takes (described d v) u e =
    let p = first_some (descriptor_taken code name d) (λ c. list_with (fields_taken takes) v >>= λ ys. Some (record_item code ys)) u e in
    descriptor_said code name s coded named d p.0 p.1
record_said code name s coded named takes x u e = absurd cc

pub header_said : (x u : Item) → header_taken x ≡ Some u → section_said x ≡ Some is.Header
header_said = record_said 0x70 header_name is.Header refl refl header_takes

pub delivery_annotations_said : (x u : Item) → delivery_annotations_taken x ≡ Some u → section_said x ≡ Some is.DeliveryAnnotations
delivery_annotations_said = described_said 0x71 delivery_annotations_name is.DeliveryAnnotations refl refl annotations_taken

pub message_annotations_said : (x u : Item) → message_annotations_taken x ≡ Some u → section_said x ≡ Some is.MessageAnnotations
message_annotations_said = described_said 0x72 message_annotations_name is.MessageAnnotations refl refl annotations_taken

pub properties_said : (x u : Item) → properties_taken x ≡ Some u → section_said x ≡ Some is.Properties
properties_said = record_said 0x73 properties_name is.Properties refl refl properties_takes

pub application_properties_said : (x u : Item) → application_properties_taken x ≡ Some u → section_said x ≡ Some is.ApplicationProperties
application_properties_said = described_said 0x74 application_properties_name is.ApplicationProperties refl refl named_values_taken

pub data_said : (x u : Item) → data_taken x ≡ Some u → section_said x ≡ Some is.Data
data_said = described_said 0x75 data_name is.Data refl refl binary_taken

pub amqp_sequence_said : (take : Item → Option Item) (x u : Item) → amqp_sequence_taken take x ≡ Some u → section_said x ≡ Some is.AmqpSequence
amqp_sequence_said take = described_said 0x76 amqp_sequence_name is.AmqpSequence refl refl (items_taken take)

pub amqp_value_said : (take : Item → Option Item) (x u : Item) → amqp_value_taken take x ≡ Some u → section_said x ≡ Some is.AmqpValue
amqp_value_said take = described_said 0x77 amqp_value_name is.AmqpValue refl refl take

pub footer_said : (x u : Item) → footer_taken x ≡ Some u → section_said x ≡ Some is.Footer
footer_said = described_said 0x78 footer_name is.Footer refl refl annotations_taken
