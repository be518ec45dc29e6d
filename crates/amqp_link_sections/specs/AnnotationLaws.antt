-- Bytes give one section of these, it is read as it is written, and its item says which it is.
use Rattle.std.proofs.Common.{◌≡◌, ℕ, List, Some, ap, refl}
use Rattle.std.specs.Prelude.{bytes_eq}
use Rattle.serde_amqp_item.specs.Item.{scalar, string, raw}
use Rattle.serde_amqp_de.specs.Decides.{Decided}
use Rattle.serde_amqp_de.specs.Deciding.{string_decided}
use Rattle.serde_amqp_de.specs.Kept.{raw_taken, raw_decided, raw_faithful}
use Rattle.serde_amqp_de.specs.Takes.{string_taken}
use Rattle.serde_amqp_types.specs.Faithful.{string_faithful}
use Rattle.serde_amqp_values.specs.MapAgain.{ordered_again, ordered_faithful}
use Rattle.serde_amqp_values.specs.MapDeciding.{ordered_decided}
use Rattle.amqp_link_sections.specs.DescribedLaws.{described_decided, described_again, described_same}
use Rattle.amqp_link_sections.specs.Annotations.{annotations_item, annotations_taken, named_values_item}
use Rattle.amqp_link_sections.specs.Annotations.{named_values_taken, delivery_annotations_name}
use Rattle.amqp_link_sections.specs.Annotations.{delivery_annotations_item, delivery_annotations_taken}
use Rattle.amqp_link_sections.specs.Annotations.{message_annotations_name, message_annotations_item}
use Rattle.amqp_link_sections.specs.Annotations.{message_annotations_taken, application_properties_name}
use Rattle.amqp_link_sections.specs.Annotations.{application_properties_item, application_properties_taken, footer_name}
use Rattle.amqp_link_sections.specs.Annotations.{footer_item, footer_taken}
use Rattle.amqp_link_sections.specs.declared.delivery_annotations.DeliveryAnnotations.{DeliveryAnnotations}
use Rattle.amqp_link_sections.specs.declared.message_annotations.MessageAnnotations.{MessageAnnotations}
use Rattle.amqp_link_sections.specs.declared.application_properties.ApplicationProperties.{ApplicationProperties}
use Rattle.amqp_link_sections.specs.declared.footer.Footer.{Footer}

annotations_decided : Decided annotations_taken
annotations_decided = ordered_decided raw_taken raw_taken raw_decided raw_decided

annotations_again : (ps : List (List ℕ × List ℕ)) → annotations_taken (annotations_item ps) ≡ Some (annotations_item ps)
annotations_again =
    ordered_again bytes_eq raw_taken raw_taken (λ k. raw k) (λ v. raw v) (λ _ _. refl) (λ _. refl) (λ _. refl)

annotations_same : (ps qs : List (List ℕ × List ℕ)) → annotations_item ps ≡ annotations_item qs → ps ≡ qs
annotations_same = ordered_faithful bytes_eq (λ k. raw k) (λ v. raw v) raw_faithful raw_faithful

named_values_decided : Decided named_values_taken
named_values_decided = ordered_decided string_taken raw_taken string_decided raw_decided

named_values_again : (ps : List (List ℕ × List ℕ))
    → named_values_taken (named_values_item ps) ≡ Some (named_values_item ps)
named_values_again =
    ordered_again bytes_eq string_taken raw_taken (λ k. scalar (string k)) (λ v. raw v) (λ _ _. refl) (λ _. refl)
    (λ _. refl)

named_values_same : (ps qs : List (List ℕ × List ℕ)) → named_values_item ps ≡ named_values_item qs → ps ≡ qs
named_values_same = ordered_faithful bytes_eq (λ k. scalar (string k)) (λ v. raw v) string_faithful raw_faithful

pub delivery_annotations_decided : Decided delivery_annotations_taken
delivery_annotations_decided = described_decided 0x71 delivery_annotations_name annotations_taken annotations_decided

pub delivery_annotations_again : (x : DeliveryAnnotations)
    → delivery_annotations_taken (delivery_annotations_item x) ≡ Some (delivery_annotations_item x)
delivery_annotations_again x =
    described_again 0x71 delivery_annotations_name annotations_taken (annotations_item x.0) (annotations_again x.0)

pub delivery_annotations_same : (x y : DeliveryAnnotations) → delivery_annotations_item x ≡ delivery_annotations_item y
    → x ≡ y
delivery_annotations_same x y e =
    ap (λ (ps : List (List ℕ × List ℕ)). record { 0 = ps })
    (annotations_same x.0 y.0 (described_same 0x71 (annotations_item x.0) (annotations_item y.0) e))

pub message_annotations_decided : Decided message_annotations_taken
message_annotations_decided = described_decided 0x72 message_annotations_name annotations_taken annotations_decided

pub message_annotations_again : (x : MessageAnnotations)
    → message_annotations_taken (message_annotations_item x) ≡ Some (message_annotations_item x)
message_annotations_again x =
    described_again 0x72 message_annotations_name annotations_taken (annotations_item x.0) (annotations_again x.0)

pub message_annotations_same : (x y : MessageAnnotations) → message_annotations_item x ≡ message_annotations_item y
    → x ≡ y
message_annotations_same x y e =
    ap (λ (ps : List (List ℕ × List ℕ)). record { 0 = ps })
    (annotations_same x.0 y.0 (described_same 0x72 (annotations_item x.0) (annotations_item y.0) e))

pub application_properties_decided : Decided application_properties_taken
application_properties_decided =
    described_decided 0x74 application_properties_name named_values_taken named_values_decided

pub application_properties_again : (x : ApplicationProperties)
    → application_properties_taken (application_properties_item x) ≡ Some (application_properties_item x)
application_properties_again x =
    described_again 0x74 application_properties_name named_values_taken (named_values_item x.0) (named_values_again x.0)

pub application_properties_same : (x y : ApplicationProperties)
    → application_properties_item x ≡ application_properties_item y → x ≡ y
application_properties_same x y e =
    ap (λ (ps : List (List ℕ × List ℕ)). record { 0 = ps })
    (named_values_same x.0 y.0 (described_same 0x74 (named_values_item x.0) (named_values_item y.0) e))

pub footer_decided : Decided footer_taken
footer_decided = described_decided 0x78 footer_name annotations_taken annotations_decided

pub footer_again : (x : Footer) → footer_taken (footer_item x) ≡ Some (footer_item x)
footer_again x = described_again 0x78 footer_name annotations_taken (annotations_item x.0) (annotations_again x.0)

pub footer_same : (x y : Footer) → footer_item x ≡ footer_item y → x ≡ y
footer_same x y e =
    ap (λ (ps : List (List ℕ × List ℕ)). record { 0 = ps })
    (annotations_same x.0 y.0 (described_same 0x78 (annotations_item x.0) (annotations_item y.0) e))
