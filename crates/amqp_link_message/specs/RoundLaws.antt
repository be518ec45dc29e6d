-- A message that is written is read back.
use Rattle.std.proofs.Common.{◌≡◌, ℕ, List, [], ◌∷◌, Option, Some, None, sym, ◌∙◌, ap, subst, refl}
use Rattle.serde_amqp_item.specs.Item.{Item}
use Rattle.serde_amqp_item.specs.Canon.{◌>>=◌}
use Rattle.amqp_link_sections.specs.Header.{header_item, header_taken}
use Rattle.amqp_link_sections.specs.HeaderLaws.{header_again}
use Rattle.amqp_link_sections.specs.Annotations.{delivery_annotations_item, delivery_annotations_taken}
use Rattle.amqp_link_sections.specs.Annotations.{message_annotations_item, message_annotations_taken}
use Rattle.amqp_link_sections.specs.Annotations.{application_properties_item, application_properties_taken, footer_item}
use Rattle.amqp_link_sections.specs.Annotations.{footer_taken}
use Rattle.amqp_link_sections.specs.AnnotationLaws.{delivery_annotations_again, message_annotations_again}
use Rattle.amqp_link_sections.specs.AnnotationLaws.{application_properties_again, footer_again}
use Rattle.amqp_link_sections.specs.Properties.{properties_item, properties_taken}
use Rattle.amqp_link_sections.specs.PropertiesLaws.{properties_again}
use Rattle.amqp_link_message.specs.Payload.{payload_text, IsWithinBounds, IsOfForms}
use Rattle.amqp_link_message.specs.Parts.{if_there, at_most_one, exactly_one, joined, PartsTaken, ReadsParts, OneValue}
use Rattle.amqp_link_message.specs.Message.{message_parts, message_items, message_takes}
use Rattle.amqp_link_message.specs.Sections.{IsBody}
use Rattle.amqp_link_message.specs.SayingLaws.{text_says}
use Rattle.amqp_link_message.specs.OneReading.{message_once}
use Rattle.amqp_link_message.specs.declared.message.Message.{Message}

pub one_again : (take : Item → Option Item) (x : Item) → take x ≡ Some x → exactly_one take (x ∷ []) ≡ Some (x ∷ [])
one_again take x e = ap (λ (o : Option Item). o >>= λ y. Some (y ∷ [])) e

there_again : {S : Type 0} (item : S → Item) (take : Item → Option Item) → ((s : S) → take (item s) ≡ Some (item s))
    → (o : Option S) → at_most_one take (if_there item o) ≡ Some (if_there item o)
there_again item take a None = refl
there_again item take a (Some s) = ap (λ (o : Option Item). o >>= λ y. Some (y ∷ [])) (a s)

-- each part is taken as it is
abbrev EachAgain : List (List Item → Option (List Item)) → List (List Item) → Type 0
EachAgain [] [] = Unit {0}
EachAgain (take ∷ takes) (part ∷ parts) = (take part ≡ Some part) × EachAgain takes parts
EachAgain takes parts = ⊥

all_again : (takes : List (List Item → Option (List Item))) (parts : List (List Item)) → EachAgain takes parts
    → PartsTaken takes (joined parts) parts
all_again [] [] a = refl
all_again [] (part ∷ parts) a = absurd a
all_again (take ∷ takes) [] a = absurd a
all_again (take ∷ takes) (part ∷ parts) a = (part, joined parts, refl, a.0, all_again takes parts a.1)

message_again : {B : Type 0} (takes : List Item → Option (List Item)) (items : B → List Item)
    → ((b : B) → takes (items b) ≡ Some (items b)) → (m : Message B)
    → PartsTaken (message_takes takes) (message_items items m) (message_parts items m)
message_again takes items a m = all_again (message_takes takes) (message_parts items m) (
  there_again header_item header_taken header_again m.header,
  (
    there_again delivery_annotations_item delivery_annotations_taken delivery_annotations_again m.delivery_annotations,
    (
      there_again message_annotations_item message_annotations_taken message_annotations_again m.message_annotations,
      (
        there_again properties_item properties_taken properties_again m.properties,
        (
          there_again application_properties_item application_properties_taken application_properties_again
              m.application_properties,
          (a m.body, (there_again footer_item footer_taken footer_again m.footer, tt)),
        ),
      ),
    ),
  ),
)

pub message_read : {B : Type 0} (takes : List Item → Option (List Item)) (read : B → List Item)
    → ((b : B) → takes (read b) ≡ Some (read b)) → (m : Message B) (text : List ℕ)
    → IsWithinBounds (message_items read m) → IsOfForms (message_items read m)
    → payload_text (message_items read m) ≡ Some text → ReadsParts (message_takes takes) text (message_parts read m)
message_read takes read a m text w f e = record {
  items = message_items read m;
  said = text_says (message_items read m) text w f e;
  taken = message_again takes read a m;
}

-- a message whose body is written as the items that it is has the items of the message that is read
message_same : {B : Type 0} (written read : B → List Item) → ((b : B) → written b ≡ read b) → (m : Message B)
    → message_items written m ≡ message_items read m
message_same written read s m = ap (λ (body : List Item). message_items (λ b. body) m) (s m.body)

-- what is read of a message that was written
pub written_once : {B : Type 0} (takes : List Item → Option (List Item)) (written read : B → List Item)
    → ((xs ys : List Item) → takes xs ≡ Some ys → IsBody xs) → OneValue takes
    → ((b : B) → written b ≡ read b) → ((b : B) → takes (read b) ≡ Some (read b)) → (m n : Message B) (text : List ℕ)
    → IsWithinBounds (message_items written m) → IsOfForms (message_items written m)
    → payload_text (message_items written m) ≡ Some text
    → ReadsParts (message_takes takes) text (message_parts read n) → message_parts read n ≡ message_parts read m
written_once takes written read o d s a m n text w f e r =
    let same = message_same written read s m in
    let back =
    message_read takes read a m text (subst IsWithinBounds same w) (subst IsOfForms same f)
    (sym (ap payload_text same) ∙ e) in
    message_once takes o d text (message_parts read n) (message_parts read m) r back
