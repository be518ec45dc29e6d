-- A body begins with a section of its own.
use Rattle.std.proofs.Common.{◌≡◌, ℕ, List, [], ◌∷◌, ◌++◌, Option, Some, true, ◌∙◌, ap, append_assoc, inr}
use Rattle.serde_amqp_item.specs.Item.{Item}
use Rattle.amqp_link_message.specs.Payload.{Says}
use Rattle.amqp_link_message.specs.Parts.{ReadsParts, EndsOrBegins}
use Rattle.amqp_link_message.specs.Sections.{IsBody}
use Rattle.amqp_link_message.specs.SayingLaws.{said_first}
use Rattle.amqp_link_message.specs.PartLaws.{first_part}

begins_by_body : (bytes front rest : List ℕ) (part : List Item) → IsBody part → bytes ≡ front ++ rest → Says front part
    → EndsOrBegins 0x75 bytes
begins_by_body bytes front rest [] b e s = absurd b
begins_by_body bytes front rest (x ∷ xs) b e s =
    let f = said_first x xs front s in
    inr (record {
      item = x;
      front = f.front;
      more = f.rest ++ rest;
      code = b.0.code;
      wire = f.wire;
      split = e ∙ (ap (λ (c : List ℕ). c ++ rest) f.split ∙ append_assoc f.front f.rest rest);
      coded = b.0.coded;
      least_is = b.0.from_data;
    })

pub body_begins : (take : List Item → Option (List Item)) (takes : List (List Item → Option (List Item)))
    → ((xs ys : List Item) → take xs ≡ Some ys → IsBody xs)
    → true ≡ true → (bytes : List ℕ) (parts : List (List Item)) → ReadsParts (take ∷ takes) bytes parts
    → EndsOrBegins 0x75 bytes
body_begins take takes o t bytes [] r = absurd r.taken
body_begins take takes o t bytes (ys ∷ parts) r =
    let p = first_part take takes bytes ys parts r in
    begins_by_body bytes p.front p.rest p.part (o p.part ys p.taken) p.split p.said
