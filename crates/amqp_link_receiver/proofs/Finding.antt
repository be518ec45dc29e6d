-- The first message that bears a number, as the unsettled deliveries find it.
use Rattle.std.proofs.Common.{◌≡◌, ◌∙◌, ℕ, List, [], ◌∷◌, Bool, cond, Option, None, Some, refl, ap}
use Rattle.amqp_link_unsettled.specs.Numbers as numbers
use Rattle.amqp_link_unsettled.specs.Numbers.{tag_with}
use Rattle.amqp_link_receiver.specs.declared.entry.Entry.{Entry}
use Rattle.amqp_link_receiver.specs.declared.entry.Entry.TheVariants.{Half, Whole}
use Rattle.amqp_link_receiver.specs.Deliveries.{Entries}
use Rattle.amqp_link_receiver.specs.Notes.{entry_number}
use Rattle.amqp_link_receiver.specs.Numbering.{bears, is_number, tag_of}

same-test : (message : ℕ) (own : Option ℕ) → numbers.is_number message own ≡ is_number message own
same-test message None = refl
same-test message (Some own) = refl

same-bearer : (message : ℕ) (entry : Entry) → numbers.is_number message (entry_number entry) ≡ bears message entry
same-bearer message (Whole m) = same-test message m.message
same-bearer message (Half kept) = refl

pub tag-found : (message : ℕ) (es : Entries) → tag_with entry_number message es ≡ tag_of es message
tag-found message [] = refl
tag-found message (e ∷ es) =
    ap (λ (b : Bool). cond b (Some e.0) (tag_with entry_number message es)) (same-bearer message e.1)
    ∙ ap (λ (o : Option (List ℕ)). cond (bears message e.1) (Some e.0) o) (tag-found message es)
