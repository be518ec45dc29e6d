-- Bytes that are written as they are.
use Rattle.std.proofs.Common.{◌≡◌, ℕ, List, [], ◌∷◌, Option, Some, ◌∙◌, ap, refl, sym, append-nil}
use Rattle.serde_amqp_item.specs.Item.{items_of}
use Rattle.serde_amqp_item.specs.Canon.{◌>>=◌}
use Rattle.serde_amqp_ser.specs.Written.{Written, extended}
use Rattle.serde_amqp_ser.specs.Puts.{listed}
use Rattle.amqp_link_message.specs.Payload.{payload_text}
use Rattle.amqp_link_message.specs.Raw.{kept_items}

pub kept_text : (bytes : List ℕ) → payload_text (kept_items bytes) ≡ Some bytes
kept_text [] = refl
kept_text (b ∷ bytes) = ap (λ (s : List ℕ). Some s) (append-nil (b ∷ bytes))

pub kept_listed : (w n : Written) (bytes : List ℕ) → n ≡ extended w bytes → listed w (items_of (kept_items bytes)) ≡ Some n
kept_listed w n bytes e = ap (λ (o : Option (List ℕ)). o >>= λ b. Some (extended w b)) (kept_text bytes) ∙ ap (λ (v : Written). Some v) (sym e)

pub ruleset keeping = (kept_text, kept_listed)
