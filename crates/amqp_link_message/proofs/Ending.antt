-- The end of a payload.
use Rattle.std.proofs.Common.{◌≡◌, ℕ, List, [], ◌∷◌, length, arith, refl}
use Rattle.amqp_link_message.specs.Parts.{ReadsParts, NoParts}
use Rattle.amqp_link_message.specs.PartLaws.{end_read, no_end}

no_bytes : (bytes : List ℕ) → length bytes ≡ 0 → bytes ≡ []
no_bytes [] e = refl
no_bytes (b ∷ bytes) e = absurd (omega arith)

pub ends : (bytes : List ℕ) → length bytes ≡ 0 → ReadsParts [] bytes []
ends bytes e = end_read bytes (no_bytes bytes e)

pub goes_on : (bytes : List ℕ) → (bytes ≡ [] → ⊥) → NoParts [] bytes
goes_on bytes n = no_end bytes n

pub ruleset ending = (ends, goes_on)
