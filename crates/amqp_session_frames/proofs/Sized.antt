-- What is counted and written of a performative.
use Rattle.std.proofs.Common.{◌≡◌, ◌≢◌, ℕ, ◌≤◌, ◌^◌, List, ◌++◌, length, Option, Some, None, refl, sym, ◌∙◌, ap, subst}
use Rattle.serde_amqp_item.specs.Canon.{canon, Place, alone}
use Rattle.serde_amqp_item.specs.Item.{Item}
use Rattle.serde_amqp_ser.specs.Sizes.{HasLength, IsTooLong}
use Rattle.serde_amqp_ser.specs.Puts.{serialized}
use Rattle.serde_amqp_ser.specs.Written.{capped}
use Rattle.serde_amqp_ser.proofs.Listed.{alone_gives}
use Rattle.serde_amqp_ser.proofs.Ends.{vec_text}
use Rattle.amqp_session_frames.specs.Sizes.{HasText, HasSize, NotSized, Appends}

pub has_size : (text : Option (List ℕ)) (n : ℕ) → HasLength text n → HasSize text n
has_size None n h = absurd h
has_size (Some bytes) n h = record { bytes = bytes; is = refl; long = h }

pub size_text : (text : Option (List ℕ)) (n : ℕ) → HasSize text n → HasText text
size_text text n h = record { bytes = h.bytes; is = h.is }

pub no_text : (text : Option (List ℕ)) → text ≡ None → NotSized text
no_text text e = record { none = λ bytes is. let d : None ≡ Some bytes = sym e ∙ is in absurd cc }

long_text : (text : Option (List ℕ)) (bytes : List ℕ) → IsTooLong text → text ≡ Some bytes → 2 ^ 64 ≤ length bytes
long_text None bytes l e = absurd l
long_text (Some b) bytes l e = let same : b ≡ bytes = cc in subst (λ (x : List ℕ). 2 ^ 64 ≤ length x) same l

pub too_long : (text : Option (List ℕ)) → IsTooLong text → NotSized text
too_long text l = record { none = λ bytes e. long_text text bytes l e }

-- what has a text is refused for memory alone
pub only_memory : {E : Type 0} (text : Option (List ℕ)) (e memory : E) → HasText text → (e ≢ memory → text ≡ None) → e ≢ memory → ⊥
only_memory text e memory h none other = let d : None ≡ Some h.bytes = sym (none other) ∙ h.is in absurd cc

-- what a serializer over these bytes has then written
pub appended : (x : Item) (old new head : List ℕ) (p q : Place) → p ≡ alone → serialized (record { written = record { size = capped (length old); bytes = Some old }; place = p }) x ≡ Some (record { written = record { size = capped (length new); bytes = Some new }; place = q }) → old ≡ head → Appends (canon x) head new
appended x old new head p q outside e same =
    let h = alone_gives x _ _ outside e in
    record { bytes = h.0; is = h.1; behind = vec_text old new h.0 h.2 ∙ ap (λ (b : List ℕ). b ++ h.0) same }

pub ruleset sizing = (has_size, no_text, too_long, only_memory)
