-- The type that an item is seen to be of.
use Rattle.std.proofs.Common.{◌≡◌, ◌≢◌, ℕ, List, Option, Some, None, ap, refl, ◌⊎◌, inl, inr}
use Rattle.serde_amqp_item.specs.declared.codes.EncodingCodes.{EncodingCodes}
use Rattle.serde_amqp_item.specs.Item.{Scalar, null, Item, scalar, raw, list, map, array, described}
use Rattle.serde_amqp_item.specs.Wire.{own, row_at, code_of, Form, IsCapped, IsStrict}
use Rattle.serde_amqp_item.specs.Kind.{Kind, kind_of, kind_at, raw_kind}
use Rattle.serde_amqp_item.proofs.FormKinds.{form_kind}
use Rattle.serde_amqp_de.specs.Takes.{kind_seen}

scalar_plain : (s : Scalar) → kind_of (scalar s) ≢ raw_kind
scalar_plain null = λ e. cc
scalar_plain s = λ e. cc

-- behind a constructor it is the constructor's
pub form_seen : (code : EncodingCodes) (x : Item) (k : Option ℕ) (c : ℕ) (a : List ℕ) → code_of c ≡ Some code
    → Form IsCapped IsStrict x (own k c) (row_at (Some code)) a → kind_seen x ≡ Some (kind_at code)
form_seen code (raw text) None c a e h = rw (h.0, e) refl
form_seen code (raw text) (Some i) c a e h = absurd h
form_seen code (scalar s) k c a e h =
    ap (λ (t : Kind). Some t) (form_kind IsCapped IsStrict code (own k c) (scalar s) a (scalar_plain s) h)
form_seen code (list xs) k c a e h =
    ap (λ (t : Kind). Some t) (form_kind IsCapped IsStrict code (own k c) (list xs) a (λ q. cc) h)
form_seen code (map ps) k c a e h =
    ap (λ (t : Kind). Some t) (form_kind IsCapped IsStrict code (own k c) (map ps) a (λ q. cc) h)
form_seen code (array xs) k c a e h =
    ap (λ (t : Kind). Some t) (form_kind IsCapped IsStrict code (own k c) (array xs) a (λ q. cc) h)
form_seen code (described d v) k c a e h =
    ap (λ (t : Kind). Some t) (form_kind IsCapped IsStrict code (own k c) (described d v) a (λ q. cc) h)

-- the type of an item that isn't a kept one
pub seen_kind : (x : Item) (t : Kind) → kind_seen x ≡ Some t → (kind_of x ≡ raw_kind) ⊎ (kind_of x ≡ t)
seen_kind (raw text) t e = inl refl
seen_kind (scalar s) t e = inr cc
seen_kind (list xs) t e = inr cc
seen_kind (map ps) t e = inr cc
seen_kind (array xs) t e = inr cc
seen_kind (described d v) t e = inr cc
