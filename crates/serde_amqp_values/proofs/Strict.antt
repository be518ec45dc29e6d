-- Bytes that are one strict form.
use Rattle.std.proofs.Common.{◌≡◌, ◌≢◌, ℕ, List, [], ◌∷◌, ◌++◌, length, Option, Some, None, sym, ◌∙◌, ap, subst, refl, arith, length-append, append-nil}
use Rattle.std.specs.Prelude.{Result, Ok, Err, IfOk}
use Rattle.serde_amqp_item.specs.Item.{Item, scalar, null, raw}
use Rattle.serde_amqp_item.specs.Wire.{Wire, AnyCount, IsStrict, row_of}
use Rattle.serde_amqp_item.specs.Canon.{RawKept}
use Rattle.serde_amqp_item.proofs.Forms.{form_same, wire_strict}
use Rattle.serde_amqp_item.proofs.Constructors.{row_of_byte}
use Rattle.serde_amqp_item.specs.declared.codes.EncodingCodes.TheVariants.{Null}
use Rattle.serde_amqp_item.specs.declared.error.Error.{Error}
use Rattle.serde_amqp_read.specs.Reads.{StrictBytes, NoStrict, Unless, faultless}
use Rattle.serde_amqp_read.proofs.Refusals.{refusal_weaker}

pub null_strict : (bytes : List ℕ) → bytes ≡ 0x40 ∷ [] → StrictBytes bytes
null_strict bytes e = record {
  byte = 0x40;
  behind = [];
  whole = e;
  strict = (scalar null, rw (row_of_byte Null) (refl, refl));
}

-- all bytes were taken
pub all_taken : (bytes form rest : List ℕ) → bytes ≡ form ++ rest → length form ≡ length bytes → form ≡ bytes
all_taken bytes form [] e l = sym (append-nil form) ∙ sym e
all_taken bytes form (b ∷ rest) e l = absurd (omega (arith, l, ap length e, length-append form (b ∷ rest)))

-- bytes that are a strict form are not longer than the one at their front
pub one_form : (bytes form rest : List ℕ) → bytes ≡ form ++ rest → StrictBytes form → StrictBytes bytes → form ≡ bytes
one_form bytes form rest e f b =
    let led : b.byte ∷ (b.behind ++ []) ≡ f.byte ∷ (f.behind ++ rest) = ap (λ (s : List ℕ). b.byte ∷ s) (append-nil b.behind) ∙ (sym b.whole ∙ (e ∙ ap (λ (s : List ℕ). s ++ rest) f.whole)) in
    let same : f.byte ≡ b.byte = cc in
    let behind : b.behind ++ [] ≡ f.behind ++ rest = cc in
    let there : IsStrict b.byte f.behind = subst (λ (c : ℕ). IsStrict c f.behind) same f.strict in
    let z = form_same AnyCount b.strict.0 there.0 (Some b.byte) (row_of b.byte) b.behind f.behind [] rest b.strict.1 there.1 behind in
    let fronts : f.behind ≡ b.behind = sym z.1 in
    f.whole ∙ (ap (λ (c : ℕ). c ∷ f.behind) same ∙ (ap (λ (s : List ℕ). b.byte ∷ s) fronts ∙ sym b.whole))

pub longer : (bytes form rest : List ℕ) → bytes ≡ form ++ rest → StrictBytes form → length form ≢ length bytes → StrictBytes bytes → ⊥
longer bytes form rest e f l b = l (ap length (one_form bytes form rest e f b))

pub not_strict : (bytes : List ℕ) → NoStrict bytes → StrictBytes bytes → ⊥
not_strict bytes n b = n.none b.byte b.behind [] (b.whole ∙ sym (append-nil (b.byte ∷ b.behind))) b.strict

pub kept : (bytes : List ℕ) → StrictBytes bytes → RawKept IsStrict (raw bytes)
kept bytes b = subst (λ (t : List ℕ). RawKept IsStrict (raw t)) (sym b.whole) b.strict

pub strict_same : (form bytes : List ℕ) → StrictBytes form → form ≡ bytes → StrictBytes bytes
strict_same form bytes f e = subst StrictBytes e f

form_strict : (x : Item) (front : List ℕ) → Wire x None front → StrictBytes front
form_strict x front (c, a, l, f) = record { byte = c; behind = a; whole = l; strict = wire_strict x c a (c, a, refl, f) }

-- of a strict form a type reads all
pub all_read : (x : Item) (bytes front more : List ℕ) → StrictBytes bytes → Wire x None front → bytes ≡ front ++ more → Wire x None bytes
all_read x bytes front more b w e = subst (λ (t : List ℕ). Wire x None t) (one_form bytes front more e (form_strict x front w) b) w

-- in all of its bytes nothing is taken where in no front of them is
pub none_read : (bytes : List ℕ) (take : Item → Option Item) → ((x : Item) (front more : List ℕ) → Wire x None front → bytes ≡ front ++ more → take x ≡ None) → (x : Item) → Wire x None bytes → take x ≡ None
none_read bytes take n x w = n x bytes [] w (sym (append-nil bytes))

pub ok_read : {X : Type 0} (r : Result X Error) (item : X → Item) (take : Item → Option Item) (bytes : List ℕ) → StrictBytes bytes → IfOk r (λ v. (x : Item) × (front : List ℕ) × (more : List ℕ) × Wire x None front × (bytes ≡ front ++ more) × (take x ≡ Some (item v))) → IfOk r (λ v. (x : Item) × Wire x None bytes × (take x ≡ Some (item v)))
ok_read (Ok v) item take bytes b (x, front, more, w, e, t) = (x, all_read x bytes front more b w e, t)
ok_read (Err e) item take bytes b h = tt

pub refused_read : {X : Type 0} (r : Result X Error) (take : Item → Option Item) (bytes : List ℕ) → Unless faultless r ((x : Item) (front more : List ℕ) → Wire x None front → bytes ≡ front ++ more → take x ≡ None) → Unless faultless r ((x : Item) → Wire x None bytes → take x ≡ None)
refused_read (Ok v) take bytes h = tt
refused_read (Err e) take bytes h = refusal_weaker faultless e _ _ (none_read bytes take) h

pub ruleset stricts = (null_strict, all_taken, longer, not_strict, kept)
