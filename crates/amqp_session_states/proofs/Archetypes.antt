-- Reading a target, or another described value.
use Rattle.std.proofs.Common.{◌≡◌, ◌≢◌, ℕ, List, [], ◌∷◌, ◌++◌, Bool, true, false, Option, Some, None, Result, sym, ◌∙◌, ap, subst, refl}
use Rattle.std.specs.Prelude.{if◌then◌else◌, is_some, IsErrAnd}
use Rattle.std.proofs.lemmas.Result.{err_from_is_err_and}
use Rattle.serde_amqp_item.specs.declared.error.Error.{Error}
use Rattle.serde_amqp_item.specs.declared.error.Error.TheVariants.{Message, Io, InvalidFormatCode, InvalidValue, InvalidUtf8Encoding, SequenceLengthMismatch, InvalidLength, Memory}
use Rattle.serde_amqp_item.specs.Item.{Item, scalar, raw, list, map, array, described}
use Rattle.serde_amqp_item.specs.Wire.{Wire, IsStrict}
use Rattle.serde_amqp_item.proofs.Forms.{wire_same, wire_strict}
use Rattle.serde_amqp_read.specs.Reads.{Otherwise, Refusal, Unless, faultless}
use Rattle.serde_amqp_de.specs.Kept.{raw_taken, raw_is_its_bytes}
use Rattle.serde_amqp_de.specs.Reads.{At, Reads, Refuses, Took}
use Rattle.serde_amqp_de.specs.Takes.{descriptor_taken, record_taken}
use Rattle.serde_amqp_values.specs.MapDeciding.{no_wire}
use Rattle.amqp_session_states.specs.Target.{target_taken}
use Rattle.amqp_session_states.specs.TargetArchetype.{is_other, no_target, target_archetype_item, target_archetype_taken}
use Rattle.amqp_session_states.specs.declared.target_archetype.TargetArchetype.TheVariants.{Other}

none_some : (u : Item) → None ≡ Some u → ⊥
none_some u e = absurd cc

-- what is taken as a target stays one
target_stays : (x u : Item) → target_taken x ≡ Some u → target_archetype_taken x ≡ Some u
unfolding target_archetype_taken record_taken descriptor_taken
target_stays (raw bytes) u e = absurd (none_some u e)
target_stays (described (raw []) x) u e = absurd (none_some u e)
target_stays x u e = e

pub target_took : (k : Option ℕ) (old new : At) (y : Item) → Took target_taken k old new y → Took target_archetype_taken k old new y
target_took k old new y t = record { item = t.item; reads = t.reads; taken = target_stays t.item y t.taken }

-- an item that has a form, is no target and isn't kept is not taken
untaken : (x : Item) (k : Option ℕ) (a : List ℕ) → Wire x k a → ((bytes : List ℕ) → x ≡ raw bytes → is_other bytes ≡ false) → target_taken x ≡ None → target_archetype_taken x ≡ None
unfolding target_archetype_taken
untaken (raw bytes) k a w o e = ap (λ (b : Bool). if b then Some (raw bytes) else None) (o bytes refl)
untaken (described (raw []) x) k a w o e = absurd (no_wire x k a w)
untaken x k a w o e = e

-- no element of an array is kept
no_element : (x : Item) (bytes : List ℕ) (k : Option ℕ) (a : List ℕ) → is_some k ≡ true → Wire x k a → x ≡ raw bytes → is_other bytes ≡ false
no_element x bytes None a s w e = absurd cc
no_element x bytes (Some c) a s w e = absurd ((subst (λ (i : Item). Wire i (Some c) a) e w).3)

pub element_refused : (k : Option ℕ) (old mid : At) → Refuses target_taken k mid → mid ≡ old → is_some k ≡ true → Refuses target_archetype_taken k old
element_refused k old mid r same s =
    let here : Refuses target_taken k old = subst (λ (p : At). Refuses target_taken k p) same r in
    record { none = λ x f more w e. untaken x k f w (λ bytes i. no_element x bytes k f s w i) (here.none x f more w e) }

kept_is : (x : Item) (bytes : List ℕ) → raw_taken x ≡ Some (raw bytes) → x ≡ raw bytes
kept_is (raw text) bytes e = cc
kept_is (scalar s) bytes e = absurd cc
kept_is x bytes e = absurd cc

other_taken : (bytes : List ℕ) → is_other bytes ≡ true → target_archetype_taken (raw bytes) ≡ Some (target_archetype_item (Other bytes))
unfolding target_archetype_taken
other_taken bytes o = ap (λ (b : Bool). if b then Some (raw bytes) else None) o ∙ sym (ap (λ (b : Bool). Some (if b then raw bytes else no_target (raw bytes))) o)

-- an other described value is kept
pub other_took : (k : Option ℕ) (old new : At) (bytes : List ℕ) → Took raw_taken k old new (raw bytes) → is_other bytes ≡ true → Took target_archetype_taken k old new (target_archetype_item (Other bytes))
other_took k old new bytes t o = record {
  item = t.item;
  reads = t.reads;
  taken = ap target_archetype_taken (kept_is t.item bytes t.taken) ∙ other_taken bytes o;
}

strict_at : (x : Item) (k : Option ℕ) (front : List ℕ) → is_some k ≡ false → Wire x k front → (bytes : List ℕ) × Wire (raw bytes) k front
strict_at x (Some c) front s w = absurd cc
strict_at x None front s w =
    let strict : IsStrict w.0 w.1 = wire_strict x w.0 w.1 (w.0, w.1, refl, w.3) in
    (w.0 ∷ w.1, (w.0, w.1, w.2, (refl, strict)))

-- where nothing can be kept nothing has a form
pub none_kept : (take : Item → Option Item) (k : Option ℕ) (old : At) → Refuses raw_taken k old → is_some k ≡ false → Refuses take k old
none_kept take k old r s = record {
  none = λ x f more w e.
      let p = strict_at x k f s w in
      let no : raw_taken (raw p.0) ≡ None = r.none (raw p.0) f more p.1 e in
      absurd cc;
}

kept_form : (x : Item) (k : Option ℕ) (front bytes : List ℕ) → raw_taken x ≡ Some (raw bytes) → Wire x k front → bytes ≡ front
kept_form x k front bytes e w = raw_is_its_bytes bytes k front (subst (λ (i : Item). Wire i k front) (kept_is x bytes e) w)

form_at : (x : Item) (k : Option ℕ) (front : List ℕ) → is_some k ≡ false → Wire x None front → Wire x k front
form_at x (Some c) front s w = absurd cc
form_at x None front s w = w

form_alone : (x : Item) (k : Option ℕ) (front : List ℕ) → is_some k ≡ false → Wire x k front → Wire x None front
form_alone x (Some c) front s w = absurd cc
form_alone x None front s w = w

-- the kept bytes are a target's
pub kept_target : (k : Option ℕ) (old new : At) (bytes : List ℕ) (x y : Item) → Took raw_taken k old new (raw bytes) → is_some k ≡ false → Wire x None bytes → target_taken x ≡ Some y → Took target_archetype_taken k old new y
kept_target k old new bytes x y t s w e =
    let all = kept_form t.item k t.reads.front bytes t.taken t.reads.wire in
    record {
      item = x;
      reads = record { front = t.reads.front; wire = form_at x k t.reads.front s (subst (λ (a : List ℕ). Wire x None a) all w); moves = t.reads.moves };
      taken = target_stays x y e;
    }

-- the kept bytes are neither a target's nor another described value
pub none_target : (k : Option ℕ) (old new : At) (bytes : List ℕ) → Took raw_taken k old new (raw bytes) → is_some k ≡ false → is_other bytes ≡ false → ((x : Item) → Wire x None bytes → target_taken x ≡ None) → Refuses target_archetype_taken k old
none_target k old new bytes t s o none = record {
  none = λ x f more w e.
      let all : bytes ≡ t.reads.front = kept_form t.item k t.reads.front bytes t.taken t.reads.wire in
      let same = wire_same t.item x k t.reads.front f new.rest more t.reads.wire w (sym t.reads.moves.split ∙ e) in
      let front : f ≡ bytes = sym same.0 ∙ sym all in
      untaken x k f w (λ c i. ap is_other (raw_is_its_bytes c k f (subst (λ (z : Item). Wire z k f) i w) ∙ front) ∙ o)
      (none x (subst (λ (a : List ℕ). Wire x None a) front (form_alone x k f s w)));
}

otherwise_given : (b : Bool) (P : Type 0) → P → Otherwise b P
otherwise_given true P h = tt
otherwise_given false P h = h

-- what a call over bytes refuses a call over a reader does
faultless_weaker : (faulty : Error → Bool) (e : Error) (P Q : Type 0) → (P → Q) → Refusal faultless e P → Refusal faulty e Q
faultless_weaker faulty Memory P Q f h = tt
faultless_weaker faulty (Io kind) P Q f h = otherwise_given (faulty (Io kind)) Q (f h)
faultless_weaker faulty Message P Q f h = f h
faultless_weaker faulty InvalidFormatCode P Q f h = f h
faultless_weaker faulty InvalidValue P Q f h = f h
faultless_weaker faulty InvalidUtf8Encoding P Q f h = f h
faultless_weaker faulty SequenceLengthMismatch P Q f h = f h
faultless_weaker faulty InvalidLength P Q f h = f h

pub carried_from_bytes : {X : Type 0} (faulty : Error → Bool) (r : Result X Error) (e : Error) (P Q : Type 0) → IsErrAnd r (λ f. f ≡ e) → (P → Q) → Refusal faultless e P → Unless faulty r Q
carried_from_bytes faulty r e P Q is f h =
    let p = err_from_is_err_and r is in
    rw (p.1, p.2) (faultless_weaker faulty e P Q f h)

pub ruleset archetypes = (target_took, element_refused, other_took, none_kept, kept_target)
