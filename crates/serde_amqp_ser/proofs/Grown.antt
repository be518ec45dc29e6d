-- Sinks that grow.
use Rattle.std.proofs.Common.{◌≡◌, ℕ, ◌+◌, ◌<◌, List, [], ◌++◌, length, Option, Some, None, sym, ◌∙◌, ap, refl, arith, length-append, append_assoc, append-nil}
use Rattle.serde_amqp_item.specs.Canon.{Place}
use Rattle.serde_amqp_ser.specs.Puts.{State}
use Rattle.serde_amqp_ser.specs.Written.{Written, capped, extended, longer, inside, Keeps}

longer_twice : (o : Option (List ℕ)) (x y : List ℕ) → longer (longer o x) y ≡ longer o (x ++ y)
longer_twice None x y = refl
longer_twice (Some b) x y = ap (λ (s : List ℕ). Some s) (append_assoc b x y)

longer_none : (o : Option (List ℕ)) → longer o [] ≡ o
longer_none None = refl
longer_none (Some b) = simp append-nil

pub extended-extended : (w : Written) (x y : List ℕ) → extended (extended w x) y ≡ extended w (x ++ y)
unfolding extended
extended-extended w x y =
    let size : capped (capped (w.size + length x) + length y) ≡ capped (w.size + length (x ++ y)) = omega (arith, length-append x y) in
    let bytes = longer_twice w.bytes x y in
    cc

-- the bytes of before stay
pub keeps_same : (a b : Written) → b ≡ a → Keeps a b
keeps_same a b e = record { more = []; kept = ap (λ (w : Written). w.bytes) e ∙ sym (longer_none a.bytes) }

pub keeps_then : (a b c : Written) → Keeps a b → Keeps b c → Keeps a c
keeps_then a b c g h = record { more = g.more ++ h.more; kept = h.kept ∙ (ap (λ (o : Option (List ℕ)). longer o h.more) g.kept ∙ longer_twice a.bytes g.more h.more) }

pub keeps_once : (a b : Written) (x : List ℕ) → b ≡ extended a x → Keeps a b
unfolding extended
keeps_once a b x e = record { more = x; kept = ap (λ (w : Written). w.bytes) e }

pub keeps_more : (a b c : Written) (x : List ℕ) → Keeps a b → c ≡ extended b x → Keeps a c
keeps_more a b c x g e = keeps_then a b c g (keeps_once b c x e)

pub keeps_as : (a b c : Written) → Keeps a b → c ≡ b → Keeps a c
keeps_as a b c g e = record { more = g.more; kept = ap (λ (w : Written). w.bytes) e ∙ g.kept }

pub keeps_put : (a b c : Written) (x : List ℕ) → b ≡ extended a x → c ≡ b → Keeps a c
keeps_put a b c x e f = keeps_as a b c (keeps_once a b x e) f

pub keeps_twice : (a b c : Written) (x y : List ℕ) → b ≡ extended a x → c ≡ extended b y → Keeps a c
keeps_twice a b c x y e f = keeps_more a b c y (keeps_once a b x e) f

-- the bytes before a compound value stay while its content is written
pub keeps_inside : (begins : ℕ → ℕ) (w now : Written) (content : List ℕ) → now ≡ extended (inside begins w) content → Keeps w now
unfolding extended inside
keeps_inside begins w now content e = record { more = content; kept = ap (λ (v : Written). v.bytes) e }

pub keeps_content : (begins : ℕ → ℕ) (w now after : Written) (content : List ℕ) → now ≡ extended (inside begins w) content → after ≡ now → Keeps w after
keeps_content begins w now after content e f = keeps_as w now after (keeps_inside begins w now content e) f

-- content that began somewhere doesn't end before that
pub not_beyond : (begins : ℕ → ℕ) (w now : Written) (content : List ℕ) (start : ℕ) → now ≡ extended (inside begins w) content → w.size ≡ start → now.size < capped (begins start) → ⊥
unfolding extended inside
not_beyond begins w now content start e s l =
    let size : now.size ≡ capped (begins w.size + length content) = ap (λ (v : Written). v.size) e in
    let same : begins w.size ≡ begins start = ap begins s in
    omega (arith, size, same, l)

-- a state that is as before
pub keeps_state : (a b : Written) (p q : Place) → ◌≡◌ {A = State} (record { written = b; place = q }) (record { written = a; place = p }) → Keeps a b
keeps_state a b p q e = keeps_same a b (ap (λ (s : State). s.written) e)

pub ruleset growing = (keeps_state, keeps_same, keeps_more, keeps_then, keeps_once, keeps_as, keeps_put, keeps_twice, keeps_inside, keeps_content, extended-extended)
