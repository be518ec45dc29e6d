-- Bytes give one archetype of a target, it is read as it is written, and its item says which it is.
use Rattle.std.proofs.Common.{◌≡◌, ◌≢◌, ℕ, ◌+◌, List, [], ◌∷◌, ◌++◌, length, Bool, true, false, Option, Some, None, sym}
use Rattle.std.proofs.Common.{◌∙◌, ap, subst, refl, arith, ◌⊎◌, inl, inr}
use Rattle.std.specs.Prelude.{◌==◌, ◌&&◌, ◌||◌, not, if◌then◌else◌, bytes_eq, cond}
use Rattle.std.specs.Int.{w64, from_be_bytes}
use Rattle.std.specs.Str.{is_utf8}
use Rattle.std.proofs.lemmas.Slice.Eq.{bytes_eq-Decides}
use Rattle.serde_amqp_item.specs.Item.{Scalar, ulong, symbol, Item, scalar, raw, list, map, array, described}
use Rattle.serde_amqp_item.specs.Wire.{Width, one_byte, four_bytes, field, Row, row_at, row_of, code_of, byte_of, own}
use Rattle.serde_amqp_item.specs.Wire.{Leads, IsSized, ScalarForm, Form, Wire, IsCapped, IsStrict, symbol_at}
use Rattle.serde_amqp_item.specs.Kind.{Kind, kind_at, kind_of, ulong_kind, symbol_kind, raw_kind, described_kind}
use Rattle.serde_amqp_item.specs.Canon.{◌>>=◌}
use Rattle.serde_amqp_item.specs.Record.{record_item}
use Rattle.serde_amqp_item.specs.declared.codes.EncodingCodes.{EncodingCodes}
use Rattle.serde_amqp_item.specs.declared.codes.EncodingCodes.TheVariants.{DescribedType, ULong, SmallULong, ULong0}
use Rattle.serde_amqp_item.specs.declared.codes.EncodingCodes.TheVariants.{Sym8, Sym32}
use Rattle.serde_amqp_item.proofs.Constructors.{byte_of_code, code_of_byte}
use Rattle.serde_amqp_item.proofs.FormKinds.{form_kind}
use Rattle.serde_amqp_item.proofs.Scalars.{chosen, equal}
use Rattle.serde_amqp_de.specs.Decides.{Decided}
use Rattle.serde_amqp_de.specs.Deciding.{no_form}
use Rattle.serde_amqp_de.specs.Kept.{raw_is_its_bytes}
use Rattle.serde_amqp_de.specs.Takes.{descriptor_taken, record_taken, list_with, fields_taken, kind_seen, is_null_kind}
use Rattle.serde_amqp_de.specs.Takes.{reads_as_null}
use Rattle.serde_amqp_values.specs.MapDeciding.{no_wire}
use Rattle.amqp_session_states.specs.Target.{target_item, target_name, target_takes, target_taken}
use Rattle.amqp_session_states.specs.TargetArchetype.{begins_with_one, is_other, no_target, target_archetype_item}
use Rattle.amqp_session_states.specs.TargetArchetype.{target_archetype_taken, target_descriptors}
use Rattle.amqp_session_states.specs.TargetLaws.{target_again, target_decided, target_same}
use Rattle.amqp_session_states.specs.declared.target.Target.{Target as TargetRecord}
use Rattle.amqp_session_states.specs.declared.target_archetype.TargetArchetype.{TargetArchetype}
use Rattle.amqp_session_states.specs.declared.target_archetype.TargetArchetype.TheVariants.{Target, Other}

-- the eight bytes of a small number
eight_bytes : (a : List ℕ) → length a ≡ 8 → from_be_bytes w64 a ≡ 0x29 → a ≡ 0 ∷ 0 ∷ 0 ∷ 0 ∷ 0 ∷ 0 ∷ 0 ∷ 0x29 ∷ []
eight_bytes [] l e = absurd (omega arith)
eight_bytes (a ∷ []) l e = absurd (omega arith)
eight_bytes (a ∷ b ∷ []) l e = absurd (omega arith)
eight_bytes (a ∷ b ∷ c ∷ []) l e = absurd (omega arith)
eight_bytes (a ∷ b ∷ c ∷ d ∷ []) l e = absurd (omega arith)
eight_bytes (a ∷ b ∷ c ∷ d ∷ f ∷ []) l e = absurd (omega arith)
eight_bytes (a ∷ b ∷ c ∷ d ∷ f ∷ g ∷ []) l e = absurd (omega arith)
eight_bytes (a ∷ b ∷ c ∷ d ∷ f ∷ g ∷ h ∷ []) l e = absurd (omega arith)
eight_bytes (a ∷ b ∷ c ∷ d ∷ f ∷ g ∷ h ∷ i ∷ []) l e =
    let first : a ≡ 0 = omega (arith, e) in
    let second : b ≡ 0 = omega (arith, e) in
    let third : c ≡ 0 = omega (arith, e) in
    let fourth : d ≡ 0 = omega (arith, e) in
    let fifth : f ≡ 0 = omega (arith, e) in
    let sixth : g ≡ 0 = omega (arith, e) in
    let seventh : h ≡ 0 = omega (arith, e) in
    let last : i ≡ 0x29 = omega (arith, e) in
    cc
eight_bytes (a ∷ b ∷ c ∷ d ∷ f ∷ g ∷ h ∷ i ∷ j ∷ more) l e = absurd (omega arith)

-- a target's code is in one of its forms
code_front : (code : EncodingCodes) (c : ℕ) (a more : List ℕ) → c ≡ byte_of code
    → ScalarForm (ulong 0x29) (row_at (Some code)) a → ulong_kind ≡ kind_at code
    → begins_with_one target_descriptors (c ∷ (a ++ more)) ≡ true
code_front ULong c a more e f t =
    let number : from_be_bytes w64 a ≡ 0x29 = cc in
    ap (λ (b : ℕ). begins_with_one target_descriptors (b ∷ (a ++ more))) e
    ∙ ap (λ (s : List ℕ). begins_with_one target_descriptors (0x80 ∷ (s ++ more))) (eight_bytes a f.0 number)
code_front SmallULong c [] more e f t = absurd (omega (arith, f.0))
code_front SmallULong c (b ∷ []) more e f t =
    let number : b ≡ 0x29 = cc in
    ap (λ (i : ℕ). begins_with_one target_descriptors (i ∷ b ∷ more)) e ∙ ap
    (λ (i : ℕ). begins_with_one target_descriptors (0x53 ∷ i ∷ more)) number
code_front SmallULong c (b ∷ d ∷ a) more e f t = absurd (omega (arith, f.0))
code_front ULong0 c a more e f t = absurd cc
code_front code c a more e f t = absurd cc

-- the text of a symbol
symbol_is : (content name : List ℕ) → symbol_at content ≡ Some (symbol name) → content ≡ name
symbol_is content name e =
    elim (chosen (is_utf8 content) _ _ _ e) [ inl h ↦ let w = h.1 in cc | inr h ↦ let w = h.1 in absurd cc ]

sized_is : (w : Width) (content name a : List ℕ) → IsSized w content a → content ≡ name
    → a ≡ field w (length name) ++ name
sized_is w content name a z e = z.whole ∙ ap (λ (s : List ℕ). field w (length s) ++ s) e

-- and a target's name
name_front : (code : EncodingCodes) (c : ℕ) (a more : List ℕ) → c ≡ byte_of code
    → ScalarForm (symbol target_name) (row_at (Some code)) a → symbol_kind ≡ kind_at code
    → begins_with_one target_descriptors (c ∷ (a ++ more)) ≡ true
name_front Sym8 c a more e f t =
    ap (λ (b : ℕ). begins_with_one target_descriptors (b ∷ (a ++ more))) e
    ∙ ap (λ (s : List ℕ). begins_with_one target_descriptors (0xa3 ∷ (s ++ more)))
    (sized_is one_byte f.0 target_name a f.1 (symbol_is f.0 target_name f.2))
name_front Sym32 c a more e f t =
    ap (λ (b : ℕ). begins_with_one target_descriptors (b ∷ (a ++ more))) e
    ∙ ap (λ (s : List ℕ). begins_with_one target_descriptors (0xb3 ∷ (s ++ more)))
    (sized_is four_bytes f.0 target_name a f.1 (symbol_is f.0 target_name f.2))
name_front code c a more e f t = absurd cc

scalar_at : (s : Scalar) (c : ℕ) (a : List ℕ) → kind_of (scalar s) ≢ raw_kind → ScalarForm s (row_of c) a
    → (o : Option EncodingCodes) → code_of c ≡ o
    → (code : EncodingCodes) × (c ≡ byte_of code) × ScalarForm s (row_at (Some code)) a
    × (kind_of (scalar s) ≡ kind_at code)
unfolding row_of
scalar_at s c a plain f None e = absurd (no_form (scalar s) None c a e f)
scalar_at s c a plain f (Some code) e =
    let there : ScalarForm s (row_at (Some code)) a =
    subst (λ (o : Option EncodingCodes). ScalarForm s (row_at o) a) e f in
    (code, byte_of_code code c e, there, form_kind IsCapped IsStrict code (Some c) (scalar s) a plain there)

-- a byte of a scalar's form is a constructor of its type
scalar_front : (s : Scalar) (c : ℕ) (a : List ℕ) → kind_of (scalar s) ≢ raw_kind → ScalarForm s (row_of c) a
    → (code : EncodingCodes) × (c ≡ byte_of code) × ScalarForm s (row_at (Some code)) a
    × (kind_of (scalar s) ≡ kind_at code)
scalar_front s c a plain f = scalar_at s c a plain f (code_of c) refl

numbered : (n : ℕ) (u : Item) → (if n == 0x29 then Some (scalar (ulong 0x29)) else None) ≡ Some u → n ≡ 0x29
numbered n u e = elim (chosen (n == 0x29) _ _ _ e) [ inl h ↦ equal n 0x29 h.0 | inr h ↦ let w = h.1 in absurd cc ]

named : (s : List ℕ) (u : Item) → (if bytes_eq s target_name then Some (scalar (ulong 0x29)) else None) ≡ Some u
    → s ≡ target_name
named s u e =
    elim (chosen (bytes_eq s target_name) _ _ _ e)
    [ inl h ↦ (bytes_eq-Decides s target_name).0 h.0 | inr h ↦ let w = h.1 in absurd cc ]

-- a target's descriptor is in one of its forms
descriptor_front : (d u : Item) (c : ℕ) (a more : List ℕ) → descriptor_taken 0x29 target_name d ≡ Some u
    → Form IsCapped IsStrict d (Some c) (row_of c) a → begins_with_one target_descriptors (c ∷ (a ++ more)) ≡ true
unfolding descriptor_taken
descriptor_front (scalar (ulong n)) u c a more e f =
    let number : n ≡ 0x29 = numbered n u e in
    let p = scalar_front (ulong 0x29) c a (λ q. cc) (subst (λ (i : ℕ). ScalarForm (ulong i) (row_of c) a) number f) in
    code_front p.0 c a more p.1 p.2 p.3
descriptor_front (scalar (symbol s)) u c a more e f =
    let name : s ≡ target_name = named s u e in
    let p =
    scalar_front (symbol target_name) c a (λ q. cc)
    (subst (λ (t : List ℕ). ScalarForm (symbol t) (row_of c) a) name f) in
    name_front p.0 c a more p.1 p.2 p.3
descriptor_front (scalar s) u c a more e f = absurd cc
descriptor_front d u c a more e f = absurd cc

-- what a described form is made of
described_at : (d v : Item) (c : ℕ) (a : List ℕ) (o : Option EncodingCodes) → code_of c ≡ o
    → Form IsCapped IsStrict (described d v) (Some c) (row_of c) a
    → (c ≡ 0x00) × ((i : ℕ) × (f : List ℕ) × (k : ℕ) × (b : List ℕ) × (a ≡ i ∷ (f ++ k ∷ b))
    × Form IsCapped IsStrict d (Some i) (row_of i) f)
unfolding row_of
described_at d v c a None e h = absurd (no_form (described d v) None c a e h)
described_at d v c a (Some DescribedType) e h =
    let p = subst (λ (o : Option EncodingCodes). Form IsCapped IsStrict (described d v) (Some c) (row_at o) a) e h in
    (byte_of_code DescribedType c e, (p.0, p.1, p.2, p.3, p.4, p.5))
described_at d v c a (Some code) e h =
    absurd (subst (λ (o : Option EncodingCodes). Form IsCapped IsStrict (described d v) (Some c) (row_at o) a) e h)

-- the descriptor of what is taken as a target
taken_descriptor : (o : Option Item) (v u : Item)
    → (o >>= λ c. list_with (fields_taken target_takes) v >>= λ ys. Some (record_item 0x29 ys)) ≡ Some u
    → (w : Item) × (o ≡ Some w)
taken_descriptor None v u e = absurd cc
taken_descriptor (Some w) v u e = (w, refl)

-- no form of a target is an other described value
pub target_is_no_other : (x u : Item) (bytes : List ℕ) → target_taken x ≡ Some u → Wire x None bytes
    → is_other bytes ≡ false
unfolding record_taken is_other
target_is_no_other (described d v) u bytes e w =
    let p = described_at d v w.0 w.1 (code_of w.0) refl w.3 in
    let q = taken_descriptor (descriptor_taken 0x29 target_name d) v u e in
    let front : begins_with_one target_descriptors (p.1.0 ∷ (p.1.1 ++ p.1.2 ∷ p.1.3)) ≡ true =
    descriptor_front d q.0 p.1.0 p.1.1 (p.1.2 ∷ p.1.3) q.1 p.1.5 in
    ap is_other (w.2 ∙ (ap (λ (c : ℕ). c ∷ w.1) p.0 ∙ ap (λ (s : List ℕ). 0x00 ∷ s) p.1.4)) ∙ ap (λ (b : Bool). not b)
    front
target_is_no_other x u bytes e w = absurd cc

-- what is taken: kept bytes, an item without a form, or a target
pub data Taken (x u : Item) : Type 0 where
  kept : (bytes : List ℕ) → x ≡ raw bytes → is_other bytes ≡ true → u ≡ raw bytes → Taken x u
  formless : (y : Item) → x ≡ no_target y → Taken x u
  a_target : target_taken x ≡ Some u → Taken x u

kept_if : (bytes : List ℕ) (u : Item) (b : Bool) → is_other bytes ≡ b → (if b then Some (raw bytes) else None) ≡ Some u
    → Taken (raw bytes) u
kept_if bytes u true o e = kept bytes refl o cc
kept_if bytes u false o e = absurd cc

taken_as : (x u : Item) → target_archetype_taken x ≡ Some u → Taken x u
unfolding target_archetype_taken
taken_as (raw bytes) u e = kept_if bytes u (is_other bytes) refl e
taken_as (described (raw []) x) u e = formless x refl
taken_as x u e = a_target e

-- kept bytes are no target
kept_or_target : (x y u : Item) (bytes : List ℕ) (k : Option ℕ) (a : List ℕ) → x ≡ raw bytes → is_other bytes ≡ true
    → Wire x k a → target_taken y ≡ Some u → Wire y k a → ⊥
kept_or_target x y u bytes None a e o g t h =
    let all : bytes ≡ a = raw_is_its_bytes bytes None a (subst (λ (z : Item). Wire z None a) e g) in
    let no : is_other a ≡ false = target_is_no_other y u a t h in
    let yes : is_other a ≡ true = ap is_other (sym all) ∙ o in
    cc
kept_or_target x y u bytes (Some i) a e o g t h = absurd ((subst (λ (z : Item). Wire z (Some i) a) e g).3)

both_taken : (x y : Item) (k : Option ℕ) (a : List ℕ) (u v : Item) → Wire x k a → Wire y k a → Taken x u → Taken y v
    → u ≡ v
both_taken x y k a u v g h (kept s e o p) (kept t f q r) =
    let first : s ≡ a = raw_is_its_bytes s k a (subst (λ (z : Item). Wire z k a) e g) in
    let second : t ≡ a = raw_is_its_bytes t k a (subst (λ (z : Item). Wire z k a) f h) in
    p ∙ (ap (λ (z : List ℕ). raw z) (first ∙ sym second) ∙ sym r)
both_taken x y k a u v g h (kept s e o p) (formless z f) = absurd (no_wire z k a (subst (λ (i : Item). Wire i k a) f h))
both_taken x y k a u v g h (kept s e o p) (a_target t) = absurd (kept_or_target x y v s k a e o g t h)
both_taken x y k a u v g h (formless z e) t = absurd (no_wire z k a (subst (λ (i : Item). Wire i k a) e g))
both_taken x y k a u v g h (a_target t) (kept s f q r) = absurd (kept_or_target y x u s k a f q h t g)
both_taken x y k a u v g h (a_target t) (formless z f) = absurd (no_wire z k a (subst (λ (i : Item). Wire i k a) f h))
both_taken x y k a u v g h (a_target s) (a_target t) = target_decided x y k a u v g h s t

pub target_archetype_decided : Decided target_archetype_taken
target_archetype_decided x y k a u v g h e f = both_taken x y k a u v g h (taken_as x u e) (taken_as y v f)

again_if : (bytes : List ℕ) (b : Bool) → is_other bytes ≡ b
    → target_archetype_taken (if b then raw bytes else no_target (raw bytes))
    ≡ Some (if b then raw bytes else no_target (raw bytes))
unfolding target_archetype_taken
again_if bytes true o = ap (λ (b : Bool). if b then Some (raw bytes) else None) o
again_if bytes false o = refl

pub target_archetype_again : (t : TargetArchetype)
    → target_archetype_taken (target_archetype_item t) ≡ Some (target_archetype_item t)
unfolding target_archetype_taken
target_archetype_again (Target t) = target_again t
target_archetype_again (Other bytes) = again_if bytes (is_other bytes) refl

-- a value that begins with the constructor of a described one is seen to be described
is_described : (c : ℕ) (bytes : List ℕ) (b : Bool) → (c == 0x00) ≡ b
    → (b && not (begins_with_one target_descriptors bytes)) ≡ true → reads_as_null (raw (c ∷ bytes)) ≡ false
is_described c bytes true e o =
    ap (λ (s : Option EncodingCodes). is_null_kind (s >>= λ code. Some (kind_at code)))
    (ap code_of (equal c 0x00 e) ∙ code_of_byte DescribedType)
is_described c bytes false e o = absurd cc

present_if : (bytes : List ℕ) (b : Bool) → is_other bytes ≡ b
    → reads_as_null (if b then raw bytes else no_target (raw bytes)) ≡ false
unfolding is_other
present_if [] true o = absurd cc
present_if (c ∷ bytes) true o = is_described c bytes (c == 0x00) refl o
present_if bytes false o = refl

pub target_archetype_present : (t : TargetArchetype) → reads_as_null (target_archetype_item t) ≡ false
target_archetype_present (Target t) = refl
target_archetype_present (Other bytes) = present_if bytes (is_other bytes) refl

no_kept_target : (b : Bool) (x : TargetRecord) (bytes : List ℕ)
    → target_item x ≡ (if b then raw bytes else no_target (raw bytes)) → ⊥
no_kept_target true x bytes e = absurd cc
no_kept_target false x bytes e = absurd cc

same_if : (a b : Bool) (s t : List ℕ) → (if a then raw s else no_target (raw s))
    ≡ (if b then raw t else no_target (raw t)) → s ≡ t
same_if true true s t e = cc
same_if true false s t e = absurd cc
same_if false true s t e = absurd cc
same_if false false s t e = cc

pub target_archetype_same : (t u : TargetArchetype) → target_archetype_item t ≡ target_archetype_item u → t ≡ u
target_archetype_same (Target t) (Target u) e = ap (λ x. Target x) (target_same t u e)
target_archetype_same (Target t) (Other b) e = absurd (no_kept_target (is_other b) t b e)
target_archetype_same (Other a) (Target u) e = absurd (no_kept_target (is_other a) u a (sym e))
target_archetype_same (Other a) (Other b) e = ap (λ x. Other x) (same_if (is_other a) (is_other b) a b e)
