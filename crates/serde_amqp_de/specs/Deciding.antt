-- What a type makes of bytes is one value.
use Rattle.std.proofs.Common.{◌≡◌, ◌≢◌, ℕ, List, [], ◌∷◌, ◌++◌, Option, Some, None, sym, ◌∙◌, ap, subst, refl, arith}
use Rattle.std.proofs.Common.{◌⊎◌, inl, inr}
use Rattle.serde_amqp_item.specs.declared.codes.EncodingCodes.{EncodingCodes}
use Rattle.serde_amqp_item.specs.Item.{null, boolean, ubyte, ushort, uint, ulong, byte, short, int, long, float, double}
use Rattle.serde_amqp_item.specs.Item.{decimal32, decimal64, decimal128, char, timestamp, uuid, binary, string, symbol}
use Rattle.serde_amqp_item.specs.Item.{Item, scalar, raw, list, map, array, described, Items, no_items, more_items}
use Rattle.serde_amqp_item.specs.Item.{items_of, item_count}
use Rattle.serde_amqp_item.specs.Wire.{Wire, Form, Forms, ScalarForm, IsCapped, IsStrict, own, code_of, row_at, row_of}
use Rattle.serde_amqp_item.specs.Wire.{AnyCount, NoRaw}
use Rattle.serde_amqp_item.specs.Kind.{Kind, null_kind, list_kind, array_kind}
use Rattle.serde_amqp_item.specs.Canon.{WithoutRaw, ◌>>=◌}
use Rattle.std.specs.Prelude.{◌==◌, bytes_eq}
use Rattle.std.proofs.lemmas.List.{append_cancel_left}
use Rattle.serde_amqp_item.specs.Record.{record_item}
use Rattle.serde_amqp_item.proofs.Scalars.{chosen}
use Rattle.serde_amqp_item.proofs.Forms.{wire_same}
use Rattle.serde_amqp_de.specs.Takes.{null_taken, ubyte_taken, byte_taken, short_taken, int_taken, long_taken}
use Rattle.serde_amqp_de.specs.Takes.{float_taken, double_taken, decimal32_taken, decimal64_taken, decimal128_taken}
use Rattle.serde_amqp_de.specs.Takes.{char_taken, timestamp_taken, uuid_taken, binary_taken, boolean_taken}
use Rattle.serde_amqp_de.specs.Takes.{ushort_taken, uint_taken, ulong_taken, string_taken, symbol_taken, option_taken}
use Rattle.serde_amqp_de.specs.Takes.{mapped, kind_seen, unless_null, each_taken, fields_taken, row_taken, tuple_taken}
use Rattle.serde_amqp_de.specs.Takes.{items_taken, elements_taken, sequence_taken, several, alone, unless_several}
use Rattle.serde_amqp_de.specs.Takes.{multiple_taken, descriptor_taken, list_with, record_taken}
use Rattle.serde_amqp_de.specs.Decides.{Decided, AllDecided}
use Rattle.serde_amqp_de.specs.Apart.{apart, leads_one, Together, lists_together, arrays_together, described_together}
use Rattle.serde_amqp_de.specs.Seen.{form_seen}

-- an item without kept ones is taken as it is
abbrev AsItIs : (Item → Option Item) → Type 0
AsItIs take = (x u : Item) → take x ≡ Some u → (x ≡ u) × WithoutRaw x

pub as_it_is_decided : (take : Item → Option Item) → AsItIs take → Decided take
as_it_is_decided take plain x y k a u v g h e f =
    let p = plain x u e in
    let q = plain y v f in
    sym p.0 ∙ ((wire_same x y k a a [] [] g h refl).1 p.1 q.1 ∙ q.0)

null_as_it_is : AsItIs null_taken
null_as_it_is (scalar null) u e = (cc, tt)
null_as_it_is (scalar s) u e = absurd cc
null_as_it_is x u e = absurd cc

pub null_decided : Decided null_taken
null_decided = as_it_is_decided null_taken null_as_it_is

boolean_as_it_is : AsItIs boolean_taken
boolean_as_it_is (scalar (boolean b)) u e = (cc, tt)
boolean_as_it_is (scalar s) u e = absurd cc
boolean_as_it_is x u e = absurd cc

pub boolean_decided : Decided boolean_taken
boolean_decided = as_it_is_decided boolean_taken boolean_as_it_is

ushort_as_it_is : AsItIs ushort_taken
ushort_as_it_is (scalar (ushort n)) u e = (cc, tt)
ushort_as_it_is (scalar s) u e = absurd cc
ushort_as_it_is x u e = absurd cc

pub ushort_decided : Decided ushort_taken
ushort_decided = as_it_is_decided ushort_taken ushort_as_it_is

uint_as_it_is : AsItIs uint_taken
uint_as_it_is (scalar (uint n)) u e = (cc, tt)
uint_as_it_is (scalar s) u e = absurd cc
uint_as_it_is x u e = absurd cc

pub uint_decided : Decided uint_taken
uint_decided = as_it_is_decided uint_taken uint_as_it_is

ulong_as_it_is : AsItIs ulong_taken
ulong_as_it_is (scalar (ulong n)) u e = (cc, tt)
ulong_as_it_is (scalar s) u e = absurd cc
ulong_as_it_is x u e = absurd cc

pub ulong_decided : Decided ulong_taken
ulong_decided = as_it_is_decided ulong_taken ulong_as_it_is

string_as_it_is : AsItIs string_taken
string_as_it_is (scalar (string bs)) u e = (cc, tt)
string_as_it_is (scalar s) u e = absurd cc
string_as_it_is x u e = absurd cc

pub string_decided : Decided string_taken
string_decided = as_it_is_decided string_taken string_as_it_is

symbol_as_it_is : AsItIs symbol_taken
symbol_as_it_is (scalar (symbol bs)) u e = (cc, tt)
symbol_as_it_is (scalar s) u e = absurd cc
symbol_as_it_is x u e = absurd cc

pub symbol_decided : Decided symbol_taken
symbol_decided = as_it_is_decided symbol_taken symbol_as_it_is

ubyte_as_it_is : AsItIs ubyte_taken
ubyte_as_it_is (scalar (ubyte n)) u e = (cc, tt)
ubyte_as_it_is (scalar s) u e = absurd cc
ubyte_as_it_is x u e = absurd cc

pub ubyte_decided : Decided ubyte_taken
ubyte_decided = as_it_is_decided ubyte_taken ubyte_as_it_is

byte_as_it_is : AsItIs byte_taken
byte_as_it_is (scalar (byte n)) u e = (cc, tt)
byte_as_it_is (scalar s) u e = absurd cc
byte_as_it_is x u e = absurd cc

pub byte_decided : Decided byte_taken
byte_decided = as_it_is_decided byte_taken byte_as_it_is

short_as_it_is : AsItIs short_taken
short_as_it_is (scalar (short n)) u e = (cc, tt)
short_as_it_is (scalar s) u e = absurd cc
short_as_it_is x u e = absurd cc

pub short_decided : Decided short_taken
short_decided = as_it_is_decided short_taken short_as_it_is

int_as_it_is : AsItIs int_taken
int_as_it_is (scalar (int n)) u e = (cc, tt)
int_as_it_is (scalar s) u e = absurd cc
int_as_it_is x u e = absurd cc

pub int_decided : Decided int_taken
int_decided = as_it_is_decided int_taken int_as_it_is

long_as_it_is : AsItIs long_taken
long_as_it_is (scalar (long n)) u e = (cc, tt)
long_as_it_is (scalar s) u e = absurd cc
long_as_it_is x u e = absurd cc

pub long_decided : Decided long_taken
long_decided = as_it_is_decided long_taken long_as_it_is

float_as_it_is : AsItIs float_taken
float_as_it_is (scalar (float n)) u e = (cc, tt)
float_as_it_is (scalar s) u e = absurd cc
float_as_it_is x u e = absurd cc

pub float_decided : Decided float_taken
float_decided = as_it_is_decided float_taken float_as_it_is

double_as_it_is : AsItIs double_taken
double_as_it_is (scalar (double n)) u e = (cc, tt)
double_as_it_is (scalar s) u e = absurd cc
double_as_it_is x u e = absurd cc

pub double_decided : Decided double_taken
double_decided = as_it_is_decided double_taken double_as_it_is

decimal32_as_it_is : AsItIs decimal32_taken
decimal32_as_it_is (scalar (decimal32 bs)) u e = (cc, tt)
decimal32_as_it_is (scalar s) u e = absurd cc
decimal32_as_it_is x u e = absurd cc

pub decimal32_decided : Decided decimal32_taken
decimal32_decided = as_it_is_decided decimal32_taken decimal32_as_it_is

decimal64_as_it_is : AsItIs decimal64_taken
decimal64_as_it_is (scalar (decimal64 bs)) u e = (cc, tt)
decimal64_as_it_is (scalar s) u e = absurd cc
decimal64_as_it_is x u e = absurd cc

pub decimal64_decided : Decided decimal64_taken
decimal64_decided = as_it_is_decided decimal64_taken decimal64_as_it_is

decimal128_as_it_is : AsItIs decimal128_taken
decimal128_as_it_is (scalar (decimal128 bs)) u e = (cc, tt)
decimal128_as_it_is (scalar s) u e = absurd cc
decimal128_as_it_is x u e = absurd cc

pub decimal128_decided : Decided decimal128_taken
decimal128_decided = as_it_is_decided decimal128_taken decimal128_as_it_is

char_as_it_is : AsItIs char_taken
char_as_it_is (scalar (char n)) u e = (cc, tt)
char_as_it_is (scalar s) u e = absurd cc
char_as_it_is x u e = absurd cc

pub char_decided : Decided char_taken
char_decided = as_it_is_decided char_taken char_as_it_is

timestamp_as_it_is : AsItIs timestamp_taken
timestamp_as_it_is (scalar (timestamp n)) u e = (cc, tt)
timestamp_as_it_is (scalar s) u e = absurd cc
timestamp_as_it_is x u e = absurd cc

pub timestamp_decided : Decided timestamp_taken
timestamp_decided = as_it_is_decided timestamp_taken timestamp_as_it_is

uuid_as_it_is : AsItIs uuid_taken
uuid_as_it_is (scalar (uuid bs)) u e = (cc, tt)
uuid_as_it_is (scalar s) u e = absurd cc
uuid_as_it_is x u e = absurd cc

pub uuid_decided : Decided uuid_taken
uuid_decided = as_it_is_decided uuid_taken uuid_as_it_is

binary_as_it_is : AsItIs binary_taken
binary_as_it_is (scalar (binary bs)) u e = (cc, tt)
binary_as_it_is (scalar s) u e = absurd cc
binary_as_it_is x u e = absurd cc

pub binary_decided : Decided binary_taken
binary_decided = as_it_is_decided binary_taken binary_as_it_is

no_row_form : (x : Item) (o : Option ℕ) (a : List ℕ) → Form AnyCount NoRaw x o (row_at None) a → ⊥
no_row_form (raw text) (Some c) a h = h.1
no_row_form (raw text) None a h = h
no_row_form (scalar s) o a h = h
no_row_form (list xs) o a h = h
no_row_form (map ps) o a h = h
no_row_form (array xs) o a h = h
no_row_form (described d v) o a h = h

-- nothing stands behind a byte that is no constructor
pub no_form : (x : Item) (k : Option ℕ) (c : ℕ) (a : List ℕ) → code_of c ≡ None
    → Form IsCapped IsStrict x (own k c) (row_of c) a → ⊥
unfolding row_of
no_form (raw text) None c a e h =
    no_row_form h.1.0 (Some c) a (subst (λ (o : Option EncodingCodes). Form AnyCount NoRaw h.1.0 (Some c) (row_at o) a)
    e h.1.1)
no_form (raw text) (Some i) c a e h = h
no_form (scalar s) k c a e h = subst (λ (o : Option EncodingCodes). ScalarForm s (row_at o) a) e h
no_form (list xs) k c a e h =
    subst (λ (o : Option EncodingCodes). Form IsCapped IsStrict (list xs) (own k c) (row_at o) a) e h
no_form (map ps) k c a e h =
    subst (λ (o : Option EncodingCodes). Form IsCapped IsStrict (map ps) (own k c) (row_at o) a) e h
no_form (array xs) k c a e h =
    subst (λ (o : Option EncodingCodes). Form IsCapped IsStrict (array xs) (own k c) (row_at o) a) e h
no_form (described d v) k c a e h =
    subst (λ (o : Option EncodingCodes). Form IsCapped IsStrict (described d v) (own k c) (row_at o) a) e h

seen_at : (x y : Item) (k : Option ℕ) (c : ℕ) (p : List ℕ) (code : Option EncodingCodes) → code_of c ≡ code
    → Form IsCapped IsStrict x (own k c) (row_of c) p → Form IsCapped IsStrict y (own k c) (row_of c) p
    → kind_seen x ≡ kind_seen y
unfolding row_of
seen_at x y k c p None e g h = absurd (no_form x k c p e g)
seen_at x y k c p (Some code) e g h =
    form_seen code x k c p e (subst (λ (o : Option EncodingCodes). Form IsCapped IsStrict x (own k c) (row_at o) p) e g)
    ∙ sym
    (form_seen code y k c p e (subst (λ (o : Option EncodingCodes). Form IsCapped IsStrict y (own k c) (row_at o) p)
    e h))

-- two forms of the same bytes are seen to be of the same type
pub seen_same : (x y : Item) (k : Option ℕ) (a : List ℕ) → Wire x k a → Wire y k a → kind_seen x ≡ kind_seen y
seen_same x y k a g h =
    let led = leads_one k a g.0 h.0 g.1 h.1 g.2 h.2 in
    let there : Form IsCapped IsStrict y (own k g.0) (row_of g.0) g.1 =
    subst (λ (p : List ℕ). Form IsCapped IsStrict y (own k g.0) (row_of g.0) p) (sym led.1)
    (subst (λ (c : ℕ). Form IsCapped IsStrict y (own k c) (row_of c) h.1) (sym led.0) h.3) in
    seen_at x y k g.0 g.1 (code_of g.0) refl g.3 there

unless_null_same : (t : Option Kind) (o : Option Item) → t ≢ Some null_kind → unless_null t o ≡ o
unless_null_same None o n = refl
unless_null_same (Some null_kind) o n = absurd (n refl)
unless_null_same (Some t) o n = refl

-- of an item that is not seen to be null an option takes what its type takes
pub option_same : (take : Item → Option Item) (x : Item) → kind_seen x ≢ Some null_kind → option_taken take x ≡ take x
unfolding option_taken
option_same take (raw text) n = unless_null_same (kind_seen (raw text)) (take (raw text)) n
option_same take (scalar null) n = absurd (n refl)
option_same take (scalar s) n = refl
option_same take (list xs) n = refl
option_same take (map ps) n = refl
option_same take (array xs) n = refl
option_same take (described d v) n = refl

-- of an item that is seen to be null an option takes null alone
pub option_null : (take : Item → Option Item) (x u : Item) → kind_seen x ≡ Some null_kind → option_taken take x ≡ Some u
    → u ≡ scalar null
unfolding option_taken
option_null take (raw text) u n e = let none : None ≡ Some u =
    ap (λ (t : Option Kind). unless_null t (take (raw text))) (sym n) ∙ e in absurd cc
option_null take (scalar null) u n e = cc
option_null take (scalar s) u n e = absurd cc
option_null take (list xs) u n e = absurd cc
option_null take (map ps) u n e = absurd cc
option_null take (array xs) u n e = absurd cc
option_null take (described d v) u n e = absurd cc

null_or_not : (t : Option Kind) → (t ≡ Some null_kind) ⊎ (t ≢ Some null_kind)
null_or_not None = inr (λ e. cc)
null_or_not (Some null_kind) = inl refl
null_or_not (Some t) = inr (λ e. cc)

pub option_decided : (take : Item → Option Item) → Decided take → Decided (option_taken take)
option_decided take d x y k a u v g h e f =
    let same = seen_same x y k a g h in
    elim (null_or_not (kind_seen x)) [
      | inl n ↦ option_null take x u n e ∙ sym (option_null take y v (sym same ∙ n) f)
      | inr n ↦ d x y k a u v g h (sym (option_same take x n) ∙ e) (sym (option_same take y (λ q. n (same ∙ q))) ∙ f)
    ]

decided_through : (f : Item → Item) (p q : Option Item) (u v : Item) → ((m n : Item) → p ≡ Some m → q ≡ Some n → m ≡ n)
    → (p >>= λ y. Some (f y)) ≡ Some u → (q >>= λ y. Some (f y)) ≡ Some v → u ≡ v
decided_through f None q u v d e i = absurd cc
decided_through f (Some m) None u v d e i = absurd cc
decided_through f (Some m) (Some n) u v d e i =
    let same = ap f (d m n refl refl) in
    cc

pub mapped_decided : (f : Item → Item) (take : Item → Option Item) → Decided take → Decided (mapped f take)
unfolding mapped
mapped_decided f take d x y k a u v g h e i =
    decided_through f (take x) (take y) u v (λ p q m n. d x y k a p q g h m n) e i

-- a value in front of others
bound : (o : Option Item) (r : Option (List Item)) (us : List Item) → (o >>= λ y. r >>= λ ys. Some (y ∷ ys)) ≡ Some us
    → (y : Item) × (ys : List Item) × (o ≡ Some y) × (r ≡ Some ys) × (us ≡ y ∷ ys)
bound None r us e = absurd cc
bound (Some y) None us e = absurd cc
bound (Some y) (Some ys) us e = (y, ys, refl, refl, cc)

-- the first of two rows of items with the same bytes, and the others
front_decided : (take : Item → Option Item) → Decided take
    → (rest_left rest_right : Option (List Item)) (x y : Item) (xs ys : Items) (k : Option ℕ) (a : List ℕ)
    (us vs : List Item)
    → Forms IsCapped IsStrict (more_items x xs) k a → Forms IsCapped IsStrict (more_items y ys) k a
    → ((b : List ℕ) (ps qs : List Item) → Forms IsCapped IsStrict xs k b → Forms IsCapped IsStrict ys k b
    → rest_left ≡ Some ps → rest_right ≡ Some qs → ps ≡ qs)
    → (take x >>= λ p. rest_left >>= λ ps. Some (p ∷ ps)) ≡ Some us
    → (take y >>= λ q. rest_right >>= λ qs. Some (q ∷ qs)) ≡ Some vs → us ≡ vs
front_decided take d rest_left rest_right x y xs ys k a us vs g h others e f =
    let p = apart k a g.1 g.2 g.0 g.3 in
    let q = apart k a h.1 h.2 h.0 h.3 in
    let whole : p.0 ++ g.2 ≡ q.0 ++ h.2 = sym p.2 ∙ q.2 in
    let same = wire_same x y k p.0 q.0 g.2 h.2 (g.0, g.1, p.1, g.4) (h.0, h.1, q.1, h.4) whole in
    let behind : h.2 ≡ g.2 = sym (append_cancel_left p.0 _ _ (whole ∙ ap (λ (s : List ℕ). s ++ h.2) (sym same.0))) in
    let m = bound (take x) rest_left us e in
    let n = bound (take y) rest_right vs f in
    let there : Wire y k p.0 = subst (λ (s : List ℕ). Wire y k s) (sym same.0) (h.0, h.1, q.1, h.4) in
    let first : m.0 ≡ n.0 = d x y k p.0 m.0 n.0 (g.0, g.1, p.1, g.4) there m.2 n.2 in
    let second : m.1 ≡ n.1 =
    others g.2 m.1 n.1 g.5 (subst (λ (s : List ℕ). Forms IsCapped IsStrict ys k s) behind h.5) m.3 n.3 in
    m.4 ∙ (ap (λ (i : Item). i ∷ m.1) first ∙ (ap (λ (s : List Item). n.0 ∷ s) second ∙ sym n.4))

each_decided : (take : Item → Option Item) → Decided take
    → (xs ys : Items) (k : Option ℕ) (a : List ℕ) (us vs : List Item) → item_count xs ≡ item_count ys
    → Forms IsCapped IsStrict xs k a → Forms IsCapped IsStrict ys k a → each_taken take xs ≡ Some us
    → each_taken take ys ≡ Some vs → us ≡ vs
each_decided take d no_items no_items k a us vs c g h e f = let both : Some us ≡ Some vs = sym e ∙ f in cc
each_decided take d no_items (more_items y ys) k a us vs c g h e f = absurd (omega arith)
each_decided take d (more_items x xs) no_items k a us vs c g h e f = absurd (omega arith)
each_decided take d (more_items x xs) (more_items y ys) k a us vs c g h e f =
    let counts : item_count xs ≡ item_count ys = omega arith in
    front_decided take d (each_taken take xs) (each_taken take ys) x y xs ys k a us vs g h
    (λ b ps qs i j m n. each_decided take d xs ys k b ps qs counts i j m n) e f

fields_decided : (takes : List (Item → Option Item)) → AllDecided takes
    → (xs ys : Items) (k : Option ℕ) (a : List ℕ) (us vs : List Item) → item_count xs ≡ item_count ys
    → Forms IsCapped IsStrict xs k a → Forms IsCapped IsStrict ys k a → fields_taken takes xs ≡ Some us
    → fields_taken takes ys ≡ Some vs → us ≡ vs
fields_decided takes d no_items no_items k a us vs c g h e f = let both : Some us ≡ Some vs = sym e ∙ f in cc
fields_decided takes d no_items (more_items y ys) k a us vs c g h e f = absurd (omega arith)
fields_decided takes d (more_items x xs) no_items k a us vs c g h e f = absurd (omega arith)
fields_decided [] d (more_items x xs) (more_items y ys) k a us vs c g h e f = absurd cc
fields_decided (take ∷ takes) d (more_items x xs) (more_items y ys) k a us vs c g h e f =
    let counts : item_count xs ≡ item_count ys = omega arith in
    front_decided take d.0 (fields_taken takes xs) (fields_taken takes ys) x y xs ys k a us vs g h
    (λ b ps qs i j m n. fields_decided takes d.1 xs ys k b ps qs counts i j m n) e f

row_decided : (takes : List (Item → Option Item)) → AllDecided takes
    → (xs ys : Items) (k : Option ℕ) (a : List ℕ) (us vs : List Item) → item_count xs ≡ item_count ys
    → Forms IsCapped IsStrict xs k a → Forms IsCapped IsStrict ys k a → row_taken takes xs ≡ Some us
    → row_taken takes ys ≡ Some vs → us ≡ vs
row_decided takes d no_items no_items k a us vs c g h e f = let both : Some us ≡ Some vs = sym e ∙ f in cc
row_decided takes d no_items (more_items y ys) k a us vs c g h e f = absurd (omega arith)
row_decided takes d (more_items x xs) no_items k a us vs c g h e f = absurd (omega arith)
row_decided [] d (more_items x xs) (more_items y ys) k a us vs c g h e f = absurd cc
row_decided (take ∷ takes) d (more_items x xs) (more_items y ys) k a us vs c g h e f =
    let counts : item_count xs ≡ item_count ys = omega arith in
    front_decided take d.0 (row_taken takes xs) (row_taken takes ys) x y xs ys k a us vs g h
    (λ b ps qs i j m n. row_decided takes d.1 xs ys k b ps qs counts i j m n) e f

-- what is made of the items
made : (wrap : List Item → Item) (p q : Option (List Item)) (u v : Item)
    → ((ps qs : List Item) → p ≡ Some ps → q ≡ Some qs → ps ≡ qs) → (p >>= λ ys. Some (wrap ys)) ≡ Some u
    → (q >>= λ ys. Some (wrap ys)) ≡ Some v → u ≡ v
made wrap None q u v d e f = absurd cc
made wrap (Some ps) None u v d e f = absurd cc
made wrap (Some ps) (Some qs) u v d e f = let same = ap wrap (d ps qs refl refl) in cc

together_made : (take : Item → Option Item) → Decided take → (wrap : List Item → Item) (xs ys : Items) (u v : Item)
    → Together xs ys → (each_taken take xs >>= λ zs. Some (wrap zs)) ≡ Some u
    → (each_taken take ys >>= λ zs. Some (wrap zs)) ≡ Some v → u ≡ v
together_made take d wrap xs ys u v t e f =
    made wrap (each_taken take xs) (each_taken take ys) u v
    (λ ps qs m n. each_decided take d xs ys t.element t.content ps qs t.count t.left t.right m n) e f

unlike : (x y : Item) (s t : Kind) (k : Option ℕ) (a : List ℕ) → Wire x k a → Wire y k a → kind_seen x ≡ Some s
    → kind_seen y ≡ Some t → s ≡ t
unlike x y s t k a g h p q = let both : Some s ≡ Some t = sym p ∙ (seen_same x y k a g h ∙ q) in cc

pub tuple_decided : (takes : List (Item → Option Item)) → AllDecided takes → Decided (tuple_taken takes)
unfolding tuple_taken
tuple_decided takes d (list xs) (list ys) k a u v g h e f =
    let t = lists_together xs ys k a g h in
    made (λ zs. list (items_of zs)) (row_taken takes xs) (row_taken takes ys) u v
    (λ ps qs m n. row_decided takes d xs ys t.element t.content ps qs t.count t.left t.right m n) e f
tuple_decided takes d (list xs) y k a u v g h e f = absurd cc
tuple_decided takes d x y k a u v g h e f = absurd cc

pub items_decided : (take : Item → Option Item) → Decided take → Decided (items_taken take)
unfolding items_taken
items_decided take d (list xs) (list ys) k a u v g h e f =
    together_made take d (λ zs. list (items_of zs)) xs ys u v (lists_together xs ys k a g h) e f
items_decided take d (list xs) y k a u v g h e f = absurd cc
items_decided take d x y k a u v g h e f = absurd cc

pub elements_decided : (take : Item → Option Item) → Decided take → Decided (elements_taken take)
unfolding elements_taken
elements_decided take d (array xs) (array ys) k a u v g h e f =
    together_made take d (λ zs. array (items_of zs)) xs ys u v (arrays_together xs ys k a g h) e f
elements_decided take d (array xs) y k a u v g h e f = absurd cc
elements_decided take d x y k a u v g h e f = absurd cc

pub sequence_decided : (take : Item → Option Item) → Decided take → Decided (sequence_taken take)
unfolding sequence_taken
sequence_decided take d (list xs) (list ys) k a u v g h e f =
    together_made take d (λ zs. list (items_of zs)) xs ys u v (lists_together xs ys k a g h) e f
sequence_decided take d (array xs) (array ys) k a u v g h e f =
    together_made take d (λ zs. list (items_of zs)) xs ys u v (arrays_together xs ys k a g h) e f
sequence_decided take d (list xs) (array ys) k a u v g h e f = let s =
    unlike (list xs) (array ys) list_kind array_kind k a g h refl refl in absurd cc
sequence_decided take d (array xs) (list ys) k a u v g h e f = let s =
    unlike (array xs) (list ys) array_kind list_kind k a g h refl refl in absurd cc
sequence_decided take d (list xs) y k a u v g h e f = absurd cc
sequence_decided take d (array xs) y k a u v g h e f = absurd cc
sequence_decided take d x y k a u v g h e f = absurd cc

unless_several_same : (t : Option Kind) (o : Option Item) → t ≢ Some null_kind → t ≢ Some array_kind
    → unless_several t o ≡ o
unless_several_same None o m n = refl
unless_several_same (Some null_kind) o m n = absurd (m refl)
unless_several_same (Some array_kind) o m n = absurd (n refl)
unless_several_same (Some t) o m n = refl

-- of an item that is seen to be neither null nor an array such a field takes what its type takes
pub multiple_same : (take : Item → Option Item) (x : Item) → kind_seen x ≢ Some null_kind
    → kind_seen x ≢ Some array_kind → multiple_taken take x ≡ alone (take x)
unfolding multiple_taken
multiple_same take (raw text) m n = unless_several_same (kind_seen (raw text)) (alone (take (raw text))) m n
multiple_same take (scalar null) m n = absurd (m refl)
multiple_same take (array xs) m n = absurd (n refl)
multiple_same take (scalar s) m n = refl
multiple_same take x m n = refl

null_alone : (take : Item → Option Item) (x u : Item) → kind_seen x ≡ Some null_kind → multiple_taken take x ≡ Some u
    → u ≡ several []
unfolding multiple_taken
null_alone take (raw text) u n e = let none : None ≡ Some u =
    ap (λ (t : Option Kind). unless_several t (alone (take (raw text)))) (sym n) ∙ e in absurd cc
null_alone take (scalar null) u n e = cc
null_alone take (scalar s) u n e = absurd cc
null_alone take x u n e = absurd cc

an_array : (take : Item → Option Item) (x u : Item) → kind_seen x ≡ Some array_kind → multiple_taken take x ≡ Some u
    → (xs : Items) × (x ≡ array xs) × ((each_taken take xs >>= λ ys. Some (several ys)) ≡ Some u)
unfolding multiple_taken
an_array take (raw text) u n e = let none : None ≡ Some u =
    ap (λ (t : Option Kind). unless_several t (alone (take (raw text)))) (sym n) ∙ e in absurd cc
an_array take (array xs) u n e = (xs, refl, e)
an_array take (scalar null) u n e = absurd cc
an_array take (scalar s) u n e = absurd cc
an_array take x u n e = absurd cc

array_or_not : (t : Option Kind) → (t ≡ Some array_kind) ⊎ (t ≢ Some array_kind)
array_or_not None = inr (λ e. cc)
array_or_not (Some array_kind) = inl refl
array_or_not (Some t) = inr (λ e. cc)

arrays_multiple : (take : Item → Option Item) → Decided take → (x y : Item) (k : Option ℕ) (a : List ℕ) (u v : Item)
    → Wire x k a → Wire y k a → kind_seen x ≡ Some array_kind → kind_seen y ≡ Some array_kind
    → multiple_taken take x ≡ Some u → multiple_taken take y ≡ Some v → u ≡ v
arrays_multiple take d x y k a u v g h m n e f =
    let p = an_array take x u m e in
    let q = an_array take y v n f in
    let left : Wire (array p.0) k a = subst (λ (i : Item). Wire i k a) p.1 g in
    let right : Wire (array q.0) k a = subst (λ (i : Item). Wire i k a) q.1 h in
    together_made take d several p.0 q.0 u v (arrays_together p.0 q.0 k a left right) p.2 q.2

pub multiple_decided : (take : Item → Option Item) → Decided take → Decided (multiple_taken take)
multiple_decided take d x y k a u v g h e f =
    let same = seen_same x y k a g h in
    elim (null_or_not (kind_seen x)) [
      | inl n ↦ null_alone take x u n e ∙ sym (null_alone take y v (sym same ∙ n) f)
      | inr n ↦ elim (array_or_not (kind_seen x)) [
        | inl m ↦ arrays_multiple take d x y k a u v g h m (sym same ∙ m) e f
        | inr m ↦ decided_through (λ z. several (z ∷ [])) (take x) (take y) u v (λ p q i j. d x y k a p q g h i j)
            (sym (multiple_same take x n m) ∙ e) (sym (multiple_same take y (λ q. n (same ∙ q)) (λ q. m (same ∙ q))) ∙
            f)
      ]
    ]

-- a code or a name says the same
descriptor_one : (code : ℕ) (name : List ℕ) (x u : Item) → descriptor_taken code name x ≡ Some u
    → u ≡ scalar (ulong code)
unfolding descriptor_taken
descriptor_one code name (scalar (ulong n)) u e =
    elim (chosen (n == code) _ _ _ e) [ inl h ↦ let w = h.1 in cc | inr h ↦ let w = h.1 in absurd cc ]
descriptor_one code name (scalar (symbol s)) u e =
    elim (chosen (bytes_eq s name) _ _ _ e) [ inl h ↦ let w = h.1 in cc | inr h ↦ let w = h.1 in absurd cc ]
descriptor_one code name (scalar s) u e = absurd cc
descriptor_one code name x u e = absurd cc

pub descriptor_decided : (code : ℕ) (name : List ℕ) → Decided (descriptor_taken code name)
descriptor_decided code name x y k a u v g h e f = descriptor_one code name x u e ∙ sym (descriptor_one code name y v f)

fields_made : (code : ℕ) (o : Option (List Item)) (u : Item) → (o >>= λ ys. Some (record_item code ys)) ≡ Some u
    → (ys : List Item) × (o ≡ Some ys) × (u ≡ record_item code ys)
fields_made code None u e = absurd cc
fields_made code (Some ys) u e = (ys, refl, cc)

-- what a record was made of
record_parts : (code : ℕ) (takes : List (Item → Option Item)) (o : Option Item) (v u : Item)
    → (o >>= λ c. list_with (fields_taken takes) v >>= λ ys. Some (record_item code ys)) ≡ Some u
    → (xs : Items) × (ys : List Item) × (v ≡ list xs) × (fields_taken takes xs ≡ Some ys) × (u ≡ record_item code ys)
record_parts code takes None v u e = absurd cc
record_parts code takes (Some c) (list xs) u e = let m =
    fields_made code (fields_taken takes xs) u e in (xs, m.0, refl, m.1, m.2)
record_parts code takes (Some c) v u e = absurd cc

pub record_decided : (code : ℕ) (name : List ℕ) (takes : List (Item → Option Item)) → AllDecided takes
    → Decided (record_taken code name takes)
unfolding record_taken
record_decided code name takes all (described d v) (described c w) k a u z g h e f =
    let t = described_together d v c w k a g h in
    let p = record_parts code takes (descriptor_taken code name d) v u e in
    let q = record_parts code takes (descriptor_taken code name c) w z f in
    let left : Wire (list p.0) None t.second = subst (λ (i : Item). Wire i None t.second) p.2 t.second_left in
    let right : Wire (list q.0) None t.second = subst (λ (i : Item). Wire i None t.second) q.2 t.second_right in
    let s = lists_together p.0 q.0 None t.second left right in
    let same = fields_decided takes all p.0 q.0 s.element s.content p.1 q.1 s.count s.left s.right p.3 q.3 in
    p.4 ∙ (ap (record_item code) same ∙ sym q.4)
record_decided code name takes all (described d v) y k a u z g h e f = absurd cc
record_decided code name takes all x y k a u z g h e f = absurd cc
