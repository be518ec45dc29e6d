-- What stands behind a constructor.
use Rattle.std.proofs.Common.{◌≡◌, ◌≢◌, ℕ, ◌+◌, ◌<◌, List, [], ◌∷◌, ◌++◌, length, Option, Some, None, Bool, true, false, Result, sym, ◌∙◌, ap, subst, refl, arith, length-append, append_assoc, ◌⊎◌, inl, inr}
use Rattle.std.specs.Prelude.{IsErrAnd, IfOk, OnOk}
use Rattle.std.proofs.lemmas.Result.{err_from_is_err_and}
use Rattle.serde_amqp_item.specs.declared.codes.EncodingCodes.{EncodingCodes}
use Rattle.serde_amqp_item.specs.declared.codes.EncodingCodes.TheVariants.{DescribedType}
use Rattle.serde_amqp_item.specs.declared.error.Error.{Error}
use Rattle.serde_amqp_item.specs.declared.error.Error.TheVariants.{Message, Io, InvalidFormatCode, InvalidValue, InvalidUtf8Encoding, SequenceLengthMismatch, InvalidLength, Memory}
use Rattle.serde_amqp_item.specs.Item.{Scalar, Item, scalar, raw, list, map, array, described}
use Rattle.serde_amqp_item.specs.Wire.{Wire, Leads, own, code_of, row_at, row_of, Row, fixed, empty_list, list_of, map_of, array_of, described_by, Form, ScalarForm, IsCapped, IsStrict}
use Rattle.serde_amqp_item.specs.Kind.{Kind, kind_at, raw_kind, described_kind}
use Rattle.serde_amqp_item.proofs.Forms.{leads_same, append_same}
use Rattle.serde_amqp_read.specs.Reads.{Begins, Otherwise, Refusal, Unless}
use Rattle.serde_amqp_de.specs.Reads.{At, Moves, Head, Foresees, NoHead, Reads, Refuses}
use Rattle.serde_amqp_de.specs.Takes.{TakesOnly, described_taken}
use Rattle.serde_amqp_de.specs.Seen.{form_seen, seen_kind}
use Rattle.serde_amqp_de.specs.Deciding.{no_form}

leads_along : (k : Option ℕ) (f a more : List ℕ) (c : ℕ) → Leads k f c a → Leads k (f ++ more) c (a ++ more)
leads_along None f a more c h = ap (λ (s : List ℕ). s ++ more) h
leads_along (Some i) f a more c h = (h.0, ap (λ (s : List ℕ). s ++ more) h.1)

pub moves_then : (a b c : At) (x y : List ℕ) → Moves a b x → Moves b c y → Moves a c (x ++ y)
moves_then a b c x y m n = record {
  split = m.split ∙ (ap (λ (s : List ℕ). x ++ s) n.split ∙ sym (append_assoc x y c.rest));
  count = omega (arith, m.count, n.count, length-append x y);
}

pub stays : (a : At) → Moves a a []
stays a = record { split = refl; count = omega arith }

-- a constructor that comes next
pub foreseen : (a : At) (byte : ℕ) (code : EncodingCodes) → Begins byte a.rest → Some code ≡ code_of byte → Foresees None a code
foreseen a byte code b e = record {
  mid = record { rest = b.others; pos = a.pos + 1 };
  head = record { byte = byte; front = byte ∷ []; means = sym e; leads = refl; moves = record { split = b.split; count = refl } };
}

pub foreseen_element : (a : At) (byte : ℕ) (code : EncodingCodes) → Some code ≡ code_of byte → Foresees (Some byte) a code
foreseen_element a byte code e = record {
  mid = a;
  head = record { byte = byte; front = []; means = sym e; leads = (refl, refl); moves = stays a };
}

pub ruleset foreseeing = (foreseen, foreseen_element)

-- a form of an item that isn't a kept one
pub head_form : (k : Option ℕ) (old mid new : At) (code : EncodingCodes) (x : Item) (a : List ℕ) → Head k old mid code → Moves mid new a → ((o : Option ℕ) → Form IsCapped IsStrict x o (row_at (Some code)) a) → Reads k old new x
unfolding row_of
head_form k old mid new code x a h m f = record {
  front = h.front ++ a;
  wire = (h.byte, a, leads_along k h.front [] a h.byte h.leads, subst (λ (o : Option EncodingCodes). Form IsCapped IsStrict x (own k h.byte) (row_at o) a) (sym h.means) (f (own k h.byte)));
  moves = moves_then old mid new h.front a h.moves m;
}

-- a scalar of so many bytes
pub fixed_read : (k : Option ℕ) (old mid new : At) (code : EncodingCodes) (bytes : List ℕ) (n : ℕ) (read : List ℕ → Option Scalar) (s : Scalar) → Head k old mid code → row_at (Some code) ≡ fixed n read → Moves mid new bytes → length bytes ≡ n → read bytes ≡ Some s → Reads k old new (scalar s)
fixed_read k old mid new code bytes n read s h r m l e =
    let form : ScalarForm s (fixed n read) bytes = (l, e) in
    head_form k old mid new code (scalar s) bytes h m (λ o. subst (λ (row : Row). ScalarForm s row bytes) (sym r) form)

pub behind_head : (k : Option ℕ) (old mid : At) (code : EncodingCodes) (x : Item) (f more : List ℕ) → (h : Head k old mid code) → Wire x k f → old.rest ≡ f ++ more → (a : List ℕ) × Form IsCapped IsStrict x (own k h.byte) (row_at (Some code)) a × (mid.rest ≡ a ++ more)
unfolding row_of
behind_head k old mid code x f more h w e =
    let same = leads_same k f h.front w.0 h.byte w.1 [] more mid.rest w.2 h.leads (sym e ∙ h.moves.split) in
    let here : Form IsCapped IsStrict x (own k h.byte) (row_of h.byte) w.1 = subst (λ (c : ℕ). Form IsCapped IsStrict x (own k c) (row_of c) w.1) same.0 w.3 in
    (w.1, subst (λ (o : Option EncodingCodes). Form IsCapped IsStrict x (own k h.byte) (row_at o) w.1) h.means here, sym same.1)

-- the form of a kept item, or one that stands behind any constructor of its row
pub plain_form : (x : Item) (o : Option ℕ) (r : Row) (a : List ℕ) → Form IsCapped IsStrict x o r a → ((text : List ℕ) × (x ≡ raw text)) ⊎ Form IsCapped IsStrict x None r a
plain_form (raw text) o r a h = inl (text, refl)
plain_form (scalar s) o r a h = inr h
plain_form (list xs) o empty_list a h = inr h
plain_form (list xs) o (list_of w) a h = inr h
plain_form (list xs) o r a h = absurd h
plain_form (map ps) o (map_of w) a h = inr h
plain_form (map ps) o r a h = absurd h
plain_form (array xs) o (array_of w) a h = inr h
plain_form (array xs) o r a h = absurd h
plain_form (described d v) o described_by a h = inr h
plain_form (described d v) o r a h = absurd h

-- what the type is not shown to take: a form that stands here, but for kept items
pub refuse_by : {X : Type 0} (take : Item → Option X) (k : Option ℕ) (old mid : At) (code : EncodingCodes) → ((text : List ℕ) → take (raw text) ≡ None) → Head k old mid code
    → ((x : Item) (a more : List ℕ) → Form IsCapped IsStrict x None (row_at (Some code)) a → mid.rest ≡ a ++ more → take x ≡ None)
    → (x : Item) (f more : List ℕ) → Wire x k f → old.rest ≡ f ++ more → take x ≡ None
refuse_by take k old mid code plain h none x f more w e =
    let b = behind_head k old mid code x f more h w e in
    elim (plain_form x (own k h.byte) (row_at (Some code)) b.0 b.1) [
      | inl r ↦ ap take r.1 ∙ plain r.0
      | inr g ↦ none x b.0 more g b.2
    ]

otherwise_weaker : (b : Bool) (P Q : Type 0) → (P → Q) → Otherwise b P → Otherwise b Q
otherwise_weaker true P Q f h = tt
otherwise_weaker false P Q f h = f h

pub refusal_weaker : (faulty : Error → Bool) (e : Error) (P Q : Type 0) → (P → Q) → Refusal faulty e P → Refusal faulty e Q
refusal_weaker faulty Memory P Q f h = tt
refusal_weaker faulty (Io kind) P Q f h = otherwise_weaker (faulty (Io kind)) P Q f h
refusal_weaker faulty Message P Q f h = f h
refusal_weaker faulty InvalidFormatCode P Q f h = f h
refusal_weaker faulty InvalidValue P Q f h = f h
refusal_weaker faulty InvalidUtf8Encoding P Q f h = f h
refusal_weaker faulty SequenceLengthMismatch P Q f h = f h
refusal_weaker faulty InvalidLength P Q f h = f h

-- what is said of an error, said of an equal one
pub refusal_as : (faulty : Error → Bool) (e f : Error) (P : Type 0) → e ≡ f → Refusal faulty f P → Refusal faulty e P
refusal_as faulty e f P is h = rw is h

-- what the exit of a `?` refuses
pub carried : {X : Type 0} (faulty : Error → Bool) (r : Result X Error) (e : Error) (P Q : Type 0) → IsErrAnd r (λ f. f ≡ e) → (P → Q) → Refusal faulty e P → Unless faulty r Q
carried faulty r e P Q is f h =
    let p = err_from_is_err_and r is in
    rw (p.1, p.2) (refusal_weaker faulty e P Q f h)

-- and says of success nothing
pub carried_ok : {X : Type 0} (r : Result X Error) (e : Error) (F : X → Type 0) → IsErrAnd r (λ f. f ≡ e) → IfOk r F
carried_ok r e F is = let p = err_from_is_err_and r is in rw p.1 tt

pub carried_on : {X : Type 0} (r : Result X Error) (e : Error) (P : Type 0) → IsErrAnd r (λ f. f ≡ e) → OnOk r P
carried_on r e P is = let p = err_from_is_err_and r is in rw p.1 tt

pub no_head_refuses : (take : Item → Option Item) (k : Option ℕ) (old : At) → NoHead k old.rest → Refuses take k old
no_head_refuses take k old h = record {
  none = λ x f more w e.
      let led : Leads k old.rest w.0 (w.1 ++ more) = subst (λ (s : List ℕ). Leads k s w.0 (w.1 ++ more)) (sym e) (leads_along k f w.1 more w.0 w.2) in
      absurd (no_form x k w.0 w.1 (h.none w.0 (w.1 ++ more) led) w.3);
}

pub fixed_long : (x : Item) (n : ℕ) (read : List ℕ → Option Scalar) (a : List ℕ) → Form IsCapped IsStrict x None (fixed n read) a → length a ≡ n
fixed_long (scalar s) n read a h = h.0
fixed_long (raw text) n read a h = absurd h
fixed_long (list xs) n read a h = absurd h
fixed_long (map ps) n read a h = absurd h
fixed_long (array xs) n read a h = absurd h
fixed_long (described d v) n read a h = absurd h

-- too few bytes for a scalar of so many
pub short_refuses : (take : Item → Option Item) (k : Option ℕ) (old mid : At) (code : EncodingCodes) (n : ℕ) (read : List ℕ → Option Scalar) → ((text : List ℕ) → take (raw text) ≡ None) → Head k old mid code → row_at (Some code) ≡ fixed n read → length mid.rest < n → Refuses take k old
short_refuses take k old mid code n read plain h r short = record {
  none = refuse_by take k old mid code plain h (λ x a more f e.
      let long = fixed_long x n read a (subst (λ (row : Row). Form IsCapped IsStrict x None row a) r f) in
      absurd (omega (arith, ap length e, length-append a more, long, short)));
}

no_meaning : (x : Item) (n : ℕ) (read : List ℕ → Option Scalar) (bytes a rest more : List ℕ) → Form IsCapped IsStrict x None (fixed n read) a → length bytes ≡ n → read bytes ≡ None → bytes ++ rest ≡ a ++ more → ⊥
no_meaning (scalar s) n read bytes a rest more h l e q =
    let same = append_same bytes a rest more (l ∙ sym h.0) q in
    let both : Some s ≡ None = sym h.1 ∙ (ap read (sym same.0) ∙ e) in
    cc
no_meaning (raw text) n read bytes a rest more h l e q = absurd h
no_meaning (list xs) n read bytes a rest more h l e q = absurd h
no_meaning (map ps) n read bytes a rest more h l e q = absurd h
no_meaning (array xs) n read bytes a rest more h l e q = absurd h
no_meaning (described d v) n read bytes a rest more h l e q = absurd h

-- the bytes are there, and mean nothing
pub meaningless_refuses : (take : Item → Option Item) (k : Option ℕ) (old mid new : At) (code : EncodingCodes) (n : ℕ) (read : List ℕ → Option Scalar) (bytes : List ℕ) → ((text : List ℕ) → take (raw text) ≡ None) → Head k old mid code → row_at (Some code) ≡ fixed n read → Moves mid new bytes → length bytes ≡ n → read bytes ≡ None → Refuses take k old
meaningless_refuses take k old mid new code n read bytes plain h r m l e = record {
  none = refuse_by take k old mid code plain h (λ x a more f q.
      absurd (no_meaning x n read bytes a new.rest more (subst (λ (row : Row). Form IsCapped IsStrict x None row a) r f) l e (sym m.split ∙ q)));
}

-- the wrong constructor for a type
pub wrong_kind : (take : Item → Option Item) (t : Kind) (k : Option ℕ) (old mid : At) (code : EncodingCodes) → TakesOnly take t → t ≢ raw_kind → Head k old mid code → kind_at code ≢ t → Refuses take k old
wrong_kind take t k old mid code only kept h n = record {
  none = λ x f more w e.
      let b = behind_head k old mid code x f more h w e in
      let seen = form_seen code x k h.byte b.0 h.means b.1 in
      only x (λ s. elim (seen_kind x (kind_at code) seen) [ inl r ↦ kept (sym s ∙ r) | inr q ↦ n (sym q ∙ s) ]);
}

pub only_described : TakesOnly described_taken described_kind
only_described (described d v) p = absurd (p refl)
only_described x p = refl

pub not_described : (code : EncodingCodes) → code ≢ DescribedType → kind_at code ≢ described_kind
not_described DescribedType p = absurd (p refl)
not_described code p = λ e. cc

pub wrong_described : (k : Option ℕ) (old mid : At) (code : EncodingCodes) → Head k old mid code → code ≢ DescribedType → Refuses described_taken k old
wrong_described k old mid code h p = wrong_kind described_taken described_kind k old mid code only_described (λ e. cc) h (not_described code p)

pub ruleset refusing = (no_head_refuses)

pub ruleset describing = (wrong_described)
