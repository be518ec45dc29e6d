-- What is wrong with bytes that are refused, by the error's name.
use Rattle.std.proofs.Common.{◌≡◌, ◌≢◌, ℕ, ◌<◌, List, [], ◌∷◌, ◌++◌, length, Bool, true, false, Option, Some, None}
use Rattle.std.proofs.Common.{IsSome, Result, sym, ◌∙◌, ap, subst, refl, arith, inl, inr}
use Rattle.std.specs.Prelude.{IsErrAnd, is_some, Ok, Err}
use Rattle.std.proofs.lemmas.Result.{err_from_is_err_and}
use Rattle.std.specs.Str.{is_utf8}
use Rattle.serde_amqp_item.specs.declared.codes.EncodingCodes.{EncodingCodes}
use Rattle.serde_amqp_item.specs.declared.codes.EncodingCodes.TheVariants.{Null, List0}
use Rattle.serde_amqp_item.specs.declared.error.Error.{Error}
use Rattle.serde_amqp_item.specs.declared.error.Error.TheVariants.{Message, Io, InvalidFormatCode, InvalidValue, InvalidUtf8Encoding, SequenceLengthMismatch, InvalidLength, Memory}
use Rattle.serde_amqp_item.specs.Item.{Scalar}
use Rattle.serde_amqp_item.specs.Wire.{Leads, Width, field_width, IsElementCode, Row, fixed, variable, array_of, row_at, code_of}
use Rattle.serde_amqp_item.specs.Kind.{Kind, kind_at, null_kind, list_kind, array_kind}
use Rattle.serde_amqp_read.specs.Reads.{Refusal, faultless}
use Rattle.serde_amqp_de.specs.Reads.{At, Moves, Head, Foresees, ReadSized, ReadCount}
use Rattle.serde_amqp_de.specs.Names.{Led, WrongConstructor, Counted, NotUtf8, TooFew, NoValue, NoUtf8, WrongLength}
use Rattle.serde_amqp_de.specs.Names.{WrongElement, Cause, Names, TextCause, NamesText, ElementCause, NamesElement}
use Rattle.serde_amqp_de.specs.Names.{Named, Says, NamesCount, LedByOther, NamesOption, LedByAny, NamesKept}
use Rattle.serde_amqp_read.proofs.Refusals.{refusal_of}
use Rattle.serde_amqp_de.proofs.Heads.{refusal_weaker}
use Rattle.serde_amqp_de.proofs.Scalars.{not_null}

-- what the exit of a `?` names
pub named_carried : {X : Type 0} (faulty : Error → Bool) (r : Result X Error) (e : Error) (P : Type 0) (Q : Error → Type 0) → IsErrAnd r (λ f. f ≡ e) → (P → Q e) → Refusal faulty e P → Named faulty r Q
named_carried faulty r e P Q is f h =
    let p = err_from_is_err_and r is in
    rw (p.1, p.2) (refusal_weaker faulty e P (Q e) f h)

leads_on : (k : Option ℕ) (f more bytes : List ℕ) (c : ℕ) → Leads k f c [] → bytes ≡ f ++ more → Leads k bytes c more
leads_on None f more bytes c h e = e ∙ ap (λ (s : List ℕ). s ++ more) h
leads_on (Some i) f more bytes c h e = (h.0, e ∙ ap (λ (s : List ℕ). s ++ more) h.1)

pub led : (t : Kind) (k : Option ℕ) (old mid : At) (code : EncodingCodes) (So : Row → List ℕ → Type 0) → Head k old mid code → kind_at code ≡ t → So (row_at (Some code)) mid.rest → Led t k old.rest So
led t k old mid code So h is so = record {
  byte = h.byte;
  behind = mid.rest;
  code = code;
  leads = leads_on k h.front mid.rest old.rest h.byte h.leads h.moves.split;
  means = h.means;
  of_type = is;
  so = so;
}

-- a constructor of another type
pub wrong_constructor : (t : Kind) (k : Option ℕ) (old mid : At) (code : EncodingCodes) → Head k old mid code → kind_at code ≢ t → WrongConstructor t k old.rest
wrong_constructor t k old mid code h n = record {
  byte = h.byte;
  behind = mid.rest;
  leads = leads_on k h.front mid.rest old.rest h.byte h.leads h.moves.split;
  other = λ d e. λ q. let same : code ≡ d = let both : Some code ≡ Some d = sym h.means ∙ e in cc in n (ap kind_at same ∙ q);
}

pub names_wrong : (faulty : Error → Bool) (t : Kind) (k : Option ℕ) (old mid : At) (code : EncodingCodes) (e : Error) → e ≡ InvalidFormatCode → Head k old mid code → kind_at code ≢ t → Refusal faulty e (Names t k old.rest e)
names_wrong faulty t k old mid code e is h n =
    subst (λ (d : Error). Refusal faulty d (Names t k old.rest d)) (sym is) (inr (inl (wrong_constructor t k old mid code h n)))

-- no constructor at all
pub names_none : (faulty : Error → Bool) (t : Kind) (k : Option ℕ) (bytes behind : List ℕ) (c : ℕ) (e : Error) → e ≡ InvalidFormatCode → Leads k bytes c behind → code_of c ≡ None → Refusal faulty e (Names t k bytes e)
names_none faulty t k bytes behind c e is l n =
    let none : WrongConstructor t k bytes = record { byte = c; behind = behind; leads = l; other = λ d m. λ q. let both : Some d ≡ None = sym m ∙ n in cc } in
    subst (λ (d : Error). Refusal faulty d (Names t k bytes d)) (sym is) (inr (inl none))

-- fewer bytes than stand behind the constructor
pub names_few : {X : Type 0} (faulty : Error → Bool) (r : Result X Error) (t : Kind) (k : Option ℕ) (old mid : At) (code : EncodingCodes) (e : Error) (P : Type 0) → IsErrAnd r (λ f. f ≡ e) → Head k old mid code → kind_at code ≡ t → (P → TooFew (row_at (Some code)) mid.rest) → Refusal faulty e P → Named faulty r (Names t k old.rest)
names_few faulty r t k old mid code e P is h type few refused =
    named_carried faulty r e P (Names t k old.rest) is (λ p. inl (inr (led t k old mid code TooFew h type (few p)))) refused

pub nothing_left : (bytes : List ℕ) → bytes ≡ [] → length bytes < 1
nothing_left bytes e = omega (arith, ap length e)

-- the bytes mean nothing
pub names_no_value : (faulty : Error → Bool) (t : Kind) (k : Option ℕ) (old mid new : At) (code : EncodingCodes) (n : ℕ) (read : List ℕ → Option Scalar) (bytes : List ℕ) (e : Error) → e ≡ InvalidValue → Head k old mid code → kind_at code ≡ t → row_at (Some code) ≡ fixed n read → Moves mid new bytes → length bytes ≡ n → read bytes ≡ None → Refusal faulty e (Names t k old.rest e)
names_no_value faulty t k old mid new code n read bytes e is h type row m l none =
    let mean : NoValue (fixed n read) mid.rest = record { content = bytes; behind = new.rest; split = m.split; long = l; not = none } in
    let here = led t k old mid code NoValue h type (subst (λ (r : Row). NoValue r mid.rest) (sym row) mean) in
    subst (λ (d : Error). Refusal faulty d (Names t k old.rest d)) (sym is) (inr here)

-- a text that is none
utf8_wanted : (e : Error) (P : Type 0) → e ≡ InvalidUtf8Encoding → Refusal faultless e P → P
utf8_wanted e P is h = subst (λ (d : Error). Refusal faultless d P) is h

pub names_text : (faulty : Error → Bool) (w : Width) (old new : At) (content : List ℕ) (d e : Error) → d ≡ e → e ≡ InvalidUtf8Encoding → Refusal faultless e (is_utf8 content ≡ false) → ReadSized w old new content → Refusal faulty d (NamesText w old.rest d)
names_text faulty w old new content d e same is not z =
    let text : NotUtf8 w old.rest = record { content = content; front = z.front; behind = new.rest; sized = z.sized; split = z.moves.split; not = utf8_wanted e (is_utf8 content ≡ false) is not } in
    subst (λ (i : Error). Refusal faulty i (NamesText w old.rest i)) (sym (same ∙ is)) (inr text)

-- what the exit of a `?` names of the same bytes
pub names_on : {X : Type 0} (faulty : Error → Bool) (r : Result X Error) (t : Kind) (k : Option ℕ) (bytes : List ℕ) (e : Error) → IsErrAnd r (λ f. f ≡ e) → Refusal faulty e (Names t k bytes e) → Named faulty r (Names t k bytes)
names_on faulty r t k bytes e is h = named_carried faulty r e (Names t k bytes e) (Names t k bytes) is (λ n. n) h

-- of a text behind its constructor
text_cause : (t : Kind) (k : Option ℕ) (old mid : At) (code : EncodingCodes) (w : Width) (read : List ℕ → Option Scalar) (e : Error) → Head k old mid code → kind_at code ≡ t → row_at (Some code) ≡ variable w read → TextCause e w mid.rest → Cause e t k old.rest
text_cause t k old mid code w read InvalidUtf8Encoding h type row n = led t k old mid code NoUtf8 h type (subst (λ (r : Row). NoUtf8 r mid.rest) (sym row) n)
text_cause t k old mid code w read Message h type row n = absurd n
text_cause t k old mid code w read (Io kind) h type row n = absurd n
text_cause t k old mid code w read InvalidFormatCode h type row n = absurd n
text_cause t k old mid code w read InvalidValue h type row n = absurd n
text_cause t k old mid code w read SequenceLengthMismatch h type row n = absurd n
text_cause t k old mid code w read InvalidLength h type row n = absurd n
text_cause t k old mid code w read Memory h type row n = absurd n

text_names : (t : Kind) (k : Option ℕ) (old mid : At) (code : EncodingCodes) (w : Width) (read : List ℕ → Option Scalar) (e : Error) → Head k old mid code → kind_at code ≡ t → row_at (Some code) ≡ variable w read → NamesText w mid.rest e → Names t k old.rest e
text_names t k old mid code w read e h type row (inl n) = inl (inr (led t k old mid code TooFew h type (subst (λ (r : Row). TooFew r mid.rest) (sym row) n)))
text_names t k old mid code w read e h type row (inr n) = inr (text_cause t k old mid code w read e h type row n)

pub names_text_on : {X : Type 0} (faulty : Error → Bool) (r : Result X Error) (t : Kind) (k : Option ℕ) (old mid : At) (code : EncodingCodes) (w : Width) (read : List ℕ → Option Scalar) (e : Error) → IsErrAnd r (λ f. f ≡ e) → Head k old mid code → kind_at code ≡ t → row_at (Some code) ≡ variable w read → Refusal faulty e (NamesText w mid.rest e) → Named faulty r (Names t k old.rest)
names_text_on faulty r t k old mid code w read e is h type row refused =
    named_carried faulty r e (NamesText w mid.rest e) (Names t k old.rest) is (λ n. text_names t k old mid code w read e h type row n) refused

-- no constructor, of which the byte is inherited, was read, or comes next
pub names_inherited : (faulty : Error → Bool) (t : Kind) (k : Option ℕ) (bytes : List ℕ) (i b : ℕ) (o : Option EncodingCodes) (e : Error) → e ≡ InvalidFormatCode → k ≡ Some i → b ≡ i → o ≡ None → o ≡ code_of b → Refusal faulty e (Names t k bytes e)
names_inherited faulty t k bytes i b o e is some same none means =
    subst (λ (j : Option ℕ). Refusal faulty e (Names t j bytes e)) (sym (some ∙ ap (λ (n : ℕ). Some n) (sym same))) (names_none faulty t (Some b) bytes bytes b e is (refl, refl) (sym means ∙ none))

pub names_begun : (faulty : Error → Bool) (t : Kind) (k : Option ℕ) (bytes behind : List ℕ) (i b : ℕ) (o : Option EncodingCodes) (e : Error) → e ≡ InvalidFormatCode → k ≡ None → bytes ≡ i ∷ behind → b ≡ i → o ≡ None → o ≡ code_of b → Refusal faulty e (Names t k bytes e)
names_begun faulty t k bytes behind i b o e is plain split same none means =
    subst (λ (j : Option ℕ). Refusal faulty e (Names t j bytes e)) (sym plain) (names_none faulty t None bytes behind b e is (split ∙ ap (λ (n : ℕ). n ∷ behind) (sym same)) (sym means ∙ none))

-- nothing is left
pub names_end : {X : Type 0} (faulty : Error → Bool) (r : Result X Error) (t : Kind) (k : Option ℕ) (bytes : List ℕ) (e : Error) → IsErrAnd r (λ f. f ≡ e) → k ≡ None → Refusal faulty e (bytes ≡ []) → Named faulty r (Names t k bytes)
names_end faulty r t k bytes e is plain refused = named_carried faulty r e (bytes ≡ []) (Names t k bytes) is (λ z. inl (inl (plain, z))) refused

-- a size and a count that were read, of which this holds
pub counted_of : (w : Width) (mid last : At) (total count : ℕ) (So : ℕ → ℕ → List ℕ → Type 0) → ReadCount w mid last total count → So total count last.rest → Counted w mid.rest So
counted_of w mid last total count So r so = record { total = total; count = count; behind = last.rest; split = r.moves.split; fits = r.fits; counts = r.counts; so = so }

-- a size or a count that doesn't fit
pub names_length : (faulty : Error → Bool) (t : Kind) (k : Option ℕ) (old mid : At) (code : EncodingCodes) (e : Error) → e ≡ InvalidLength → Head k old mid code → kind_at code ≡ t → WrongLength (row_at (Some code)) mid.rest → Refusal faulty e (Names t k old.rest e)
names_length faulty t k old mid code e is h type bad =
    subst (λ (d : Error). Refusal faulty d (Names t k old.rest d)) (sym is) (inr (led t k old mid code WrongLength h type bad))

-- how many items the head of a list or a map says
pub said : (t : Kind) (k : Option ℕ) (old mid last : At) (code : EncodingCodes) (w : Width) (total count : ℕ)
    → Head k old mid code → kind_at code ≡ t → ReadCount w mid last total count
    → (Counted w mid.rest (λ s n behind. n ≡ count) → Says count (row_at (Some code)) mid.rest)
    → Led t k old.rest (Says count)
said t k old mid last code w total count h type r so = led t k old mid code (Says count) h type
    (so (counted_of w mid last total count _ r refl))

-- the list with no bytes
pub said_none : (k : Option ℕ) (old mid : At) → Head k old mid List0 → Led list_kind k old.rest (Says 0)
said_none k old mid h = led list_kind k old mid List0 (Says 0) h refl refl

-- another number of items than was wanted
pub names_count : (other : Error) (n m : ℕ) (t : Kind) (k : Option ℕ) (bytes : List ℕ) → m ≢ n
    → Led t k bytes (Says m) → NamesCount other n t k bytes other
names_count other n m t k bytes d l = inr (refl, (m, d, l))

-- what an error that is passed on names
pub named_passed : {X : Type 0} (faulty : Error → Bool) (r : Result X Error) (e : Error) (t : Kind) (k : Option ℕ)
    (bytes : List ℕ) → r ≡ Err e → Named faulty r (Names t k bytes) → Refusal faulty e (Names t k bytes e)
named_passed faulty r e t k bytes same h = rw same at h

-- likewise where another number of items has a name of its own
pub names_any_count : {X : Type 0} (faulty : Error → Bool) (r : Result X Error) (other : Error) (n : ℕ) (t : Kind)
    (k : Option ℕ) (bytes : List ℕ) → Named faulty r (Names t k bytes) → Named faulty r (NamesCount other n t k bytes)
names_any_count faulty (Ok x) other n t k bytes h = tt
names_any_count faulty (Err e) other n t k bytes h = refusal_weaker faulty e (Names t k bytes e)
    (NamesCount other n t k bytes e) (λ a. inl a) h

-- null, or a value of a type that says itself what its errors name
pub names_option : {X : Type 0} (faulty : Error → Bool) (r : Result X Error) (k : Option ℕ) (bytes : List ℕ)
    (e : Error) → IsErrAnd r (λ f. f ≡ e) → Refusal faulty e (Names null_kind k bytes e)
    → Named faulty r (NamesOption k bytes)
names_option faulty r k bytes e is h = named_carried faulty r e (Names null_kind k bytes e) (NamesOption k bytes) is
    (λ n. inl n) h

pub names_foreseen : {X : Type 0} (faulty : Error → Bool) (r : Result X Error) (k : Option ℕ) (old : At)
    (code : EncodingCodes) (e : Error) → IsErrAnd r (λ f. f ≡ e) → Foresees k old code → code ≢ Null
    → Named faulty r (NamesOption k old.rest)
names_foreseen faulty r k old code e is f n =
    let h = f.head in
    let led : LedByOther k old.rest = (
      h.byte,
      f.mid.rest,
      code,
      leads_on k h.front f.mid.rest old.rest h.byte h.leads
          h.moves.split,
      h.means,
      not_null code n,
    ) in
    named_carried faulty r e (LedByOther k old.rest) (NamesOption k old.rest) is (λ l. inr l)
    (refusal_of faulty e (LedByOther k old.rest) led)

-- a value of any type: in an array it has no constructor of its own
pub names_in_array : (faulty : Error → Bool) (k : Option ℕ) (bytes : List ℕ) (e : Error) → e ≡ InvalidFormatCode
    → is_some k ≡ true → Refusal faulty e (NamesKept k bytes e)
names_in_array faulty None bytes e is n = absurd cc
names_in_array faulty (Some c) bytes e is n = refusal_of faulty e (e ≡ InvalidFormatCode) is

pub names_kept : {X : Type 0} (faulty : Error → Bool) (r : Result X Error) (k : Option ℕ) (bytes : List ℕ) (e : Error)
    → is_some k ≡ false → IsErrAnd r (λ f. f ≡ e) → Refusal faulty e (Names null_kind k bytes e)
    → Named faulty r (NamesKept k bytes)
names_kept faulty r None bytes e n is h = named_carried faulty r e (Names null_kind None bytes e)
    (NamesKept None bytes) is (λ a. inl a) h
names_kept faulty r (Some c) bytes e n is h = absurd cc

pub names_behind : {X : Type 0} (faulty : Error → Bool) (r : Result X Error) (k : Option ℕ) (old : At)
    (code : EncodingCodes) (e : Error) → is_some k ≡ false → IsErrAnd r (λ f. f ≡ e) → Foresees k old code
    → Named faulty r (NamesKept k old.rest)
names_behind faulty r None old code e n is f =
    let h = f.head in
    let led : LedByAny None old.rest = (
      h.byte,
      f.mid.rest,
      code,
      leads_on None h.front f.mid.rest old.rest h.byte
          h.leads h.moves.split,
      h.means,
    ) in
    named_carried faulty r e (LedByAny None old.rest) (NamesKept None old.rest) is (λ l. inr l)
    (refusal_of faulty e (LedByAny None old.rest) led)
names_behind faulty r (Some c) old code e n is f = absurd cc

pub ruleset kept_names = (names_in_array, names_kept, names_behind)

-- the constructor of an array's elements
pub names_element : (faulty : Error → Bool) (count : ℕ) (old new : At) (c : ℕ) (e : Error) → e ≡ InvalidFormatCode → Moves old new (c ∷ []) → (IsElementCode count c → ⊥) → Refusal faulty e (NamesElement count old.rest e)
names_element faulty count old new c e is m never =
    subst (λ (d : Error). Refusal faulty d (NamesElement count old.rest d)) (sym is) (inr (c, new.rest, m.split, never))

element_cause : (k : Option ℕ) (old mid last : At) (code : EncodingCodes) (w : Width) (total count : ℕ) (e : Error) → Head k old mid code → row_at (Some code) ≡ array_of w → kind_at code ≡ array_kind → ReadCount w mid last total count → ElementCause e count last.rest → Cause e array_kind k old.rest
element_cause k old mid last code w total count InvalidFormatCode h row type r n =
    inr (led array_kind k old mid code WrongElement h type (subst (λ (i : Row). WrongElement i mid.rest) (sym row) (counted_of w mid last total count _ r n)))
element_cause k old mid last code w total count Message h row type r n = absurd n
element_cause k old mid last code w total count (Io kind) h row type r n = absurd n
element_cause k old mid last code w total count InvalidUtf8Encoding h row type r n = absurd n
element_cause k old mid last code w total count InvalidValue h row type r n = absurd n
element_cause k old mid last code w total count SequenceLengthMismatch h row type r n = absurd n
element_cause k old mid last code w total count InvalidLength h row type r n = absurd n
element_cause k old mid last code w total count Memory h row type r n = absurd n

element_names : (k : Option ℕ) (old mid last : At) (code : EncodingCodes) (w : Width) (total count : ℕ) (e : Error) → Head k old mid code → row_at (Some code) ≡ array_of w → kind_at code ≡ array_kind → ReadCount w mid last total count → field_width w < total → NamesElement count last.rest e → Names array_kind k old.rest e
element_names k old mid last code w total count e h row type r big (inl n) =
    inl (inr (led array_kind k old mid code TooFew h type (subst (λ (i : Row). TooFew i mid.rest) (sym row) (inr (counted_of w mid last total count _ r (big, n))))))
element_names k old mid last code w total count e h row type r big (inr n) = inr (element_cause k old mid last code w total count e h row type r n)

pub names_element_on : {X : Type 0} (faulty : Error → Bool) (r : Result X Error) (k : Option ℕ) (old mid last : At) (code : EncodingCodes) (w : Width) (total count : ℕ) (e : Error) → IsErrAnd r (λ f. f ≡ e) → Head k old mid code → row_at (Some code) ≡ array_of w → kind_at code ≡ array_kind → ReadCount w mid last total count → field_width w < total → Refusal faulty e (NamesElement count last.rest e) → Named faulty r (Names array_kind k old.rest)
names_element_on faulty r k old mid last code w total count e is h row type s big refused =
    named_carried faulty r e (NamesElement count last.rest e) (Names array_kind k old.rest) is (λ n. element_names k old mid last code w total count e h row type s big n) refused

unknown : (c : ℕ) → IsSome (code_of c) → code_of c ≡ None → ⊥
unknown c s e = let w = subst (λ (o : Option EncodingCodes). IsSome o) e s in absurd cc

-- no element has this constructor
pub unknown_element : (count c : ℕ) → code_of c ≡ None → IsElementCode count c → ⊥
unknown_element count c e i = unknown c i.known e

pub null_element : (count c : ℕ) → count ≢ 0 → c ≡ 0x40 → IsElementCode count c → ⊥
null_element count c n e i = (i.plain (omega (arith, n))).0 e

pub described_element : (count c : ℕ) → count ≢ 0 → c ≡ 0x00 → IsElementCode count c → ⊥
described_element count c n e i = (i.plain (omega (arith, n))).1 e
