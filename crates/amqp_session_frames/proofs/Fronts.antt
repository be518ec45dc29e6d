-- Items that stand in front of bytes are read by hand.
use Rattle.std.proofs.Common.{◌≡◌, ℕ, ◌+◌, ◌-◌, ◌<◌, ◌≤◌, List, [], ◌∷◌, ◌++◌, length, take, drop, get_or, Bool, true, false, Option, Some, None, refl, sym, ◌∙◌, ap, arith, length-append, length-drop, take-append-drop, suc, Fits, w8}
use Rattle.std.specs.Prelude.{slice_range, ◌≢◌, ◌==◌, if◌then◌else◌}
use Rattle.std.proofs.lemmas.Bool.Decides.{nat_tests}
use Rattle.std.proofs.lemmas.List.{length-take-le, take_all}
use Rattle.std.specs.Int.{w32, w64, from_be_bytes}
use Rattle.std.specs.Str.{IsUtf8}
use Rattle.std.proofs.lemmas.Str.{is_utf8-from_IsUtf8}
use Rattle.serde_amqp_item.specs.Item.{Item, Items, scalar, boolean, null, ubyte, uint, ulong, binary, string}
use Rattle.serde_amqp_item.specs.Item.{list, described, more_items, item_count}
use Rattle.serde_amqp_item.specs.Wire.{Form, Forms, IsCapped, IsStrict, Wire, row_of, code_of}
use Rattle.amqp_session_performatives.specs.Performative.{performative_item, performative_taken}
use Rattle.amqp_session_performatives.specs.declared.performative.Performative.{Performative}
use Rattle.amqp_session_frames.specs.Body.{Performed}
use Rattle.amqp_session_frames.specs.Items.{Counted, EightFront, FourFront, Front, RecordFront, flag_item}
use Rattle.amqp_session_frames.proofs.Bodies.{performed}

-- the forms of a uint
zero_form : (rest : List ℕ) → Front (scalar (uint 0)) (0x43 ∷ rest) rest
unfolding row_of code_of
zero_form rest = record { code = 0x43; text = []; whole = refl; form = (refl, refl) }

small_form : (n : ℕ) (rest : List ℕ) → Front (scalar (uint n)) (0x52 ∷ n ∷ rest) rest
unfolding row_of code_of
small_form n rest = record { code = 0x52; text = n ∷ []; whole = refl; form = (refl, refl) }

wide_form : (n : ℕ) (bytes rest : List ℕ) → FourFront n bytes rest → Front (scalar (uint n)) (0x70 ∷ bytes) rest
unfolding row_of code_of
wide_form n bytes rest f =
    record {
      code = 0x70;
      text = f.a ∷ f.b ∷ f.c ∷ f.d ∷ [];
      whole = ap (λ (l : List ℕ). 0x70 ∷ l) f.whole;
      form = (refl, ap (λ (k : ℕ). Some (uint k)) (sym f.value));
    }

-- a front of the same bytes
moved : (x : Item) (one two rest : List ℕ) → one ≡ two → Front x two rest → Front x one rest
moved x one two rest same f = record { code = f.code; text = f.text; whole = same ∙ f.whole; form = f.form }

-- the forms of a ulong
ulong_zero_form : (rest : List ℕ) → Front (scalar (ulong 0)) (0x44 ∷ rest) rest
unfolding row_of code_of
ulong_zero_form rest = record { code = 0x44; text = []; whole = refl; form = (refl, refl) }

ulong_small_form : (n : ℕ) (rest : List ℕ) → Front (scalar (ulong n)) (0x53 ∷ n ∷ rest) rest
unfolding row_of code_of
ulong_small_form n rest = record { code = 0x53; text = n ∷ []; whole = refl; form = (refl, refl) }

ulong_wide_form : (n : ℕ) (bytes rest : List ℕ) → EightFront n bytes rest → Front (scalar (ulong n)) (0x80 ∷ bytes) rest
unfolding row_of code_of
ulong_wide_form n bytes rest f =
    record {
      code = 0x80;
      text = f.text;
      whole = ap (λ (l : List ℕ). 0x80 ∷ l) f.whole;
      form = (f.long, ap (λ (k : ℕ). Some (ulong k)) (sym f.value));
    }

pub ulong_zero : (bytes rest : List ℕ) (code : ℕ) → bytes ≡ code ∷ rest → code ≡ 0x44
    → Front (scalar (ulong 0)) bytes rest
ulong_zero bytes rest code is zero = moved (scalar (ulong 0)) bytes (0x44 ∷ rest) rest
    (is ∙ ap (λ (k : ℕ). k ∷ rest) zero) (ulong_zero_form rest)

pub ulong_small : (bytes behind rest : List ℕ) (code n : ℕ) → bytes ≡ code ∷ behind → code ≡ 0x53
    → behind ≡ n ∷ rest → Front (scalar (ulong n)) bytes rest
ulong_small bytes behind rest code n is small next =
    moved (scalar (ulong n)) bytes (0x53 ∷ n ∷ rest) rest
    (is ∙ ap (λ (k : ℕ). k ∷ behind) small ∙ ap (λ (l : List ℕ). 0x53 ∷ l) next) (ulong_small_form n rest)

pub ulong_wide : (bytes behind rest : List ℕ) (code n : ℕ) → bytes ≡ code ∷ behind → code ≡ 0x80
    → EightFront n behind rest → Front (scalar (ulong n)) bytes rest
ulong_wide bytes behind rest code n is wide f =
    moved (scalar (ulong n)) bytes (0x80 ∷ behind) rest (is ∙ ap (λ (k : ℕ). k ∷ behind) wide)
    (ulong_wide_form n behind rest f)

pub ruleset ulong_forms = (ulong_zero, ulong_small, ulong_wide)

pub uint_zero : (bytes rest : List ℕ) (code : ℕ) → bytes ≡ code ∷ rest → code ≡ 0x43 → Front (scalar (uint 0)) bytes rest
uint_zero bytes rest code is zero = moved (scalar (uint 0)) bytes (0x43 ∷ rest) rest (is ∙ ap (λ (k : ℕ). k ∷ rest) zero) (zero_form rest)

pub uint_small : (bytes behind rest : List ℕ) (code n : ℕ) → bytes ≡ code ∷ behind → code ≡ 0x52 → behind ≡ n ∷ rest → Front (scalar (uint n)) bytes rest
uint_small bytes behind rest code n is small next =
    moved (scalar (uint n)) bytes (0x52 ∷ n ∷ rest) rest (is ∙ ap (λ (k : ℕ). k ∷ behind) small ∙ ap (λ (l : List ℕ). 0x52 ∷ l) next) (small_form n rest)

pub uint_wide : (bytes behind rest : List ℕ) (code n : ℕ) → bytes ≡ code ∷ behind → code ≡ 0x70 → FourFront n behind rest → Front (scalar (uint n)) bytes rest
uint_wide bytes behind rest code n is wide f =
    moved (scalar (uint n)) bytes (0x70 ∷ behind) rest (is ∙ ap (λ (k : ℕ). k ∷ behind) wide) (wide_form n behind rest f)

pub ruleset uint_forms = (uint_zero, uint_small, uint_wide)

-- what a slice from here on is
pub left_behind : (n : ℕ) (bytes : List ℕ) → take (length bytes - n) (drop n bytes) ≡ drop n bytes
left_behind n bytes = take_all (length bytes - n) (drop n bytes) (omega (arith, length-drop n bytes))

-- the first four bytes
pub four_first : (bytes : List ℕ) → 4 ≤ length bytes
    → bytes ≡ get_or bytes 0 0 ∷ get_or bytes 1 0 ∷ get_or bytes 2 0 ∷ get_or bytes 3 0 ∷ drop 4 bytes
four_first (a ∷ b ∷ c ∷ d ∷ rest) le = refl
four_first (a ∷ b ∷ c ∷ []) le = absurd (omega arith)
four_first (a ∷ b ∷ []) le = absurd (omega arith)
four_first (a ∷ []) le = absurd (omega arith)
four_first [] le = absurd (omega arith)

pub four_found : (bytes rest : List ℕ) (n : ℕ) → 4 ≤ length bytes
    → n ≡ from_be_bytes w32 (get_or bytes 0 0 ∷ get_or bytes 1 0 ∷ get_or bytes 2 0 ∷ get_or bytes 3 0 ∷ [])
    → rest ≡ drop 4 bytes → FourFront n bytes rest
four_found bytes rest n le is behind =
    record {
      a = get_or bytes 0 0;
      b = get_or bytes 1 0;
      c = get_or bytes 2 0;
      d = get_or bytes 3 0;
      whole = four_first bytes le ∙ ap (λ (l : List ℕ). get_or bytes 0 0 ∷ get_or bytes 1 0 ∷ get_or bytes 2 0 ∷ get_or bytes 3 0 ∷ l) (sym behind);
      value = is;
    }

-- the first eight bytes
eight_first : (bytes : List ℕ) → 8 ≤ length bytes
    → bytes ≡ get_or bytes 0 0 ∷ get_or bytes 1 0 ∷ get_or bytes 2 0 ∷ get_or bytes 3 0 ∷ get_or bytes 4 0 ∷ get_or
    bytes 5 0 ∷ get_or bytes 6 0 ∷ get_or bytes 7 0 ∷ drop 8 bytes
eight_first (a ∷ b ∷ c ∷ d ∷ e ∷ f ∷ g ∷ h ∷ rest) le = refl
eight_first (a ∷ b ∷ c ∷ d ∷ e ∷ f ∷ g ∷ []) le = absurd (omega arith)
eight_first (a ∷ b ∷ c ∷ d ∷ e ∷ f ∷ []) le = absurd (omega arith)
eight_first (a ∷ b ∷ c ∷ d ∷ e ∷ []) le = absurd (omega arith)
eight_first (a ∷ b ∷ c ∷ d ∷ []) le = absurd (omega arith)
eight_first (a ∷ b ∷ c ∷ []) le = absurd (omega arith)
eight_first (a ∷ b ∷ []) le = absurd (omega arith)
eight_first (a ∷ []) le = absurd (omega arith)
eight_first [] le = absurd (omega arith)

abbrev eight_of : List ℕ → List ℕ
eight_of bytes =
    get_or bytes 0 0 ∷ get_or bytes 1 0 ∷ get_or bytes 2 0 ∷ get_or bytes 3 0 ∷ get_or bytes 4 0 ∷ get_or bytes 5 0
    ∷ get_or bytes 6 0 ∷ get_or bytes 7 0 ∷ []

pub eight_found : (bytes rest : List ℕ) (n : ℕ) → 8 ≤ length bytes
    → n ≡ from_be_bytes w64 (eight_of bytes)
    → rest ≡ drop 8 bytes → EightFront n bytes rest
eight_found bytes rest n le is behind =
    record {
      text = eight_of bytes;
      whole = eight_first bytes le ∙ ap (λ (l : List ℕ). eight_of bytes ++ l) (sym behind);
      long = refl;
      value = is;
    }

-- a string
pub string_form : (bytes behind content text rest : List ℕ) (code : ℕ) → bytes ≡ code ∷ behind → code ≡ 0xa1
    → Counted content behind rest
    → text ≡ content → IsUtf8 content → Front (scalar (string text)) bytes rest
unfolding row_of code_of
string_form bytes behind content text rest code is str8 f same utf8 =
    record {
      code = 0xa1;
      text = length content ∷ content;
      whole = is ∙ ap (λ (k : ℕ). k ∷ behind) str8 ∙ ap (λ (l : List ℕ). 0xa1 ∷ l) f.whole;
      form = (
        content,
        record { fits = f.fits; whole = refl },
        ap (λ (b : Bool). if b then Some (string content) else None) (is_utf8-from_IsUtf8 content utf8)
            ∙ ap (λ (l : List ℕ). Some (string l)) (sym same),
      );
    }

-- a binary
pub binary_form : (bytes behind content rest : List ℕ) (code : ℕ) → bytes ≡ code ∷ behind → code ≡ 0xa0 → Counted content behind rest → Front (scalar (binary content)) bytes rest
unfolding row_of code_of
binary_form bytes behind content rest code is vbin f =
    record {
      code = 0xa0;
      text = length content ∷ content;
      whole = is ∙ ap (λ (k : ℕ). k ∷ behind) vbin ∙ ap (λ (l : List ℕ). 0xa0 ∷ l) f.whole;
      form = (content, record { fits = f.fits; whole = refl }, refl);
    }

-- a boolean, and null
true_form : (rest : List ℕ) → Front (scalar (boolean true)) (0x41 ∷ rest) rest
unfolding row_of code_of
true_form rest = record { code = 0x41; text = []; whole = refl; form = (refl, refl) }

false_form : (rest : List ℕ) → Front (scalar (boolean false)) (0x42 ∷ rest) rest
unfolding row_of code_of
false_form rest = record { code = 0x42; text = []; whole = refl; form = (refl, refl) }

null_form : (rest : List ℕ) → Front (scalar null) (0x40 ∷ rest) rest
unfolding row_of code_of
null_form rest = record { code = 0x40; text = []; whole = refl; form = (refl, refl) }

pub boolean_true : (bytes rest : List ℕ) (code : ℕ) → bytes ≡ code ∷ rest → code ≡ 0x41 → Front (scalar (boolean true)) bytes rest
boolean_true bytes rest code is at = moved (scalar (boolean true)) bytes (0x41 ∷ rest) rest (is ∙ ap (λ (k : ℕ). k ∷ rest) at) (true_form rest)

pub boolean_false : (bytes rest : List ℕ) (code : ℕ) → bytes ≡ code ∷ rest → code ≡ 0x42 → Front (scalar (boolean false)) bytes rest
boolean_false bytes rest code is at = moved (scalar (boolean false)) bytes (0x42 ∷ rest) rest (is ∙ ap (λ (k : ℕ). k ∷ rest) at) (false_form rest)

pub ruleset boolean_forms = (boolean_true, boolean_false)

pub null_front : (bytes rest : List ℕ) (code : ℕ) → bytes ≡ code ∷ rest → code ≡ 0x40 → Front (scalar null) bytes rest
null_front bytes rest code is at = moved (scalar null) bytes (0x40 ∷ rest) rest (is ∙ ap (λ (k : ℕ). k ∷ rest) at) (null_form rest)

pub ruleset null_forms = (null_front)

ubyte_form : (n : ℕ) (rest : List ℕ) → Front (scalar (ubyte n)) (0x50 ∷ n ∷ rest) rest
unfolding row_of code_of
ubyte_form n rest = record { code = 0x50; text = n ∷ []; whole = refl; form = (refl, refl) }

pub ubyte_front : (bytes behind rest : List ℕ) (code n : ℕ) → bytes ≡ code ∷ behind → code ≡ 0x50
    → behind ≡ n ∷ rest → Front (scalar (ubyte n)) bytes rest
ubyte_front bytes behind rest code n is at next =
    moved (scalar (ubyte n)) bytes (0x50 ∷ n ∷ rest) rest
    (is ∙ ap (λ (k : ℕ). k ∷ behind) at ∙ ap (λ (l : List ℕ). 0x50 ∷ l) next) (ubyte_form n rest)

pub ruleset ubyte_forms = (null_front, ubyte_front)

pub counted_found : (bytes behind content rest : List ℕ) (size : ℕ) → bytes ≡ size ∷ behind → size < 256 → size ≤ length behind
    → content ≡ take size behind → rest ≡ drop size behind → Counted content bytes rest
counted_found bytes behind content rest size is byte le front back =
    let long : length content ≡ size = ap length front ∙ length-take-le size behind le in
    let parts : behind ≡ content ++ rest =
    sym (take-append-drop size behind) ∙ ap (λ (l : List ℕ). l ++ drop size behind) (sym front) ∙ ap (λ (l : List ℕ). content ++ l) (sym back) in
    record {
      whole = is ∙ ap (λ (k : ℕ). k ∷ behind) (sym long) ∙ ap (λ (l : List ℕ). length content ∷ l) parts;
      fits = omega (arith, long);
    }

-- the first six bytes
six_first : (bytes : List ℕ) → 6 ≤ length bytes → bytes ≡ get_or bytes 0 0 ∷ get_or bytes 1 0 ∷ get_or bytes 2 0 ∷ get_or bytes 3 0 ∷ get_or bytes 4 0 ∷ get_or bytes 5 0 ∷ drop 6 bytes
six_first (a ∷ b ∷ c ∷ d ∷ e ∷ f ∷ rest) le = refl
six_first (a ∷ b ∷ c ∷ d ∷ e ∷ []) le = absurd (omega arith)
six_first (a ∷ b ∷ c ∷ d ∷ []) le = absurd (omega arith)
six_first (a ∷ b ∷ c ∷ []) le = absurd (omega arith)
six_first (a ∷ b ∷ []) le = absurd (omega arith)
six_first (a ∷ []) le = absurd (omega arith)
six_first [] le = absurd (omega arith)

pub record_found : (content fields : List ℕ) (code count : ℕ) → ((i : ℕ) → Fits w8 (get_or content i 0)) → 6 ≤ length content
    → get_or content 0 0 ≡ 0 → get_or content 1 0 ≡ 0x53 → get_or content 2 0 ≡ code → get_or content 3 0 ≡ 0xc0
    → get_or content 4 0 ≢ 0 → 5 + get_or content 4 0 ≤ length content
    → count ≡ get_or content 5 0 → fields ≡ slice_range content 6 (5 + get_or content 4 0)
    → RecordFront code content count fields
record_found content fields code count byte le a b c d some end counts is =
    let size : ℕ = get_or content 4 0 in
    let behind : List ℕ = drop 6 content in
    let same : 5 + size - 6 ≡ size - 1 = omega arith in
    let front : fields ≡ take (size - 1) behind = is ∙ ap (λ (k : ℕ). take k behind) same in
    let room : length behind ≡ length content - 6 = length-drop 6 content in
    let long : length fields ≡ size - 1 = ap length front ∙ length-take-le (size - 1) behind (omega (arith, room, end)) in
    let full : size ≡ length fields + 1 = omega (arith, long, some) in
    let rest : List ℕ = drop (size - 1) behind in
    let parts : behind ≡ fields ++ rest = sym (take-append-drop (size - 1) behind) ∙ ap (λ (l : List ℕ). l ++ rest) (sym front) in
    let fifth : ℕ = get_or content 5 0 in
    record {
      rest = rest;
      whole = six_first content le
          ∙ ap (λ (k : ℕ). k ∷ get_or content 1 0 ∷ get_or content 2 0 ∷ get_or content 3 0 ∷ size ∷ fifth ∷ behind) a
          ∙ ap (λ (k : ℕ). 0 ∷ k ∷ get_or content 2 0 ∷ get_or content 3 0 ∷ size ∷ fifth ∷ behind) b
          ∙ ap (λ (k : ℕ). 0 ∷ 0x53 ∷ k ∷ get_or content 3 0 ∷ size ∷ fifth ∷ behind) c
          ∙ ap (λ (k : ℕ). 0 ∷ 0x53 ∷ code ∷ k ∷ size ∷ fifth ∷ behind) d
          ∙ ap (λ (k : ℕ). 0 ∷ 0x53 ∷ code ∷ 0xc0 ∷ k ∷ fifth ∷ behind) full
          ∙ ap (λ (k : ℕ). 0 ∷ 0x53 ∷ code ∷ 0xc0 ∷ (length fields + 1) ∷ k ∷ behind) (sym counts)
          ∙ ap (λ (l : List ℕ). 0 ∷ 0x53 ∷ code ∷ 0xc0 ∷ (length fields + 1) ∷ count ∷ l) parts;
      fits = omega (arith, full, (byte 4).fits);
    }

-- forms one behind the other
pub forms_of : (x : Item) (xs : Items) (bytes rest : List ℕ) → Front x bytes rest → Forms IsCapped IsStrict xs None rest → Forms IsCapped IsStrict (more_items x xs) None bytes
forms_of x xs bytes rest f more = (f.code, f.text, rest, f.whole, f.form, more)

-- bytes that are none
pub is_nothing : (bytes : List ℕ) → (length bytes == 0) ≡ true → bytes ≡ []
is_nothing [] h = refl
is_nothing (b ∷ bytes) h = absurd (let none : suc (length bytes) ≡ 0 = grind (arith, nat_tests) in omega arith)

-- a record that is read as this performative
pub record_performed : (code : ℕ) (content fields : List ℕ) (count size : ℕ) (xs : Items) (p : Performative)
    → RecordFront code content count fields → Forms IsCapped IsStrict xs None fields → count ≡ item_count xs → count < 256
    → size ≡ 6 + length fields
    → performative_taken (described (scalar (ulong code)) (list xs)) ≡ Some (performative_item p)
    → Performed content p size
unfolding row_of code_of
record_performed code content fields count size xs p l forms counts few long taken =
    let k : ℕ = item_count xs in
    let behind : List ℕ = suc (length fields) ∷ k ∷ fields in
    let front : List ℕ = 0 ∷ 0x53 ∷ code ∷ 0xc0 ∷ behind in
    let sized : length fields + 1 ≡ suc (length fields) = omega arith in
    let whole : content ≡ front ++ l.rest =
    l.whole
    ∙ ap (λ (n : ℕ). 0 ∷ 0x53 ∷ code ∷ 0xc0 ∷ n ∷ count ∷ (fields ++ l.rest)) sized
    ∙ ap (λ (n : ℕ). 0 ∷ 0x53 ∷ code ∷ 0xc0 ∷ suc (length fields) ∷ n ∷ (fields ++ l.rest)) counts in
    let listed : Form IsCapped IsStrict (list xs) (Some 0xc0) (row_of 0xc0) behind =
    (fields, omega (arith, counts, few), omega (arith, counts, few), record { fits = omega (arith, l.fits); whole = refl }, forms) in
    let wire : Wire (described (scalar (ulong code)) (list xs)) None front =
    (0, 0x53 ∷ code ∷ 0xc0 ∷ behind, refl, (0x53, code ∷ [], 0xc0, behind, refl, (refl, refl), listed)) in
    performed content l.rest p size (described (scalar (ulong code)) (list xs), front, wire, whole, taken)
    (omega (arith, long, ap length whole, length-append front l.rest))
