-- A size, and so many bytes.
use Rattle.std.proofs.Common.{◌≡◌, ◌≢◌, ℕ, ◌<◌, List, ◌++◌, length, Bool, true, false, Option, Some, None, sym, ◌∙◌, ap, subst, refl, arith, length-append, append_assoc}
use Rattle.std.specs.Str.{IsUtf8, is_utf8}
use Rattle.std.proofs.lemmas.Str.{IsUtf8-from_is_utf8, is_utf8-from_IsUtf8}
use Rattle.serde_amqp_item.specs.declared.codes.EncodingCodes.{EncodingCodes}
use Rattle.serde_amqp_item.specs.declared.codes.EncodingCodes.TheVariants.{Vbin8, Vbin32, Str8, Str32, Sym8, Sym32}
use Rattle.serde_amqp_item.specs.Item.{Scalar, binary, string, symbol, Item, scalar, raw, list, map, array, described}
use Rattle.serde_amqp_item.specs.Wire.{Width, one_byte, four_bytes, room, field, row_at, Row, variable, string_at, symbol_at, Form, ScalarForm, IsSized, IsCapped, IsStrict}
use Rattle.serde_amqp_item.specs.Kind.{kind_at, binary_kind, string_kind, symbol_kind}
use Rattle.serde_amqp_item.proofs.Forms.{field_same, append_same}
use Rattle.serde_amqp_de.specs.Reads.{At, Moves, Head, Reads, Refuses, ReadSized, NoSized, ReadText, NoText}
use Rattle.serde_amqp_de.specs.Takes.{TakesOnly, binary_taken, string_taken, symbol_taken}
use Rattle.serde_amqp_de.proofs.Heads.{moves_then, head_form, refuse_by, wrong_kind}

field_length : (w : Width) (n : ℕ) → length (field w n) ≡ length (field w 0)
field_length one_byte n = refl
field_length four_bytes n = refl

pub sized_read : (w : Width) (old mid new : At) (n : ℕ) (content : List ℕ) → Moves old mid (field w n) → Moves mid new content → length content ≡ n → n < room w → ReadSized w old new content
sized_read w old mid new n content m c l fits = record {
  front = field w n ++ content;
  sized = record { fits = omega (arith, l, fits); whole = ap (λ (k : ℕ). field w k ++ content) (sym l) };
  moves = moves_then old mid new (field w n) content m c;
}

pub size_short : (w : Width) (bytes : List ℕ) → length bytes < length (field w 0) → NoSized w bytes
size_short w bytes short = record {
  none = λ content front more s e.
      omega (arith, ap length e, length-append front more, ap length s.whole, length-append (field w (length content)) content, field_length w (length content), short);
}

pub content_short : (w : Width) (old mid : At) (n : ℕ) → Moves old mid (field w n) → n < room w → length mid.rest < n → NoSized w old.rest
content_short w old mid n m fits short = record {
  none = λ content front more s e.
      let both : field w n ++ mid.rest ≡ field w (length content) ++ (content ++ more) = sym m.split ∙ (e ∙ (ap (λ (t : List ℕ). t ++ more) s.whole ∙ append_assoc (field w (length content)) content more)) in
      let same = field_same w n (length content) mid.rest (content ++ more) fits s.fits both in
      omega (arith, same.0, ap length same.1, length-append content more, short);
}

pub ruleset sizing = (sized_read, size_short, content_short)

-- texts
pub utf8_is : (bs : List ℕ) → IsUtf8 bs → is_utf8 bs ≡ true
utf8_is bs u = is_utf8-from_IsUtf8 bs u

not_utf8 : (bs : List ℕ) (b : Bool) → is_utf8 bs ≡ b → (IsUtf8 bs → ⊥) → is_utf8 bs ≡ false
not_utf8 bs true e n = absurd (n (IsUtf8-from_is_utf8 bs e))
not_utf8 bs false e n = e

pub utf8_is_not : (bs : List ℕ) → (IsUtf8 bs → ⊥) → is_utf8 bs ≡ false
utf8_is_not bs n = not_utf8 bs (is_utf8 bs) refl n

pub text_read : (w : Width) (old new : At) (content text : List ℕ) → ReadSized w old new content → text ≡ content → is_utf8 content ≡ true → ReadText w old new text
text_read w old new content text z e u = subst (λ (s : List ℕ). ReadText w old new s) (sym e) (record { sized = z; utf8 = u })

pub text_short : (w : Width) (bytes : List ℕ) → NoSized w bytes → NoText w bytes
text_short w bytes n = record { none = λ content front more s e. absurd (n.none content front more s e) }

pub text_wrong : (w : Width) (old new : At) (content : List ℕ) → ReadSized w old new content → is_utf8 content ≡ false → NoText w old.rest
text_wrong w old new content z u = record {
  none = λ other front more s e.
      let both : field w (length content) ++ (content ++ new.rest) ≡ field w (length other) ++ (other ++ more) =
      sym (append_assoc (field w (length content)) content new.rest) ∙ (ap (λ (t : List ℕ). t ++ new.rest) (sym z.sized.whole) ∙ (sym z.moves.split ∙ (e ∙ (ap (λ (t : List ℕ). t ++ more) s.whole ∙ append_assoc (field w (length other)) other more)))) in
      let same = field_same w (length content) (length other) (content ++ new.rest) (other ++ more) z.sized.fits s.fits both in
      let contents = append_same content other new.rest more same.0 same.1 in
      ap is_utf8 (sym contents.0) ∙ u;
}

pub ruleset texts = (utf8_is, utf8_is_not, text_read, text_short, text_wrong)

-- a scalar with a size
variable_read : (k : Option ℕ) (old mid new : At) (code : EncodingCodes) (w : Width) (content : List ℕ) (read : List ℕ → Option Scalar) (s : Scalar) → Head k old mid code → row_at (Some code) ≡ variable w read → ReadSized w mid new content → read content ≡ Some s → Reads k old new (scalar s)
variable_read k old mid new code w content read s h r z e =
    let form : ScalarForm s (variable w read) z.front = (content, z.sized, e) in
    head_form k old mid new code (scalar s) z.front h z.moves (λ o. subst (λ (row : Row). ScalarForm s row z.front) (sym r) form)

variable_parts : (x : Item) (w : Width) (read : List ℕ → Option Scalar) (a : List ℕ) → Form IsCapped IsStrict x None (variable w read) a → (content : List ℕ) × (s : Scalar) × IsSized w content a × (read content ≡ Some s)
variable_parts (scalar s) w read a h = (h.0, s, h.1, h.2)
variable_parts (raw text) w read a h = absurd h
variable_parts (list xs) w read a h = absurd h
variable_parts (map ps) w read a h = absurd h
variable_parts (array xs) w read a h = absurd h
variable_parts (described d v) w read a h = absurd h

text_refuses : (take : Item → Option Item) (k : Option ℕ) (old mid : At) (code : EncodingCodes) (w : Width) (read : List ℕ → Option Scalar) → ((text : List ℕ) → take (raw text) ≡ None) → Head k old mid code → row_at (Some code) ≡ variable w read → ((content : List ℕ) → is_utf8 content ≡ false → read content ≡ None) → NoText w mid.rest → Refuses take k old
text_refuses take k old mid code w read plain h r means n = record {
  none = refuse_by take k old mid code plain h (λ x a more f e.
      let v = variable_parts x w read a (subst (λ (row : Row). Form IsCapped IsStrict x None row a) r f) in
      let none = means v.0 (n.none v.0 a more v.2 e) in
      let both : Some v.1 ≡ None = sym v.3 ∙ none in
      absurd cc);
}

only_string : TakesOnly string_taken string_kind
only_string (scalar (string bs)) p = absurd (p refl)
only_string (scalar s) p = refl
only_string x p = refl

pub not_string : (code : EncodingCodes) → code ≢ Str8 → code ≢ Str32 → kind_at code ≢ string_kind
not_string Str8 p q = absurd (p refl)
not_string Str32 p q = absurd (q refl)
not_string code p q = λ e. cc

pub wrong_string : (k : Option ℕ) (old mid : At) (code : EncodingCodes) → Head k old mid code → code ≢ Str8 → code ≢ Str32 → Refuses string_taken k old
wrong_string k old mid code h p q = wrong_kind string_taken string_kind k old mid code only_string (λ e. cc) h (not_string code p q)

pub string8 : (k : Option ℕ) (old mid new : At) (content : List ℕ) → Head k old mid Str8 → ReadText one_byte mid new content → Reads k old new (scalar (string content))
string8 k old mid new content h z = variable_read k old mid new Str8 one_byte content string_at (string content) h refl z.sized (rw z.utf8 refl)

pub string32 : (k : Option ℕ) (old mid new : At) (content : List ℕ) → Head k old mid Str32 → ReadText four_bytes mid new content → Reads k old new (scalar (string content))
string32 k old mid new content h z = variable_read k old mid new Str32 four_bytes content string_at (string content) h refl z.sized (rw z.utf8 refl)

pub no_string8 : (k : Option ℕ) (old mid : At) → Head k old mid Str8 → NoText one_byte mid.rest → Refuses string_taken k old
no_string8 k old mid h n = text_refuses string_taken k old mid Str8 one_byte string_at (λ t. refl) h refl (λ c e. rw e refl) n

pub no_string32 : (k : Option ℕ) (old mid : At) → Head k old mid Str32 → NoText four_bytes mid.rest → Refuses string_taken k old
no_string32 k old mid h n = text_refuses string_taken k old mid Str32 four_bytes string_at (λ t. refl) h refl (λ c e. rw e refl) n

pub ruleset strings = (wrong_string, string8, string32, no_string8, no_string32)

only_symbol : TakesOnly symbol_taken symbol_kind
only_symbol (scalar (symbol bs)) p = absurd (p refl)
only_symbol (scalar s) p = refl
only_symbol x p = refl

pub not_symbol : (code : EncodingCodes) → code ≢ Sym8 → code ≢ Sym32 → kind_at code ≢ symbol_kind
not_symbol Sym8 p q = absurd (p refl)
not_symbol Sym32 p q = absurd (q refl)
not_symbol code p q = λ e. cc

pub wrong_symbol : (k : Option ℕ) (old mid : At) (code : EncodingCodes) → Head k old mid code → code ≢ Sym8 → code ≢ Sym32 → Refuses symbol_taken k old
wrong_symbol k old mid code h p q = wrong_kind symbol_taken symbol_kind k old mid code only_symbol (λ e. cc) h (not_symbol code p q)

pub symbol8 : (k : Option ℕ) (old mid new : At) (content : List ℕ) → Head k old mid Sym8 → ReadText one_byte mid new content → Reads k old new (scalar (symbol content))
symbol8 k old mid new content h z = variable_read k old mid new Sym8 one_byte content symbol_at (symbol content) h refl z.sized (rw z.utf8 refl)

pub symbol32 : (k : Option ℕ) (old mid new : At) (content : List ℕ) → Head k old mid Sym32 → ReadText four_bytes mid new content → Reads k old new (scalar (symbol content))
symbol32 k old mid new content h z = variable_read k old mid new Sym32 four_bytes content symbol_at (symbol content) h refl z.sized (rw z.utf8 refl)

pub no_symbol8 : (k : Option ℕ) (old mid : At) → Head k old mid Sym8 → NoText one_byte mid.rest → Refuses symbol_taken k old
no_symbol8 k old mid h n = text_refuses symbol_taken k old mid Sym8 one_byte symbol_at (λ t. refl) h refl (λ c e. rw e refl) n

pub no_symbol32 : (k : Option ℕ) (old mid : At) → Head k old mid Sym32 → NoText four_bytes mid.rest → Refuses symbol_taken k old
no_symbol32 k old mid h n = text_refuses symbol_taken k old mid Sym32 four_bytes symbol_at (λ t. refl) h refl (λ c e. rw e refl) n

pub ruleset symbols = (wrong_symbol, symbol8, symbol32, no_symbol8, no_symbol32)

size_refuses : (take : Item → Option Item) (k : Option ℕ) (old mid : At) (code : EncodingCodes) (w : Width) (read : List ℕ → Option Scalar) → ((text : List ℕ) → take (raw text) ≡ None) → Head k old mid code → row_at (Some code) ≡ variable w read → NoSized w mid.rest → Refuses take k old
size_refuses take k old mid code w read plain h r n = record {
  none = refuse_by take k old mid code plain h (λ x a more f e.
      let v = variable_parts x w read a (subst (λ (row : Row). Form IsCapped IsStrict x None row a) r f) in
      absurd (n.none v.0 a more v.2 e));
}

only_binary : TakesOnly binary_taken binary_kind
only_binary (scalar (binary bs)) p = absurd (p refl)
only_binary (scalar s) p = refl
only_binary x p = refl

pub not_binary : (code : EncodingCodes) → code ≢ Vbin8 → code ≢ Vbin32 → kind_at code ≢ binary_kind
not_binary Vbin8 p q = absurd (p refl)
not_binary Vbin32 p q = absurd (q refl)
not_binary code p q = λ e. cc

pub wrong_binary : (k : Option ℕ) (old mid : At) (code : EncodingCodes) → Head k old mid code → code ≢ Vbin8 → code ≢ Vbin32 → Refuses binary_taken k old
wrong_binary k old mid code h p q = wrong_kind binary_taken binary_kind k old mid code only_binary (λ e. cc) h (not_binary code p q)

pub binary8 : (k : Option ℕ) (old mid new : At) (content : List ℕ) → Head k old mid Vbin8 → ReadSized one_byte mid new content → Reads k old new (scalar (binary content))
binary8 k old mid new content h z = variable_read k old mid new Vbin8 one_byte content _ (binary content) h refl z refl

pub binary32 : (k : Option ℕ) (old mid new : At) (content : List ℕ) → Head k old mid Vbin32 → ReadSized four_bytes mid new content → Reads k old new (scalar (binary content))
binary32 k old mid new content h z = variable_read k old mid new Vbin32 four_bytes content _ (binary content) h refl z refl

pub no_binary8 : (k : Option ℕ) (old mid : At) → Head k old mid Vbin8 → NoSized one_byte mid.rest → Refuses binary_taken k old
no_binary8 k old mid h n = size_refuses binary_taken k old mid Vbin8 one_byte _ (λ t. refl) h refl n

pub no_binary32 : (k : Option ℕ) (old mid : At) → Head k old mid Vbin32 → NoSized four_bytes mid.rest → Refuses binary_taken k old
no_binary32 k old mid h n = size_refuses binary_taken k old mid Vbin32 four_bytes _ (λ t. refl) h refl n

pub ruleset binaries = (wrong_binary, binary8, binary32, no_binary8, no_binary32)
