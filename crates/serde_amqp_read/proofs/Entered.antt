-- The next form, its constructor first.
use Rattle.std.proofs.Common.{◌≡◌, ◌≢◌, ℕ, ◌<◌, List, [], ◌∷◌, ◌++◌, length, Option, Some, None, sym, ◌∙◌, ap, subst, refl, arith, length-append, append_assoc}
use Rattle.std.proofs.lemmas.List.{append_cancel_left}
use Rattle.serde_amqp_item.specs.declared.codes.EncodingCodes.{EncodingCodes}
use Rattle.serde_amqp_item.specs.declared.codes.EncodingCodes.TheVariants.{DescribedType, Null, BooleanTrue, BooleanFalse, Boolean, UByte, UShort, UInt, SmallUInt, UInt0, ULong, SmallULong, ULong0, Byte, Short, Int, SmallInt, Long, SmallLong, Float, Double, Decimal32, Decimal64, Decimal128, Char, Timestamp, Uuid, Vbin8, Vbin32, Str8, Str32, Sym8, Sym32, List0, List8, List32, Map8, Map32, Array8, Array32}
use Rattle.serde_amqp_item.specs.Item.{Item, scalar, raw, list, map, array, described}
use Rattle.serde_amqp_item.specs.Wire.{Leads, own, code_of, row_at, row_of, no_row, Row, AnyCount}
use Rattle.serde_amqp_item.proofs.Forms.{no_raw_form}
use Rattle.serde_amqp_item.proofs.Constructors.{byte_of_code, row_of_code}
use Rattle.serde_amqp_read.specs.Pending.{Place, Moves, Opens, NoRow, Headed, Enters, NoForm, NeedsBytes, TakesBytes, plain_at}
use Rattle.serde_amqp_read.specs.declared.measure.Frame.{Frame}
use Rattle.serde_amqp_read.proofs.Opened.{AForm, moves_then, stays}

pub headed : (old new : Place) (b : ℕ) (code : EncodingCodes) → Moves old new (b ∷ []) → Some code ≡ code_of b → Headed None old new code
headed old new b code m e = record {
  byte = b;
  front = b ∷ [];
  means = sym e;
  moves = m;
  there = λ a. refl;
  back = λ c w a more l z.
      let both : b ∷ new.rest ≡ c ∷ (a ++ more) = sym m.split ∙ (z ∙ ap (λ (s : List ℕ). s ++ more) l) in
      let same : c ≡ b = cc in
      (same, l ∙ ap (λ (i : ℕ). i ∷ a) same);
  filled = λ n. omega arith;
}

pub headed_element : (old : Place) (b : ℕ) (code : EncodingCodes) → Some code ≡ code_of b → Headed (Some b) old old code
headed_element old b code e = record {
  byte = b;
  front = [];
  means = sym e;
  moves = stays old;
  there = λ a. (refl, refl);
  back = λ c w a more l z. (l.0, l.1);
  filled = λ n. absurd cc;
}

pub no_head : (rest : List ℕ) → rest ≡ [] → NoForm None rest
no_head rest e = record { none = λ x c a w more l f z. let both : c ∷ (a ++ more) ≡ [] = sym (z ∙ ap (λ (s : List ℕ). s ++ more) l) ∙ e in absurd cc }

no_row_form : (x : Item) (o : Option ℕ) (a : List ℕ) → AForm x o no_row a → ⊥
no_row_form (raw text) o a f = no_raw_form AnyCount text o no_row a f
no_row_form (scalar s) o a f = f
no_row_form (list xs) o a f = f
no_row_form (map ps) o a f = f
no_row_form (array xs) o a f = f
no_row_form (described d v) o a f = f

unknown : (x : Item) (o : Option ℕ) (c b : ℕ) (a : List ℕ) → c ≡ b → code_of b ≡ None → AForm x o (row_of c) a → ⊥
unknown x o c b a e n f = no_row_form x o a (subst (λ (r : Row). AForm x o r a) (row_of_code c None (ap code_of e ∙ n)) f)

pub no_code : (old new : Place) (b : ℕ) → Moves old new (b ∷ []) → None ≡ code_of b → NoForm None old.rest
no_code old new b m e = record {
  none = λ x c a w more l f z.
      let both : b ∷ new.rest ≡ c ∷ (a ++ more) = sym m.split ∙ (z ∙ ap (λ (s : List ℕ). s ++ more) l) in
      let same : c ≡ b = cc in
      unknown x (own None c) c b a same (sym e) f;
}

pub no_element_code : (rest : List ℕ) (b : ℕ) → None ≡ code_of b → NoForm (Some b) rest
no_element_code rest b e = record { none = λ x c a w more l f z. unknown x (own (Some b) c) c b a l.0 (sym e) f }

takes_bytes : (code : EncodingCodes) → code ≢ DescribedType → plain_at (Some code) ≡ None → TakesBytes (row_at (Some code))
takes_bytes DescribedType n e = absurd (n refl)
takes_bytes Boolean n e = omega arith
takes_bytes Char n e = omega arith
takes_bytes Vbin8 n e = tt
takes_bytes Vbin32 n e = tt
takes_bytes Str8 n e = tt
takes_bytes Str32 n e = tt
takes_bytes Sym8 n e = tt
takes_bytes Sym32 n e = tt
takes_bytes List8 n e = tt
takes_bytes List32 n e = tt
takes_bytes Map8 n e = tt
takes_bytes Map32 n e = tt
takes_bytes Array8 n e = tt
takes_bytes Array32 n e = tt
takes_bytes Null n e = absurd cc
takes_bytes BooleanTrue n e = absurd cc
takes_bytes BooleanFalse n e = absurd cc
takes_bytes UByte n e = absurd cc
takes_bytes UShort n e = absurd cc
takes_bytes UInt n e = absurd cc
takes_bytes SmallUInt n e = absurd cc
takes_bytes UInt0 n e = absurd cc
takes_bytes ULong n e = absurd cc
takes_bytes SmallULong n e = absurd cc
takes_bytes ULong0 n e = absurd cc
takes_bytes Byte n e = absurd cc
takes_bytes Short n e = absurd cc
takes_bytes Int n e = absurd cc
takes_bytes SmallInt n e = absurd cc
takes_bytes Long n e = absurd cc
takes_bytes SmallLong n e = absurd cc
takes_bytes Float n e = absurd cc
takes_bytes Double n e = absurd cc
takes_bytes Decimal32 n e = absurd cc
takes_bytes Decimal64 n e = absurd cc
takes_bytes Decimal128 n e = absurd cc
takes_bytes Timestamp n e = absurd cc
takes_bytes Uuid n e = absurd cc
takes_bytes List0 n e = absurd cc

-- something was taken, be it the constructor or what stands behind it
front_filled : (k : Option ℕ) (old mid new : Place) (code : EncodingCodes) (f : Frame) → NeedsBytes k → (h : Headed k old mid code) (o : Opens (row_at (Some code)) mid new f) → 0 < length (h.front ++ o.front)
front_filled None old mid new code f n h o = omega (arith, h.filled refl, length-append h.front o.front)
front_filled (Some d) old mid new code f n h o =
    let led = h.back d [] [] old.rest (refl, refl) refl in
    let same : code_of d ≡ Some code = ap code_of led.0 ∙ h.means in
    let plain : plain_at (Some code) ≡ None = ap plain_at (sym same) ∙ n.1 in
    let other : code ≢ DescribedType = λ e. n.0 (byte_of_code DescribedType d (same ∙ ap (λ (i : EncodingCodes). Some i) e)) in
    omega (arith, o.filled (takes_bytes code other plain), length-append h.front o.front)

rest_behind : (old mid : Place) (front w a more : List ℕ) → Moves old mid front → w ≡ front ++ a → old.rest ≡ w ++ more → mid.rest ≡ a ++ more
rest_behind old mid front w a more m l z = append_cancel_left front mid.rest (a ++ more) (sym m.split ∙ (z ∙ (ap (λ (s : List ℕ). s ++ more) l ∙ append_assoc front a more)))

pub enters : (k : Option ℕ) (old mid new : Place) (code : EncodingCodes) (f : Frame) → NeedsBytes k → Headed k old mid code → Opens (row_at (Some code)) mid new f → Enters k old new f
enters k old mid new code f n h o = record {
  front = h.front ++ o.front;
  moves = moves_then old mid new h.front o.front h.moves o.moves;
  there = λ xs content held.
      let g = o.there xs content (own k h.byte) held in
      let led : Leads k (h.front ++ (o.front ++ content)) h.byte (o.front ++ content) = h.there (o.front ++ content) in (
        g.0,
        h.byte,
        o.front ++ content,
        subst (λ (w : List ℕ). Leads k w h.byte (o.front ++ content)) (sym (append_assoc h.front o.front content)) led,
        subst (λ (r : Row). AForm g.0 (own k h.byte) r (o.front ++ content)) (sym (row_of_code h.byte (Some code) h.means)) g.1,
      );
  back = λ x c a w more l g z.
      let led = h.back c w a more l z in
      let row : row_of c ≡ row_at (Some code) = row_of_code c (Some code) (ap code_of led.0 ∙ h.means) in
      let rest : mid.rest ≡ a ++ more = rest_behind old mid h.front w a more h.moves led.1 z in
      let b = o.back x (own k c) a more (subst (λ (r : Row). AForm x (own k c) r a) row g) rest in
      (b.0, b.1, led.1 ∙ (ap (λ (s : List ℕ). h.front ++ s) b.2 ∙ sym (append_assoc h.front o.front b.1)), b.3);
  filled = front_filled k old mid new code f n h o;
  sound = o.sound;
}

pub no_enter : (k : Option ℕ) (old mid : Place) (code : EncodingCodes) → Headed k old mid code → NoRow (row_at (Some code)) mid.rest → NoForm k old.rest
no_enter k old mid code h n = record {
  none = λ x c a w more l g z.
      let led = h.back c w a more l z in
      let row : row_of c ≡ row_at (Some code) = row_of_code c (Some code) (ap code_of led.0 ∙ h.means) in
      n.none x (own k c) a more (subst (λ (r : Row). AForm x (own k c) r a) row g) (rest_behind old mid h.front w a more h.moves led.1 z);
}

pub ruleset entering = (headed, headed_element, no_head, no_code, no_element_code, enters, no_enter)
