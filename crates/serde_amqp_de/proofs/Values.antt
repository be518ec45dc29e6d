-- Values read by their types.
use Rattle.std.proofs.Common.{◌≡◌, ◌≢◌, ℕ, List, ◌++◌, Bool, Option, Some, None, sym, ◌∙◌, ap, subst, refl}
use Rattle.std.specs.Prelude.{ℤ}
use Rattle.serde_amqp_item.specs.declared.codes.EncodingCodes.{EncodingCodes}
use Rattle.serde_amqp_item.specs.declared.codes.EncodingCodes.TheVariants.{Null}
use Rattle.serde_amqp_item.specs.Item.{Item, raw, list, map, array, described, scalar, null, boolean, ubyte, ushort, uint, ulong, byte, short, int, long, float, double, char, string}
use Rattle.serde_amqp_item.specs.Wire.{Wire}
use Rattle.serde_amqp_item.specs.Kind.{Kind, kind_at, null_kind}
use Rattle.serde_amqp_de.specs.Reads.{At, Foresees, Reads, Refuses, Took}
use Rattle.serde_amqp_de.specs.Takes.{kind_seen, unless_null, null_taken, ubyte_taken, byte_taken, short_taken, int_taken, long_taken, float_taken, double_taken, char_taken, boolean_taken, ushort_taken, uint_taken, ulong_taken, string_taken, option_taken}
use Rattle.serde_amqp_de.specs.Seen.{form_seen}
use Rattle.serde_amqp_de.specs.Deciding.{option_same}
use Rattle.serde_amqp_de.proofs.Heads.{behind_head, no_head_refuses}
use Rattle.serde_amqp_de.proofs.Scalars.{not_null}

pub took_null : (k : Option ℕ) (old new : At) → Reads k old new (scalar null) → Took null_taken k old new (scalar null)
took_null k old new r = record { item = scalar null; reads = r; taken = refl }

pub took_boolean : (k : Option ℕ) (old new : At) (b : Bool) → Reads k old new (scalar (boolean b)) → Took boolean_taken k old new (scalar (boolean b))
took_boolean k old new b r = record { item = scalar (boolean b); reads = r; taken = refl }

pub took_ushort : (k : Option ℕ) (old new : At) (n : ℕ) → Reads k old new (scalar (ushort n)) → Took ushort_taken k old new (scalar (ushort n))
took_ushort k old new n r = record { item = scalar (ushort n); reads = r; taken = refl }

pub took_uint : (k : Option ℕ) (old new : At) (n : ℕ) → Reads k old new (scalar (uint n)) → Took uint_taken k old new (scalar (uint n))
took_uint k old new n r = record { item = scalar (uint n); reads = r; taken = refl }

pub took_ulong : (k : Option ℕ) (old new : At) (n : ℕ) → Reads k old new (scalar (ulong n)) → Took ulong_taken k old new (scalar (ulong n))
took_ulong k old new n r = record { item = scalar (ulong n); reads = r; taken = refl }

pub took_string : (k : Option ℕ) (old new : At) (bs : List ℕ) → Reads k old new (scalar (string bs)) → Took string_taken k old new (scalar (string bs))
took_string k old new bs r = record { item = scalar (string bs); reads = r; taken = refl }

pub ruleset taking = (took_null, took_boolean, took_ushort, took_uint, took_ulong, took_string)

pub took_ubyte : (k : Option ℕ) (old new : At) (n : ℕ) → Reads k old new (scalar (ubyte n)) → Took ubyte_taken k old new (scalar (ubyte n))
took_ubyte k old new n r = record { item = scalar (ubyte n); reads = r; taken = refl }

pub took_byte : (k : Option ℕ) (old new : At) (z : ℤ) → Reads k old new (scalar (byte z)) → Took byte_taken k old new (scalar (byte z))
took_byte k old new z r = record { item = scalar (byte z); reads = r; taken = refl }

pub took_short : (k : Option ℕ) (old new : At) (z : ℤ) → Reads k old new (scalar (short z)) → Took short_taken k old new (scalar (short z))
took_short k old new z r = record { item = scalar (short z); reads = r; taken = refl }

pub took_int : (k : Option ℕ) (old new : At) (z : ℤ) → Reads k old new (scalar (int z)) → Took int_taken k old new (scalar (int z))
took_int k old new z r = record { item = scalar (int z); reads = r; taken = refl }

pub took_long : (k : Option ℕ) (old new : At) (z : ℤ) → Reads k old new (scalar (long z)) → Took long_taken k old new (scalar (long z))
took_long k old new z r = record { item = scalar (long z); reads = r; taken = refl }

pub took_float : (k : Option ℕ) (old new : At) (n : ℕ) → Reads k old new (scalar (float n)) → Took float_taken k old new (scalar (float n))
took_float k old new n r = record { item = scalar (float n); reads = r; taken = refl }

pub took_double : (k : Option ℕ) (old new : At) (n : ℕ) → Reads k old new (scalar (double n)) → Took double_taken k old new (scalar (double n))
took_double k old new n r = record { item = scalar (double n); reads = r; taken = refl }

pub took_char : (k : Option ℕ) (old new : At) (n : ℕ) → Reads k old new (scalar (char n)) → Took char_taken k old new (scalar (char n))
took_char k old new n r = record { item = scalar (char n); reads = r; taken = refl }

pub ruleset numbers = (took_ubyte, took_byte, took_short, took_int, took_long, took_float, took_double, took_char)

-- the type of an item whose constructor was foreseen
pub foreseen_seen : (k : Option ℕ) (old : At) (code : EncodingCodes) (x : Item) (f more : List ℕ) → Foresees k old code → Wire x k f → old.rest ≡ f ++ more → kind_seen x ≡ Some (kind_at code)
foreseen_seen k old code x f more p w e =
    let b = behind_head k old p.mid code x f more p.head w e in
    form_seen code x k p.head.byte b.0 p.head.means b.1

not_seen_null : (code : EncodingCodes) (x : Item) → code ≢ Null → kind_seen x ≡ Some (kind_at code) → kind_seen x ≢ Some null_kind
not_seen_null code x n s e = not_null code n (let both : Some (kind_at code) ≡ Some null_kind = sym s ∙ e in cc)

pub some_took : (take : Item → Option Item) (k : Option ℕ) (old mid new : At) (code : EncodingCodes) (y : Item) → Foresees k old code → mid ≡ old → code ≢ Null → Took take k mid new y → Took (option_taken take) k old new y
some_took take k old mid new code y p same n t =
    let s : Took take k old new y = subst (λ (a : At). Took take k a new y) same t in
    record {
      item = s.item;
      reads = s.reads;
      taken = option_same take s.item (not_seen_null code s.item n (foreseen_seen k old code s.item s.reads.front new.rest p s.reads.wire s.reads.moves.split)) ∙ s.taken;
    }

pub some_refused : (take : Item → Option Item) (k : Option ℕ) (old mid : At) (code : EncodingCodes) → Foresees k old code → mid ≡ old → code ≢ Null → Refuses take k mid → Refuses (option_taken take) k old
some_refused take k old mid code p same n r =
    let s : Refuses take k old = subst (λ (a : At). Refuses take k a) same r in
    record {
      none = λ x f more w e.
          option_same take x (not_seen_null code x n (foreseen_seen k old code x f more p w e)) ∙ s.none x f more w e;
    }

pub none_took : (take : Item → Option Item) (k : Option ℕ) (old mid new : At) → mid ≡ old → Reads k mid new (scalar null) → Took (option_taken take) k old new (scalar null)
unfolding option_taken
none_took take k old mid new same r = record { item = scalar null; reads = subst (λ (a : At). Reads k a new (scalar null)) same r; taken = refl }

only_null : (take : Item → Option Item) (x : Item) → kind_seen x ≡ Some null_kind → null_taken x ≡ None → option_taken take x ≡ None
unfolding option_taken
only_null take (raw text) n e = ap (λ (t : Option Kind). unless_null t (take (raw text))) n
only_null take (scalar null) n e = absurd cc
only_null take (scalar s) n e = absurd cc
only_null take (list xs) n e = absurd cc
only_null take (map ps) n e = absurd cc
only_null take (array xs) n e = absurd cc
only_null take (described d v) n e = absurd cc

pub none_refused : (take : Item → Option Item) (k : Option ℕ) (old mid : At) → Foresees k old Null → mid ≡ old → Refuses null_taken k mid → Refuses (option_taken take) k old
none_refused take k old mid p same r =
    let s : Refuses null_taken k old = subst (λ (a : At). Refuses null_taken k a) same r in
    record { none = λ x f more w e. only_null take x (foreseen_seen k old Null x f more p w e) (s.none x f more w e) }

pub ruleset optional = (no_head_refuses, some_took, some_refused, none_took, none_refused)
