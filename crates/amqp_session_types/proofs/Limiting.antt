-- Reading a value of a type with a restricted source.
use Rattle.std.proofs.Common.{◌≡◌, ◌≢◌, ℕ, List, ◌∷◌, Bool, true, false, Option, Some, None, sym, ◌∙◌, ap, subst, refl, arith}
use Rattle.std.proofs.lemmas.Bool.Decides.{nat_tests}
use Rattle.std.proofs.lemmas.Slice.Eq.{bytes_eq-Decides}
use Rattle.std.specs.Prelude.{◌<◌, ◌||◌, if◌then◌else◌, bytes_eq}
use Rattle.serde_amqp_item.specs.Item.{Item, scalar, ubyte, uint, symbol}
use Rattle.serde_amqp_item.specs.Wire.{Wire}
use Rattle.serde_amqp_item.specs.Canon.{◌>>=◌}
use Rattle.serde_amqp_item.proofs.Forms.{wire_same}
use Rattle.serde_amqp_de.specs.Decides.{Decided}
use Rattle.serde_amqp_de.specs.Deciding.{ubyte_decided, uint_decided, symbol_decided}
use Rattle.serde_amqp_de.specs.Reads.{At, Refuses, Took}
use Rattle.serde_amqp_de.specs.Takes.{ubyte_taken, uint_taken, symbol_taken}
use Rattle.amqp_session_types.specs.Limits.{limited, is_ubyte_upto, is_uint_upto, is_among, is_symbol_among}

-- what is meant is taken
pub limited_took : (meant : Item → Bool) (take : Item → Option Item) (k : Option ℕ) (old new : At) (y z : Item) → Took take k old new y → y ≡ z → meant z ≡ true → Took (limited meant take) k old new z
unfolding limited
limited_took meant take k old new y z t e m = record {
  item = t.item;
  reads = t.reads;
  taken = ap (λ (o : Option Item). o >>= λ v. if meant v then Some v else None) (t.taken ∙ ap (λ (v : Item). Some v) e) ∙ ap (λ (b : Bool). if b then Some z else None) m;
}

-- what the primitive type refuses is refused
pub limited_refuses : (meant : Item → Bool) (take : Item → Option Item) (k : Option ℕ) (old : At) → Refuses take k old → Refuses (limited meant take) k old
unfolding limited
limited_refuses meant take k old r = record { none = λ x g more w e. ap (λ (o : Option Item). o >>= λ v. if meant v then Some v else None) (r.none x g more w e) }

unless_meant : (meant : Item → Bool) (o : Option Item) (y : Item) → ((z : Item) → o ≡ Some z → z ≡ y) → meant y ≡ false → (o >>= λ v. if meant v then Some v else None) ≡ None
unless_meant meant None y one m = refl
unless_meant meant (Some z) y one m = ap (λ (v : Item). if meant v then Some v else None) (one z refl) ∙ ap (λ (b : Bool). if b then Some y else None) m

-- what isn't meant is refused, since the bytes give no other value
pub limited_out : (meant : Item → Bool) (take : Item → Option Item) (k : Option ℕ) (old new : At) (y : Item) → Decided take → Took take k old new y → meant y ≡ false → Refuses (limited meant take) k old
unfolding limited
limited_out meant take k old new y d t m = record {
  none = λ x g more w e.
      let same = wire_same t.item x k t.reads.front g new.rest more t.reads.wire w (sym t.reads.moves.split ∙ e) in
      unless_meant meant (take x) y (λ z s. d x t.item k g z y w (subst (λ (a : List ℕ). Wire t.item k a) same.0 t.reads.wire) s t.taken) m;
}

-- numbers of one byte
pub ubyte_is : (n m : ℕ) → n ≡ m → scalar (ubyte n) ≡ scalar (ubyte m)
ubyte_is n m e = ap (λ (i : ℕ). scalar (ubyte i)) e

ubyte_out : (most n : ℕ) (k : Option ℕ) (old new : At) → Took ubyte_taken k old new (scalar (ubyte n)) → most < n → Refuses (limited (is_ubyte_upto most) ubyte_taken) k old
ubyte_out most n k old new t above = limited_out (is_ubyte_upto most) ubyte_taken k old new (scalar (ubyte n)) ubyte_decided t (grind (arith, nat_tests))

pub ubyte_above_1 : (n : ℕ) (k : Option ℕ) (old new : At) → Took ubyte_taken k old new (scalar (ubyte n)) → n ≢ 0 → n ≢ 1 → Refuses (limited (is_ubyte_upto 1) ubyte_taken) k old
ubyte_above_1 n k old new t z o = ubyte_out 1 n k old new t (omega (arith, z, o))

pub ubyte_above_2 : (n : ℕ) (k : Option ℕ) (old new : At) → Took ubyte_taken k old new (scalar (ubyte n)) → n ≢ 0 → n ≢ 1 → n ≢ 2 → Refuses (limited (is_ubyte_upto 2) ubyte_taken) k old
ubyte_above_2 n k old new t z o w = ubyte_out 2 n k old new t (omega (arith, z, o, w))

pub ruleset ubytes = (limited_refuses, limited_took, ubyte_is, ubyte_above_1, ubyte_above_2)

-- numbers of four bytes
pub uint_is : (n m : ℕ) → n ≡ m → scalar (uint n) ≡ scalar (uint m)
uint_is n m e = ap (λ (i : ℕ). scalar (uint i)) e

pub uint_above_2 : (n : ℕ) (k : Option ℕ) (old new : At) → Took uint_taken k old new (scalar (uint n)) → n ≢ 0 → n ≢ 1 → n ≢ 2 → Refuses (limited (is_uint_upto 2) uint_taken) k old
uint_above_2 n k old new t z o w =
    let above : 2 < n = omega (arith, z, o, w) in
    limited_out (is_uint_upto 2) uint_taken k old new (scalar (uint n)) uint_decided t (grind (arith, nat_tests))

pub ruleset uints = (limited_refuses, limited_took, uint_is, uint_above_2)

-- names
pub same_symbol : (s t : List ℕ) → bytes_eq s t ≡ true → scalar (symbol s) ≡ scalar (symbol t)
same_symbol s t e = ap (λ (n : List ℕ). scalar (symbol n)) ((bytes_eq-Decides s t).0 e)

other_name : (a b : Bool) → a ≡ false → b ≡ false → (a || b) ≡ false
other_name false false e f = refl
other_name false true e f = absurd cc
other_name true b e f = absurd cc

-- none of these names
pub not_first : (s name : List ℕ) (names : List (List ℕ)) → bytes_eq s name ≡ false → is_among names s ≡ false → is_among (name ∷ names) s ≡ false
not_first s name names e f = other_name (bytes_eq s name) (is_among names s) e f

pub symbol_out : (names : List (List ℕ)) (s : List ℕ) (k : Option ℕ) (old new : At) → Took symbol_taken k old new (scalar (symbol s)) → is_among names s ≡ false → Refuses (limited (is_symbol_among names) symbol_taken) k old
symbol_out names s k old new t e = limited_out (is_symbol_among names) symbol_taken k old new (scalar (symbol s)) symbol_decided t e

pub ruleset symbols = (limited_refuses, limited_took, same_symbol, not_first, symbol_out)
