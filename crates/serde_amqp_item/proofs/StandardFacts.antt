-- Texts of part 1, section 1.6, computed from the definitions.
use Rattle.std.proofs.Common.{◌≡◌, ℕ, ◌^◌, Bool, true, false, cond, List, [], ◌∷◌, ◌++◌, length, Some, None, refl, ap, subst, sym, inl}
use Rattle.std.specs.Prelude.{pos, negsuc, nat_lt}
use Rattle.std.specs.Int.{w32, to_be_bytes}
use Rattle.std.specs.Char.{encode_utf8}
use Rattle.std.specs.Str.{is_utf8, chars}
use Rattle.serde_amqp_item.specs.declared.codes.EncodingCodes.TheVariants.{Boolean, Array8}
use Rattle.serde_amqp_item.specs.Item.{null, boolean, uint, ulong, int, long, char, string, symbol, binary, uuid, scalar, raw, list, map, array, described, no_items, no_pairs, items_of, pairs_of}
use Rattle.serde_amqp_item.specs.Wire.{Wire, Form, ScalarForm, Row, row_of, IsCapped, IsStrict}
use Rattle.serde_amqp_item.specs.Canon.{canon, sized_text}
use Rattle.serde_amqp_item.proofs.Constructors.{row_of_byte}

-- section 1.6.1
pub null_text : canon (scalar null) ≡ Some (0x40 ∷ [])
null_text = refl

-- section 1.6.2
pub true_text : canon (scalar (boolean true)) ≡ Some (0x41 ∷ [])
true_text = refl

pub false_text : canon (scalar (boolean false)) ≡ Some (0x42 ∷ [])
false_text = refl

-- section 1.6.5
pub uint_0 : canon (scalar (uint 0)) ≡ Some (0x43 ∷ [])
uint_0 = refl

pub uint_1 : canon (scalar (uint 1)) ≡ Some (0x52 ∷ 0x01 ∷ [])
uint_1 = refl

pub uint_255 : canon (scalar (uint 255)) ≡ Some (0x52 ∷ 0xff ∷ [])
uint_255 = refl

pub uint_256 : canon (scalar (uint 256)) ≡ Some (0x70 ∷ 0x00 ∷ 0x00 ∷ 0x01 ∷ 0x00 ∷ [])
uint_256 = refl

pub uint_too_large : canon (scalar (uint 0x1_0000_0000)) ≡ None
uint_too_large = refl

-- section 1.6.6
pub ulong_0 : canon (scalar (ulong 0)) ≡ Some (0x44 ∷ [])
ulong_0 = refl

pub ulong_1 : canon (scalar (ulong 1)) ≡ Some (0x53 ∷ 0x01 ∷ [])
ulong_1 = refl

pub ulong_255 : canon (scalar (ulong 255)) ≡ Some (0x53 ∷ 0xff ∷ [])
ulong_255 = refl

pub ulong_256 : canon (scalar (ulong 256)) ≡ Some (0x80 ∷ 0x00 ∷ 0x00 ∷ 0x00 ∷ 0x00 ∷ 0x00 ∷ 0x00 ∷ 0x01 ∷ 0x00 ∷ [])
ulong_256 = refl

-- section 1.6.9: -1, -128, -129 and 128
pub int_minus_1 : canon (scalar (int (negsuc 0))) ≡ Some (0x54 ∷ 0xff ∷ [])
int_minus_1 = refl

pub int_minus_128 : canon (scalar (int (negsuc 127))) ≡ Some (0x54 ∷ 0x80 ∷ [])
int_minus_128 = refl

pub int_minus_129 : canon (scalar (int (negsuc 128))) ≡ Some (0x71 ∷ 0xff ∷ 0xff ∷ 0xff ∷ 0x7f ∷ [])
int_minus_129 = refl

pub int_128 : canon (scalar (int (pos 128))) ≡ Some (0x71 ∷ 0x00 ∷ 0x00 ∷ 0x00 ∷ 0x80 ∷ [])
int_128 = refl

-- section 1.6.10
pub long_minus_1 : canon (scalar (long (negsuc 0))) ≡ Some (0x55 ∷ 0xff ∷ [])
long_minus_1 = refl

-- section 1.6.16: "A", and a surrogate
pub char_a : canon (scalar (char 0x41)) ≡ Some (0x73 ∷ 0x00 ∷ 0x00 ∷ 0x00 ∷ 0x41 ∷ [])
char_a = refl

pub no_surrogate : canon (scalar (char 0xd800)) ≡ None
no_surrogate = refl

-- sections 1.6.18 to 1.6.21
pub short_uuid : canon (scalar (uuid (0x00 ∷ []))) ≡ None
short_uuid = refl

pub binary_text : canon (scalar (binary (0xff ∷ 0x00 ∷ []))) ≡ Some (0xa0 ∷ 0x02 ∷ 0xff ∷ 0x00 ∷ [])
binary_text = refl

-- "amqp"
pub string_text : canon (scalar (string (0x61 ∷ 0x6d ∷ 0x71 ∷ 0x70 ∷ []))) ≡ Some (0xa1 ∷ 0x04 ∷ 0x61 ∷ 0x6d ∷ 0x71 ∷ 0x70 ∷ [])
unfolding is_utf8 chars encode_utf8
string_text = refl

pub symbol_text : canon (scalar (symbol (0x61 ∷ 0x6d ∷ 0x71 ∷ 0x70 ∷ []))) ≡ Some (0xa3 ∷ 0x04 ∷ 0x61 ∷ 0x6d ∷ 0x71 ∷ 0x70 ∷ [])
unfolding is_utf8 chars encode_utf8
symbol_text = refl

pub not_utf8 : canon (scalar (string (0xff ∷ []))) ≡ None
unfolding is_utf8 chars encode_utf8
not_utf8 = refl

-- the longest text with a size of one byte, and the shortest with a size of four
pub text_of_254 : (bs : List ℕ) → length bs ≡ 254 → sized_text 0xa1 0xb1 bs ≡ Some (0xa1 ∷ 0xfe ∷ bs)
text_of_254 bs h = ap (λ (n : ℕ). cond (nat_lt n 255) (Some (0xa1 ∷ n ∷ bs)) (cond (nat_lt n (2 ^ 32)) (Some (0xb1 ∷ (to_be_bytes w32 n ++ bs))) None)) h

pub text_of_255 : (bs : List ℕ) → length bs ≡ 255 → sized_text 0xa1 0xb1 bs ≡ Some (0xb1 ∷ 0x00 ∷ 0x00 ∷ 0x00 ∷ 0xff ∷ bs)
text_of_255 bs h = ap (λ (n : ℕ). cond (nat_lt n 255) (Some (0xa1 ∷ n ∷ bs)) (cond (nat_lt n (2 ^ 32)) (Some (0xb1 ∷ (to_be_bytes w32 n ++ bs))) None)) h

-- section 1.6.22: the empty list, and [1, 2]
pub empty_list_text : canon (list no_items) ≡ Some (0x45 ∷ [])
empty_list_text = refl

pub list_1_2 : canon (list (items_of (scalar (uint 1) ∷ scalar (uint 2) ∷ []))) ≡ Some (0xc0 ∷ 0x05 ∷ 0x02 ∷ 0x52 ∷ 0x01 ∷ 0x52 ∷ 0x02 ∷ [])
list_1_2 = refl

-- section 1.6.23: the empty map, and {"a": 1}
pub empty_map_text : canon (map no_pairs) ≡ Some (0xc1 ∷ 0x01 ∷ 0x00 ∷ [])
empty_map_text = refl

pub map_a_1 : canon (map (pairs_of ((scalar (string (0x61 ∷ [])), scalar (uint 1)) ∷ []))) ≡ Some (0xc1 ∷ 0x06 ∷ 0x02 ∷ 0xa1 ∷ 0x01 ∷ 0x61 ∷ 0x52 ∷ 0x01 ∷ [])
unfolding is_utf8 chars encode_utf8
map_a_1 = refl

-- section 1.6.24: the empty array, [1, 2], and [a] of a symbol
pub empty_array_text : canon (array no_items) ≡ Some (0xe0 ∷ 0x02 ∷ 0x00 ∷ 0x40 ∷ [])
empty_array_text = refl

pub array_1_2 : canon (array (items_of (scalar (uint 1) ∷ scalar (uint 2) ∷ []))) ≡ Some (0xe0 ∷ 0x0a ∷ 0x02 ∷ 0x70 ∷ 0x00 ∷ 0x00 ∷ 0x00 ∷ 0x01 ∷ 0x00 ∷ 0x00 ∷ 0x00 ∷ 0x02 ∷ [])
array_1_2 = refl

pub array_symbol : canon (array (items_of (scalar (symbol (0x61 ∷ [])) ∷ []))) ≡ Some (0xe0 ∷ 0x07 ∷ 0x01 ∷ 0xb3 ∷ 0x00 ∷ 0x00 ∷ 0x00 ∷ 0x01 ∷ 0x61 ∷ [])
unfolding is_utf8 chars encode_utf8
array_symbol = refl

-- no array of two types, of null, of described or of raw items
pub array_mixed : canon (array (items_of (scalar (uint 1) ∷ scalar (ulong 2) ∷ []))) ≡ None
array_mixed = refl

pub array_null : canon (array (items_of (scalar null ∷ []))) ≡ None
array_null = refl

pub array_described : canon (array (items_of (described (scalar (ulong 1)) (scalar (uint 1)) ∷ []))) ≡ None
array_described = refl

pub array_raw : canon (array (items_of (raw (0x41 ∷ []) ∷ []))) ≡ None
array_raw = refl

-- section 1.2: a described value, and a raw item
pub described_text : canon (described (scalar (ulong 0x24)) (list no_items)) ≡ Some (0x00 ∷ 0x53 ∷ 0x24 ∷ 0x45 ∷ [])
described_text = refl

pub raw_text_is : canon (raw (0x56 ∷ 0x01 ∷ [])) ≡ Some (0x56 ∷ 0x01 ∷ [])
raw_text_is = refl

-- forms that are read and never written: a boolean in one byte, and an empty array without a constructor
pub boolean_wire : Wire (scalar (boolean true)) None (0x56 ∷ 0x01 ∷ [])
boolean_wire = (0x56, 0x01 ∷ [], refl, subst (λ (row : Row). ScalarForm (boolean true) row (0x01 ∷ [])) (sym (row_of_byte Boolean)) (refl, refl))

pub boolean_refused : (b : Bool) → Wire (scalar (boolean b)) None (0x56 ∷ 0x02 ∷ []) → ⊥
boolean_refused b h =
    let same : h.0 ≡ 0x56 = cc in
    let rest : h.1 ≡ 0x02 ∷ [] = cc in
    let there : ScalarForm (boolean b) (row_of 0x56) (0x02 ∷ []) = subst (λ (s : List ℕ). ScalarForm (boolean b) (row_of 0x56) s) rest (subst (λ (c : ℕ). ScalarForm (boolean b) (row_of c) h.1) same h.3) in
    let form = subst (λ (row : Row). ScalarForm (boolean b) row (0x02 ∷ [])) (row_of_byte Boolean) there in
    let none = form.1 in
    absurd cc

pub bare_array_wire : Wire (array no_items) None (0xe0 ∷ 0x01 ∷ 0x00 ∷ [])
bare_array_wire = (0xe0, 0x01 ∷ 0x00 ∷ [], refl, subst (λ (row : Row). Form IsCapped IsStrict (array no_items) (Some 0xe0) row (0x01 ∷ 0x00 ∷ [])) (sym (row_of_byte Array8)) (inl (record { width = refl; empty = refl; whole = refl })))
