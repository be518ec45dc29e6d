-- Which items a type takes, and which item its value then is (part 1, sections 1.3 to 1.6).
use Rattle.std.specs.Prelude.{◌≡◌, ◌≢◌, ℕ, Bool, true, false, List, [], ◌∷◌, Option, Some, None, ◌==◌, if◌then◌else◌}
use Rattle.std.specs.Prelude.{bytes_eq}
use Rattle.serde_amqp_item.specs.Item.{null, boolean, ubyte, ushort, uint, ulong, byte, short, int, long, float, double}
use Rattle.serde_amqp_item.specs.Item.{decimal32, decimal64, decimal128, char, timestamp, uuid, binary, string, symbol}
use Rattle.serde_amqp_item.specs.Item.{Item, scalar, raw, list, array, described, Items, no_items, more_items, items_of}
use Rattle.serde_amqp_item.specs.Wire.{code_of}
use Rattle.serde_amqp_item.specs.Canon.{◌>>=◌}
use Rattle.serde_amqp_item.specs.Kind.{Kind, kind_of, kind_at, null_kind, array_kind, symbol_kind}
use Rattle.serde_amqp_item.specs.Record.{is_null, record_item}

-- only items of this type are taken
abbrev pub TakesOnly : (Item → Option Item) → Kind → Type 0
TakesOnly take t = (x : Item) → kind_of x ≢ t → take x ≡ None

abbrev pub null_taken : Item → Option Item
null_taken (scalar null) = Some (scalar null)
null_taken _ = None

abbrev pub boolean_taken : Item → Option Item
boolean_taken (scalar (boolean b)) = Some (scalar (boolean b))
boolean_taken _ = None

abbrev pub ushort_taken : Item → Option Item
ushort_taken (scalar (ushort n)) = Some (scalar (ushort n))
ushort_taken _ = None

abbrev pub uint_taken : Item → Option Item
uint_taken (scalar (uint n)) = Some (scalar (uint n))
uint_taken _ = None

abbrev pub ulong_taken : Item → Option Item
ulong_taken (scalar (ulong n)) = Some (scalar (ulong n))
ulong_taken _ = None

abbrev pub string_taken : Item → Option Item
string_taken (scalar (string bs)) = Some (scalar (string bs))
string_taken _ = None

abbrev pub symbol_taken : Item → Option Item
symbol_taken (scalar (symbol bs)) = Some (scalar (symbol bs))
symbol_taken _ = None

abbrev pub list_taken : Item → Option Item
list_taken (list xs) = Some (list xs)
list_taken _ = None

abbrev pub array_taken : Item → Option Item
array_taken (array xs) = Some (array xs)
array_taken _ = None

abbrev pub described_taken : Item → Option Item
described_taken (described d v) = Some (described d v)
described_taken _ = None

abbrev pub ubyte_taken : Item → Option Item
ubyte_taken (scalar (ubyte n)) = Some (scalar (ubyte n))
ubyte_taken _ = None

abbrev pub byte_taken : Item → Option Item
byte_taken (scalar (byte n)) = Some (scalar (byte n))
byte_taken _ = None

abbrev pub short_taken : Item → Option Item
short_taken (scalar (short n)) = Some (scalar (short n))
short_taken _ = None

abbrev pub int_taken : Item → Option Item
int_taken (scalar (int n)) = Some (scalar (int n))
int_taken _ = None

abbrev pub long_taken : Item → Option Item
long_taken (scalar (long n)) = Some (scalar (long n))
long_taken _ = None

abbrev pub float_taken : Item → Option Item
float_taken (scalar (float n)) = Some (scalar (float n))
float_taken _ = None

abbrev pub double_taken : Item → Option Item
double_taken (scalar (double n)) = Some (scalar (double n))
double_taken _ = None

abbrev pub decimal32_taken : Item → Option Item
decimal32_taken (scalar (decimal32 bs)) = Some (scalar (decimal32 bs))
decimal32_taken _ = None

abbrev pub decimal64_taken : Item → Option Item
decimal64_taken (scalar (decimal64 bs)) = Some (scalar (decimal64 bs))
decimal64_taken _ = None

abbrev pub decimal128_taken : Item → Option Item
decimal128_taken (scalar (decimal128 bs)) = Some (scalar (decimal128 bs))
decimal128_taken _ = None

abbrev pub char_taken : Item → Option Item
char_taken (scalar (char n)) = Some (scalar (char n))
char_taken _ = None

abbrev pub timestamp_taken : Item → Option Item
timestamp_taken (scalar (timestamp n)) = Some (scalar (timestamp n))
timestamp_taken _ = None

abbrev pub uuid_taken : Item → Option Item
uuid_taken (scalar (uuid bs)) = Some (scalar (uuid bs))
uuid_taken _ = None

abbrev pub binary_taken : Item → Option Item
binary_taken (scalar (binary bs)) = Some (scalar (binary bs))
binary_taken _ = None

-- the type that an item is seen to be of: a kept one is of its constructor's
abbrev pub kind_seen : Item → Option Kind
kind_seen (raw []) = None
kind_seen (raw (c ∷ bytes)) = code_of c >>= λ code. Some (kind_at code)
kind_seen x = Some (kind_of x)

-- what is taken of an item that is not seen to be null
abbrev pub unless_null : Option Kind → Option Item → Option Item
unless_null (Some null_kind) o = None
unless_null t o = o

-- null is no value
unfoldable pub option_taken : (Item → Option Item) → Item → Option Item
option_taken take (scalar null) = Some (scalar null)
option_taken take (raw text) = unless_null (kind_seen (raw text)) (take (raw text))
option_taken take x = take x

-- what is taken, and then turned into this
unfoldable pub mapped : (Item → Item) → (Item → Option Item) → Item → Option Item
mapped f take x = take x >>= λ y. Some (f y)

-- a field's default is null
abbrev pub or_null : (Item → Bool) → Item → Item
or_null is_default x = if is_default x then scalar null else x

abbrev pub is_boolean : Bool → Item → Bool
is_boolean true (scalar (boolean b)) = b
is_boolean false (scalar (boolean true)) = false
is_boolean false (scalar (boolean false)) = true
is_boolean d _ = false

abbrev pub is_ushort : ℕ → Item → Bool
is_ushort d (scalar (ushort n)) = n == d
is_ushort d _ = false

abbrev pub is_uint : ℕ → Item → Bool
is_uint d (scalar (uint n)) = n == d
is_uint d _ = false

abbrev pub each_taken : (Item → Option Item) → Items → Option (List Item)
each_taken take no_items = Some []
each_taken take (more_items x xs) = take x >>= λ y. each_taken take xs >>= λ ys. Some (y ∷ ys)

-- the elements of an array
unfoldable pub elements_taken : (Item → Option Item) → Item → Option Item
elements_taken take (array xs) = each_taken take xs >>= λ ys. Some (array (items_of ys))
elements_taken take _ = None

-- the items of a list
unfoldable pub items_taken : (Item → Option Item) → Item → Option Item
items_taken take (list xs) = each_taken take xs >>= λ ys. Some (list (items_of ys))
items_taken take _ = None

-- the items of a list, or the elements of an array, as a list
unfoldable pub sequence_taken : (Item → Option Item) → Item → Option Item
sequence_taken take (list xs) = each_taken take xs >>= λ ys. Some (list (items_of ys))
sequence_taken take (array xs) = each_taken take xs >>= λ ys. Some (list (items_of ys))
sequence_taken take _ = None

-- none is null, and several are an array (section 1.4)
abbrev pub several : List Item → Item
several [] = scalar null
several (y ∷ ys) = array (items_of (y ∷ ys))

-- what is taken of an item that is seen to be neither null nor an array
abbrev pub unless_several : Option Kind → Option Item → Option Item
unless_several (Some null_kind) o = None
unless_several (Some array_kind) o = None
unless_several t o = o

abbrev pub alone : Option Item → Option Item
alone o = o >>= λ y. Some (several (y ∷ []))

-- a field of several values: null is none, an array is its elements, and any other item is one (section 1.4)
unfoldable pub multiple_taken : (Item → Option Item) → Item → Option Item
multiple_taken take (scalar null) = Some (several [])
multiple_taken take (array xs) = each_taken take xs >>= λ ys. Some (several ys)
multiple_taken take (raw text) = unless_several (kind_seen (raw text)) (alone (take (raw text)))
multiple_taken take x = alone (take x)

-- the fields of a composite type: those that are absent are null, and there are no more than these (section 1.4)
abbrev pub fields_taken : List (Item → Option Item) → Items → Option (List Item)
fields_taken [] no_items = Some []
fields_taken [] (more_items x xs) = None
fields_taken (take ∷ takes) no_items = take (scalar null) >>= λ y. fields_taken takes no_items >>= λ ys. Some (y ∷ ys)
fields_taken (take ∷ takes) (more_items x xs) = take x >>= λ y. fields_taken takes xs >>= λ ys. Some (y ∷ ys)

-- exactly these items, one behind the other
abbrev pub row_taken : List (Item → Option Item) → Items → Option (List Item)
row_taken [] no_items = Some []
row_taken [] (more_items x xs) = None
row_taken (take ∷ takes) no_items = None
row_taken (take ∷ takes) (more_items x xs) = take x >>= λ y. row_taken takes xs >>= λ ys. Some (y ∷ ys)

-- a list of exactly these items
unfoldable pub tuple_taken : List (Item → Option Item) → Item → Option Item
tuple_taken takes (list xs) = row_taken takes xs >>= λ ys. Some (list (items_of ys))
tuple_taken takes _ = None

abbrev pub is_symbol : Kind → Bool
is_symbol symbol_kind = true
is_symbol _ = false

-- a descriptor, by its code or by its name (section 1.5)
unfoldable pub descriptor_taken : ℕ → List ℕ → Item → Option Item
descriptor_taken code name (scalar (ulong n)) = if n == code then Some (scalar (ulong code)) else None
descriptor_taken code name (scalar (symbol s)) = if bytes_eq s name then Some (scalar (ulong code)) else None
descriptor_taken code name _ = None

abbrev pub list_with : (Items → Option (List Item)) → Item → Option (List Item)
list_with taking (list xs) = taking xs
list_with taking _ = None

-- a described list with this code or this name, and these fields (section 1.4)
unfoldable pub record_taken : ℕ → List ℕ → List (Item → Option Item) → Item → Option Item
record_taken code name takes (described d v) =
    descriptor_taken code name d >>= λ c. list_with (fields_taken takes) v >>= λ ys. Some (record_item code ys)
record_taken code name takes _ = None

-- a value whose item is seen to be null is read as none
abbrev pub is_null_kind : Option Kind → Bool
is_null_kind (Some null_kind) = true
is_null_kind _ = false

abbrev pub reads_as_null : Item → Bool
reads_as_null (raw text) = is_null_kind (kind_seen (raw text))
reads_as_null x = is_null x
