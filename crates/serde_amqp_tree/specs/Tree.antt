-- Values that are finished from the last byte to the first: what each is, and its text.
use Rattle.std.specs.Prelude.{◌≡◌, ◌≢◌, ℕ, ◌+◌, ◌^◌, ◌<◌, ◌==◌, if◌then◌else◌, Bool, true, false, List, [], ◌∷◌, ◌++◌}
use Rattle.std.specs.Prelude.{length, Option, Some, None}
use Rattle.std.specs.Int.{w32, to_be_bytes}
use Rattle.serde_amqp_item.specs.declared.codes.EncodingCodes.{EncodingCodes}
use Rattle.serde_amqp_item.specs.declared.codes.EncodingCodes.TheVariants.{BooleanTrue, BooleanFalse, Boolean, UInt}
use Rattle.serde_amqp_item.specs.declared.codes.EncodingCodes.TheVariants.{SmallUInt, UInt0, ULong, SmallULong, ULong0}
use Rattle.serde_amqp_item.specs.declared.codes.EncodingCodes.TheVariants.{Int, SmallInt, Long, SmallLong, Vbin8}
use Rattle.serde_amqp_item.specs.declared.codes.EncodingCodes.TheVariants.{Vbin32, Str8, Str32, Sym8, Sym32, List0}
use Rattle.serde_amqp_item.specs.declared.codes.EncodingCodes.TheVariants.{List8, List32, Map8, Map32, Array8, Array32}
use Rattle.serde_amqp_item.specs.Item.{Scalar, Item, Items, item_count}
use Rattle.serde_amqp_item.specs.Wire.{Row, fixed, variable, empty_list, Width, one_byte, four_bytes, field}
use Rattle.serde_amqp_item.specs.Wire.{field_width, room, Form, Forms, Wire, IsCapped, IsStrict, NoRaw, byte_of, row_at}
use Rattle.serde_amqp_item.specs.Canon.{◌>>=◌, canon, canon_all, wide, elements_of, same_constructor, scalar_text}
use Rattle.serde_amqp_item.specs.Canon.{scalar_wide, sized_text, wide_sized, counted_text, counted_wide, list_text}
use Rattle.serde_amqp_item.specs.Canon.{list_wide, WithoutRaw, EachRawKept}
use Rattle.serde_amqp_tree.specs.declared.finished.Finished.{Finished}
use Rattle.serde_amqp_tree.specs.declared.finished.Lengths.{Lengths}

-- the bytes are a wire form of an item, without raw ones, whose canonical text this is
pub record IsCanonical (bytes text : List ℕ) : Type 0 where
  pub item : Item
  pub plain : WithoutRaw item
  pub wire : Wire item None bytes
  pub is : canon item ≡ Some text

-- the constructor that a value with this one has in its wide form, null and described ones aside
abbrev pub wide_code : EncodingCodes → EncodingCodes
wide_code BooleanTrue = Boolean
wide_code BooleanFalse = Boolean
wide_code SmallUInt = UInt
wide_code UInt0 = UInt
wide_code SmallULong = ULong
wide_code ULong0 = ULong
wide_code SmallInt = Int
wide_code SmallLong = Long
wide_code Vbin8 = Vbin32
wide_code Str8 = Str32
wide_code Sym8 = Sym32
wide_code List0 = List32
wide_code List8 = List32
wide_code Map8 = Map32
wide_code Array8 = Array32
wide_code code = code

abbrev pub wide_byte : EncodingCodes → ℕ
wide_byte code = byte_of (wide_code code)

-- the text of an item: the canonical one, or, where its constructor is inherited, the wide form behind the constructor
-- c
abbrev pub text_of : Bool → ℕ → Item → Option (List ℕ)
text_of false c x = canon x
text_of true c x = wide x >>= same_constructor c

abbrev pub scalar_of : Bool → ℕ → Scalar → Option (List ℕ)
scalar_of false c s = scalar_text s
scalar_of true c s = scalar_wide s >>= same_constructor c

abbrev pub counted_of : Bool → ℕ → ℕ → ℕ → List ℕ → Option (List ℕ)
counted_of false narrow c count content = counted_text narrow c count content
counted_of true narrow c count content = counted_wide c count content >>= same_constructor c

abbrev pub list_of_text : Bool → ℕ → List ℕ → Option (List ℕ)
list_of_text false count content = list_text count content
list_of_text true count content = list_wide count content >>= same_constructor 0xd0

-- what stands in front of the elements of an array that have this constructor: an empty one has that of null
abbrev pub element_byte : ℕ → EncodingCodes → ℕ
element_byte count code = if count == 0 then 0x40 else wide_byte code

-- the constructor of so many elements was cut off
pub record CutsElement (count : ℕ) (code : EncodingCodes) (front rest : List ℕ) : Type 0 where
  pub cut : front ≡ rest ++ byte_of code ∷ []
  pub plain : 0 < count → (byte_of code ≢ 0x40) × (byte_of code ≢ 0x00)

abbrev pub width_of : Bool → Width
width_of false = one_byte
width_of true = four_bytes

-- the bytes stand behind a constructor of this row and are an item with this text
pub record Body (inherited : Bool) (row : Row) (c : ℕ) (bytes text : List ℕ) : Type 0 where
  pub item : Item
  pub plain : WithoutRaw item
  pub form : (o : Option ℕ) → Form IsCapped IsStrict item o row bytes
  pub written : text_of inherited c item ≡ Some text

-- the bytes are a value, which inherits its constructor or has one of its own
abbrev pub Value : Option EncodingCodes → List ℕ → List ℕ → Type 0
Value None bytes text =
    (code : EncodingCodes) × (behind : List ℕ) × (bytes ≡ byte_of code ∷ behind)
    × Body false (row_at (Some code)) (wide_byte code) behind text
Value (Some code) bytes text = Body true (row_at (Some code)) (wide_byte code) bytes text

-- the bytes are these values one behind the other, and so is the text
abbrev pub Forest : List Finished → List ℕ → List ℕ → Type 0
Forest [] bytes text = (bytes ≡ []) × (text ≡ [])
Forest (f ∷ fs) bytes text =
    (a : List ℕ) × (b : List ℕ) × (t : List ℕ) × (u : List ℕ) × (bytes ≡ a ++ b) × (text ≡ t ++ u)
    × (length a ≡ f.bytes) × (length t ≡ f.text)
    × Value f.inherited a t × Forest fs b u

abbrev pub constructor_of : Option EncodingCodes → Option ℕ
constructor_of None = None
constructor_of (Some code) = Some (byte_of code)

abbrev pub texts_of : Option EncodingCodes → Items → Option (List ℕ)
texts_of None xs = canon_all xs
texts_of (Some code) xs = elements_of (wide_byte code) xs

-- so many values one behind the other, which all inherit the same
pub record Group (k : Option EncodingCodes) (count : ℕ) (bytes text : List ℕ) : Type 0 where
  pub items : Items
  pub counted : item_count items ≡ count
  pub plain : EachRawKept NoRaw items
  pub forms : Forms IsCapped IsStrict items (constructor_of k) bytes
  pub written : texts_of k items ≡ Some text

-- such a group stands in front, and then the others
pub record Grouped (k : Option EncodingCodes) (count : ℕ) (l : Lengths) (new : List Finished)
    (bytes text : List ℕ) : Type 0 where
  pub front : List ℕ
  pub behind : List ℕ
  pub front_text : List ℕ
  pub behind_text : List ℕ
  pub split : bytes ≡ front ++ behind
  pub texts : text ≡ front_text ++ behind_text
  pub long : length front ≡ l.bytes
  pub long_text : length front_text ≡ l.text
  pub group : Group k count front front_text
  pub others : Forest new behind behind_text

-- so many values were taken off the first of these
pub record Joins (k : Option EncodingCodes) (count : ℕ) (l : Lengths) (old new : List Finished) : Type 0 where
  pub there : (bytes text : List ℕ) → Forest old bytes text → Grouped k count l new bytes text

-- a body of this head and of parts that were finished stands in front, and then the others
pub record Closed (inherited : Bool) (row : Row) (c : ℕ) (l : Lengths) (head : List ℕ) (new : List Finished)
    (old_text new_text bytes : List ℕ) : Type 0 where
  pub parts : List ℕ
  pub behind : List ℕ
  pub text : List ℕ
  pub behind_text : List ℕ
  pub split : bytes ≡ parts ++ behind
  pub texts : new_text ≡ text ++ behind_text
  pub long : length parts ≡ l.bytes
  pub long_text : l.text + length behind_text ≡ length old_text
  pub body : Body inherited row c (head ++ parts) text
  pub others : Forest new behind behind_text

-- the parts of a value were taken off, its head cut off and its text put
pub record Closes (inherited : Bool) (row : Row) (c : ℕ) (l : Lengths) (front rest : List ℕ) (old new : List Finished)
    (old_text new_text : List ℕ) : Type 0 where
  pub head : List ℕ
  pub cut : front ≡ rest ++ head
  pub there : (bytes : List ℕ) → Forest old bytes old_text → Closed inherited row c l head new old_text new_text bytes

-- a value was finished
pub record Finishes (front rest : List ℕ) (old new : List Finished) (old_text new_text : List ℕ) : Type 0 where
  pub head : List ℕ
  pub cut : front ≡ rest ++ head
  pub there : (bytes : List ℕ) → Forest old bytes old_text → Forest new (head ++ bytes) new_text

-- a number field was cut off
pub record CutsNumber (w : Width) (n : ℕ) (front rest : List ℕ) : Type 0 where
  pub fits : n < room w
  pub cut : front ≡ rest ++ field w n

-- a size and a count were cut off: so many bytes stand behind the count
pub record CutsHead (w : Width) (count long : ℕ) (front rest : List ℕ) : Type 0 where
  pub fits : long + field_width w < room w
  pub counted : count < room w
  pub cut : front ≡ rest ++ (field w (long + field_width w) ++ field w count)

-- the first so many bytes of the text became what the function makes of them
pub record Puts (made : List ℕ → Option (List ℕ)) (long : ℕ) (old new : List ℕ) : Type 0 where
  pub there : (content behind : List ℕ) → old ≡ content ++ behind → length content ≡ long
      → (text : List ℕ) × (made content ≡ Some text) × (new ≡ text ++ behind)

-- the size and the count of so many bytes were put, in four bytes each
pub record PutsWide (count long : ℕ) (old new : List ℕ) : Type 0 where
  pub fits : long + 4 < 2 ^ 32
  pub put : new ≡ to_be_bytes w32 (long + 4) ++ (to_be_bytes w32 count ++ old)

-- the text of the scalar was put
pub record PutsScalar (inherited : Bool) (c : ℕ) (o : Option Scalar) (old new : List ℕ) : Type 0 where
  pub value : Scalar
  pub text : List ℕ
  pub means : o ≡ Some value
  pub written : scalar_of inherited c value ≡ Some text
  pub put : new ≡ text ++ old

-- the scalar that the content behind a constructor means
abbrev pub reading : Row → List ℕ → Option Scalar
reading (fixed n read) content = read content
reading (variable w read) content = read content
reading r content = None

-- what stands between the constructor and so many bytes of content
abbrev pub Sizes : Row → ℕ → List ℕ → Type 0
Sizes (fixed n read) long head = (long ≡ n) × (head ≡ [])
Sizes (variable w read) long head = (long < room w) × (head ≡ field w long)
Sizes empty_list long head = (long ≡ 0) × (head ≡ [])
Sizes r long head = ⊥

-- the content behind the constructor has a fixed width, which is this one
abbrev pub HasWidth : Row → ℕ → Type 0
HasWidth (fixed n read) long = long ≡ n
HasWidth empty_list long = long ≡ 0
HasWidth r long = ⊥

pub record CutsSize (row : Row) (long : ℕ) (front rest : List ℕ) : Type 0 where
  pub head : List ℕ
  pub cut : front ≡ rest ++ head
  pub sizes : Sizes row long head

-- the constructor was cut off, where it is the value's own
abbrev pub CutsConstructor : Bool → EncodingCodes → List ℕ → List ℕ → Type 0
CutsConstructor true code front rest = front ≡ rest
CutsConstructor false code front rest = front ≡ rest ++ byte_of code ∷ []

-- one value with a constructor of its own
abbrev pub IsOne : List Finished → Type 0
IsOne (f ∷ []) = f.inherited ≡ None
IsOne _ = ⊥

-- behind this constructor, unless it is inherited
abbrev pub led : Bool → ℕ → List ℕ → List ℕ
led true c text = text
led false c text = c ∷ text

abbrev pub sized_of : Bool → ℕ → ℕ → List ℕ → Option (List ℕ)
sized_of false narrow c content = sized_text narrow c content
sized_of true narrow c content = wide_sized c content >>= same_constructor c

-- content was put with its size
pub record PutsSized (inherited : Bool) (narrow c : ℕ) (content old new : List ℕ) : Type 0 where
  pub text : List ℕ
  pub written : sized_of inherited narrow c content ≡ Some text
  pub put : new ≡ text ++ old

pub record PutsWideSized (inherited : Bool) (c : ℕ) (content old new : List ℕ) : Type 0 where
  pub fits : length content < 2 ^ 32
  pub put : new ≡ led inherited c (to_be_bytes w32 (length content) ++ (content ++ old))

abbrev pub boolean_byte : Bool → Bool → ℕ
boolean_byte true true = 1
boolean_byte true false = 0
boolean_byte false true = 0x41
boolean_byte false false = 0x42
