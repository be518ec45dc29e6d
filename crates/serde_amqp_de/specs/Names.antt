-- What an error names: what is wrong with the bytes that were refused (part 1, sections 1.2 and 1.6).
use Rattle.std.specs.Prelude.{◌≡◌, ◌≢◌, ◌⊎◌, ℕ, ◌*◌, ◌%◌, ◌<◌, List, [], ◌∷◌, ◌++◌, length, Bool, false, Option, Some}
use Rattle.std.specs.Prelude.{None, Result, Ok, Err}
use Rattle.std.specs.Str.{is_utf8}
use Rattle.serde_amqp_item.specs.declared.codes.EncodingCodes.{EncodingCodes}
use Rattle.serde_amqp_item.specs.declared.error.Error.{Error}
use Rattle.serde_amqp_item.specs.declared.error.Error.TheVariants.{InvalidFormatCode, InvalidValue, InvalidUtf8Encoding}
use Rattle.serde_amqp_item.specs.declared.error.Error.TheVariants.{InvalidLength}
use Rattle.serde_amqp_item.specs.Wire.{Leads, Width, one_byte, field, field_width, room, IsSized, IsElementCode, Row}
use Rattle.serde_amqp_item.specs.Wire.{fixed, variable, empty_list, list_of, map_of, array_of, row_at, code_of}
use Rattle.serde_amqp_item.specs.Kind.{Kind, kind_at, null_kind}
use Rattle.serde_amqp_read.specs.Reads.{Refusal}
use Rattle.serde_amqp_de.specs.Reads.{NoSized}

-- a constructor of this type leads the bytes, and this holds of what stands behind it
pub record Led (t : Kind) (k : Option ℕ) (bytes : List ℕ) (So : Row → List ℕ → Type 0) : Type 0 where
  pub byte : ℕ
  pub behind : List ℕ
  pub code : EncodingCodes
  pub leads : Leads k bytes byte behind
  pub means : code_of byte ≡ Some code
  pub of_type : kind_at code ≡ t
  pub so : So (row_at (Some code)) behind

-- a byte leads them that is no constructor of this type
pub record WrongConstructor (t : Kind) (k : Option ℕ) (bytes : List ℕ) : Type 0 where
  pub byte : ℕ
  pub behind : List ℕ
  pub leads : Leads k bytes byte behind
  pub other : (code : EncodingCodes) → code_of byte ≡ Some code → kind_at code ≢ t

-- a size and a count stand at the front, of which this holds, and of what stands behind them
pub record Counted (w : Width) (bytes : List ℕ) (So : ℕ → ℕ → List ℕ → Type 0) : Type 0 where
  pub total : ℕ
  pub count : ℕ
  pub behind : List ℕ
  pub split : bytes ≡ (field w total ++ field w count) ++ behind
  pub fits : total < room w
  pub counts : count < room w
  pub so : So total count behind

-- so many bytes, which are no UTF-8
pub record NotUtf8 (w : Width) (bytes : List ℕ) : Type 0 where
  pub content : List ℕ
  pub front : List ℕ
  pub behind : List ℕ
  pub sized : IsSized w content front
  pub split : bytes ≡ front ++ behind
  pub not : is_utf8 content ≡ false

-- so many bytes, which mean nothing
pub record Meaningless {X : Type 0} (n : ℕ) (read : List ℕ → Option X) (bytes : List ℕ) : Type 0 where
  pub content : List ℕ
  pub behind : List ℕ
  pub split : bytes ≡ content ++ behind
  pub long : length content ≡ n
  pub not : read content ≡ None

-- the bytes end before the value does, and of what holds others before its first item
abbrev pub TooFew : Row → List ℕ → Type 0
TooFew (fixed n read) bytes = length bytes < n
TooFew (variable w read) bytes = NoSized w bytes
TooFew (list_of w) bytes = length bytes < 2 * field_width w
TooFew (map_of w) bytes = length bytes < 2 * field_width w
TooFew (array_of w) bytes =
    (length bytes < 2 * field_width w) ⊎ Counted w bytes (λ total count behind. (field_width w < total) × (behind ≡ []))
TooFew r bytes = ⊥

-- a value that the type doesn't have
abbrev pub NoValue : Row → List ℕ → Type 0
NoValue (fixed n read) bytes = Meaningless n read bytes
NoValue r bytes = ⊥

abbrev pub NoUtf8 : Row → List ℕ → Type 0
NoUtf8 (variable w read) bytes = NotUtf8 w bytes
NoUtf8 r bytes = ⊥

-- a size that is too small for its count and an array's constructor, too many items, or a key without a value
abbrev pub WrongLength : Row → List ℕ → Type 0
WrongLength (list_of w) bytes = Counted w bytes (λ total count behind. (total < field_width w) ⊎ (65536 < count))
WrongLength (map_of w) bytes =
    Counted w bytes (λ total count behind. (total < field_width w) ⊎ ((65536 < count) ⊎ (count % 2 ≢ 0)))
WrongLength (array_of w) bytes =
    Counted w bytes (λ total count behind.
    (total < field_width w) ⊎ ((65536 < count) ⊎ ((total ≡ field_width w) × ((w ≢ one_byte) ⊎ (count ≢ 0)))))
WrongLength r bytes = ⊥

-- an array whose elements can't have this constructor
abbrev pub WrongElement : Row → List ℕ → Type 0
WrongElement (array_of w) bytes =
    Counted w bytes (λ total count behind. (c : ℕ) × (more : List ℕ) × (behind ≡ c ∷ more)
    × (IsElementCode count c → ⊥))
WrongElement r bytes = ⊥

abbrev pub Ends : Kind → Option ℕ → List ℕ → Type 0
Ends t k bytes = ((k ≡ None) × (bytes ≡ [])) ⊎ Led t k bytes TooFew

-- what is wrong with the bytes, by the error's name
abbrev pub Cause : Error → Kind → Option ℕ → List ℕ → Type 0
Cause InvalidFormatCode t k bytes = WrongConstructor t k bytes ⊎ Led t k bytes WrongElement
Cause InvalidValue t k bytes = Led t k bytes NoValue
Cause InvalidUtf8Encoding t k bytes = Led t k bytes NoUtf8
Cause InvalidLength t k bytes = Led t k bytes WrongLength
Cause e t k bytes = ⊥

-- a value of this type was wanted: the bytes end before it does, or the error names what is wrong with them
abbrev pub Names : Kind → Option ℕ → List ℕ → Error → Type 0
Names t k bytes e = Ends t k bytes ⊎ Cause e t k bytes

-- a list or a map of so many items, by its head; a map's are its keys and values
abbrev pub Says : ℕ → Row → List ℕ → Type 0
Says n empty_list bytes = n ≡ 0
Says n (list_of w) bytes = Counted w bytes (λ total count behind. count ≡ n)
Says n (map_of w) bytes = Counted w bytes (λ total count behind. count ≡ n)
Says n r bytes = ⊥

-- the head of a list or a map leads the bytes, and says another number of items
abbrev pub SaysOther : ℕ → Kind → Option ℕ → List ℕ → Type 0
SaysOther n t k bytes = (m : ℕ) × (m ≢ n) × Led t k bytes (Says m)

-- likewise of a list or a map of so many items, any other number of which is told as this error
abbrev pub NamesCount : Error → ℕ → Kind → Option ℕ → List ℕ → Error → Type 0
NamesCount other n t k bytes e = Names t k bytes e ⊎ ((e ≡ other) × SaysOther n t k bytes)

-- a known constructor leads the bytes that isn't that of null
abbrev pub LedByOther : Option ℕ → List ℕ → Type 0
LedByOther k bytes =
    (byte : ℕ) × (behind : List ℕ) × (code : EncodingCodes) × Leads k bytes byte behind × (code_of byte ≡ Some code)
    × (kind_at code ≢ null_kind)

-- likewise of null or a value of a type that says itself what its errors name
abbrev pub NamesOption : Option ℕ → List ℕ → Error → Type 0
NamesOption k bytes e = Names null_kind k bytes e ⊎ LedByOther k bytes

-- a known constructor leads the bytes
abbrev pub LedByAny : Option ℕ → List ℕ → Type 0
LedByAny k bytes =
    (byte : ℕ) × (behind : List ℕ) × (code : EncodingCodes) × Leads k bytes byte behind × (code_of byte ≡ Some code)

-- likewise of a value of any type, which has a constructor of its own; nothing is said of what stands behind that
abbrev pub NamesKept : Option ℕ → List ℕ → Error → Type 0
NamesKept (Some c) bytes e = e ≡ InvalidFormatCode
NamesKept None bytes e = Names null_kind None bytes e ⊎ LedByAny None bytes

-- likewise of a text behind its constructor
abbrev pub TextCause : Error → Width → List ℕ → Type 0
TextCause InvalidUtf8Encoding w bytes = NotUtf8 w bytes
TextCause e w bytes = ⊥

abbrev pub NamesText : Width → List ℕ → Error → Type 0
NamesText w bytes e = NoSized w bytes ⊎ TextCause e w bytes

-- likewise of the constructor of so many elements
abbrev pub ElementCause : Error → ℕ → List ℕ → Type 0
ElementCause InvalidFormatCode n bytes = (c : ℕ) × (more : List ℕ) × (bytes ≡ c ∷ more) × (IsElementCode n c → ⊥)
ElementCause e n bytes = ⊥

abbrev pub NamesElement : ℕ → List ℕ → Error → Type 0
NamesElement n bytes e = (bytes ≡ []) ⊎ ElementCause e n bytes

-- what an error says of itself: want of memory and the faults of a reader say nothing
abbrev pub Named : {X : Type 0} → (Error → Bool) → Result X Error → (Error → Type 0) → Type 0
Named faulty (Ok x) P = Unit {0}
Named faulty (Err e) P = Refusal faulty e (P e)
