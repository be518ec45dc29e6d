-- What a reader has read: forms of items, one behind the other (part 1, sections 1.2 and 1.6).
use Rattle.std.specs.Prelude.{◌≡◌, ◌≢◌, ℕ, ◌+◌, ◌<◌, List, [], ◌∷◌, ◌++◌, length, true, false, Option, Some, None}
use Rattle.std.specs.Str.{is_utf8}
use Rattle.serde_amqp_item.specs.declared.codes.EncodingCodes.{EncodingCodes}
use Rattle.serde_amqp_item.specs.Item.{Item, Items, item_count}
use Rattle.serde_amqp_item.specs.Wire.{Wire, Leads, Width, field, room, IsSized, IsElementCode, code_of, Forms}
use Rattle.serde_amqp_item.specs.Wire.{IsCapped, IsStrict}
use Rattle.serde_amqp_item.specs.Kind.{kind_of, raw_kind}

-- a reader, the constructor that an element of an array inherits, and how many bytes were read
pub record Reading (R : Type 0) : Type 0 where
  pub reader : R
  pub element : Option ℕ
  pub pos : ℕ

-- the bytes that are left, and how many were read
pub record At : Type 0 where
  pub rest : List ℕ
  pub pos : ℕ

-- these bytes were read
pub record Moves (old new : At) (front : List ℕ) : Type 0 where
  pub split : old.rest ≡ front ++ new.rest
  pub count : new.pos ≡ old.pos + length front

-- a constructor was read, or is inherited
pub record Head (k : Option ℕ) (old new : At) (code : EncodingCodes) : Type 0 where
  pub byte : ℕ
  pub front : List ℕ
  pub means : code_of byte ≡ Some code
  pub leads : Leads k front byte []
  pub moves : Moves old new front

-- a constructor comes next, or is inherited
pub record Foresees (k : Option ℕ) (old : At) (code : EncodingCodes) : Type 0 where
  pub mid : At
  pub head : Head k old mid code

-- no constructor leads these bytes
pub record NoHead (k : Option ℕ) (bytes : List ℕ) : Type 0 where
  pub none : (c : ℕ) (rest : List ℕ) → Leads k bytes c rest → code_of c ≡ None

-- a size was read, and so many bytes
pub record ReadSized (w : Width) (old new : At) (content : List ℕ) : Type 0 where
  pub front : List ℕ
  pub sized : IsSized w content front
  pub moves : Moves old new front

-- there is no size with so many bytes behind it
pub record NoSized (w : Width) (bytes : List ℕ) : Type 0 where
  pub none : (content front more : List ℕ) → IsSized w content front → bytes ≡ front ++ more → ⊥

-- likewise, and the bytes are UTF-8
pub record ReadText (w : Width) (old new : At) (content : List ℕ) : Type 0 where
  pub sized : ReadSized w old new content
  pub utf8 : is_utf8 content ≡ true

-- there is no size with so many bytes of UTF-8 behind it
pub record NoText (w : Width) (bytes : List ℕ) : Type 0 where
  pub none : (content front more : List ℕ) → IsSized w content front → bytes ≡ front ++ more → is_utf8 content ≡ false

-- a wire form of the item was read
pub record Reads (k : Option ℕ) (old new : At) (x : Item) : Type 0 where
  pub front : List ℕ
  pub wire : Wire x k front
  pub moves : Moves old new front

-- no front is a wire form of an item that is taken
pub record Refuses (take : Item → Option Item) (k : Option ℕ) (old : At) : Type 0 where
  pub none : (x : Item) (front more : List ℕ) → Wire x k front → old.rest ≡ front ++ more → take x ≡ None

-- a wire form of an item that is taken was read, and y is the value's item
pub record Took (take : Item → Option Item) (k : Option ℕ) (old new : At) (y : Item) : Type 0 where
  pub item : Item
  pub reads : Reads k old new item
  pub taken : take item ≡ Some y

abbrev pub at_of : {R : Type 0} → (R → List ℕ) → Reading R → At
at_of rest d = record { rest = rest d.reader; pos = d.pos }

-- a size and a count were read
pub record ReadCount (w : Width) (old new : At) (total count : ℕ) : Type 0 where
  pub moves : Moves old new (field w total ++ field w count)
  pub fits : total < room w
  pub counts : count < room w

-- no constructor of so many elements comes next
pub record NoElementCode (count : ℕ) (bytes : List ℕ) : Type 0 where
  pub none : (c : ℕ) (others : List ℕ) → bytes ≡ c ∷ others → IsElementCode count c → ⊥

-- the item holds so many items, in so many bytes
abbrev pub Holds : (Items → Item) → Option ℕ → Item → ℕ → ℕ → List ℕ → List ℕ → Type 0
Holds wrap j x count size rest more =
    (xs : Items) × (content : List ℕ) × (x ≡ wrap xs) × (item_count xs ≡ count) × (length content ≡ size)
    × Forms IsCapped IsStrict xs j content × (rest ≡ content ++ more)

-- the head of a list or an array was read; its items follow, led by j
pub record Opens (wrap : Items → Item) (j k : Option ℕ) (old mid : At) (count size : ℕ) : Type 0 where
  pub there : (xs : Items) (content : List ℕ) (new : At) → Forms IsCapped IsStrict xs j content → item_count xs ≡ count
      → length content ≡ size → Moves mid new content → Reads k old new (wrap xs)
  pub back : (x : Item) (front more : List ℕ) → Wire x k front → old.rest ≡ front ++ more → kind_of x ≢ raw_kind
      → Holds wrap j x count size mid.rest more

-- items were read one behind the other, and are taken as these
pub record TookAll (taking : Items → Option (List Item)) (count : ℕ) (j : Option ℕ) (old new : At)
    (ys : List Item) : Type 0 where
  pub items : Items
  pub front : List ℕ
  pub forms : Forms IsCapped IsStrict items j front
  pub moves : Moves old new front
  pub count_is : item_count items ≡ count
  pub taken : taking items ≡ Some ys

-- no front is so many items that are taken
pub record RefusesAll (taking : Items → Option (List Item)) (count : ℕ) (j : Option ℕ) (old : At) : Type 0 where
  pub none : (xs : Items) (front more : List ℕ) → Forms IsCapped IsStrict xs j front → old.rest ≡ front ++ more
      → item_count xs ≡ count → taking xs ≡ None

-- one item was read, and is taken as this
pub record TookOne (take : Item → Option Item) (k : Option ℕ) (old new : At) (ys : List Item) : Type 0 where
  pub value : Item
  pub took : Took take k old new value
  pub one : ys ≡ value ∷ []

-- items were read one behind the other, are taken as these, and have so many bytes
pub record TookSized (taking : Items → Option (List Item)) (count size : ℕ) (j : Option ℕ) (old new : At)
    (ys : List Item) : Type 0 where
  pub all : TookAll taking count j old new ys
  pub size_is : length all.front ≡ size

-- no front is so many items that are taken, in so many bytes
pub record RefusesSized (taking : Items → Option (List Item)) (count size : ℕ) (j : Option ℕ) (old : At) : Type 0 where
  pub none : (xs : Items) (front more : List ℕ) → Forms IsCapped IsStrict xs j front → old.rest ≡ front ++ more
      → item_count xs ≡ count → length front ≡ size → taking xs ≡ None

-- a reader that has failed has nothing left
abbrev pub HasFailed : {R : Type 0} → (R → List ℕ) → Reading R → Type 0
HasFailed rest d = (rest d.reader ≡ []) × (d.element ≡ None)
