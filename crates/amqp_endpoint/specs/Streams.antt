-- What streams of bytes come to: one that is read to its end, and one that is written to.
use Rattle.std.specs.Prelude.{◌≡◌, ℕ, List, ◌++◌, Option}
use Rattle.std.specs.Io.KnownBytes.{Appends, Consumes, IsAtEnd}

-- read to its end it gave all bytes that it had left, where these are known
pub record ReadsAll (left : Option (List ℕ)) (text : List ℕ) (left_new : Option (List ℕ)) : Type 0 where
  pub given : Consumes left left_new text
  pub at_end : IsAtEnd left_new

-- some of the bytes that it had left are gone
pub record ReadsSome (left left_new : Option (List ℕ)) : Type 0 where
  pub front : List ℕ
  pub gone : Consumes left left_new front

-- it took the first of these bytes, and not the others
pub record TakesFront (held : Option (List ℕ)) (bytes : List ℕ) (held_new : Option (List ℕ)) (others : List ℕ)
    : Type 0 where
  pub front : List ℕ
  pub taken : Appends held held_new front
  pub in_order : bytes ≡ front ++ others

-- it took the first of them, maybe all
pub record TakesSome (held : Option (List ℕ)) (bytes : List ℕ) (held_new : Option (List ℕ)) : Type 0 where
  pub others : List ℕ
  pub takes : TakesFront held bytes held_new others
