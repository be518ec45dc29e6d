-- What a source of bytes says (nothing of AMQP): what comes next, and what a refusal tells of the bytes.
use Rattle.std.specs.Prelude.{◌≡◌, ℕ, ◌+◌, ◌-◌, ◌^◌, min, List, ◌∷◌, ◌++◌, Bool, true, false, Result, Ok, Err}
use Rattle.std_io.specs.declared.io.kind.ErrorKind.TheVariants.{UnexpectedEof}
use Rattle.serde_amqp_item.specs.Wire.{IsStrict}
use Rattle.serde_amqp_item.specs.declared.error.Error.{Error}
use Rattle.serde_amqp_item.specs.declared.error.Error.TheVariants.{Io, Memory}

-- the first of these bytes
pub record Begins (b : ℕ) (bytes : List ℕ) : Type 0 where
  pub others : List ℕ
  pub split : bytes ≡ b ∷ others

-- the bytes begin with this front
pub record Leads (front bytes : List ℕ) : Type 0 where
  pub others : List ℕ
  pub split : bytes ≡ front ++ others

-- where the reader itself is at fault nothing is said of the bytes
abbrev pub Otherwise : Bool → Type 0 → Type 0
Otherwise true P = Unit {0}
Otherwise false P = P

-- what a refusal says: want of memory and the faults of a reader say nothing
abbrev pub Refusal : (Error → Bool) → Error → Type 0 → Type 0
Refusal faulty Memory P = Unit {0}
Refusal faulty (Io kind) P = Otherwise (faulty (Io kind)) P
Refusal faulty e P = P

abbrev pub Unless : {X : Type 0} → (Error → Bool) → Result X Error → Type 0 → Type 0
Unless faulty (Ok x) P = Unit {0}
Unless faulty (Err e) P = Refusal faulty e P

-- what an error of a call is: want of memory, or what the end of the reader is called
abbrev pub Named : Error → Error → Type 0
Named ending Memory = Unit {0}
Named ending e = e ≡ ending

-- an end of the input and a fault of the reader are what the end of the reader is called
abbrev pub NamedIfIo : Error → Error → Type 0
NamedIfIo ending (Io kind) = Io kind ≡ ending
NamedIfIo ending e = Unit {0}

-- the bytes end
abbrev pub just_ends : Error
just_ends = Io UnexpectedEof

-- what the end of the reader is called behind a call: one that has failed just ends
abbrev pub ending_behind : {X : Type 0} → Result X Error → Error → Error
ending_behind (Ok x) ending = ending
ending_behind (Err e) ending = just_ends

-- a reader that has no faults of its own
abbrev pub faultless : Error → Bool
faultless e = false

-- a count of bytes with so many more: it stops at 2^64 - 1
abbrev pub with_more : ℕ → ℕ → ℕ
with_more count more = min (count + more) (2 ^ 64 - 1)

-- the count behind a call that takes so many bytes: a refused one counts nothing
abbrev pub counted : {X : Type 0} → Result X Error → ℕ → ℕ → ℕ
counted (Ok x) more count = with_more count more
counted (Err e) more count = count

-- a source of known bytes
pub record Source : Type 0 where
  -- the bytes that are left
  pub rest : List ℕ
  -- how many were taken
  pub consumed : ℕ

-- the bytes of one strict form (part 1, section 1.2)
pub record StrictBytes (bytes : List ℕ) : Type 0 where
  pub byte : ℕ
  pub behind : List ℕ
  pub whole : bytes ≡ byte ∷ behind
  pub strict : IsStrict byte behind

-- no strict form stands at the front
pub record NoStrict (bytes : List ℕ) : Type 0 where
  pub none : (c : ℕ) (a more : List ℕ) → bytes ≡ (c ∷ a) ++ more → IsStrict c a → ⊥
