-- Streams as pieces, each with its size in front: part 2, 2.3.1.
use Rattle.std.specs.Prelude.{◌≡◌, ℕ, ◌+◌, ◌<◌, ◌≤◌, ◌⊎◌, List, [], ◌∷◌, ◌++◌, length, map, take, Option, Some, All}
use Rattle.std.specs.Int.{w32, to_be_bytes, from_be_bytes}
use Rattle.serde_amqp_item.specs.Canon.{◌>>=◌}

-- the number that the first four bytes say
abbrev pub said_size : List ℕ → ℕ
said_size bytes = from_be_bytes w32 (take 4 bytes)

-- as long as its first four bytes say, and these four at least
pub record IsSized (piece : List ℕ) : Type 0 where
  pub least : 4 ≤ length piece
  pub size : said_size piece ≡ length piece

-- long enough for a frame header too
pub record IsPiece (piece : List ℕ) : Type 0 where
  pub least : 8 ≤ length piece
  pub size : said_size piece ≡ length piece

-- less than a size field, or less than it says
abbrev pub IsPartial : List ℕ → Type 0
IsPartial rest = (length rest < 4) ⊎ (length rest < said_size rest)

-- pieces with this meaning one behind the other, and then a rest
abbrev pub ReadsAs : {F : Type 0} → (List ℕ → F → Type 0) → List ℕ → List F → List ℕ → Type 0
ReadsAs P bytes [] rest = bytes ≡ rest
ReadsAs P bytes (f ∷ fs) rest =
    (front : List ℕ) × (more : List ℕ) × (bytes ≡ front ++ more) × P front f × ReadsAs P more fs rest

-- what each is written as, one behind the other
abbrev pub written : {F : Type 0} → (F → Option (List ℕ)) → List F → Option (List ℕ)
written text [] = Some []
written text (f ∷ fs) = text f >>= λ a. written text fs >>= λ b. Some (a ++ b)

abbrev pub joined : List (List ℕ) → List ℕ
joined [] = []
joined (p ∷ ps) = p ++ joined ps

-- a stream: the protocol header (part 2, 2.2), pieces, and a rest that does not begin with a piece
pub record Cut (bytes header : List ℕ) (pieces : List (List ℕ)) (rest : List ℕ) : Type 0 where
  pub whole : bytes ≡ header ++ (joined pieces ++ rest)
  pub eight : length header ≡ 8
  pub each : All IsPiece pieces
  pub none_more : (piece more : List ℕ) → rest ≡ piece ++ more → IsPiece piece → ⊥

-- Pieces with this head stand behind the others, with so many bytes of a payload each. The rest of the payload is left.
pub record Cuts (head : List ℕ) (size : ℕ) (old new : List (List ℕ)) (before after : List ℕ) : Type 0 where
  pub chunks : List (List ℕ)
  pub pieces : new ≡ old ++ map (λ c. head ++ c) chunks
  pub full : All (λ c. length c ≡ size) chunks
  pub payload : before ≡ joined chunks ++ after
  pub some : 0 < length before → 0 < length after

-- a piece with its size in front
abbrev pub with_size : List ℕ → List ℕ
with_size piece = to_be_bytes w32 (4 + length piece) ++ piece
