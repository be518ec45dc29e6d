-- How long texts are, and whether a payload has room behind them.
use Rattle.std.specs.Prelude.{◌≡◌, ◌≤◌, ◌<◌, ◌+◌, ◌^◌, ℕ, List, [], ◌∷◌, ◌++◌, length, true, Option, Some}
use Rattle.std.specs.Int.{w16, to_be_bytes}
use Rattle.serde_amqp_item.specs.Canon.{canon}
use Rattle.amqp_session_performatives.specs.Transfer.{transfer_item}
use Rattle.amqp_session_performatives.specs.declared.transfer.Transfer.{Transfer}
use Rattle.amqp_session_frames.specs.Parts.{room, saying}
use Rattle.amqp_session_frames.specs.declared.error.Error.{Error}
use Rattle.amqp_session_frames.specs.declared.error.Error.TheVariants.{DecodeError, NotImplemented, TooLarge, Memory}

-- what a transfer is written as
unfoldable pub transfer_text : Transfer → Option (List ℕ)
transfer_text t = canon (transfer_item t)

-- there is a text
pub record HasText (text : Option (List ℕ)) : Type 0 where
  pub bytes : List ℕ
  pub is : text ≡ Some bytes

-- there is a text, of so many bytes
pub record HasSize (text : Option (List ℕ)) (size : ℕ) : Type 0 where
  pub bytes : List ℕ
  pub is : text ≡ Some bytes
  pub long : size ≡ length bytes

-- there is none, or none of less than 2^64 bytes
pub record NotSized (text : Option (List ℕ)) : Type 0 where
  pub none : (bytes : List ℕ) → text ≡ Some bytes → 2 ^ 64 ≤ length bytes

-- the text is written behind what was there
pub record Appends (text : Option (List ℕ)) (old new : List ℕ) : Type 0 where
  pub bytes : List ℕ
  pub is : text ≡ Some bytes
  pub behind : new ≡ old ++ bytes

-- one piece: the header, the text, and the payload
pub record IsOnePiece (text : Option (List ℕ)) (header payload : List ℕ) (pieces : List (List ℕ)) : Type 0 where
  pub head : List ℕ
  pub appends : Appends text header head
  pub one : pieces ≡ (head ++ payload) ∷ []

-- one piece on the channel, which has room
pub record IsWhole (limit channel : ℕ) (text : Option (List ℕ)) (payload : List ℕ) (pieces : List (List ℕ)) : Type
    0 where
  pub piece : IsOnePiece text (2 ∷ 0 ∷ to_be_bytes w16 channel) payload pieces
  pub short : 4 + length piece.appends.bytes + length payload ≤ room limit

-- the text fits, behind a header and with so many bytes of payload behind it
pub record Fits (limit : ℕ) (text : Option (List ℕ)) (payload : ℕ) : Type 0 where
  pub bytes : List ℕ
  pub is : text ≡ Some bytes
  pub within : 4 + length bytes + payload ≤ room limit

-- the text fits, and so many bytes of payload, one at least, fill the room behind it
pub record Fills (limit : ℕ) (text : Option (List ℕ)) (payload : ℕ) : Type 0 where
  pub bytes : List ℕ
  pub is : text ≡ Some bytes
  pub full : 4 + length bytes + payload ≡ room limit
  pub some : 0 < payload

-- with so many bytes of payload behind it no text fits
pub record Overflows (limit : ℕ) (text : Option (List ℕ)) (payload : ℕ) : Type 0 where
  pub over : (bytes : List ℕ) → text ≡ Some bytes → room limit < 4 + length bytes + payload

-- why they are not one piece
abbrev pub NotWhole : ℕ → Option (List ℕ) → List ℕ → Error → Type 0
NotWhole limit text payload TooLarge = Overflows limit text (length payload)
NotWhole limit text payload Memory = Unit {0}
NotWhole limit text payload DecodeError = ⊥
NotWhole limit text payload NotImplemented = ⊥

-- why a transfer that doesn't fit can't go in parts
abbrev pub PartsRefused : ℕ → Transfer → Error → Type 0
PartsRefused limit t TooLarge = Overflows limit (transfer_text (saying t true)) 1
PartsRefused limit t Memory = Unit {0}
PartsRefused limit t DecodeError = ⊥
PartsRefused limit t NotImplemented = ⊥
