-- The constructors and their bytes.
use Rattle.std.proofs.Common.{◌≡◌, ℕ, Option, Some, sym, refl, ap, ◌∙◌, arith}
use Rattle.std.proofs.lemmas.Grind.{common_steps}
use Rattle.serde_amqp_item.specs.declared.codes.EncodingCodes.{EncodingCodes}
use Rattle.serde_amqp_item.specs.declared.codes.EncodingCodes.TheVariants.{DescribedType}
use Rattle.serde_amqp_item.specs.Wire.{code_of, byte_of, row_at, row_of}

pub code_of_byte : (code : EncodingCodes) → code_of (byte_of code) ≡ Some code
unfolding code_of
code_of_byte DescribedType = refl
code_of_byte code = refl

pub byte_of_code : (code : EncodingCodes) (c : ℕ) → code_of c ≡ Some code → c ≡ byte_of code
unfolding code_of
byte_of_code code c e = grind (arith, common_steps)

-- the constructor at a byte of the table
pub code_at : (code : EncodingCodes) (c : ℕ) → c ≡ byte_of code → Some code ≡ code_of c
code_at code c e = sym (ap code_of e ∙ code_of_byte code)

pub row_of_code : (c : ℕ) (code : Option EncodingCodes) → code_of c ≡ code → row_of c ≡ row_at code
unfolding row_of
row_of_code c code e = ap row_at e

-- the row at a byte of the table
pub row_of_byte : (code : EncodingCodes) → row_of (byte_of code) ≡ row_at (Some code)
row_of_byte code = row_of_code (byte_of code) (Some code) (code_of_byte code)
