-- Bytes that are lent from a slice.
use Rattle.std.proofs.Common.{◌≡◌, ◌≢◌, ℕ, ◌+◌, ◌<◌, ◌≤◌, ◌^◌, List, ◌++◌, length, Option, Bool, true, false, arith, ap, sym, ◌∙◌, length-append}
use Rattle.serde_amqp_item.specs.declared.codes.EncodingCodes.{EncodingCodes}
use Rattle.serde_amqp_item.specs.declared.error.Error.{Error}
use Rattle.serde_amqp_item.specs.declared.error.Error.TheVariants.{InvalidFormatCode, InvalidUtf8Encoding, Memory}
use Rattle.serde_amqp_de.specs.Reads.{At, Moves, Head}
use Rattle.serde_amqp_de.specs.Lent.{NoWant}

pub lent : (old new : At) (front : List ℕ) → old.rest ≡ front ++ new.rest → new.pos ≡ old.pos + length front → Moves old new front
lent old new front e p = record { split = e; count = p }

pub want_later : (old mid : At) (front : List ℕ) (e : Error) → Moves old mid front → NoWant mid e → NoWant old e
want_later old mid front e m n = record { plain = λ fits. n.plain (omega (arith, fits, m.count, ap length m.split, length-append front mid.rest)) }

pub want_behind : (k : Option ℕ) (old mid : At) (code : EncodingCodes) (e : Error) → Head k old mid code → NoWant mid e → NoWant old e
want_behind k old mid code e h n = want_later old mid h.front e h.moves n

pub format_plain : (old : At) → NoWant old InvalidFormatCode
format_plain old = record { plain = λ fits. λ e. cc }

pub utf8_plain : (old : At) → NoWant old InvalidUtf8Encoding
utf8_plain old = record { plain = λ fits. λ e. cc }

abbrev pub is_memory : Error → Bool
is_memory Memory = true
is_memory _ = false

pub end_plain : (old : At) (e f : Error) → e ≡ f → is_memory f ≡ false → NoWant old e
end_plain old e f is not = record { plain = λ fits. λ w. let m = ap is_memory (sym is ∙ w) in absurd cc }

pub counted_plain : (old : At) (front rest : List ℕ) (count : ℕ) → old.rest ≡ front ++ rest → length front ≡ count → 2 ^ 64 ≤ old.pos + count → NoWant old Memory
counted_plain old front rest count e l over = record { plain = λ fits. absurd (omega (arith, fits, over, l, ap length e, length-append front rest)) }

pub ruleset lending = (lent, want_later, want_behind, format_plain, utf8_plain, end_plain, counted_plain)

-- nothing was read of a slice
pub fresh_plain : (old : At) (e : Error) → NoWant old e → old.pos ≡ 0 → length old.rest < 2 ^ 64 → e ≢ Memory
fresh_plain old e n z l = n.plain (omega (arith, z, l))

pub ruleset fresh = (fresh_plain)
