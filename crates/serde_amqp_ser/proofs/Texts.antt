-- Texts of characters.
use Rattle.std.proofs.Common.{◌≡◌, ℕ, List, Some, None, Bool, cond, ap}
use Rattle.std.specs.Str.{IsUtf8}
use Rattle.std.proofs.lemmas.Str.{is_utf8-from_IsUtf8}
use Rattle.serde_amqp_item.specs.Item.{scalar, string, symbol}
use Rattle.serde_amqp_item.specs.Canon.{◌>>=◌, Place, alone, first, next, placed, settled, sized_text, wide_sized}
use Rattle.serde_amqp_ser.specs.Puts.{sized_placed}

pub string_placed : (p : Place) (text : List ℕ) → IsUtf8 text → placed p (scalar (string text)) ≡ sized_placed p 0xa1 0xb1 text
string_placed alone text u = ap (λ (b : Bool). cond b (sized_text 0xa1 0xb1 text) None >>= λ a. Some (alone, a)) (is_utf8-from_IsUtf8 text u)
string_placed first text u = ap (λ (b : Bool). cond b (wide_sized 0xb1 text) None >>= settled first) (is_utf8-from_IsUtf8 text u)
string_placed (next c) text u = ap (λ (b : Bool). cond b (wide_sized 0xb1 text) None >>= settled (next c)) (is_utf8-from_IsUtf8 text u)

pub symbol_placed : (p : Place) (text : List ℕ) → IsUtf8 text → placed p (scalar (symbol text)) ≡ sized_placed p 0xa3 0xb3 text
symbol_placed alone text u = ap (λ (b : Bool). cond b (sized_text 0xa3 0xb3 text) None >>= λ a. Some (alone, a)) (is_utf8-from_IsUtf8 text u)
symbol_placed first text u = ap (λ (b : Bool). cond b (wide_sized 0xb3 text) None >>= settled first) (is_utf8-from_IsUtf8 text u)
symbol_placed (next c) text u = ap (λ (b : Bool). cond b (wide_sized 0xb3 text) None >>= settled (next c)) (is_utf8-from_IsUtf8 text u)
