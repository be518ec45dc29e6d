-- A value's item says which value it is.
use Rattle.std.proofs.Common.{◌≡◌, ℕ, ℤ, List}
use Rattle.serde_amqp_item.specs.Item.{scalar, decimal32, decimal64, decimal128, timestamp, uuid, binary, string}
use Rattle.serde_amqp_item.specs.Item.{symbol}

pub symbol_faithful : (x y : List ℕ) → scalar (symbol x) ≡ scalar (symbol y) → x ≡ y
symbol_faithful x y e = cc

pub string_faithful : (x y : List ℕ) → scalar (string x) ≡ scalar (string y) → x ≡ y
string_faithful x y e = cc

pub decimal32_faithful : (x y : List ℕ) → scalar (decimal32 x) ≡ scalar (decimal32 y) → x ≡ y
decimal32_faithful x y e = cc

pub decimal64_faithful : (x y : List ℕ) → scalar (decimal64 x) ≡ scalar (decimal64 y) → x ≡ y
decimal64_faithful x y e = cc

pub decimal128_faithful : (x y : List ℕ) → scalar (decimal128 x) ≡ scalar (decimal128 y) → x ≡ y
decimal128_faithful x y e = cc

pub timestamp_faithful : (x y : ℤ) → scalar (timestamp x) ≡ scalar (timestamp y) → x ≡ y
timestamp_faithful x y e = cc

pub uuid_faithful : (x y : List ℕ) → scalar (uuid x) ≡ scalar (uuid y) → x ≡ y
uuid_faithful x y e = cc

pub binary_faithful : (x y : List ℕ) → scalar (binary x) ≡ scalar (binary y) → x ≡ y
binary_faithful x y e = cc
