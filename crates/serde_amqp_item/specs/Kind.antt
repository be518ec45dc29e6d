-- The types of items (part 1, section 1.6), and the type that a constructor is of.
use Rattle.serde_amqp_item.specs.Item.{null, boolean, ubyte, ushort, uint, ulong, byte, short, int, long, float, double}
use Rattle.serde_amqp_item.specs.Item.{decimal32, decimal64, decimal128, char, timestamp, uuid, binary, string, symbol}
use Rattle.serde_amqp_item.specs.Item.{Item, scalar, raw, list, map, array, described}
use Rattle.serde_amqp_item.specs.declared.codes.EncodingCodes.{EncodingCodes}
use Rattle.serde_amqp_item.specs.declared.codes.EncodingCodes.TheVariants.{DescribedType, Null, BooleanTrue}
use Rattle.serde_amqp_item.specs.declared.codes.EncodingCodes.TheVariants.{BooleanFalse, Boolean, UByte, UShort, UInt}
use Rattle.serde_amqp_item.specs.declared.codes.EncodingCodes.TheVariants.{SmallUInt, UInt0, ULong, SmallULong, ULong0}
use Rattle.serde_amqp_item.specs.declared.codes.EncodingCodes.TheVariants.{Byte, Short, Int, SmallInt, Long, SmallLong}
use Rattle.serde_amqp_item.specs.declared.codes.EncodingCodes.TheVariants.{Float, Double, Decimal32, Decimal64}
use Rattle.serde_amqp_item.specs.declared.codes.EncodingCodes.TheVariants.{Decimal128, Char, Timestamp, Uuid, Vbin8}
use Rattle.serde_amqp_item.specs.declared.codes.EncodingCodes.TheVariants.{Vbin32, Str8, Str32, Sym8, Sym32, List0}
use Rattle.serde_amqp_item.specs.declared.codes.EncodingCodes.TheVariants.{List8, List32, Map8, Map32, Array8, Array32}

pub data Kind : Type 0 where
  null_kind : Kind
  boolean_kind : Kind
  ubyte_kind : Kind
  ushort_kind : Kind
  uint_kind : Kind
  ulong_kind : Kind
  byte_kind : Kind
  short_kind : Kind
  int_kind : Kind
  long_kind : Kind
  float_kind : Kind
  double_kind : Kind
  decimal32_kind : Kind
  decimal64_kind : Kind
  decimal128_kind : Kind
  char_kind : Kind
  timestamp_kind : Kind
  uuid_kind : Kind
  binary_kind : Kind
  string_kind : Kind
  symbol_kind : Kind
  list_kind : Kind
  map_kind : Kind
  array_kind : Kind
  described_kind : Kind
  raw_kind : Kind

abbrev pub kind_of : Item → Kind
kind_of (scalar null) = null_kind
kind_of (scalar (boolean x)) = boolean_kind
kind_of (scalar (ubyte x)) = ubyte_kind
kind_of (scalar (ushort x)) = ushort_kind
kind_of (scalar (uint x)) = uint_kind
kind_of (scalar (ulong x)) = ulong_kind
kind_of (scalar (byte x)) = byte_kind
kind_of (scalar (short x)) = short_kind
kind_of (scalar (int x)) = int_kind
kind_of (scalar (long x)) = long_kind
kind_of (scalar (float x)) = float_kind
kind_of (scalar (double x)) = double_kind
kind_of (scalar (decimal32 x)) = decimal32_kind
kind_of (scalar (decimal64 x)) = decimal64_kind
kind_of (scalar (decimal128 x)) = decimal128_kind
kind_of (scalar (char x)) = char_kind
kind_of (scalar (timestamp x)) = timestamp_kind
kind_of (scalar (uuid x)) = uuid_kind
kind_of (scalar (binary x)) = binary_kind
kind_of (scalar (string x)) = string_kind
kind_of (scalar (symbol x)) = symbol_kind
kind_of (raw x) = raw_kind
kind_of (list x) = list_kind
kind_of (map x) = map_kind
kind_of (array x) = array_kind
kind_of (described d v) = described_kind

-- the type that a constructor is of
abbrev pub kind_at : EncodingCodes → Kind
kind_at DescribedType = described_kind
kind_at Null = null_kind
kind_at BooleanTrue = boolean_kind
kind_at BooleanFalse = boolean_kind
kind_at Boolean = boolean_kind
kind_at UByte = ubyte_kind
kind_at UShort = ushort_kind
kind_at UInt = uint_kind
kind_at SmallUInt = uint_kind
kind_at UInt0 = uint_kind
kind_at ULong = ulong_kind
kind_at SmallULong = ulong_kind
kind_at ULong0 = ulong_kind
kind_at Byte = byte_kind
kind_at Short = short_kind
kind_at Int = int_kind
kind_at SmallInt = int_kind
kind_at Long = long_kind
kind_at SmallLong = long_kind
kind_at Float = float_kind
kind_at Double = double_kind
kind_at Decimal32 = decimal32_kind
kind_at Decimal64 = decimal64_kind
kind_at Decimal128 = decimal128_kind
kind_at Char = char_kind
kind_at Timestamp = timestamp_kind
kind_at Uuid = uuid_kind
kind_at Vbin8 = binary_kind
kind_at Vbin32 = binary_kind
kind_at Str8 = string_kind
kind_at Str32 = string_kind
kind_at Sym8 = symbol_kind
kind_at Sym32 = symbol_kind
kind_at List0 = list_kind
kind_at List8 = list_kind
kind_at List32 = list_kind
kind_at Map8 = map_kind
kind_at Map32 = map_kind
kind_at Array8 = array_kind
kind_at Array32 = array_kind
