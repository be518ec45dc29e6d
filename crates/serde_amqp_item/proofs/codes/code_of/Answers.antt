-- Each byte of the table, and that no other byte is a constructor.
use Rattle.std.proofs.Common.{arith}
use Rattle.std.proofs.lemmas.Grind.{common_steps}
use Rattle.serde_amqp_item.specs.declared.codes.EncodingCodes.TheVariants.{DescribedType, Null, BooleanTrue, BooleanFalse, Boolean, UByte, UShort, UInt, SmallUInt, UInt0, ULong, SmallULong, ULong0, Byte, Short, Int, SmallInt, Long, SmallLong, Float, Double, Decimal32, Decimal64, Decimal128, Char, Timestamp, Uuid, Vbin8, Vbin32, Str8, Str32, Sym8, Sym32, List0, List8, List32, Map8, Map32, Array8, Array32}
use Rattle.serde_amqp_item.specs.Wire.{code_of}
use Rattle.serde_amqp_item.proofs.Constructors.{code_at}
use Rattle.serde_amqp_item.proofs.codes.code_of.Goals as goal

pub returns-in-0 : goal.returns-in-0
returns-in-0 c = code_at DescribedType _ c.in-0.is

pub returns-in-64 : goal.returns-in-64
returns-in-64 c = code_at Null _ c.in-64.is

pub returns-in-65 : goal.returns-in-65
returns-in-65 c = code_at BooleanTrue _ c.in-65.is

pub returns-in-66 : goal.returns-in-66
returns-in-66 c = code_at BooleanFalse _ c.in-66.is

pub returns-in-86 : goal.returns-in-86
returns-in-86 c = code_at Boolean _ c.in-86.is

pub returns-in-80 : goal.returns-in-80
returns-in-80 c = code_at UByte _ c.in-80.is

pub returns-in-96 : goal.returns-in-96
returns-in-96 c = code_at UShort _ c.in-96.is

pub returns-in-112 : goal.returns-in-112
returns-in-112 c = code_at UInt _ c.in-112.is

pub returns-in-82 : goal.returns-in-82
returns-in-82 c = code_at SmallUInt _ c.in-82.is

pub returns-in-67 : goal.returns-in-67
returns-in-67 c = code_at UInt0 _ c.in-67.is

pub returns-in-128 : goal.returns-in-128
returns-in-128 c = code_at ULong _ c.in-128.is

pub returns-in-83 : goal.returns-in-83
returns-in-83 c = code_at SmallULong _ c.in-83.is

pub returns-in-68 : goal.returns-in-68
returns-in-68 c = code_at ULong0 _ c.in-68.is

pub returns-in-81 : goal.returns-in-81
returns-in-81 c = code_at Byte _ c.in-81.is

pub returns-in-97 : goal.returns-in-97
returns-in-97 c = code_at Short _ c.in-97.is

pub returns-in-113 : goal.returns-in-113
returns-in-113 c = code_at Int _ c.in-113.is

pub returns-in-84 : goal.returns-in-84
returns-in-84 c = code_at SmallInt _ c.in-84.is

pub returns-in-129 : goal.returns-in-129
returns-in-129 c = code_at Long _ c.in-129.is

pub returns-in-85 : goal.returns-in-85
returns-in-85 c = code_at SmallLong _ c.in-85.is

pub returns-in-114 : goal.returns-in-114
returns-in-114 c = code_at Float _ c.in-114.is

pub returns-in-130 : goal.returns-in-130
returns-in-130 c = code_at Double _ c.in-130.is

pub returns-in-116 : goal.returns-in-116
returns-in-116 c = code_at Decimal32 _ c.in-116.is

pub returns-in-132 : goal.returns-in-132
returns-in-132 c = code_at Decimal64 _ c.in-132.is

pub returns-in-148 : goal.returns-in-148
returns-in-148 c = code_at Decimal128 _ c.in-148.is

pub returns-in-115 : goal.returns-in-115
returns-in-115 c = code_at Char _ c.in-115.is

pub returns-in-131 : goal.returns-in-131
returns-in-131 c = code_at Timestamp _ c.in-131.is

pub returns-in-152 : goal.returns-in-152
returns-in-152 c = code_at Uuid _ c.in-152.is

pub returns-in-160 : goal.returns-in-160
returns-in-160 c = code_at Vbin8 _ c.in-160.is

pub returns-in-176 : goal.returns-in-176
returns-in-176 c = code_at Vbin32 _ c.in-176.is

pub returns-in-161 : goal.returns-in-161
returns-in-161 c = code_at Str8 _ c.in-161.is

pub returns-in-177 : goal.returns-in-177
returns-in-177 c = code_at Str32 _ c.in-177.is

pub returns-in-163 : goal.returns-in-163
returns-in-163 c = code_at Sym8 _ c.in-163.is

pub returns-in-179 : goal.returns-in-179
returns-in-179 c = code_at Sym32 _ c.in-179.is

pub returns-in-69 : goal.returns-in-69
returns-in-69 c = code_at List0 _ c.in-69.is

pub returns-in-192 : goal.returns-in-192
returns-in-192 c = code_at List8 _ c.in-192.is

pub returns-in-208 : goal.returns-in-208
returns-in-208 c = code_at List32 _ c.in-208.is

pub returns-in-193 : goal.returns-in-193
returns-in-193 c = code_at Map8 _ c.in-193.is

pub returns-in-209 : goal.returns-in-209
returns-in-209 c = code_at Map32 _ c.in-209.is

pub returns-in-224 : goal.returns-in-224
returns-in-224 c = code_at Array8 _ c.in-224.is

pub returns-in-240 : goal.returns-in-240
returns-in-240 c = code_at Array32 _ c.in-240.is

pub returns-in_default : goal.returns-in_default
unfolding code_of
returns-in_default c = grind (arith, common_steps)
