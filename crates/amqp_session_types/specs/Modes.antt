-- The role of a link's end (part 2, 2.8.1) and how deliveries are settled (part 2, 2.8.2 and 2.8.3).
use Rattle.std.specs.Prelude.{true, false, Option}
use Rattle.serde_amqp_item.specs.Item.{Item, scalar, boolean, ubyte}
use Rattle.serde_amqp_de.specs.Takes.{boolean_taken, ubyte_taken}
use Rattle.amqp_session_types.specs.Limits.{limited, is_ubyte_upto}
use Rattle.amqp_session_types.specs.declared.modes.Role.{Role}
use Rattle.amqp_session_types.specs.declared.modes.Role.TheVariants.{Sender, Receiver}
use Rattle.amqp_session_types.specs.declared.modes.SenderSettleMode.{SenderSettleMode}
use Rattle.amqp_session_types.specs.declared.modes.SenderSettleMode.TheVariants.{Unsettled, Settled, Mixed}
use Rattle.amqp_session_types.specs.declared.modes.ReceiverSettleMode.{ReceiverSettleMode}
use Rattle.amqp_session_types.specs.declared.modes.ReceiverSettleMode.TheVariants.{First, Second}

-- false: sender, true: receiver
abbrev pub role_item : Role → Item
role_item Sender = scalar (boolean false)
role_item Receiver = scalar (boolean true)

abbrev pub role_taken : Item → Option Item
role_taken = boolean_taken

-- 0: unsettled, 1: settled, 2: mixed
abbrev pub sender_settle_mode_item : SenderSettleMode → Item
sender_settle_mode_item Unsettled = scalar (ubyte 0)
sender_settle_mode_item Settled = scalar (ubyte 1)
sender_settle_mode_item Mixed = scalar (ubyte 2)

abbrev pub sender_settle_mode_taken : Item → Option Item
sender_settle_mode_taken = limited (is_ubyte_upto 2) ubyte_taken

-- 0: first, 1: second
abbrev pub receiver_settle_mode_item : ReceiverSettleMode → Item
receiver_settle_mode_item First = scalar (ubyte 0)
receiver_settle_mode_item Second = scalar (ubyte 1)

abbrev pub receiver_settle_mode_taken : Item → Option Item
receiver_settle_mode_taken = limited (is_ubyte_upto 1) ubyte_taken
