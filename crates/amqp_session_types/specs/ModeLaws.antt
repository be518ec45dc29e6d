-- A role and a mode is read as it is written, and its item says which it is.
use Rattle.std.proofs.Common.{◌≡◌, true, false, Some, refl}
use Rattle.serde_amqp_item.specs.Item.{scalar, ubyte}
use Rattle.serde_amqp_de.specs.Takes.{ubyte_taken, reads_as_null}
use Rattle.serde_amqp_types.specs.Takes.{is_ubyte}
use Rattle.amqp_session_types.specs.Limits.{is_ubyte_upto}
use Rattle.amqp_session_types.specs.LimitLaws.{limited_again}
use Rattle.amqp_session_types.specs.Modes.{role_item, role_taken, sender_settle_mode_item, sender_settle_mode_taken}
use Rattle.amqp_session_types.specs.Modes.{receiver_settle_mode_item, receiver_settle_mode_taken}
use Rattle.amqp_session_types.specs.declared.modes.Role.{Role}
use Rattle.amqp_session_types.specs.declared.modes.Role.TheVariants.{Sender, Receiver}
use Rattle.amqp_session_types.specs.declared.modes.SenderSettleMode.{SenderSettleMode}
use Rattle.amqp_session_types.specs.declared.modes.SenderSettleMode.TheVariants.{Unsettled, Settled, Mixed}
use Rattle.amqp_session_types.specs.declared.modes.ReceiverSettleMode.{ReceiverSettleMode}
use Rattle.amqp_session_types.specs.declared.modes.ReceiverSettleMode.TheVariants.{First, Second}

pub role_again : (r : Role) → role_taken (role_item r) ≡ Some (role_item r)
role_again Sender = refl
role_again Receiver = refl

pub role_same : (r s : Role) → role_item r ≡ role_item s → r ≡ s
role_same Sender Sender e = refl
role_same Sender Receiver e = absurd cc
role_same Receiver Sender e = absurd cc
role_same Receiver Receiver e = refl

pub role_present : (r : Role) → reads_as_null (role_item r) ≡ false
role_present Sender = refl
role_present Receiver = refl

pub sender_mode_again : (m : SenderSettleMode)
    → sender_settle_mode_taken (sender_settle_mode_item m) ≡ Some (sender_settle_mode_item m)
sender_mode_again Unsettled = limited_again (is_ubyte_upto 2) ubyte_taken (scalar (ubyte 0)) refl refl
sender_mode_again Settled = limited_again (is_ubyte_upto 2) ubyte_taken (scalar (ubyte 1)) refl refl
sender_mode_again Mixed = limited_again (is_ubyte_upto 2) ubyte_taken (scalar (ubyte 2)) refl refl

pub sender_mode_same : (m n : SenderSettleMode) → sender_settle_mode_item m ≡ sender_settle_mode_item n → m ≡ n
sender_mode_same Unsettled Unsettled e = refl
sender_mode_same Settled Settled e = refl
sender_mode_same Mixed Mixed e = refl
sender_mode_same m n e = absurd cc

pub sender_mode_present : (m : SenderSettleMode) → reads_as_null (sender_settle_mode_item m) ≡ false
sender_mode_present Unsettled = refl
sender_mode_present Settled = refl
sender_mode_present Mixed = refl

pub sender_mode_one : (m n : SenderSettleMode) → is_ubyte 2 (sender_settle_mode_item m) ≡ true
    → is_ubyte 2 (sender_settle_mode_item n) ≡ true → sender_settle_mode_item m ≡ sender_settle_mode_item n
sender_mode_one Mixed Mixed e f = refl
sender_mode_one Mixed n e f = absurd cc
sender_mode_one m n e f = absurd cc

pub receiver_mode_again : (m : ReceiverSettleMode)
    → receiver_settle_mode_taken (receiver_settle_mode_item m) ≡ Some (receiver_settle_mode_item m)
receiver_mode_again First = limited_again (is_ubyte_upto 1) ubyte_taken (scalar (ubyte 0)) refl refl
receiver_mode_again Second = limited_again (is_ubyte_upto 1) ubyte_taken (scalar (ubyte 1)) refl refl

pub receiver_mode_same : (m n : ReceiverSettleMode) → receiver_settle_mode_item m ≡ receiver_settle_mode_item n → m ≡ n
receiver_mode_same First First e = refl
receiver_mode_same First Second e = absurd cc
receiver_mode_same Second First e = absurd cc
receiver_mode_same Second Second e = refl

pub receiver_mode_present : (m : ReceiverSettleMode) → reads_as_null (receiver_settle_mode_item m) ≡ false
receiver_mode_present First = refl
receiver_mode_present Second = refl

pub receiver_mode_one : (m n : ReceiverSettleMode) → is_ubyte 0 (receiver_settle_mode_item m) ≡ true
    → is_ubyte 0 (receiver_settle_mode_item n) ≡ true → receiver_settle_mode_item m ≡ receiver_settle_mode_item n
receiver_mode_one First First e f = refl
receiver_mode_one First Second e f = absurd cc
receiver_mode_one Second n e f = absurd cc
