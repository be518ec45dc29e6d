-- A Transfer in its common form: a list of one byte's size and count, of a handle, a number, a tag and a format, and
-- maybe of whether it is settled and whether more follow (part 1, 1.6.22; part 2, 2.7.5).
use Rattle.std.specs.Prelude.{◌≡◌, ℕ, ◌+◌, ◌<◌, ◌≤◌, ◌^◌, List, [], ◌∷◌, ◌++◌, length, Bool, true, false, Option}
use Rattle.std.specs.Prelude.{Some, None}
use Rattle.serde_amqp_item.specs.Item.{Item, Items, scalar, boolean, null, item_count}
use Rattle.serde_amqp_item.specs.Wire.{Forms, IsCapped, IsStrict}
use Rattle.serde_amqp_de.specs.Takes.{boolean_taken, fields_taken, is_boolean, mapped, option_taken, or_null}
use Rattle.amqp_session_types.specs.Modes.{receiver_settle_mode_taken}
use Rattle.amqp_session_states.specs.DeliveryState.{delivery_state_taken}
use Rattle.amqp_session_performatives.specs.declared.transfer.Transfer.{Transfer}
use Rattle.amqp_session_frames.specs.Items.{binary_text, boolean_text, flag_item, short_record, uint_text}
use Rattle.amqp_session_frames.specs.declared.common_transfer.TransferFields.{TransferFields}

-- the fields that the common form has
pub record CommonFields : Type 0 where
  pub handle : ℕ
  pub number : ℕ
  pub tag : List ℕ
  pub format : ℕ
  pub settled : Option Bool
  pub more : Bool

abbrev pub fields_of : TransferFields → CommonFields
fields_of f =
    record {
      handle = f.handle;
      number = f.number;
      tag = (f.tag).now;
      format = f.format;
      settled = f.settled;
      more = f.more;
    }

-- the transfer that says these fields alone
abbrev pub saying_only : CommonFields → Transfer
saying_only c =
    record {
      handle = record { 0 = c.handle };
      delivery_id = Some c.number;
      delivery_tag = Some c.tag;
      message_format = Some c.format;
      settled = c.settled;
      more = c.more;
      rcv_settle_mode = None;
      state = None;
      resume = false;
      aborted = false;
      batchable = false;
    }

-- ---- reading

-- which items the fields behind the format take
abbrev pub last_takes : List (Item → Option Item)
last_takes =
    option_taken boolean_taken
    ∷ mapped (or_null (is_boolean false)) (option_taken boolean_taken)
    ∷ option_taken receiver_settle_mode_taken
    ∷ option_taken delivery_state_taken
    ∷ mapped (or_null (is_boolean false)) (option_taken boolean_taken)
    ∷ mapped (or_null (is_boolean false)) (option_taken boolean_taken)
    ∷ mapped (or_null (is_boolean false)) (option_taken boolean_taken)
    ∷ []

-- what the fields behind `more` are, which are absent
abbrev pub nothing_more : List Item
nothing_more = scalar null ∷ scalar null ∷ scalar null ∷ scalar null ∷ scalar null ∷ []

-- all the bytes are the fields behind the format, of which there are so many with the four before
pub record LastFields (count : ℕ) (bytes : List ℕ) (settled : Option Bool) (more : Bool) : Type 0 where
  pub items : Items
  pub counts : count ≡ item_count items + 4
  pub few : count < 7
  pub forms : Forms IsCapped IsStrict items None bytes
  pub taken : fields_taken last_takes items
      ≡ Some (flag_item settled ∷ or_null (is_boolean false) (scalar (boolean more)) ∷ nothing_more)

-- ---- writing

-- the fields behind the format, up to the last that says something
abbrev pub last_text : Option Bool → Bool → List ℕ
last_text None false = []
last_text (Some settled) false = boolean_text settled
last_text None true = 0x40 ∷ 0x41 ∷ []
last_text (Some settled) true = boolean_text settled ++ 0x41 ∷ []

-- how many fields there are with the four before
abbrev pub field_count : Option Bool → Bool → ℕ
field_count None false = 4
field_count (Some settled) false = 5
field_count settled true = 6

unfoldable pub fields_text : CommonFields → List ℕ
fields_text c =
    uint_text c.handle
    ++ (uint_text c.number ++ (binary_text c.tag ++ (uint_text c.format ++ last_text c.settled c.more)))

unfoldable pub common_text : CommonFields → List ℕ
common_text c = short_record 0x14 (field_count c.settled c.more) (fields_text c)

-- a transfer that says nothing behind `more`
pub record EndsWithMore (t : Transfer) : Type 0 where
  pub mode : t.rcv_settle_mode ≡ None
  pub state : t.state ≡ None
  pub resume : t.resume ≡ false
  pub aborted : t.aborted ≡ false
  pub batchable : t.batchable ≡ false

-- the transfer says these fields alone, and its tag has at most 32 bytes (2.8.7)
pub record IsCommon (t : Transfer) (c : CommonFields) : Type 0 where
  pub is : t ≡ saying_only c
  pub tag : length c.tag ≤ 32

-- the numbers are uints (part 1, 1.6.6)
pub record HaveRange (c : CommonFields) : Type 0 where
  pub handle : c.handle < 2 ^ 32
  pub number : c.number < 2 ^ 32
  pub format : c.format < 2 ^ 32
