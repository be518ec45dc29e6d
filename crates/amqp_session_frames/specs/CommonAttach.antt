-- An Attach in its common form: a list of one byte's size and count, of what says which link it is, settle modes, a
-- source and a target, and maybe of null for the unsettled deliveries and the three fields behind them (part 1, 1.6.22;
-- part 2, 2.7.3).
use Rattle.std.specs.Prelude.{◌≡◌, ℕ, Bool, false, List, [], ◌∷◌, Option, Some, None}
use Rattle.serde_amqp_item.specs.Item.{Item, scalar, boolean, null, ubyte, uint, ulong, string}
use Rattle.serde_amqp_item.specs.Record.{option_item}
use Rattle.serde_amqp_de.specs.Takes.{boolean_taken, is_boolean, mapped, option_taken, or_null, uint_taken, ulong_taken}
use Rattle.serde_amqp_types.specs.Takes.{is_ubyte}
use Rattle.amqp_session_types.specs.Fields.{named_values_taken, symbols_taken}
use Rattle.amqp_session_types.specs.Modes.{receiver_settle_mode_item, receiver_settle_mode_taken, role_item}
use Rattle.amqp_session_types.specs.Modes.{sender_settle_mode_item, sender_settle_mode_taken}
use Rattle.amqp_session_types.specs.declared.modes.ReceiverSettleMode.{ReceiverSettleMode}
use Rattle.amqp_session_types.specs.declared.modes.SenderSettleMode.{SenderSettleMode}
use Rattle.amqp_session_performatives.specs.Parts.{unsettled_taken}
use Rattle.amqp_session_performatives.specs.declared.attach.Attach.{Attach}
use Rattle.amqp_session_frames.specs.CommonTerminus.{TerminusFront, source_said, target_said}
use Rattle.amqp_session_frames.specs.Items.{Front}
use Rattle.amqp_session_frames.specs.declared.common_attach.AttachFields.{AttachFields}
use Rattle.amqp_session_frames.specs.declared.common_attach.LastFields.{LastFields}
use Rattle.amqp_session_frames.specs.declared.common_attach.LinkFields.{LinkFields}
use Rattle.amqp_session_frames.specs.declared.common_attach.ModeFields.{ModeFields}
use Rattle.amqp_session_frames.specs.declared.common_attach.TerminusFields.{TerminusFields}

-- the attach that says these fields alone
abbrev pub saying_only : AttachFields → Attach
saying_only f =
    record {
      name = f.link.name.now;
      handle = record { 0 = f.link.handle };
      role = f.link.role;
      snd_settle_mode = f.modes.sender;
      rcv_settle_mode = f.modes.receiver;
      source = source_said f.termini.source;
      target = target_said f.termini.target;
      unsettled = None;
      incomplete_unsettled = f.last.incomplete_unsettled;
      initial_delivery_count = f.last.initial_delivery_count;
      max_message_size = f.last.max_message_size;
      offered_capabilities = [];
      desired_capabilities = [];
      properties = None;
    }

-- a name, a handle and a role stand in front of the rest
pub record IsLink (f : LinkFields) (bytes rest : List ℕ) : Type 0 where
  pub behind_name : List ℕ
  pub behind_handle : List ℕ
  pub receives : Bool
  pub name : Front (scalar (string f.name.now)) bytes behind_name
  pub handle : Front (scalar (uint f.handle)) behind_name behind_handle
  pub role : Front (scalar (boolean receives)) behind_handle rest
  pub said : role_item f.role ≡ scalar (boolean receives)

-- which items the settle modes take, and which items they then are
abbrev pub sender_mode_takes : Item → Option Item
sender_mode_takes = mapped (or_null (is_ubyte 2)) (option_taken sender_settle_mode_taken)

abbrev pub receiver_mode_takes : Item → Option Item
receiver_mode_takes = mapped (or_null (is_ubyte 0)) (option_taken receiver_settle_mode_taken)

abbrev pub sender_mode_item : SenderSettleMode → Item
sender_mode_item mode = or_null (is_ubyte 2) (sender_settle_mode_item mode)

abbrev pub receiver_mode_item : ReceiverSettleMode → Item
receiver_mode_item mode = or_null (is_ubyte 0) (receiver_settle_mode_item mode)

-- settle modes, or nulls, stand in front of the rest
pub record IsModes (f : ModeFields) (bytes rest : List ℕ) : Type 0 where
  pub sender : Option ℕ
  pub receiver : Option ℕ
  pub between : List ℕ
  pub first : Front (option_item (λ n. scalar (ubyte n)) sender) bytes between
  pub second : Front (option_item (λ n. scalar (ubyte n)) receiver) between rest
  pub sends : sender_mode_takes (option_item (λ n. scalar (ubyte n)) sender) ≡ Some (sender_mode_item f.sender)
  pub receives : receiver_mode_takes (option_item (λ n. scalar (ubyte n)) receiver)
      ≡ Some (receiver_mode_item f.receiver)

-- a source and a target, or nulls, stand in front of the rest
pub record IsTermini (f : TerminusFields) (bytes rest : List ℕ) : Type 0 where
  pub between : List ℕ
  pub source : TerminusFront 0x28 f.source bytes between
  pub target : TerminusFront 0x29 f.target between rest

-- Which items the last fields take, and which items they then are: from the unsettled deliveries on, from whether they
-- are incomplete, from the first count of deliveries, and from the size of the largest message. What stands behind that
-- is absent.
abbrev pub most_takes : List (Item → Option Item)
most_takes = option_taken ulong_taken ∷ symbols_taken ∷ symbols_taken ∷ option_taken named_values_taken ∷ []

abbrev pub most_items : Option ℕ → List Item
most_items most = option_item (λ n. scalar (ulong n)) most ∷ scalar null ∷ scalar null ∷ scalar null ∷ []

abbrev pub initial_takes : List (Item → Option Item)
initial_takes = option_taken uint_taken ∷ most_takes

abbrev pub initial_items : Option ℕ → Option ℕ → List Item
initial_items initial most = option_item (λ n. scalar (uint n)) initial ∷ most_items most

abbrev pub incomplete_takes : List (Item → Option Item)
incomplete_takes = mapped (or_null (is_boolean false)) (option_taken boolean_taken) ∷ initial_takes

abbrev pub incomplete_items : LastFields → List Item
incomplete_items f =
    or_null (is_boolean false) (scalar (boolean f.incomplete_unsettled))
    ∷ initial_items f.initial_delivery_count f.max_message_size

abbrev pub last_takes : List (Item → Option Item)
last_takes = option_taken unsettled_taken ∷ incomplete_takes

abbrev pub last_items : LastFields → List Item
last_items f = scalar null ∷ incomplete_items f

-- what those fields say that are all absent
abbrev pub nothing_last : LastFields
nothing_last = record { incomplete_unsettled = false; initial_delivery_count = None; max_message_size = None }
