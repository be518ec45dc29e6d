-- A source or a target in its common form: of an address alone, or of nothing (part 3, 3.5.3 and 3.5.4).
use Rattle.std.specs.Prelude.{◌≡◌, ◌⊎◌, ℕ, List, [], Option, Some, None, false}
use Rattle.serde_amqp_item.specs.Item.{Item, scalar, null, string, ulong, list, described, no_items, more_items}
use Rattle.amqp_session_states.specs.declared.source.Source.{Source}
use Rattle.amqp_session_states.specs.declared.target_archetype.TargetArchetype.{TargetArchetype}
use Rattle.amqp_session_states.specs.declared.target_archetype.TargetArchetype.TheVariants as archetypes
use Rattle.amqp_session_states.specs.declared.terminus.TerminusDurability.TheVariants.{None as Undurable}
use Rattle.amqp_session_states.specs.declared.terminus.TerminusExpiryPolicy.TheVariants.{SessionEnd}
use Rattle.amqp_session_frames.specs.Items.{Front}
use Rattle.amqp_session_frames.specs.declared.common_terminus.Terminus.{Terminus}
use Rattle.amqp_session_frames.specs.declared.common_terminus.Terminus.TheVariants.{Absent, Unaddressed, At}

-- a record without fields, and one of a single field
abbrev pub bare_item : ℕ → Item
bare_item code = described (scalar (ulong code)) (list no_items)

abbrev pub single_item : ℕ → Item → Item
single_item code x = described (scalar (ulong code)) (list (more_items x no_items))

-- all the bytes are the field of such a terminus, of which there is one
abbrev pub IsAddress : Terminus → List ℕ → Type 0
IsAddress Absent bytes = ⊥
IsAddress Unaddressed bytes = Front (scalar null) bytes []
IsAddress (At address) bytes = Front (scalar (string address.now)) bytes []

-- the items that are read as this terminus, with this descriptor
abbrev pub IsTerminus : ℕ → Terminus → Item → Type 0
IsTerminus code Absent x = x ≡ scalar null
IsTerminus code Unaddressed x = (x ≡ bare_item code) ⊎ (x ≡ single_item code (scalar null))
IsTerminus code (At address) x = x ≡ single_item code (scalar (string address.now))

-- a wire form of such an item stands in front of the rest
pub record TerminusFront (code : ℕ) (terminus : Terminus) (bytes rest : List ℕ) : Type 0 where
  pub item : Item
  pub front : Front item bytes rest
  pub is : IsTerminus code terminus item

-- the source with this address, all of whose other fields are absent
abbrev pub source_with : Option (List ℕ) → Source
source_with address =
    record {
      address = address;
      durable = Undurable;
      expiry_policy = SessionEnd;
      timeout = 0;
      dynamic = false;
      dynamic_node_properties = None;
      distribution_mode = None;
      filter = None;
      default_outcome = None;
      outcomes = [];
      capabilities = [];
    }

-- the target with this address, all of whose other fields are absent
abbrev pub target_with : Option (List ℕ) → TargetArchetype
target_with address =
    archetypes.Target (record {
      address = address;
      durable = Undurable;
      expiry_policy = SessionEnd;
      timeout = 0;
      dynamic = false;
      dynamic_node_properties = None;
      capabilities = [];
    })

abbrev pub source_said : Terminus → Option Source
source_said Absent = None
source_said Unaddressed = Some (source_with None)
source_said (At address) = Some (source_with (Some address.now))

abbrev pub target_said : Terminus → Option TargetArchetype
target_said Absent = None
target_said Unaddressed = Some (target_with None)
target_said (At address) = Some (target_with (Some address.now))
