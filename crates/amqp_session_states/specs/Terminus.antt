-- What a source or a target is asked to be: how durable (part 3, 3.5.5), when it expires (3.5.6), and how a source
-- gives its messages to its links (3.5.7).
use Rattle.std.specs.Prelude.{ℕ, List, [], ◌∷◌, Option}
use Rattle.serde_amqp_item.specs.Item.{Item, scalar, uint, symbol}
use Rattle.serde_amqp_de.specs.Takes.{uint_taken, symbol_taken}
use Rattle.amqp_session_types.specs.Limits.{limited, is_uint_upto, is_symbol_among}
use Rattle.amqp_session_states.specs.declared.terminus.TerminusDurability.{TerminusDurability}
use Rattle.amqp_session_states.specs.declared.terminus.TerminusDurability.TheVariants.{None, Configuration}
use Rattle.amqp_session_states.specs.declared.terminus.TerminusDurability.TheVariants.{UnsettledState}
use Rattle.amqp_session_states.specs.declared.terminus.TerminusExpiryPolicy.{TerminusExpiryPolicy}
use Rattle.amqp_session_states.specs.declared.terminus.TerminusExpiryPolicy.TheVariants.{LinkDetach, SessionEnd}
use Rattle.amqp_session_states.specs.declared.terminus.TerminusExpiryPolicy.TheVariants.{ConnectionClose, Never}
use Rattle.amqp_session_states.specs.declared.terminus.DistributionMode.{DistributionMode}
use Rattle.amqp_session_states.specs.declared.terminus.DistributionMode.TheVariants.{Move, Copy}

-- 0: none, 1: configuration, 2: unsettled state
abbrev pub durability_item : TerminusDurability → Item
durability_item None = scalar (uint 0)
durability_item Configuration = scalar (uint 1)
durability_item UnsettledState = scalar (uint 2)

abbrev pub durability_taken : Item → Option Item
durability_taken = limited (is_uint_upto 2) uint_taken

-- link-detach
abbrev pub link_detach_name : List ℕ
link_detach_name = 0x6c ∷ 0x69 ∷ 0x6e ∷ 0x6b ∷ 0x2d ∷ 0x64 ∷ 0x65 ∷ 0x74 ∷ 0x61 ∷ 0x63 ∷ 0x68 ∷ []

-- session-end
abbrev pub session_end_name : List ℕ
session_end_name = 0x73 ∷ 0x65 ∷ 0x73 ∷ 0x73 ∷ 0x69 ∷ 0x6f ∷ 0x6e ∷ 0x2d ∷ 0x65 ∷ 0x6e ∷ 0x64 ∷ []

-- connection-close
abbrev pub connection_close_name : List ℕ
connection_close_name =
    0x63 ∷ 0x6f ∷ 0x6e ∷ 0x6e ∷ 0x65 ∷ 0x63 ∷ 0x74 ∷ 0x69 ∷ 0x6f ∷ 0x6e ∷ 0x2d ∷ 0x63 ∷ 0x6c ∷ 0x6f ∷ 0x73 ∷ 0x65 ∷ []

-- never
abbrev pub never_name : List ℕ
never_name = 0x6e ∷ 0x65 ∷ 0x76 ∷ 0x65 ∷ 0x72 ∷ []

abbrev pub expiry_policy_name : TerminusExpiryPolicy → List ℕ
expiry_policy_name LinkDetach = link_detach_name
expiry_policy_name SessionEnd = session_end_name
expiry_policy_name ConnectionClose = connection_close_name
expiry_policy_name Never = never_name

abbrev pub expiry_policy_item : TerminusExpiryPolicy → Item
expiry_policy_item p = scalar (symbol (expiry_policy_name p))

abbrev pub expiry_policy_names : List (List ℕ)
expiry_policy_names = link_detach_name ∷ session_end_name ∷ connection_close_name ∷ never_name ∷ []

abbrev pub expiry_policy_taken : Item → Option Item
expiry_policy_taken = limited (is_symbol_among expiry_policy_names) symbol_taken

-- move
abbrev pub move_name : List ℕ
move_name = 0x6d ∷ 0x6f ∷ 0x76 ∷ 0x65 ∷ []

-- copy
abbrev pub copy_name : List ℕ
copy_name = 0x63 ∷ 0x6f ∷ 0x70 ∷ 0x79 ∷ []

abbrev pub distribution_mode_name : DistributionMode → List ℕ
distribution_mode_name Move = move_name
distribution_mode_name Copy = copy_name

abbrev pub distribution_mode_item : DistributionMode → Item
distribution_mode_item m = scalar (symbol (distribution_mode_name m))

abbrev pub distribution_mode_names : List (List ℕ)
distribution_mode_names = move_name ∷ copy_name ∷ []

abbrev pub distribution_mode_taken : Item → Option Item
distribution_mode_taken = limited (is_symbol_among distribution_mode_names) symbol_taken
