-- What stands as a link's target: a target, or any other described value, which is kept (part 2, 2.7.3).
use Rattle.std.specs.Prelude.{ℕ, Bool, false, not, ◌==◌, ◌&&◌, ◌||◌, List, [], ◌∷◌, ◌++◌, Option, Some, None}
use Rattle.std.specs.Prelude.{if◌then◌else◌, nat_eq}
use Rattle.std.specs.List.{starts_with}
use Rattle.serde_amqp_item.specs.Item.{Item, raw, described}
use Rattle.amqp_session_states.specs.Target.{target_item, target_name, target_taken}
use Rattle.amqp_session_states.specs.declared.target_archetype.TargetArchetype.{TargetArchetype}
use Rattle.amqp_session_states.specs.declared.target_archetype.TargetArchetype.TheVariants.{Target, Other}

-- the forms of a target's descriptor: its code as a ulong of one byte and of eight, and its name as a symbol with a
-- size of one byte and of four (part 1, 1.6.6 and 1.6.21)
abbrev pub target_descriptors : List (List ℕ)
target_descriptors =
    (0x53 ∷ 0x29 ∷ [])
    ∷ (0x80 ∷ 0 ∷ 0 ∷ 0 ∷ 0 ∷ 0 ∷ 0 ∷ 0 ∷ 0x29 ∷ [])
    ∷ (0xa3 ∷ 0x10 ∷ target_name)
    ∷ (0xb3 ∷ 0 ∷ 0 ∷ 0 ∷ 0x10 ∷ target_name)
    ∷ []

-- whether the bytes begin with one of these
abbrev pub begins_with_one : List (List ℕ) → List ℕ → Bool
begins_with_one [] bytes = false
begins_with_one (form ∷ forms) bytes = starts_with nat_eq bytes form || begins_with_one forms bytes

-- a described value that is no target: no form of a target's descriptor stands behind its constructor (part 1, 1.2)
unfoldable pub is_other : List ℕ → Bool
is_other [] = false
is_other (c ∷ bytes) = c == 0x00 && not (begins_with_one target_descriptors bytes)

-- bytes that are no other described value stand for no target: no bytes are a form of this item
abbrev pub no_target : Item → Item
no_target x = described (raw []) x

abbrev pub target_archetype_item : TargetArchetype → Item
target_archetype_item (Target t) = target_item t
target_archetype_item (Other bytes) = if is_other bytes then raw bytes else no_target (raw bytes)

-- an other described value as its bytes, and a target; an item that no bytes are a form of stays
unfoldable pub target_archetype_taken : Item → Option Item
target_archetype_taken (raw bytes) = if is_other bytes then Some (raw bytes) else None
target_archetype_taken (described (raw []) x) = Some (no_target x)
target_archetype_taken x = target_taken x
