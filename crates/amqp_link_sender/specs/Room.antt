-- How many bytes of a payload fit in one frame: part 2, 2.3 and 2.7.5.
use Rattle.std.specs.Prelude.{ℕ, ◌-◌, ◌^◌, ◌==◌, List, length, true, Option, Some, None, if◌then◌else◌}
use Rattle.serde_amqp_item.specs.Canon.{canon}
use Rattle.amqp_session_performatives.specs.Transfer.{transfer_item}
use Rattle.amqp_session_performatives.specs.declared.transfer.Transfer.{Transfer}

-- the first transfer of a delivery as it is measured: more follow, and its number takes all of its four bytes
abbrev pub measured : Transfer → Transfer
measured first = record first { more = true; delivery_id = Some (2 ^ 32 - 1) }

-- so many bytes, unless there are none
abbrev pub some_bytes : ℕ → Option ℕ
some_bytes n = if n == 0 then None else Some n

-- what a frame of at most so many bytes leaves behind its header of 8 bytes and a performative of this text
abbrev pub room_behind : Option (List ℕ) → ℕ → Option ℕ
room_behind None limit = None
room_behind (Some text) limit = some_bytes (limit - 8 - length text)

-- how many bytes of a payload each transfer of a delivery may carry, where the peer takes frames of so many bytes
abbrev pub room_of : Transfer → ℕ → Option ℕ
room_of first limit = room_behind (canon (transfer_item (measured first))) limit
