-- A short tag leaves room in each frame that a peer takes, and for a message that is some bytes shorter than a frame.
use Rattle.std.proofs.Common.{◌≡◌, ℕ, ◌+◌, ◌-◌, ◌≤◌, ◌<◌, Bool, true, false, List, [], ◌∷◌, length, arith}
use Rattle.std.proofs.Common.{refl, sym, subst}
use Rattle.std.specs.Prelude.{◌^◌, ◌==◌, IsSome, Option, Some, None, nat_lt, if◌then◌else◌}
use Rattle.serde_amqp_item.specs.Item.{scalar, binary, ulong}
use Rattle.serde_amqp_item.specs.Canon.{canon}
use Rattle.amqp_session_types.specs.declared.handles.OutputHandle.{OutputHandle}
use Rattle.amqp_session_performatives.specs.Transfer.{transfer_fields, transfer_item}
use Rattle.amqp_link_sender.specs.Room.{measured, room_behind, room_of}
use Rattle.amqp_endpoint_fitting.proofs.Texts.{Short, Within, boolean-short, either, not_below, short, this, uint-short}
use Rattle.amqp_endpoint_fitting.proofs.Fields.{field, record-short}
use Rattle.amqp_endpoint_fitting.proofs.Lists.{not_none}
use Rattle.amqp_endpoint_messages.specs.Sending.{Message, first_on}

-- a binary of at most 254 bytes has two more (part 1, 1.6.19)
binary-short : (most : ℕ) (s : List ℕ) → length s ≤ most → most < 255 → Short (2 + most) (scalar (binary s))
binary-short most s h few = record {
  within =
      either (2 + most) (nat_lt (length s) 255) _ _ (λ e. this (2 + most) (0xa0 ∷ length s ∷ s) (omega (arith, h)))
      (λ e. absurd (not_below (length s) 255 (omega (arith, h, few)) e));
}

measured-short : (handle : OutputHandle) (m : Message) (settled : Bool) → handle.0 < 2 ^ 32 → m.format < 2 ^ 32
    → length m.tag ≤ 32 → Short 57 (transfer_item (measured (first_on handle m settled)))
measured-short handle m settled link format tag =
    record-short 51 0x14 (transfer_fields (measured (first_on handle m settled))) (omega arith)
    (short 2 (scalar (ulong 0x14)) (0x53 ∷ 0x14 ∷ []) refl (omega arith))
    (field (uint-short handle.0 link)
    (field (uint-short (2 ^ 32 - 1) (omega arith))
    (field (binary-short 32 m.tag tag (omega arith))
    (field (uint-short m.format format)
    (field (boolean-short settled)
    (field (boolean-short true) (record { within = this 0 [] (omega arith) })))))))

leaves-some : (limit : ℕ) (text : Option (List ℕ)) → 512 ≤ limit → Within 57 text → IsSome (room_behind text limit)
leaves-some limit text least w =
    subst (λ (o : Option (List ℕ)). IsSome (room_behind o limit)) (sym w.is)
    (by (limit - 8 - length w.bytes == 0) refl)
  where
    by : (b : Bool) → (limit - 8 - length w.bytes == 0) ≡ b
        → IsSome (if b then None else Some (limit - 8 - length w.bytes))
    by true e = absurd (not_none (limit - 8 - length w.bytes) (omega (arith, least, w.short)) e)
    by false e = refl

pub tag-leaves-room : (limit : ℕ) (handle : OutputHandle) (m : Message) (settled : Bool) → 512 ≤ limit
    → handle.0 < 2 ^ 32 → m.format < 2 ^ 32 → length m.tag ≤ 32
    → IsSome (room_of (first_on handle m settled) limit)
tag-leaves-room limit handle m settled least link format tag =
    leaves-some limit (canon (transfer_item (measured (first_on handle m settled)))) least
    (measured-short handle m settled link format tag).within

-- a frame has room for so many bytes
pub record Holds (n : ℕ) (o : Option ℕ) : Type 0 where
  pub room : ℕ
  pub is : o ≡ Some room
  pub some : 0 < room
  pub enough : n ≤ room

leaves-enough : (limit n : ℕ) (text : Option (List ℕ)) → n + 128 ≤ limit → Within 57 text
    → Holds n (room_behind text limit)
leaves-enough limit n text fits w =
    subst (λ (o : Option (List ℕ)). Holds n (room_behind o limit)) (sym w.is)
    (by (limit - 8 - length w.bytes == 0) refl)
  where
    by : (b : Bool) → (limit - 8 - length w.bytes == 0) ≡ b
        → Holds n (if b then None else Some (limit - 8 - length w.bytes))
    by true e = absurd (not_none (limit - 8 - length w.bytes) (omega (arith, fits, w.short)) e)
    by false e =
        record {
          room = limit - 8 - length w.bytes;
          is = refl;
          some = omega (arith, fits, w.short);
          enough = omega (arith, fits, w.short);
        }

pub tag-leaves-enough : (limit : ℕ) (handle : OutputHandle) (m : Message) (settled : Bool)
    → length m.payload + 128 ≤ limit → handle.0 < 2 ^ 32 → m.format < 2 ^ 32 → length m.tag ≤ 32
    → Holds (length m.payload) (room_of (first_on handle m settled) limit)
tag-leaves-enough limit handle m settled fits link format tag =
    leaves-enough limit (length m.payload) (canon (transfer_item (measured (first_on handle m settled)))) fits
    (measured-short handle m settled link format tag).within
