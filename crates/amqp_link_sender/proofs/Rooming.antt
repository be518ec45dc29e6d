-- What a performative leaves of a frame.
use Rattle.std.proofs.Common.{◌≡◌, ℕ, ◌+◌, ◌-◌, ◌<◌, ◌≤◌, ◌^◌, List, length, Option, Some, None, ◌⊎◌, ⊎_elim, ap, sym, refl, ◌∙◌, arith}
use Rattle.serde_amqp_ser.specs.Sizes.{HasLength, IsTooLong}
use Rattle.amqp_link_sender.specs.Room.{some_bytes, room_behind}

-- a text of this length
pub room-of-length : (text : Option (List ℕ)) (n limit : ℕ) → HasLength text n → some_bytes (limit - 8 - n) ≡ room_behind text limit
room-of-length None n limit h = absurd h
room-of-length (Some text) n limit h = ap (λ (k : ℕ). some_bytes (limit - 8 - k)) h

-- no text, or one that no frame holds
pub no-room : (E : Type 0) (text : Option (List ℕ)) (limit : ℕ) → limit < 2 ^ 64 → (text ≡ None) ⊎ (IsTooLong text × E) → None ≡ room_behind text limit
no-room E None limit h r = refl
no-room E (Some text) limit h r =
    let none : limit - 8 - length text ≡ 0 = ⊎_elim (λ (e : Some text ≡ None). absurd (cc e)) (λ (p : IsTooLong (Some text) × E). let long : 2 ^ 64 ≤ length text = p.0 in omega arith) r in
    ap some_bytes (sym none)
