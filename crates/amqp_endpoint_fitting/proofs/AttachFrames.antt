-- An Attach that fits.
use Rattle.std.proofs.Common.{◌≡◌, ℕ, ◌+◌, ◌≤◌, ◌<◌, Bool, true, false, List, [], ◌∷◌, ◌++◌, length, arith}
use Rattle.std.specs.Prelude.{◌^◌, Option, Some, None, nat_le, nat_lt, if◌then◌else◌}
use Rattle.std.specs.Int.{w16, w32, to_be_bytes}
use Rattle.std.proofs.lemmas.Bool.Decides.{nat_tests}
use Rattle.std.proofs.lemmas.List.{length-append}
use Rattle.serde_amqp_item.specs.Canon.{◌>>=◌, canon}
use Rattle.amqp_session_performatives.specs.Attach.{attach_item}
use Rattle.amqp_session_performatives.specs.declared.attach.Attach.{Attach}
use Rattle.amqp_session_performatives.specs.declared.session_frame.SessionFrameBody.TheVariants as body
use Rattle.amqp_session_frames.specs.Cutting.{with_size}
use Rattle.amqp_session_frames.specs.Text.{sized_text}
use Rattle.amqp_link_unsettled.specs.Listing.{FitsFrame, FitsText}
use Rattle.amqp_endpoint_model.specs.State.{fits, frame_of, text_fits}

-- a piece with its size in front
sized-fits : (limit : ℕ) (piece : List ℕ) → limit < 2 ^ 32 → 4 + length piece ≤ limit
    → text_fits limit (sized_text piece) ≡ true
sized-fits limit piece least short =
    sized (nat_lt (4 + length piece) (2 ^ 32)) (below (4 + length piece) (omega (arith, least, short)))
  where
    below : (n : ℕ) → n < 2 ^ 32 → nat_lt n (2 ^ 32) ≡ true
    below n h = grind (arith, nat_tests)

    whole : length (with_size piece) ≤ limit
    whole = omega (arith, short, length-append (to_be_bytes w32 (4 + length piece)) piece)

    most_is : (n : ℕ) → n ≤ limit → nat_le n limit ≡ true
    most_is n h = grind (arith, nat_tests)

    sized : (b : Bool) → b ≡ true → text_fits limit (if b then Some (with_size piece) else None) ≡ true
    sized true e = most_is (length (with_size piece)) whole
    sized false e = absurd cc

-- the text of the performative, if any
text-fits : (limit channel : ℕ) (text : Option (List ℕ)) → limit < 2 ^ 32 → FitsText limit text
    → text_fits limit
    (((text >>= λ t. Some (t ++ [])) >>= λ c. Some (2 ∷ 0 ∷ (to_be_bytes w16 channel ++ c))) >>= sized_text)
    ≡ true
text-fits limit channel None least h = absurd h
text-fits limit channel (Some text) least h =
    sized-fits limit (2 ∷ 0 ∷ (to_be_bytes w16 channel ++ (text ++ []))) least
    (omega (arith, h, length-append (to_be_bytes w16 channel) (text ++ []), length-append text []))

pub attach-fits : (limit channel : ℕ) (attach : Attach) → limit < 2 ^ 32 → FitsFrame limit attach
    → fits limit (frame_of (record { channel = channel; body = body.Attach attach })) ≡ true
unfolding FitsFrame
attach-fits limit channel attach least h = text-fits limit channel (canon (attach_item attach)) least h
