-- A performative that fits a frame.
use Rattle.std.proofs.Common.{◌≡◌, ℕ, ◌+◌, ◌≤◌, ◌<◌, Bool, true, false, List, [], ◌∷◌, ◌++◌, length, arith, refl}
use Rattle.std.specs.Prelude.{◌^◌, ◌↔◌, IsTrue, Option, Some, None, nat_le, nat_lt, if◌then◌else◌}
use Rattle.std.specs.Int.{w16, w32, to_be_bytes}
use Rattle.std.proofs.lemmas.Bool.Decides.{nat_tests}
use Rattle.std.proofs.lemmas.List.{length-append}
use Rattle.serde_amqp_item.specs.Canon.{◌>>=◌, canon}
use Rattle.amqp_session_performatives.specs.Disposition.{disposition_item}
use Rattle.amqp_session_performatives.specs.declared.disposition.Disposition.{Disposition}
use Rattle.amqp_session_frames.specs.Cutting.{with_size}
use Rattle.amqp_session_frames.specs.Text.{sized_text}
use Rattle.amqp_link_unsettled.specs.Listing.{FitsText}
use Rattle.amqp_endpoint_model.specs.State.{fits, frame_of, text_fits}
use Rattle.amqp_endpoint_messages.specs.Longest.{disposition_frame}

-- a piece with its size in front
sized-fits : (limit : ℕ) (piece : List ℕ) → limit < 2 ^ 32 → 4 + length piece ≤ limit
    → text_fits limit (sized_text piece) ≡ true
sized-fits limit piece least short =
    sized (nat_lt (4 + length piece) (2 ^ 32)) (below (4 + length piece) (omega (arith, least, short)))
  where
    below : (n : ℕ) → n < 2 ^ 32 → nat_lt n (2 ^ 32) ≡ true
    below n h = grind (arith, nat_tests)

    whole : length (with_size piece) ≤ limit
    whole = omega (arith, short, length-append (to_be_bytes w32 (4 + length piece)) piece)

    most_is : (n : ℕ) → n ≤ limit → nat_le n limit ≡ true
    most_is n h = grind (arith, nat_tests)

    sized : (b : Bool) → b ≡ true → text_fits limit (if b then Some (with_size piece) else None) ≡ true
    sized true e = most_is (length (with_size piece)) whole
    sized false e = absurd cc

-- and the other way round
fits-sized : (limit : ℕ) (piece : List ℕ) → text_fits limit (sized_text piece) ≡ true → 4 + length piece ≤ limit
fits-sized limit piece fit = sized (nat_lt (4 + length piece) (2 ^ 32)) fit
  where
    most : (n : ℕ) → nat_le n limit ≡ true → n ≤ limit
    most n h = grind (arith, nat_tests)

    sized : (b : Bool) → text_fits limit (if b then Some (with_size piece) else None) ≡ true
        → 4 + length piece ≤ limit
    sized true e =
        let whole : length (with_size piece) ≤ limit = most (length (with_size piece)) e in
        omega (arith, whole, length-append (to_be_bytes w32 (4 + length piece)) piece)
    sized false e = absurd cc

abbrev pub frame_text_of : ℕ → Option (List ℕ) → Option (List ℕ)
frame_text_of channel text =
    ((text >>= λ t. Some (t ++ [])) >>= λ c. Some (2 ∷ 0 ∷ (to_be_bytes w16 channel ++ c))) >>= sized_text

-- a text of any performative fits its frame where it does, and only there
pub text-fits : (limit channel : ℕ) (text : Option (List ℕ)) → limit < 2 ^ 32 → FitsText limit text
    → text_fits limit (frame_text_of channel text) ≡ true
text-fits limit channel None least h = absurd h
text-fits limit channel (Some text) least h =
    sized-fits limit (2 ∷ 0 ∷ (to_be_bytes w16 channel ++ (text ++ []))) least
    (omega (arith, h, length-append (to_be_bytes w16 channel) (text ++ []), length-append text []))

pub fits-text : (limit channel : ℕ) (text : Option (List ℕ)) → text_fits limit (frame_text_of channel text) ≡ true
    → FitsText limit text
fits-text limit channel None h = absurd cc
fits-text limit channel (Some text) h =
    let short = fits-sized limit (2 ∷ 0 ∷ (to_be_bytes w16 channel ++ (text ++ []))) h in
    omega (arith, short, length-append (to_be_bytes w16 channel) (text ++ []), length-append text [])

pub same-test : (P : Type 0) (r b : Bool) → (IsTrue r ↔ P) → (P → b ≡ true) → (b ≡ true → P) → r ≡ b
same-test P true true is to from = refl
same-test P true false is to from = let clash = to (is.0 refl) in absurd cc
same-test P false true is to from = let clash = is.1 (from refl) in absurd cc
same-test P false false is to from = refl

-- a Disposition fits a frame where its text does, and only there
pub to-frame : (limit channel : ℕ) (d : Disposition) → limit < 2 ^ 32 → FitsText limit (canon (disposition_item d))
    → fits limit (frame_of (disposition_frame channel d)) ≡ true
to-frame limit channel d least h = text-fits limit channel (canon (disposition_item d)) least h

pub to-text : (limit channel : ℕ) (d : Disposition) → fits limit (frame_of (disposition_frame channel d)) ≡ true
    → FitsText limit (canon (disposition_item d))
to-text limit channel d h = fits-text limit channel (canon (disposition_item d)) h

pub so-tested : (limit channel : ℕ) (d : Disposition) (r : Bool) → limit < 2 ^ 32
    → (IsTrue r ↔ FitsText limit (canon (disposition_item d)))
    → r ≡ fits limit (frame_of (disposition_frame channel d))
so-tested limit channel d r least is =
    same-test (FitsText limit (canon (disposition_item d))) r (fits limit (frame_of (disposition_frame channel d))) is
    (λ h. to-frame limit channel d least h) (λ h. to-text limit channel d h)
