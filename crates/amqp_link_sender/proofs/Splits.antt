-- The first transfer and those of what is left.
use Rattle.std.proofs.Common.{◌≡◌, ℕ, ◌+◌, ◌-◌, ◌<◌, ◌≤◌, ◌++◌, List, [], ◌∷◌, Bool, false, length, length-append, take, drop, ap, sym, refl, subst, ◌∙◌, arith, min}
use Rattle.std.specs.Prelude.{map, max, All}
use Rattle.std.specs.List.{concat}
use Rattle.std.specs.Int.{div_ceil}
use Rattle.std.proofs.Math.Seq.{take-length}
use Rattle.std.proofs.lemmas.List.{drop_all}
use Rattle.std.proofs.lemmas.List.Elements.{All-push, All-append}
use Rattle.amqp_session_performatives.specs.declared.transfer.Transfer.{Transfer}
use Rattle.amqp_session_outgoing.specs.declared.frames.Outbound.{Outbound}
use Rattle.amqp_session_core.specs.declared.batch.TransferFrame.{TransferFrame}
use Rattle.amqp_session_core.specs.declared.batch.BehindFrame.{BehindFrame}
use Rattle.amqp_session_core.specs.Batch.{Transfers, first_of}
use Rattle.amqp_link_sender.specs.Splitting.{bytes_of, some_left, more_behind, Splits, Rest}
use Rattle.amqp_link_sender.proofs.Counting.{ceil-first, ceil-none, first-counted}
use Rattle.amqp_link_sender.proofs.Pushing.{more-is, parted, piece-short, left-size}

abbrev Fits : ℕ → Outbound TransferFrame BehindFrame → Type 0
Fits room u = length (bytes_of u) ≤ room

pub split-of : (first : Transfer) (payload front left : List ℕ) (n room : ℕ) (added : Transfers) → 0 < room → front ≡ take n payload → left ≡ drop n payload → n ≡ min (length payload) room
    → Rest first.handle left room added → Splits first payload room (first_of (record first { more = some_left left }) front ∷ added)
split-of first payload front left n room added h is back least rest =
    let u : Outbound TransferFrame BehindFrame = first_of (record first { more = some_left left }) front in
    let none : Transfers = [] in
    record {
      delivery = (ap (λ (b : Bool). first_of (record first { more = b }) front) (more-is added left room h rest.count), rest.later);
      bytes = ap (λ (l : List ℕ). front ++ l) rest.bytes ∙ parted payload front left n is back;
      within = All-append (Fits room) (u ∷ []) added (All-push (Fits room) none u (λ k d g. absurd (omega arith)) (piece-short payload front n room is least)) rest.within;
      count = first-counted (length (u ∷ added)) (length added) (div_ceil (length payload - min (length payload) room) room) (max 1 (div_ceil (length payload) room)) (omega arith) (ceil-first (length payload) room h)
          (rest.count ∙ ap (λ (k : ℕ). div_ceil k room) (left-size payload left n room back least));
    }

none-behind : (first : Transfer) (room : ℕ) → 0 < room → Rest first.handle [] room []
none-behind first room h = record {
  later = tt;
  bytes = refl;
  within = λ k d g. absurd (omega arith);
  count = sym (ceil-none room h);
}

-- one transfer that carries all
pub is_whole : (first : Transfer) (payload : List ℕ) (room : ℕ) (batch : Transfers) → 0 < room → length payload ≤ room
    → batch ≡ first_of (record first { more = false }) payload ∷ [] → Splits first payload room batch
is_whole first payload room batch h short all =
    let P : Transfers → Type 0 = λ l. Splits first payload room l in
    subst P (sym all) (split-of first payload payload [] (length payload) room [] h (sym (take-length payload))
    (sym (drop_all (length payload) payload (omega arith))) (omega (arith, short)) (none-behind first room h))
