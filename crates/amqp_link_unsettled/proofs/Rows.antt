-- Worked rows, computed from the definitions: what becomes of interrupted deliveries (part 3, 3.4.6), and how many an Attach lists.
use Rattle.std.proofs.Common.{◌≡◌, ℕ, ◌<◌, ◌≤◌, ◌-◌, ◌^◌, true, false, List, [], ◌∷◌, take, Option, Some, None, Ok, Err, zero, suc, refl, arith}
use Rattle.amqp_session_states.specs.declared.accepted.Accepted.{Accepted}
use Rattle.amqp_session_states.specs.declared.rejected.Rejected.{Rejected}
use Rattle.amqp_session_states.specs.declared.released.Released.{Released}
use Rattle.amqp_session_states.specs.declared.modified.Modified.{Modified}
use Rattle.amqp_session_states.specs.declared.received.Received.{Received}
use Rattle.amqp_session_states.specs.declared.delivery_state.DeliveryState.{DeliveryState}
use Rattle.amqp_session_states.specs.declared.delivery_state.DeliveryState.TheVariants as state
use Rattle.amqp_link_unsettled.specs.declared.message.UnsettledMessage.{UnsettledMessage}
use Rattle.amqp_link_unsettled.specs.declared.resumption.ResumingDelivery.TheVariants as resuming
use Rattle.amqp_link_unsettled.specs.declared.resumption.Decision.TheVariants.{Resend, ResumeFrom, Abort, Restate, ResolveAsTold, ResolveAsListed}
use Rattle.amqp_link_unsettled.specs.Entries.{live}
use Rattle.amqp_link_unsettled.specs.Numbers.{tag_with}
use Rattle.amqp_link_unsettled.specs.Rising.{InOrder, raised, restamped}
use Rattle.amqp_link_unsettled.specs.Resumption.{start, is_past, decision, resumption}
use Rattle.amqp_link_unsettled.specs.Listing.{Entries, or_null, halved, IsFirstHalf}

abbrev place : ℕ → ℕ → Received
place section offset = record { section_number = section; section_offset = offset }

abbrev message : Option DeliveryState → ℕ → UnsettledMessage
message s format = record { payload = 0x00 ∷ 0x53 ∷ 0x75 ∷ 0xa0 ∷ 0x00 ∷ []; state = s; message_format = format }

-- the peer had told that it stood further than it lists: it can't go on
stood-further : resumption (message (Some (state.Received (place 1 5))) 0) (Some (Some (state.Received (place 1 2)))) ≡ (Some (resuming.Abort 0 true), None)
stood-further = refl

stands-there : resumption (message (Some (state.Received (place 1 2))) 0) (Some (Some (state.Received (place 1 2)))) ≡ (Some (resuming.Resume (message (Some (state.Received (place 1 2))) 0) (place 1 2)), None)
stands-there = refl

-- an outcome stands, and the peer lists a place: the message is aborted with its format
module _ (a : Accepted) (j : Rejected) (l : Released) (m : Modified) where
  accepted-and-place : resumption (message (Some (state.Accepted a)) 7) (Some (Some (state.Received (place 0 0)))) ≡ (Some (resuming.Abort 7 true), None)
  accepted-and-place = refl

  rejected-and-place : resumption (message (Some (state.Rejected j)) 7) (Some (Some (state.Received (place 0 0)))) ≡ (Some (resuming.Abort 7 true), None)
  rejected-and-place = refl

  released-and-place : resumption (message (Some (state.Released l)) 7) (Some (Some (state.Received (place 0 0)))) ≡ (Some (resuming.Abort 7 true), None)
  released-and-place = refl

  modified-and-place : resumption (message (Some (state.Modified m)) 7) (Some (Some (state.Received (place 0 0)))) ≡ (Some (resuming.Abort 7 true), None)
  modified-and-place = refl

  -- no state was told
  nothing-came : decision None None ≡ Resend
  nothing-came = refl

  tag-came : decision None (Some None) ≡ ResumeFrom start
  tag-came = refl

  part-came : decision None (Some (Some (state.Received (place 3 9)))) ≡ ResumeFrom (place 3 9)
  part-came = refl

  all-came : decision None (Some (Some (state.Accepted a))) ≡ ResolveAsListed
  all-came = refl

  -- a place was told
  forgotten : decision (Some (state.Received (place 3 9))) None ≡ Resend
  forgotten = refl

  begun-anew : decision (Some (state.Received (place 3 9))) (Some None) ≡ Abort
  begun-anew = refl

  not-begun : decision (Some (state.Received (place 0 0))) (Some None) ≡ ResumeFrom start
  not-begun = refl

  later-section : decision (Some (state.Received (place 3 9))) (Some (Some (state.Received (place 4 0)))) ≡ ResumeFrom (place 4 0)
  later-section = refl

  earlier-section : decision (Some (state.Received (place 3 0))) (Some (Some (state.Received (place 2 9)))) ≡ Abort
  earlier-section = refl

  rejected-since : decision (Some (state.Received (place 3 9))) (Some (Some (state.Rejected j))) ≡ ResolveAsListed
  rejected-since = refl

  -- an outcome stands
  settled-there : decision (Some (state.Accepted a)) None ≡ ResolveAsTold
  settled-there = refl

  known-as-begun : decision (Some (state.Accepted a)) (Some None) ≡ Abort
  known-as-begun = refl

  both-modified : (n : Modified) → decision (Some (state.Modified n)) (Some (Some (state.Modified m))) ≡ ResolveAsTold
  both-modified n = refl

  outcomes-differ : decision (Some (state.Accepted a)) (Some (Some (state.Released l))) ≡ Restate
  outcomes-differ = refl

-- 43 entries, where 42 fit: half of them
before-half : (j : ℕ) → j < 1 → halved 43 j ≤ 42 → ⊥
before-half zero lt p = absurd (omega (arith, p))
before-half (suc j) lt p = absurd (omega (arith, lt))

half-fits : IsFirstHalf (λ n. n ≤ 42) 43 (Some 21)
half-fits = (1, refl, omega arith, before-half)

all-fit : IsFirstHalf (λ n. n ≤ 42) 42 (Some 42)
all-fit = (0, refl, omega arith, λ j lt p. absurd (omega (arith, lt)))

before-none : (j : ℕ) → j < 1 → halved 1 j ≤ 0 → ⊥
before-none zero lt p = absurd (omega (arith, p))
before-none (suc j) lt p = absurd (omega (arith, lt))

none-of-one : IsFirstHalf (λ n. n ≤ 0) 1 (Some 0)
none-of-one = (1, refl, omega arith, before-none)

nothing-fits : IsFirstHalf (λ n. ⊥) 43 None
nothing-fits k p = p

-- without entries the list is null
cut-to-none : (es : Entries) → or_null (take 0 es) ≡ None
cut-to-none es = refl

-- what was taken out is not among the deliveries
taken-out : live {M = ℕ} ((0x61 ∷ [], Some 1) ∷ (0x62 ∷ [], None) ∷ (0x63 ∷ [], Some 3) ∷ []) ≡ (0x61 ∷ [], 1) ∷ (0x63 ∷ [], 3) ∷ []
taken-out = refl

-- the first delivery that bears a number, where two do, and where none does
of-two : tag_with (λ (n : ℕ). Some n) 5 ((0x61 ∷ [], 4) ∷ (0x62 ∷ [], 5) ∷ (0x63 ∷ [], 5) ∷ []) ≡ Some (0x62 ∷ [])
of-two = refl

of-none : tag_with (λ (n : ℕ). Some n) 6 ((0x61 ∷ [], 4) ∷ (0x62 ∷ [], 5) ∷ []) ≡ None
of-none = refl

-- numbers that rise, with a tag whose value is gone
in-order : InOrder (λ (n : ℕ). Some n) (Some 8)
    ((0x61 ∷ [], record { below = 5; kept = Some 4 }) ∷ (0x62 ∷ [], record { below = 6; kept = None }) ∷ (0x63 ∷ [], record { below = 8; kept = Some 7 }) ∷ [])
in-order = (omega arith, (omega arith, refl), (omega arith, tt, (omega arith, (omega arith, refl), omega arith)))

-- a number that is more than those before, none, one that is less, and the greatest
rises-on : raised (Some 6) (Some 8) ≡ Some 9
rises-on = refl

unnumbered : raised (Some 6) None ≡ Some 6
unnumbered = refl

falls : raised (Some 6) (Some 5) ≡ None
falls = refl

greatest : raised (Some 6) (Some (2 ^ 64 - 1)) ≡ None
greatest = refl

-- a number given to the last delivery, given to another one, and given again
given-last : restamped 6 (Some 6) true None (Some 8) ≡ (9, Some 9)
given-last = refl

given-late : restamped 5 (Some 6) false None (Some 8) ≡ (5, None)
given-late = refl

given-again : restamped 5 (Some 6) false (Some 4) (Some 4) ≡ (5, Some 6)
given-again = refl
