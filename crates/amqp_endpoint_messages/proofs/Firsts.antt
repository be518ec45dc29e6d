-- Whether the message that is told next is that of a delivery.
use Rattle.std.proofs.Common.{◌≡◌, ℕ, List, [], ◌∷◌, ◌++◌, Bool, true, false, if◌then◌else◌, Option, Some, None}
use Rattle.std.proofs.Common.{sym, ap, refl, ◌∙◌, append-nil}
use Rattle.std.specs.Str.{bytes_eq}
use Rattle.amqp_link_unsettled.specs.Messages.{first_ended}
use Rattle.amqp_link_unsettled.specs.declared.resolution.Resolution.{Resolution}
use Rattle.amqp_link_sender.specs.Sending.{Sending}
use Rattle.amqp_endpoint_model.specs.declared.event.Event.{Event}
use Rattle.amqp_endpoint_messages.specs.Reached.{behind_next, first_told, is_first, next_told}
use Rattle.amqp_endpoint_messages.specs.Reached.{without_first, without_next}

abbrev Ended : Type 0
Ended = List (List ℕ × Resolution)

-- the first has this tag, or hasn't
pub first_tested : (tag : List ℕ) (ended : Ended) (first : List ℕ × Resolution) (is : Bool)
    → Some first ≡ first_ended ended → is ≡ bytes_eq tag first.0 → is ≡ is_first tag ended
first_tested tag [] first is there same = absurd cc
first_tested tag (message ∷ rest) first is there same =
    let one : first ≡ message = cc in same ∙ ap (λ (m : List ℕ × Resolution). bytes_eq tag m.0) one

pub none_tested : (tag : List ℕ) (ended : Ended) → None ≡ first_ended ended → false ≡ is_first tag ended
none_tested tag [] there = refl
none_tested tag (message ∷ rest) there = absurd cc

-- so it is told, or nothing is
pub next-told : (number : ℕ) (tag : List ℕ) (ended : Ended) → is_first tag ended ≡ true
    → next_told number ended ≡ first_told number tag ended
next-told number tag ended is = sym (ap (λ (b : Bool). if b then next_told number ended else []) is)

abbrev with_kept : Sending → Ended → Sending
with_kept s ended = record s { messages = record s.messages { resolved = ended } }

pub next-behind : (tag : List ℕ) (s : Sending) → is_first tag s.messages.resolved ≡ true
    → without_next s ≡ without_first tag s
next-behind tag s is =
    sym
    (ap
    (λ (b : Bool). with_kept s (if b then behind_next s.messages.resolved else s.messages.resolved)) is)

pub none-told : (number : ℕ) (tag : List ℕ) (ended : Ended) (events : List Event) → is_first tag ended ≡ false
    → events ≡ events ++ first_told number tag ended
none-told number tag ended events is =
    sym
    (ap (λ (b : Bool). events ++ (if b then next_told number ended else [])) is ∙ append-nil events)

pub none-behind : (tag : List ℕ) (s : Sending) → is_first tag s.messages.resolved ≡ false → s ≡ without_first tag s
none-behind tag s is =
    sym
    (ap
    (λ (b : Bool). with_kept s (if b then behind_next s.messages.resolved else s.messages.resolved)) is)
