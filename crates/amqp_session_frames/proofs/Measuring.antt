-- An Open is measured.
use Rattle.std.proofs.Common.{◌≡◌, ℕ, ◌+◌, ◌<◌, ◌≤◌, arith}
use Rattle.serde_amqp_item.specs.Canon.{canon}
use Rattle.amqp_session_performatives.specs.Open.{open_item}
use Rattle.amqp_session_performatives.specs.declared.open.Open.{Open}
use Rattle.amqp_session_frames.specs.Parts.{room}
use Rattle.amqp_session_frames.specs.Sizes.{HasSize, NotSized}
use Rattle.amqp_session_frames.specs.Text.{IsOver, IsWithin, frame_text, open_on}
use Rattle.amqp_session_frames.proofs.Writing.{over_sized, over_sum, over_text, within_room}

pub open_within : (limit left size channel : ℕ) (o : Open) → HasSize (canon (open_item o)) size → left + 4 ≡ room limit
    → size + 0 ≤ left → IsWithin (limit + 4) (frame_text (open_on channel o))
open_within limit left size channel o h e le =
    within_room (open_on channel o) h.bytes limit h.is (omega (arith, h.long, e, le))

pub open_over : (limit left size channel : ℕ) (o : Open) → HasSize (canon (open_item o)) size → left + 4 ≡ room limit
    → left < size + 0 → IsOver (limit + 4) (frame_text (open_on channel o))
open_over limit left size channel o h e lt =
    over_text limit (open_on channel o) (over_sum limit size 0 (canon (open_item o)) h (omega (arith, e, lt)))

pub open_unsized : (limit channel : ℕ) (o : Open) → NotSized (canon (open_item o))
    → IsOver (limit + 4) (frame_text (open_on channel o))
open_unsized limit channel o n = over_sized (open_on channel o) (limit + 4) n

pub ruleset measuring = (open_within, open_over, open_unsized)
