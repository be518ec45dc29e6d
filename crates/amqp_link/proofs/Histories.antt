-- What a history makes of how often a tag stands among the open messages and those that ended.
use Rattle.std.proofs.Common.{◌≡◌, ℕ, ◌+◌, List, [], ◌∷◌, refl, ap, arith}
use Rattle.amqp_link_sender.specs.Sending.{Sending}
use Rattle.amqp_link.specs.History.{SenderHistory, SenderAct, sent_by, sent_in, taken_by, taken_in}
use Rattle.amqp_link.specs.Times.{times, times_in}
use Rattle.amqp_link.proofs.Counting.{times-append, total}
use Rattle.amqp_link.proofs.Steps.{counted}

pub balanced : (start end : Sending) (steps : List SenderAct) (tag : List ℕ) → SenderHistory start steps end
    → times_in tag end.messages.unsettled + times_in tag end.messages.resolved + times tag (taken_in steps)
    ≡ times_in tag start.messages.unsettled + times_in tag start.messages.resolved + times tag (sent_in steps)
balanced start end [] tag history = omega (arith, ap (λ (s : Sending). total tag s.messages) history)
balanced start end (step ∷ steps) tag (mid, first, others) =
    omega (
      arith,
      counted tag start mid step first,
      balanced mid end steps tag others,
      times-append tag (taken_by step) (taken_in steps),
      times-append tag (sent_by step) (sent_in steps),
    )
