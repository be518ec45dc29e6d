-- Room is made for a message that is to be sent as one transfer, beside the general way: part 2, 2.6.7 and 2.6.12.
use Rattle.std.specs.Prelude.{◌≡◌, ℕ, Bool, List, Option, None}
use Rattle.amqp_link_sender.specs.declared.sending_at_once.ReadyAtOnce.{ReadyAtOnce}
use Rattle.amqp_link_sender.specs.Sends.{goes_settled, refusal, with_room}
use Rattle.amqp_link_sender.specs.Sending.{Sending}

-- nothing speaks against a message with this tag and so many bytes, and there is room for it
pub record Readies (old : Sending) (tag : List ℕ) (size : ℕ) (asked : Option Bool) (ready : ReadyAtOnce)
    (new : Sending) : Type 0 where
  pub allowed : refusal old tag size ≡ None
  pub goes : ready.settled ≡ goes_settled old.base.terms.snd_settle_mode asked
  pub was : ready.room ≡ old.messages.room
  pub room : new ≡ with_room old
