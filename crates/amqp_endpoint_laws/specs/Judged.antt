-- What one finds who reads along what passes on an endpoint's connection (part 2, 2.4, 2.5.6).
use Rattle.std.specs.Prelude.{ℕ, List, None}
use Rattle.amqp_endpoint_laws.specs.Deeds.{Deed, IsInOrder, Throughout, opened_behind}
use Rattle.amqp_endpoint_laws.specs.Reading.{nothing_read}
use Rattle.amqp_endpoint_conversation.specs.Windows.{KeepsWindow, begins_with}
use Rattle.amqp_endpoint_laws.specs.Seen.{AreOnes, passing_in, wired_by}

-- by these deeds of one connection, told by channels alone, each frame that sessions hand out is one's, and each
-- transfer among what passes so lies in the window that the peer gave its session; and each of these frames fits the
-- limit in force, which is 512 bytes up to the peer's Open and then its max-frame-size
pub record Judged (first : ℕ) (deeds : List Deed) : Type 0 where
  pub keep : (number : ℕ) → KeepsWindow (begins_with first) (passing_in number nothing_read (wired_by deeds))
  pub each : AreOnes nothing_read (wired_by deeds)
  pub fit : Throughout opened_behind IsInOrder None deeds
