-- How an attachment of a receiving link ends: part 2, 2.6.4 to 2.6.6.
use Rattle.std.specs.Prelude.{◌≡◌, ℕ, ◌+◌, ◌%◌, ◌^◌, Bool, Option, Some, None, option_map, Result, Ok, Err}
use Rattle.amqp_link_base.specs.Moves.{broken_off, detached, sent_detach, took_detach}
use Rattle.amqp_link_base.specs.declared.base.IllegalState.{IllegalState}
use Rattle.amqp_link_base.specs.declared.base.LinkBase.{LinkBase}
use Rattle.amqp_link_base.specs.declared.detached.Detached.{Detached}
use Rattle.amqp_link_receiver.specs.Receiving.{parted}
use Rattle.amqp_link_receiver.specs.State.{ReceiverState}

-- the next attachment, by the number of those that ended
abbrev pub next : ℕ → ℕ
next attachment = (attachment + 1) % 2 ^ 64

-- the attachment ends with this of the link: what has come of an unsettled delivery is kept, and no delivery has a
-- number any more
abbrev pub ended : ReceiverState → LinkBase → ReceiverState
ended s b = record s { base = b; end = parted s.end; attachment = next s.attachment }

-- the own Detach is sent, which closes the link or doesn't
abbrev pub detach_sent : ReceiverState → Bool → Option ReceiverState
detach_sent s closed = option_map (λ (b : LinkBase). ended s b) (sent_detach s.base closed)

-- the peer's Detach comes, which closes the link or doesn't
abbrev pub detach_taken : ReceiverState → Bool → Option ReceiverState
detach_taken s closed = option_map (λ (b : LinkBase). ended s b) (took_detach s.base closed)

-- the connection or the session is over
abbrev pub broken : ReceiverState → ReceiverState
broken s = ended s (broken_off s.base)

-- the peer's Detach is allowed and taken, or it isn't and the link stays
abbrev pub TakesDetach : Option ReceiverState → ReceiverState → Result Detached IllegalState → ReceiverState → Type 0
TakesDetach None old answer new = (answer ≡ Err (record {})) × (new ≡ old)
TakesDetach (Some moved) old answer new = (answer ≡ Ok (detached old.base moved.base)) × (new ≡ moved)
