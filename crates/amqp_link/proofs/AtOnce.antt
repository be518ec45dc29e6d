-- A receiving link that takes a transfer at once takes it as its session sees it.
use Rattle.std.proofs.Common.{◌≡◌, ◌∙◌, ℕ, Bool, true, false, List, [], Option, Some, None, Ok, ap, subst, sym, refl}
use Rattle.std.specs.Prelude.{unwrap_or, if◌then◌else◌}
use Rattle.amqp_session_performatives.specs.declared.transfer.Transfer.{Transfer}
use Rattle.amqp_session_core.specs.AtOnce.{TakesMessage, answer_of}
use Rattle.amqp_session_core.specs.declared.relay.Registration.TheVariants as session
use Rattle.amqp_link_receiver.specs.AtOnce.{TakesMessage as LinkTakesMessage, answered}
use Rattle.amqp_link_receiver.specs.Disposing.{message_numbered}
use Rattle.amqp_link_receiver.specs.Incoming.{TransferTaken}
use Rattle.amqp_link_receiver.specs.Reading.{says}
use Rattle.amqp_link_receiver.specs.State.{ReceiverState}
use Rattle.amqp_link_receiver.specs.declared.answer.Registering.{Registering}
use Rattle.amqp_link_receiver.specs.declared.answer.Registering.TheVariants.{Unchanged, Unsettled}
use Rattle.amqp_link.specs.declared.end.End.TheVariants.{Receiver}
use Rattle.amqp_link.specs.declared.standing.Standing.{Standing}
use Rattle.amqp_link.specs.declared.standing.Standing.TheVariants.{Attached}
use Rattle.amqp_link.specs.Ends.{state_of}
use Rattle.amqp_link.specs.Gives.{names, registering_of, tells, transfers, transfers_at}
use Rattle.amqp_link.specs.Standing.{standing_of}

-- the session is told what becomes of the delivery
registers : (o : Option Bool) (number : ℕ) (tag : List ℕ)
    → (if says o then Unchanged else Unsettled number tag)
    ≡ registering_of (if unwrap_or o false then session.Unchanged else session.Unsettled number tag)
registers None number tag = refl
registers (Some true) number tag = refl
registers (Some false) number tag = refl

either : (o : Option Bool) (x y : ReceiverState)
    → Receiver (if says o then x else y) ≡ (if unwrap_or o false then Receiver x else Receiver y)
either None x y = refl
either (Some true) x y = refl
either (Some false) x y = refl

pub taken_by_receiver : (r new : ReceiverState) (t : Transfer) (payload : List ℕ) (message : ℕ)
    → standing_of (state_of (Receiver r)) ≡ Attached
    → LinkTakesMessage r t payload message new
    → TakesMessage transfers tells names (Receiver r) t payload message (Receiver new)
taken_by_receiver r new t payload message attached done =
    let number : ℕ = unwrap_or t.delivery_id 0 in
    let tag : List ℕ = unwrap_or t.delivery_tag [] in
    record {
      number = done.number;
      tag = done.tag;
      mid = Receiver done.mid;
      taken =
          subst (λ (s : Standing). transfers_at s (Receiver r) t payload (Ok (answer_of t (tells t payload)))
          (Receiver done.mid)) (sym attached)
          (subst (λ (g : Registering). TransferTaken r t payload
          (Ok (record { registering = g; told = (answered t payload).told })) done.mid)
          (registers t.settled number tag) done.received);
      named =
          ap (λ (x : ReceiverState). Receiver x) done.named
          ∙ either t.settled done.mid (message_numbered done.mid tag message);
    }
