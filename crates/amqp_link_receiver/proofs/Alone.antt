-- A settled delivery of one transfer where none is unsettled.
use Rattle.std.proofs.Common.{◌≡◌, ℕ, List, [], Option, None, sym, subst}
use Rattle.std.specs.Prelude.{Result}
use Rattle.amqp_link_types.specs.declared.refusals.ReceiverTransferError.{ReceiverTransferError}
use Rattle.amqp_link_receiver.specs.declared.answer.Answer.{Answer}
use Rattle.amqp_link_receiver.specs.declared.attachment.Attachment.{Attachment}
use Rattle.amqp_link_receiver.specs.declared.head.Start.{Start}
use Rattle.amqp_link_receiver.specs.Deliveries.{Entries, found, fresh, with_last}
use Rattle.amqp_link_receiver.specs.Steps.{Completes}

-- what is said of no entries is said of entries that are none
pub among_none : (attachment : Attachment) (entries : Entries) (t : Start) (payload : List ℕ)
    (result : Result Answer ReceiverTransferError)
    → entries ≡ []
    → Completes attachment None [] (with_last attachment payload (fresh t None)) result []
    → Completes attachment None entries (with_last attachment payload (fresh t (found entries t.delivery_tag))) result
    entries
among_none attachment entries t payload result none done =
    let P : Entries → Type 0 = λ es. Completes attachment None es
    (with_last attachment payload (fresh t (found es t.delivery_tag))) result es in
    subst P (sym none) done
