-- An end of a link for which there was no memory is as before.
use Rattle.std.proofs.Common.{◌≡◌, ◌⊎◌, inl, inr, ℕ, Bool, true, false, List, Option, Some, None, Err, alloc_error, ap, ◌∙◌}
use Rattle.amqp_session_performatives.specs.declared.attach.Attach.{Attach}
use Rattle.amqp_session_performatives.specs.declared.transfer.Transfer.{Transfer}
use Rattle.amqp_link_base.specs.State.{is_attached}
use Rattle.amqp_link_base.specs.Moves.{took_attach}
use Rattle.amqp_link_base.specs.declared.base.LinkBase.{LinkBase}
use Rattle.amqp_link_types.specs.declared.attaching.ReceiverAttachError.{ReceiverAttachError}
use Rattle.amqp_link_types.specs.declared.attaching.SenderAttachError.{SenderAttachError}
use Rattle.amqp_link_receiver.specs.Attaching as receiver
use Rattle.amqp_link_receiver.specs.Incoming.{TakesTransfer, TransferTaken}
use Rattle.amqp_link_receiver.specs.State.{ReceiverState}
use Rattle.amqp_link_sender.specs.Attaching as sender
use Rattle.amqp_link_sender.specs.Ending.{TakesDetach}
use Rattle.amqp_link_sender.specs.Sending.{Sending}
use Rattle.amqp_link_sender.specs.declared.ending.DetachRefusal.TheVariants.{Memory}

-- an Attach
sender_tested : (e : Option SenderAttachError) (moved : LinkBase) (old new : Sending) (attach : Attach)
    → sender.TakesTested e moved old attach (Err alloc_error) new → new ≡ old
sender_tested (Some error) moved old new attach (answer, moves) = absurd cc
sender_tested None moved old new attach (inl (answer, same)) = same
sender_tested None moved old new attach (inr (answer, taken)) = absurd cc

sender_moved : (o : Option LinkBase) (old new : Sending) (attach : Attach)
    → sender.TakesMoved o old attach (Err alloc_error) new → new ≡ old
sender_moved None old new attach (answer, same) = same
sender_moved (Some moved) old new attach taken =
    sender_tested (sender.attach_refusal old attach) moved old new attach taken

pub sender_kept : (old new : Sending) (attach : Attach) → sender.TakesAttach old attach (Err alloc_error) new
    → new ≡ old
sender_kept old new attach taken = sender_moved (took_attach old.base attach) old new attach taken

receiver_tested : (o : Option LinkBase) (e : Option ReceiverAttachError) (old new : ReceiverState) (attach : Attach)
    → receiver.TakesAttach o e old attach (Err alloc_error) new → new ≡ old
receiver_tested None e old new attach (answer, same) = same
receiver_tested (Some moved) (Some error) old new attach (inl (filters, answer, same)) = same
receiver_tested (Some moved) (Some error) old new attach (inr (answer, moves)) = absurd cc
receiver_tested (Some moved) None old new attach (inl (answer, same)) = same
receiver_tested (Some moved) None old new attach (inr (answer, taken)) = absurd cc

pub receiver_kept : (old new : ReceiverState) (attach : Attach)
    → receiver.AttachTaken old attach (Err alloc_error) new → new ≡ old
receiver_kept old new attach taken =
    receiver_tested (took_attach old.base attach) (receiver.attach_error old attach) old new attach taken

-- a transfer
transfer_at : (b : Bool) (old new : ReceiverState) (transfer : Transfer) (payload : List ℕ)
    → TakesTransfer b old transfer payload (Err alloc_error) new → new ≡ old
transfer_at false old new transfer payload (answer, same) = same
transfer_at true old new transfer payload (inl (answer, same), others) =
    others ∙ ap (λ end. record old { end = end }) same
transfer_at true old new transfer payload (inr (answer, moves), others) = absurd cc

pub transfer_kept : (old new : ReceiverState) (transfer : Transfer) (payload : List ℕ)
    → TransferTaken old transfer payload (Err alloc_error) new → new ≡ old
transfer_kept old new transfer payload taken =
    transfer_at (is_attached old.base.local_state) old new transfer payload taken

-- a Detach
pub detach_kept : (o : Option Sending) (old new : Sending) → TakesDetach o old (Err Memory) new → new ≡ old
detach_kept None old new (answer, same) = same
detach_kept (Some moved) old new (inl (answer, same)) = same
detach_kept (Some moved) old new (inr (answer, taken)) = absurd cc

pub ruleset rules = (sender_kept, receiver_kept, transfer_kept, detach_kept)
