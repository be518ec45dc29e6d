use Rattle.std.proofs.Common.{◌≡◌, ◌∙◌, ap, take}
use Rattle.std.specs.Prelude.{Result, Ok, Err}
use Rattle.std.proofs.lemmas.Result.{err_from_is_err_and}
use Rattle.amqp_link_types.specs.declared.refusals.ReceiverTransferError.{ReceiverTransferError}
use Rattle.amqp_link_types.specs.declared.refusals.ReceiverTransferError.TheVariants.{Memory}
use Rattle.amqp_link_receiver.specs.declared.answer.Registering.{Registering}
use Rattle.amqp_link_receiver.specs.Deliveries.{Delivery, begun, found, grown, kept_bytes}
use Rattle.amqp_link_receiver.proofs.Resumptions.{half-back, half-resumes, still-half}
use Rattle.amqp_link_receiver.proofs.continuing.resume_half.Goals as goal

pub push_half-requires-clause-half : goal.push_half-requires-clause-half
push_half-requires-clause-half c =
    still-half c.args.unsettled.now.entries c.take_half-kept.new.unsettled.entries c.args.start.delivery_tag c.take_half-kept.result c.take_half-kept.ensures.kept c.take_half-kept.ensures.entries

pub returns-in_err-bytes : goal.returns-in_err-bytes
returns-in_err-bytes c =
    let p = err_from_is_err_and c.from_residual-in_err-bytes.result c.from_residual-in_err-bytes.ensures.1 in
    half-back c.args.attachment c.args.unsettled.now.entries c.take_half-kept.new.unsettled.entries c.push_half.new.unsettled.entries c.args.start.delivery_tag c.take_half-kept.result
    (Ok (grown (begun c.args.start (take c.args.at (kept_bytes (found c.args.unsettled.now.entries c.args.start.delivery_tag)))) c.args.payload))
    c.from_residual-in_err-bytes.result c.take_half-kept.ensures.kept c.take_half-kept.ensures.entries c.in_err-bytes.ensures.err
    (p.1 ∙ ap (λ (e : ReceiverTransferError). Err e) p.2)

pub returns : goal.returns
returns c =
    half-resumes c.args.attachment c.args.unsettled.now.entries c.take_half-kept.new.unsettled.entries c.push_half.new.unsettled.entries c.forget_settled.new.unsettled.entries
    c.args.start c.args.at c.args.payload c.take_half-kept.result c.in_ok-bytes.bytes c.with_bytes-delivery.result c.in_ok-registering.registering
    c.take_half-kept.ensures.kept c.take_half-kept.ensures.entries c.in_ok-bytes.ensures.ok c.in_ok-bytes.ensures.bytes c.with_bytes-delivery.ensures c.in_ok-registering.ensures c.forget_settled.ensures
