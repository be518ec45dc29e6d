-- What a new link would refuse of the peer's Attach.
use Rattle.std.proofs.Common.{◌≡◌, Option, Some, None, option_map, Ok, Err, sym, ap, subst}
use Rattle.amqp_session_performatives.specs.declared.attach.Attach.{Attach}
use Rattle.amqp_link_types.specs.declared.attaching.ReceiverAttachError.{ReceiverAttachError}
use Rattle.amqp_link_types.specs.declared.attaching.ReceiverAttachError.TheVariants.{DesiredFilterNotSupported}
use Rattle.amqp_link_types.specs.declared.attaching.ReceiverAttachError.TheVariants.{Memory as NoMemory}
use Rattle.amqp_link_types.specs.declared.attaching.SenderAttachError.{SenderAttachError}
use Rattle.amqp_link_types.specs.declared.link_error.LinkError.TheVariants.{SenderAttach, ReceiverAttach}
use Rattle.amqp_link_base.specs.Attach.{receiver_tests, sender_tests}
use Rattle.amqp_link_base.specs.Tests.{FirstOf, IsOfFilters, JudgedBy, first_of}
use Rattle.amqp_endpoint_model.specs.declared.link.LinkSettings.{LinkSettings}
use Rattle.amqp_endpoint_attached.specs.Links.{receiver_by, sender_by}
use Rattle.amqp_endpoint_attached.specs.Refusals.{FindsTested, TellsList, test_failed, told_of}
use Rattle.amqp_endpoint_attached.specs.declared.refusal.AttachRefusal.{AttachRefusal}
use Rattle.amqp_endpoint_attached.specs.declared.refusal.AttachRefusal.TheVariants.{Link}

module _ (s : LinkSettings) (attach : Attach) where
  pub sender_passes : FirstOf (sender_tests s.source s.target s.snd_settle_mode attach) (Ok tt)
      → FindsTested (test_failed (sender_by s) attach) None
  sender_passes is = ap (λ (o : Option SenderAttachError). option_map SenderAttach o) (sym is)

  pub sender_fails : (error : SenderAttachError)
      → FirstOf (sender_tests s.source s.target s.snd_settle_mode attach) (Err error)
      → FindsTested (test_failed (sender_by s) attach) (Some (Link (SenderAttach error)))
  sender_fails error is = ap (λ (o : Option SenderAttachError). option_map SenderAttach o) (sym is)

  pub receiver_passes : JudgedBy (first_of (receiver_tests s.source s.target attach)) (Ok tt)
      → FindsTested (test_failed (receiver_by s) attach) None
  receiver_passes is = ap (λ (o : Option ReceiverAttachError). option_map ReceiverAttach o) (sym is)

-- in place of a list it is want of memory
tells-list : (failed : Option ReceiverAttachError) → IsOfFilters failed
    → TellsList (option_map ReceiverAttach failed)
tells-list (Some (DesiredFilterNotSupported filters)) is = tt
tells-list (Some error) is = absurd is
tells-list None is = absurd is

judged : (failed : Option ReceiverAttachError) (error : ReceiverAttachError) → JudgedBy failed (Err error)
    → FindsTested (option_map ReceiverAttach failed) (Some (told_of error))
judged failed NoMemory is = tells-list failed is
judged failed error is = ap (λ (o : Option ReceiverAttachError). option_map ReceiverAttach o) (sym is)

module _ (s : LinkSettings) (attach : Attach) where
  pub receiver_fails : (error : ReceiverAttachError) (told : AttachRefusal) → told ≡ told_of error
      → JudgedBy (first_of (receiver_tests s.source s.target attach)) (Err error)
      → FindsTested (test_failed (receiver_by s) attach) (Some told)
  receiver_fails error told is by =
      subst (λ (r : AttachRefusal). FindsTested (test_failed (receiver_by s) attach) (Some r)) (sym is)
      (judged (first_of (receiver_tests s.source s.target attach)) error by)

pub ruleset tests = (sender_passes, sender_fails, receiver_passes, receiver_fails)
