-- What a step makes of how often a tag stands among the open messages and those that ended.
use Rattle.std.proofs.Common.{◌≡◌, ◌⊎◌, inl, inr, ℕ, ◌+◌, Bool, true, false, List, [], ◌∷◌, ◌++◌, Option, Some, None, option_map, Result, refl, ap, ◌∙◌, arith, if◌then◌else◌}
use Rattle.std.specs.Option.{option_to_list}
use Rattle.std.specs.declared.alloc.AllocError.{AllocError}
use Rattle.amqp_session_types.specs.declared.error.Error.{Error}
use Rattle.amqp_session_performatives.specs.declared.attach.Attach.{Attach}
use Rattle.amqp_link_base.specs.State.{after_break, is_attached}
use Rattle.amqp_link_base.specs.Moves.{sent_attach, sent_detach, took_attach, took_detach}
use Rattle.amqp_link_base.specs.declared.base.IllegalState.{IllegalState}
use Rattle.amqp_link_base.specs.declared.base.LinkBase.{LinkBase}
use Rattle.amqp_link_base.specs.declared.inner.LinkFlowStateInner.{LinkFlowStateInner}
use Rattle.amqp_link_base.specs.Flows.{sender_flowed}
use Rattle.amqp_link_types.specs.declared.attaching.SenderAttachError.{SenderAttachError}
use Rattle.amqp_link_unsettled.specs.Messages.{MessageLists}
use Rattle.amqp_link_unsettled.specs.declared.open.Open.{Open}
use Rattle.amqp_link_unsettled.specs.declared.resolution.Failure.{Failure}
use Rattle.amqp_link_unsettled.specs.declared.resolution.Failure.TheVariants as failure
use Rattle.amqp_link_unsettled.specs.declared.resolution.Resolution.{Resolution}
use Rattle.amqp_link_sender.specs.Attaching.{TakesMoved, TakesTested, attach_refusal, with_attach_sent}
use Rattle.amqp_link_sender.specs.Ending.{TakesDetach, ended, error_kept, given_error, why_closed}
use Rattle.amqp_link_base.specs.Moves.{is_closed}
use Rattle.amqp_link_sender.specs.Sending.{MovesLink, Sending}
use Rattle.amqp_link_sender.specs.Sends.{sent}
use Rattle.amqp_link_sender.specs.declared.attaching.AttachAnswer.{AttachAnswer}
use Rattle.amqp_link_sender.specs.declared.ending.DetachRefusal.{DetachRefusal}
use Rattle.amqp_link_base.specs.declared.detached.Detached.{Detached}
use Rattle.amqp_link.specs.History.{SenderAct, SenderStep, TakesItsAttach, TakesFlow, TakesDisposition}
use Rattle.amqp_link.specs.History.{TakesItsDetach, MakesRoom, Sends, SendsOn, SendsAttach, SendsAttachAnew}
use Rattle.amqp_link.specs.History.{SendsDetach, Breaks, Takes, Sets, sent_by, taken_by, tag_of, key_of}
use Rattle.amqp_link.specs.Times.{once_if, times, times_in}
use Rattle.amqp_link.proofs.Counting.{total, in-append, total-disposed, total-exchanged, total-failed}

module _ (tag : List ℕ) where
  abbrev of : Sending → ℕ
  of s = total tag s.messages

  -- the receiver's Attach
  attach_tested : (e : Option SenderAttachError) (moved : LinkBase) (old new : Sending) (attach : Attach)
      (answer : Result AttachAnswer AllocError)
      → TakesTested e moved old attach answer new → of new ≡ of old
  attach_tested (Some error) moved old new attach answer (told, moves) = ap of moves
  attach_tested None moved old new attach answer (inl (told, same)) = ap of same
  attach_tested None moved old new attach answer (inr (told, taken)) =
      ap of taken ∙ total-exchanged tag old.messages attach.unsettled attach.incomplete_unsettled

  attach_moved : (o : Option LinkBase) (old new : Sending) (attach : Attach) (answer : Result AttachAnswer AllocError)
      → TakesMoved o old attach answer new → of new ≡ of old
  attach_moved None old new attach answer (told, same) = ap of same
  attach_moved (Some moved) old new attach answer taken =
      attach_tested (attach_refusal old attach) moved old new attach answer taken

  -- a frame that moves the link or doesn't
  moves : (b : Option LinkBase) (f : LinkBase → Sending) (old new : Sending) (answer : Result (Unit {0}) IllegalState)
      → ((x : LinkBase) → of (f x) ≡ of old) → MovesLink (option_map f b) old answer new → of new ≡ of old
  moves None f old new answer kept (told, same) = ap of same
  moves (Some x) f old new answer kept (told, moved) = ap of moved ∙ kept x

  detaches : (b : Option LinkBase) (f : LinkBase → Sending) (old new : Sending) (answer : Result Detached DetachRefusal)
      → ((x : LinkBase) → of (f x) ≡ of old) → TakesDetach (option_map f b) old answer new → of new ≡ of old
  detaches None f old new answer kept (told, same) = ap of same
  detaches (Some x) f old new answer kept (inl (told, same)) = ap of same
  detaches (Some x) f old new answer kept (inr (told, moved)) = ap of moved ∙ kept x

  -- an attachment that ends
  total-ended : (m : MessageLists) (b : Bool) (why : Failure) → total tag (ended m b why) ≡ total tag m
  total-ended m true why = total-failed tag m why
  total-ended m false why = refl

  -- a Flow
  flow_if : (b : Bool) (s : Sending) (f : LinkFlowStateInner) → of (if b then record s { flow = f } else s) ≡ of s
  flow_if true s f = refl
  flow_if false s f = refl

  -- a message that is sent
  of-sent : (s : Sending) (entry : Option Open) → of (sent s entry) ≡ of s + times tag (tag_of entry)
  of-sent s None = omega arith
  of-sent s (Some m) = omega (arith, in-append tag s.messages.unsettled ((m.tag, m) ∷ []))

  -- what its owner takes
  of-taken : (new : Sending) (taken : Option (List ℕ × Resolution))
      → of new + times tag (key_of taken)
      ≡ of (record new { messages = record new.messages { resolved = option_to_list taken ++ new.messages.resolved } })
  of-taken new None = omega arith
  of-taken new (Some e) = omega arith

  -- one step
  pub counted : (old new : Sending) (step : SenderAct) → SenderStep old step new
      → of new + times tag (taken_by step) ≡ of old + times tag (sent_by step)
  counted old new (TakesItsAttach attach answer) taken =
      omega (arith, attach_moved (took_attach old.base attach) old new attach answer taken)
  counted old new (TakesFlow flow) is =
      omega (arith, ap of is ∙ flow_if (is_attached old.base.local_state) old (sender_flowed old.flow flow))
  counted old new (TakesDisposition t settled state) is =
      omega (arith, ap of is ∙ total-disposed tag old.messages t settled state)
  counted old new (TakesItsDetach closed error answer) taken =
      omega (
        arith,
        detaches (took_detach old.base closed) _ old new answer (λ x. total-ended old.messages closed (why_closed error)) taken,
      )
  counted old new (MakesRoom count) is = omega (arith, ap of is)
  counted old new (Sends entry) is = omega (arith, ap of is ∙ of-sent old entry)
  counted old new SendsOn is = omega (arith, ap of is)
  counted old new (SendsAttach incomplete answer) moved =
      omega (
        arith,
        moves (sent_attach old.base incomplete) (λ x. with_attach_sent old x) old new answer (λ x. refl) moved,
      )
  counted old new (SendsAttachAnew answer) moved =
      omega (
        arith,
        moves (sent_attach old.base false) _ old new answer (λ x. total-failed tag old.messages failure.Closed) moved,
      )
  counted old new (SendsDetach closed answer) moved =
      omega (
        arith,
        moves (sent_detach old.base closed) _ old new answer (λ x. total-ended old.messages closed failure.Closed) moved,
      )
  counted old new Breaks is =
      omega (arith, ap of is ∙ total-ended old.messages (is_closed (after_break old.base.local_state)) failure.Closed)
  counted old new (Takes taken) is = omega (arith, of-taken new taken, ap of is)
  counted old new (Sets handle properties) is = omega (arith, ap of is)
