-- A sending link's own history inside that of a link as its session sees it.
use Rattle.std.proofs.Common.{◌≡◌, ℕ, Bool, List, [], ◌∷◌, ◌++◌, Option, Result, Ok, Err, alloc_error, refl, sym, ap, ◌∙◌, append_assoc, subst, true, false, if◌then◌else◌}
use Rattle.amqp_session_types.specs.declared.modes.Role.{Role}
use Rattle.amqp_session_types.specs.declared.modes.Role.TheVariants as role
use Rattle.amqp_session_states.specs.declared.delivery_state.DeliveryState.{DeliveryState}
use Rattle.amqp_session_performatives.specs.declared.attach.Attach.{Attach}
use Rattle.amqp_session_performatives.specs.declared.detach.Detach.{Detach}
use Rattle.amqp_session_performatives.specs.declared.link_flow.LinkFlow.{LinkFlow}
use Rattle.amqp_session_performatives.specs.declared.transfer.Transfer.{Transfer}
use Rattle.amqp_session_core.specs.Relay.{LinkStep, OwnerKeeps, StepKeeps, Attaches, Flows, Transfers, Disposes}
use Rattle.amqp_session_core.specs.Relay.{Detaches, SendsBatch, SendsFrame, SendsDisposition, Changes}
use Rattle.amqp_session_core.specs.declared.relay.RelayError.{RelayError}
use Rattle.amqp_session_core.specs.declared.relay.RelayError.TheVariants.{UnattachedHandle, TransferFrameToSender, Memory}
use Rattle.amqp_session_core.specs.declared.relay.TransferAnswer.{TransferAnswer}
use Rattle.amqp_link_receiver.specs.declared.answer.Told.{Told}
use Rattle.amqp_link.specs.Gives.{attaches, detaches, disposes, flows_at, transfers_at}
use Rattle.amqp_link.specs.Standing.{standing_of}
use Rattle.amqp_link.specs.declared.end.End.{End}
use Rattle.amqp_link.specs.declared.end.End.TheVariants.{Sender, Receiver}
use Rattle.amqp_link.specs.declared.relay.AttachTold.{AttachTold}
use Rattle.amqp_link.specs.declared.relay.AttachTold.TheVariants as told
use Rattle.amqp_link.specs.declared.standing.Standing.{Standing}
use Rattle.amqp_link.specs.declared.standing.Standing.TheVariants.{Attached, Detaching, Apart}
use Rattle.amqp_link_sender.specs.Dispositions.{disposed}
use Rattle.amqp_link_sender.specs.Sending.{Sending, flowed}
use Rattle.amqp_link_sender.specs.declared.ending.DetachRefusal.TheVariants as refusal
use Rattle.amqp_link_base.specs.declared.detached.Detached.{Detached}
use Rattle.amqp_link.specs.History.{SenderHistory, SenderAct, SenderStep, TakesItsAttach, TakesFlow, TakesDisposition}
use Rattle.amqp_link.specs.History.{TakesItsDetach}
use Rattle.amqp_link.specs.Owner.{EndHistory, EndAct, Owns, change_of, changes_in, changes_of, end_gives, is_owners}
use Rattle.amqp_link.specs.Owner.{owned}

-- a sending link with a history behind it, in which its owner does these things
abbrev Own : Sending → End → List SenderAct → Type 0
Own start mid did =
    (after : Sending) × (own : List SenderAct) × (mid ≡ Sender after)
    × SenderHistory start own after × (owned own ≡ did)

stays : (s : Sending) (mid : End) → mid ≡ Sender s → Own s mid []
stays s mid is = (s, [], is, refl, refl)

does : (s after : Sending) (mid : End) (step : SenderAct) (did : List SenderAct) → owned (step ∷ []) ≡ did
    → mid ≡ Sender after → SenderStep s step after → Own s mid did
does s after mid step did part is steps = (after, step ∷ [], is, (after, steps, refl), part)

attached : (s : Sending) (attach : Attach) (answer : Result AttachTold RelayError) (mid : End)
    → attaches (Sender s) attach answer mid → Own s mid []
attached s attach (Ok (told.Sender answer)) (Sender after) h =
    does s after (Sender after) (TakesItsAttach attach (Ok answer)) [] refl refl h
attached s attach (Ok (told.Sender answer)) (Receiver r) h = absurd h
attached s attach (Ok (told.Receiver answer)) (Sender after) h = absurd h
attached s attach (Ok (told.Receiver answer)) (Receiver r) h = absurd h
attached s attach (Err Memory) (Sender after) h =
    does s after (Sender after) (TakesItsAttach attach (Err alloc_error)) [] refl refl h
attached s attach (Err Memory) (Receiver r) h = absurd h
attached s attach (Err UnattachedHandle) (Sender after) h = absurd h
attached s attach (Err UnattachedHandle) (Receiver r) h = absurd h
attached s attach (Err TransferFrameToSender) (Sender after) h = absurd h
attached s attach (Err TransferFrameToSender) (Receiver r) h = absurd h

flows : (at : Standing) (s : Sending) (flow : LinkFlow) (answer : Result (Option LinkFlow) RelayError) (mid : End)
    → flows_at at (Sender s) flow answer mid → Own s mid []
flows Attached s flow answer mid (told, is) = does s (flowed s flow) mid (TakesFlow flow) [] refl is refl
flows Detaching s flow answer mid (told, is) = stays s mid is
flows Apart s flow answer mid (told, is) = stays s mid is

transfers : (at : Standing) (s : Sending) (transfer : Transfer) (payload : List ℕ)
    (answer : Result (TransferAnswer Told) RelayError) (mid : End)
    → transfers_at at (Sender s) transfer payload answer mid → Own s mid []
transfers Attached s transfer payload answer mid (told, is) = stays s mid is
transfers Detaching s transfer payload answer mid (told, is) = stays s mid is
transfers Apart s transfer payload answer mid (told, is) = stays s mid is

disposition : (s : Sending) (tag : List ℕ) (r : Role) (settled : Bool) (state : Option DeliveryState) (echo : Bool)
    (mid : End)
    → disposes (Sender s) tag r settled state echo mid → Own s mid []
disposition s tag role.Receiver settled state echo mid (told, is) =
    does s (disposed s tag settled state) mid (TakesDisposition tag settled state) [] refl is refl
disposition s tag role.Sender settled state echo mid (told, is) = stays s mid is

detached : (s : Sending) (detach : Detach) (answer : Result Detached RelayError) (mid : End)
    → detaches (Sender s) detach answer mid → Own s mid []
detached s detach (Ok told) (Sender after) h =
    does s after (Sender after) (TakesItsDetach detach.closed detach.error (Ok told)) [] refl refl h
detached s detach (Ok told) (Receiver r) h = absurd h
detached s detach (Err UnattachedHandle) (Sender after) h =
    does s after (Sender after) (TakesItsDetach detach.closed detach.error (Err refusal.IllegalState)) [] refl refl h
detached s detach (Err UnattachedHandle) (Receiver r) h = absurd h
detached s detach (Err Memory) (Sender after) h =
    does s after (Sender after) (TakesItsDetach detach.closed detach.error (Err refusal.Memory)) [] refl refl h
detached s detach (Err Memory) (Receiver r) h = absurd h
detached s detach (Err TransferFrameToSender) (Sender after) h = absurd h
detached s detach (Err TransferFrameToSender) (Receiver r) h = absurd h

changed : (s : Sending) (before after mid : End) → Sender s ≡ before → mid ≡ after → (owns : Owns before after)
    → Own s mid (change_of before after owns)
changed s (Sender b) (Sender a) mid was is owns =
    let same : b ≡ s = cc in
    let P : Sending → Type 0 = λ x. SenderStep x owns.step a in
    does s a mid owns.step (owns.step ∷ [])
    (ap (λ (b : Bool). (if b then owns.step ∷ [] else []) ++ []) owns.owned) is (subst P same owns.steps)
changed s (Sender b) (Receiver r) mid was is owns = absurd owns
changed s (Receiver b) (Sender a) mid was is owns = absurd owns
changed s (Receiver b) (Receiver r) mid was is owns = absurd cc

-- one step
one : (s : Sending) (mid : End) (step : EndAct) → LinkStep end_gives (Sender s) step mid
    → (keeps : StepKeeps Owns step) → Own s mid (changes_in step keeps)
one s mid (Attaches attach answer) h keeps = attached s attach answer mid h
one s mid (Flows flow answer) h keeps = flows (standing_of s.base.local_state) s flow answer mid h
one s mid (Transfers transfer payload answer) h keeps =
    transfers (standing_of s.base.local_state) s transfer payload answer mid h
one s mid (Disposes tag r settled state echo) h keeps = disposition s tag r settled state echo mid h
one s mid (Detaches detach answer) h keeps = detached s detach answer mid h
one s mid (SendsBatch batch) h keeps = stays s mid h
one s mid (SendsFrame frame) h keeps = stays s mid h
one s mid (SendsDisposition d) h keeps = stays s mid h
one s mid (Changes before after) (was, is) keeps = changed s before after mid was is keeps

-- one history behind another
joined : (start mid end : Sending) (xs ys : List SenderAct) → SenderHistory start xs mid → SenderHistory mid ys end
    → SenderHistory start (xs ++ ys) end
joined start mid end [] ys first second = let P : Sending → Type 0 = λ x. SenderHistory x ys end in subst P first second
joined start mid end (x ∷ xs) ys (next, steps, rest) second = (next, steps, joined next mid end xs ys rest second)

owned-append : (xs ys : List SenderAct) → owned (xs ++ ys) ≡ owned xs ++ owned ys
owned-append [] ys = refl
owned-append (x ∷ xs) ys =
    let first : List SenderAct = if is_owners x then x ∷ [] else [] in
    ap (λ (l : List SenderAct). first ++ l) (owned-append xs ys) ∙ sym (append_assoc first (owned xs) (owned ys))

behind : (start : Sending) (mid end : End) (steps : List EndAct) (did later : List SenderAct) → Own start mid did
    → EndHistory mid steps end → ((s : Sending) → EndHistory (Sender s) steps end → Own s end later)
    → Own start end (did ++ later)
behind start mid end steps did later (after, own, is, history, part) others go =
    let P : End → Type 0 = λ x. EndHistory x steps end in
    further after (go after (subst P is others)) history
  where
    further : (after : Sending) → Own after end later → SenderHistory start own after → Own start end (did ++ later)
    further after (last, more, is, rest, others) history = (
      last,
      own ++ more,
      is,
      joined start after last own more history rest,
      owned-append own more
          ∙ ap (λ (l : List SenderAct). l ++ owned more) part
          ∙ ap (λ (l : List SenderAct). did ++ l) others,
    )

pub has_history : (start : Sending) (end : End) (steps : List EndAct) → EndHistory (Sender start) steps end
    → (keeps : OwnerKeeps Owns steps) → Own start end (changes_of steps keeps)
has_history start end [] is keeps = stays start end is
has_history start end (step ∷ steps) (mid, first, others) (keep, keeps) =
    behind start mid end steps (changes_in step keep) (changes_of steps keeps) (one start mid step first keep) others
    (λ s h. has_history s end steps h keeps)
