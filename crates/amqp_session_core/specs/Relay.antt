-- What a link is to its session, and histories of a link.
use Rattle.std.specs.Prelude.{◌≡◌, ℕ, List, [], ◌∷◌, Bool, Option, Result}
use Rattle.amqp_session_types.specs.declared.modes.Role.{Role}
use Rattle.amqp_session_types.specs.declared.refusals.SessionError.{SessionError}
use Rattle.amqp_session_types.specs.declared.refusals.SessionError.TheVariants as session
use Rattle.amqp_session_states.specs.declared.delivery_state.DeliveryState.{DeliveryState}
use Rattle.amqp_session_performatives.specs.declared.attach.Attach.{Attach}
use Rattle.amqp_session_performatives.specs.declared.detach.Detach.{Detach}
use Rattle.amqp_session_performatives.specs.declared.transfer.Transfer.{Transfer}
use Rattle.amqp_session_performatives.specs.declared.link_flow.LinkFlow.{LinkFlow}
use Rattle.amqp_session_performatives.specs.declared.disposition.Disposition.{Disposition}
use Rattle.amqp_session_core.specs.declared.batch.BehindFrame.{BehindFrame}
use Rattle.amqp_session_core.specs.declared.relay.RelayError.{RelayError}
use Rattle.amqp_session_core.specs.declared.relay.RelayError.TheVariants as relay
use Rattle.amqp_session_core.specs.declared.relay.TransferAnswer.{TransferAnswer}
use Rattle.amqp_session_core.specs.Batch.{Transfers as Batch}

-- the session's error for a link's
abbrev pub session_error : RelayError → SessionError
session_error relay.UnattachedHandle = session.UnattachedHandle
session_error relay.TransferFrameToSender = session.TransferFrameToSender
session_error relay.Memory = session.Memory

-- what the calls of a link do: the link before, the frame, what the link tells of it, and the link behind
pub record Relations (R A T D : Type 0) : Type 1 where
  pub attaches : R → Attach → Result A RelayError → R → Type 0
  -- a link tells the Flow that it answers with, if any
  pub flows : R → LinkFlow → Result (Option LinkFlow) RelayError → R → Type 0
  -- a transfer comes with its payload
  pub transfers : R → Transfer → List ℕ → Result (TransferAnswer T) RelayError → R → Type 0
  -- a disposition reaches the delivery with a tag, by the role of the peer, whether the peer settled it,
  -- and its state there. A link tells whether it wants it echoed
  pub disposes : R → List ℕ → Role → Bool → Option DeliveryState → Bool → R → Type 0
  pub detaches : R → Detach → Result D RelayError → R → Type 0

-- a frame that a link takes, and what it tells of it; or what its owner does: sends for it, or changes it
pub data LinkAct (R A T D : Type 0) : Type 0 where
  Attaches : (attach : Attach) (told : Result A RelayError) → LinkAct R A T D
  Flows : (flow : LinkFlow) (told : Result (Option LinkFlow) RelayError) → LinkAct R A T D
  Transfers : (transfer : Transfer) (payload : List ℕ) (told : Result (TransferAnswer T) RelayError) → LinkAct R A T D
  Disposes : (tag : List ℕ) (role : Role) (settled : Bool) (state : Option DeliveryState) (echo : Bool)
      → LinkAct R A T D
  Detaches : (detach : Detach) (told : Result D RelayError) → LinkAct R A T D
  -- transfers of the link are sent
  SendsBatch : (batch : Batch) → LinkAct R A T D
  -- a Flow or a Detach of the link is sent
  SendsFrame : (frame : BehindFrame) → LinkAct R A T D
  -- a disposition of its session is sent, which may be of deliveries of any link (part 2, 2.7.6)
  SendsDisposition : (disposition : Disposition) → LinkAct R A T D
  -- the link before a change and behind it
  Changes : (before after : R) → LinkAct R A T D

module _ {R A T D : Type 0} (gives : Relations R A T D) where
  -- the link before and behind
  abbrev pub LinkStep : R → LinkAct R A T D → R → Type 0
  LinkStep old (Attaches attach told) new = gives.attaches old attach told new
  LinkStep old (Flows flow told) new = gives.flows old flow told new
  LinkStep old (Transfers transfer payload told) new = gives.transfers old transfer payload told new
  LinkStep old (Disposes tag role settled state echo) new = gives.disposes old tag role settled state echo new
  LinkStep old (Detaches detach told) new = gives.detaches old detach told new
  LinkStep old (SendsBatch batch) new = new ≡ old
  LinkStep old (SendsFrame frame) new = new ≡ old
  LinkStep old (SendsDisposition disposition) new = new ≡ old
  LinkStep old (Changes before after) new = (old ≡ before) × (new ≡ after)

  -- the links around a list of steps
  abbrev pub LinkHistory : R → List (LinkAct R A T D) → R → Type 0
  LinkHistory start [] end = end ≡ start
  LinkHistory start (step ∷ steps) end = (mid : R) × LinkStep start step mid × LinkHistory mid steps end

module _ {R A T D : Type 0} (keeps : R → R → Type 0) where
  -- where the owner changes the link, the change keeps a relation
  abbrev pub StepKeeps : LinkAct R A T D → Type 0
  StepKeeps (Changes before after) = keeps before after
  StepKeeps step = Unit {0}

  -- each of the owner's changes does
  abbrev pub OwnerKeeps : List (LinkAct R A T D) → Type 0
  OwnerKeeps [] = Unit {0}
  OwnerKeeps (step ∷ steps) = StepKeeps step × OwnerKeeps steps
