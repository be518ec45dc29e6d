-- A link with the number by which its endpoint names it.
use Rattle.std.specs.Prelude.{◌≡◌, ℕ, List, [], ◌∷◌}
use Rattle.amqp_session_performatives.specs.declared.transfer.Transfer.{Transfer}
use Rattle.amqp_session_core.specs.Relay.{LinkAct, Relations, Attaches, Flows, Transfers, Disposes, Detaches}
use Rattle.amqp_session_core.specs.Relay.{SendsBatch, SendsFrame, SendsDisposition, Changes}
use Rattle.amqp_endpoint_links.specs.declared.numbered.Numbered.{Numbered}

module _ {R : Type 0} where
  -- what is done to a link, and its number stays
  abbrev pub keeping : (R → R → Type 0) → Numbered R → Numbered R → Type 0
  keeping does old new = does old.link new.link × (new.number ≡ old.number)

  -- the message that a transfer brought to the link bears a number of its own, and the link's number stays
  abbrev pub naming : (R → Transfer → ℕ → R) → Numbered R → Transfer → ℕ → Numbered R
  naming names old t message = record old { link = names old.link t message }

module _ {R A T D : Type 0} where
  -- a link with its number takes each frame as the link does
  abbrev pub numbered : Relations R A T D → Relations (Numbered R) A T D
  numbered gives =
      record {
        attaches = λ old attach told new. keeping (λ a b. gives.attaches a attach told b) old new;
        flows = λ old flow told new. keeping (λ a b. gives.flows a flow told b) old new;
        transfers = λ old transfer payload told new. keeping (λ a b. gives.transfers a transfer payload told b) old new;
        disposes = λ old tag role settled state echo new.
            keeping (λ a b. gives.disposes a tag role settled state echo b) old new;
        detaches = λ old detach told new. keeping (λ a b. gives.detaches a detach told b) old new;
      }

  -- the steps of the link
  abbrev pub without_number : LinkAct (Numbered R) A T D → LinkAct R A T D
  without_number (Attaches attach told) = Attaches attach told
  without_number (Flows flow told) = Flows flow told
  without_number (Transfers transfer payload told) = Transfers transfer payload told
  without_number (Disposes tag role settled state echo) = Disposes tag role settled state echo
  without_number (Detaches detach told) = Detaches detach told
  without_number (SendsBatch batch) = SendsBatch batch
  without_number (SendsFrame frame) = SendsFrame frame
  without_number (SendsDisposition disposition) = SendsDisposition disposition
  without_number (Changes before after) = Changes before.link after.link

  abbrev pub without_numbers : List (LinkAct (Numbered R) A T D) → List (LinkAct R A T D)
  without_numbers [] = []
  without_numbers (step ∷ steps) = without_number step ∷ without_numbers steps
