-- A link takes a transfer at once that brings a whole message, beside the general way of `Relations`, by
-- which it takes any: part 2, 2.6.14 and 2.7.5.
use Rattle.std.specs.Prelude.{◌≡◌, ℕ, Bool, true, false, List, [], Option, IsSome, Result, Ok, unwrap_or}
use Rattle.std.specs.Prelude.{if◌then◌else◌}
use Rattle.amqp_session_performatives.specs.declared.transfer.Transfer.{Transfer}
use Rattle.amqp_session_core.specs.declared.relay.Registration.{Registration}
use Rattle.amqp_session_core.specs.declared.relay.Registration.TheVariants.{Unchanged, Unsettled}
use Rattle.amqp_session_core.specs.declared.relay.RelayError.{RelayError}
use Rattle.amqp_session_core.specs.declared.relay.TransferAnswer.{TransferAnswer}
use Rattle.amqp_session_core.specs.State.{StepsAt}

-- a delivery that one transfer brings whole is settled only where that says so
abbrev pub is_settled : Transfer → Bool
is_settled t = unwrap_or t.settled false

-- what becomes of it in its session
abbrev pub registration_of : Transfer → Registration
registration_of t =
    if is_settled t then Unchanged else Unsettled (unwrap_or t.delivery_id 0) (unwrap_or t.delivery_tag [])

-- what a link answers to the transfer, and tells
abbrev pub answer_of : {T : Type 0} → Transfer → T → TransferAnswer T
answer_of t told = record { registration = registration_of t; told = told }

-- the link, once its message bears its owner's number, unless it is settled
abbrev pub numbered : {R : Type 0} → (R → Transfer → ℕ → R) → R → Transfer → ℕ → R
numbered names link t message = if is_settled t then link else names link t message

module _ {R T : Type 0} (gives : R → Transfer → List ℕ → Result (TransferAnswer T) RelayError → R → Type 0)
    (tells : Transfer → List ℕ → T) (names : R → Transfer → ℕ → R) where
  -- the transfer says the number and the tag of its delivery, and is taken as any is; its message bears its owner's
  -- number then, unless it is settled
  pub record TakesMessage (old : R) (t : Transfer) (payload : List ℕ) (message : ℕ) (new : R) : Type 0 where
    pub number : IsSome t.delivery_id
    pub tag : IsSome t.delivery_tag
    pub mid : R
    pub taken : gives old t payload (Ok (answer_of t (tells t payload))) mid
    pub named : new ≡ numbered names mid t message

  -- or nothing changes
  abbrev pub TakesAtOnce : R → Transfer → List ℕ → ℕ → Bool → R → Type 0
  TakesAtOnce old t payload message false new = new ≡ old
  TakesAtOnce old t payload message true new = TakesMessage old t payload message new

  -- so does the link with an own handle
  abbrev pub LinkTakesAtOnce : ℕ → List (Option R) → Transfer → List ℕ → ℕ → Bool → List (Option R) → Type 0
  LinkTakesAtOnce handle old t payload message false new = new ≡ old
  LinkTakesAtOnce handle old t payload message true new =
      StepsAt (λ before after. TakesMessage before t payload message after) old handle new
