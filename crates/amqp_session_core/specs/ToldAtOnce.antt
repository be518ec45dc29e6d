-- A session takes a transfer at once that brings a whole message, beside `TransferAnswered`, by which it answers any:
-- part 2, 2.5.6, 2.6.14 and 2.7.5.
use Rattle.std.specs.Prelude.{◌≡◌, ℕ, Bool, true, false, List, Option, Some, None, IsSome, Ok, if◌then◌else◌}
use Rattle.amqp_session_performatives.specs.declared.transfer.Transfer.{Transfer}
use Rattle.amqp_session_performatives.specs.declared.session_frame.SessionFrame.{SessionFrame}
use Rattle.amqp_session_core.specs.declared.at_once.TakenAtOnce.{TakenAtOnce}
use Rattle.amqp_session_core.specs.AtOnce.{is_settled, numbered}
use Rattle.amqp_session_core.specs.Frames.{session_flow}
use Rattle.amqp_session_core.specs.Relay.{Relations}
use Rattle.amqp_session_core.specs.State.{State, link_at, reached}
use Rattle.amqp_session_core.specs.Steps.{Step, Changes}
use Rattle.amqp_session_core.specs.Told.{TransferAnswered}

-- the session's own Flow
abbrev pub own_flow : {R : Type 0} → State R → SessionFrame
own_flow s = session_flow s.fields (s.outgoing).next_outgoing_id

-- it is to be sent where it is due
abbrev pub due_flow : {R : Type 0} → State R → Bool → Option SessionFrame
due_flow s is_due = if is_due then Some (own_flow s) else None

module _ {R A T D : Type 0} (gives : Relations R A T D) (tells : Transfer → List ℕ → T) (names : R → Transfer → ℕ → R)
  where
    -- the message of the link with an own handle bears its owner's number from now on, unless it is settled
    abbrev pub NamesUnless : Bool → ℕ → R → Transfer → ℕ → State R → State R → Type 0
    NamesUnless true handle link t message old new = new ≡ old
    NamesUnless false handle link t message old new = Step gives old (Changes handle link (names link t message)) new

    -- the transfer is answered as any is, by the link that stands in the session then; and that has its message bear its
    -- owner's number, unless it is settled. What waits for the peer's window stays
    pub record TakesMessage (old : State R) (t : Transfer) (payload : List ℕ) (message : ℕ) (taken : TakenAtOnce)
        (new : State R) : Type 0 where
      pub number : IsSome t.delivery_id
      pub tag : IsSome t.delivery_tag
      pub reaches : reached old (t.handle).0 ≡ Some (taken.handle).0
      pub mid : State R
      pub answered : TransferAnswered gives old t payload
          (Ok (record { told = tells t payload; flow = due_flow new taken.is_due })) mid
      pub link : R
      pub there : link_at mid (taken.handle).0 ≡ Some link
      pub named : NamesUnless (is_settled t) (taken.handle).0 link t message mid new
      pub stands : link_at new (taken.handle).0 ≡ Some (numbered names link t message)
      pub channel : (new.fields).channel ≡ (old.fields).channel
      pub waits : new.outgoing ≡ old.outgoing

    -- or nothing changes
    abbrev pub TakesAtOnce : State R → Transfer → List ℕ → ℕ → Option TakenAtOnce → State R → Type 0
    TakesAtOnce old t payload message None new = new ≡ old
    TakesAtOnce old t payload message (Some taken) new = TakesMessage old t payload message taken new
