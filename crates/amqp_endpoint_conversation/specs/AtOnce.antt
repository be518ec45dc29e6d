-- A transfer that brings a whole message, taken at once by the session that its channel reaches, beside `Answered`, by
-- which what is said is answered: part 2, 2.5.6, 2.6.14 and 2.7.5.
use Rattle.std.specs.Prelude.{◌≡◌, ℕ, Bool, true, false, List, [], Option, Some, None, IsSome, Ok}
use Rattle.std.specs.Box.{with_value}
use Rattle.std.specs.Global.{Box}
use Rattle.amqp_session_types.specs.declared.channels.IncomingChannel.{IncomingChannel}
use Rattle.amqp_session_performatives.specs.declared.transfer.Transfer.{Transfer}
use Rattle.amqp_session_core.specs.AtOnce.{is_settled, numbered}
use Rattle.amqp_session_core.specs.Relay.{Relations}
use Rattle.amqp_session_core.specs.State.{State, link_at, reached}
use Rattle.amqp_session_core.specs.Steps as session_steps
use Rattle.amqp_session_core.specs.ToldAtOnce.{TakesMessage, due_flow}
use Rattle.amqp_session_core.specs.declared.at_once.TakenAtOnce.{TakenAtOnce}
use Rattle.amqp_endpoint_links.specs.declared.asking.AskingSession.{AskingSession}
use Rattle.amqp_endpoint_links.specs.declared.hearing.LinkPerformative.TheVariants as said
use Rattle.amqp_endpoint_links.specs.declared.hearing.PerformativeTaken.TheVariants as performed
use Rattle.amqp_endpoint_tables.specs.Lends.{set_live}
use Rattle.amqp_endpoint_tables.specs.State.{live_at}
use Rattle.amqp_endpoint_tables.specs.Steps.{Step, ChangesLive}
use Rattle.amqp_endpoint_conversation.specs.declared.conversation.Conversation.{Conversation}
use Rattle.amqp_endpoint_conversation.specs.declared.hearing.Heard.TheVariants.{Live}
use Rattle.amqp_endpoint_conversation.specs.Hearing.{Answered}

module _ {R A T D : Type 0} (gives : Relations R A T D) (tells : Transfer → List ℕ → T) (names : R → Transfer → ℕ → R)
  where
    -- the session with this number, which has begun, took it
    pub record LiveTakes (old : Conversation R) (number : ℕ) (t : Transfer) (payload : List ℕ) (message : ℕ)
        (taken : TakenAtOnce) (new : Conversation R) : Type 0 where
      pub before : Box (AskingSession R)
      pub after : State R
      pub live : live_at old.sessions number ≡ Some before
      pub took : TakesMessage gives tells names (before.value).session t payload message taken after
      pub becomes : new ≡ record old {
        sessions = set_live old.sessions number (with_value before (record before.value { session = after }));
      }

    -- or nothing changes
    abbrev pub LiveTakesAtOnce : Conversation R → ℕ → Transfer → List ℕ → ℕ → Option TakenAtOnce → Conversation R → Type 0
    LiveTakesAtOnce old number t payload message None new = new ≡ old
    LiveTakesAtOnce old number t payload message (Some taken) new = LiveTakes old number t payload message taken new

    -- in the session with this number, which goes on, the message of the link with an own handle bears its owner's number
    pub record NamesIn (old : Conversation R) (number handle : ℕ) (link : R) (t : Transfer) (message : ℕ)
        (new : Conversation R) : Type 0 where
      pub before : Box (AskingSession R)
      pub after : Box (AskingSession R)
      pub changed :
          session_steps.Step gives (before.value).session (session_steps.Changes handle link (names link t message))
          (after.value).session
      pub alone : after.value ≡ record before.value { session = (after.value).session }
      pub stepped : Step old.sessions (ChangesLive number before after) new.sessions
      pub rest : new ≡ record old { sessions = new.sessions }

    -- unless it is settled
    abbrev pub NamesUnless : Bool → Conversation R → ℕ → ℕ → R → Transfer → ℕ → Conversation R → Type 0
    NamesUnless true old number handle link t message new = new ≡ old
    NamesUnless false old number handle link t message new = NamesIn old number handle link t message new

    -- the transfer says the number and the tag of its delivery. It is answered as any is, by the link that its handle
    -- reached; and that has its message bear its owner's number then, unless it is settled
    pub record TakesWhole (old : Conversation R) (channel : IncomingChannel) (t : Transfer) (payload : List ℕ)
        (message : ℕ) (number : ℕ) (taken : TakenAtOnce) (new : Conversation R) : Type 0 where
      pub delivery : IsSome t.delivery_id
      pub tag : IsSome t.delivery_tag
      -- the session and its link, as the transfer reaches them
      pub stood : Box (AskingSession R)
      pub live : live_at old.sessions number ≡ Some stood
      pub reaches : reached (stood.value).session (t.handle).0 ≡ Some (taken.handle).0
      -- as it is answered
      pub mid : Conversation R
      pub between : Box (AskingSession R)
      pub going : live_at mid.sessions number ≡ Some between
      pub link : R
      pub there : link_at (between.value).session (taken.handle).0 ≡ Some link
      -- and as they stand then
      pub after : Box (AskingSession R)
      pub goes_on : live_at new.sessions number ≡ Some after
      pub answered : Answered gives old [] channel (said.Transfer t payload)
          (Ok (Live number (performed.Transfer
          (record { told = tells t payload; flow = due_flow (after.value).session taken.is_due })))) mid []
      pub stands : link_at (after.value).session (taken.handle).0 ≡ Some (numbered names link t message)
      pub named : NamesUnless (is_settled t) mid number (taken.handle).0 link t message new

    -- or nothing changes
    abbrev pub TakesAtOnce : Conversation R → IncomingChannel → Transfer → List ℕ → ℕ → Option (ℕ × TakenAtOnce)
        → Conversation R → Type 0
    TakesAtOnce old channel t payload message None new = new ≡ old
    TakesAtOnce old channel t payload message (Some it) new = TakesWhole old channel t payload message it.0 it.1 new
