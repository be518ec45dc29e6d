-- What is known of a conversation's calls, whatever its links are: what they hand out fits the peer's limit, where all
-- that waits does; and where no session goes on, they hand out nothing (part 2, 2.4.1, 2.5.6).
use Rattle.std.specs.Prelude.{◌≡◌, ◌≤◌, ℕ, List, ◌++◌, Some, None, Ok, true, All}
use Rattle.std.specs.Global.{Box}
use Rattle.amqp_session_performatives.specs.declared.link_flow.LinkFlow.{LinkFlow}
use Rattle.amqp_session_performatives.specs.declared.session_frame.SessionFrame.{SessionFrame}
use Rattle.amqp_session_core.specs.Relay.{Relations}
use Rattle.amqp_session_core.specs.State.{State}
use Rattle.amqp_endpoint_links.specs.declared.asking.AskingSession.{AskingSession}
use Rattle.amqp_endpoint_tables.specs.State.{live_at}
use Rattle.amqp_endpoint_conversation.specs.declared.conversation.Conversation.{Conversation}
use Rattle.amqp_endpoint_model.specs.Relay.{StandsStill}
use Rattle.amqp_endpoint_model.specs.State.{fits, frame_of}
use Rattle.amqp_endpoint_fitting.specs.Fits.{QueuesFit}

-- each of these frames fits the limit
abbrev pub AllFit : ℕ → List SessionFrame → Type 0
AllFit limit frames = All (λ f. fits limit (frame_of f) ≡ true) frames

-- what a link answers to a Flow has no properties (part 2, 2.7.4)
abbrev pub AnswersPlain : {R A T D : Type 0} → Relations R A T D → Type 0
AnswersPlain {R} gives =
    (before after : R) (flow answer : LinkFlow) → gives.flows before flow (Ok (Some answer)) after
    → answer.properties ≡ None

module _ {R : Type 0} where
  -- what waits for the peer's window in a session fits the limit (part 2, 2.5.6)
  abbrev pub FitsIn : ℕ → State R → Type 0
  FitsIn limit s = QueuesFit ((s.fields).channel).0 limit (s.outgoing).queues

  -- in each session that has begun it does
  abbrev pub Within : ℕ → Conversation R → Type 0
  Within limit talk =
      (number : ℕ) (session : Box (AskingSession R)) → live_at talk.sessions number ≡ Some session
      → FitsIn limit (session.value).session

  -- no session has begun that its own side didn't end
  abbrev pub NoneLive : Conversation R → Type 0
  NoneLive talk = (number : ℕ) → live_at talk.sessions number ≡ None

  -- from one conversation to the next what waits goes on to fit, the connection stands still, and frames were handed
  -- out that fit
  pub record Goes (limit : ℕ) (old new : Conversation R) (out out_new : List SessionFrame) : Type 0 where
    pub waits : Within limit old → Within limit new
    pub still : StandsStill (old.sessions).connection (new.sessions).connection
    pub frames : List SessionFrame
    pub queued : out_new ≡ out ++ frames
    pub fit : 512 ≤ limit → Within limit old → AllFit limit frames

  -- where no session goes on none does then, and nothing was handed out
  pub record Rests (old new : Conversation R) (out out_new : List SessionFrame) : Type 0 where
    pub silent : NoneLive old → out_new ≡ out
    pub idle : NoneLive old → NoneLive new
