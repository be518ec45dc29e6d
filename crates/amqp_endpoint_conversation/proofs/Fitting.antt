-- What sessions make of what they hear, and of their own Begins and Flows, where what waits fits; and where none goes
-- on.
use Rattle.std.proofs.Common.{◌≡◌, ◌≤◌, ℕ, List, [], refl, sym, subst}
use Rattle.std.specs.Prelude.{All}
use Rattle.std.proofs.lemmas.List.Elements.{All-head}
use Rattle.amqp_session_types.specs.declared.channels.IncomingChannel.{IncomingChannel}
use Rattle.amqp_session_types.specs.declared.channels.OutgoingChannel.{OutgoingChannel}
use Rattle.amqp_session_performatives.specs.declared.begin.Begin.{Begin}
use Rattle.amqp_session_performatives.specs.declared.session_frame.SessionFrame.{SessionFrame}
use Rattle.amqp_session_core.specs.History.{frames_in}
use Rattle.amqp_session_core.specs.Relay.{Relations}
use Rattle.amqp_session_core.specs.State.{State}
use Rattle.amqp_session_core.specs.Steps.{Act, Step, TakesBegin, TellsFlow}
use Rattle.amqp_endpoint_links.specs.declared.asking.AskingSession.{AskingSession}
use Rattle.amqp_endpoint_links.specs.declared.hearing.LinkPerformative.{LinkPerformative}
use Rattle.amqp_endpoint_links.specs.History.{AskingHistory, AskingAct}
use Rattle.amqp_endpoint_fitting.specs.Fits.{FrameFits, QueuesFit}
use Rattle.amqp_endpoint_fitting.specs.Handed.{AllAskingEndFit, AllAskingHand, AllAskingSendFit, RepliesFit, SendsFit}
use Rattle.amqp_endpoint_fitting.specs.Read.{IsRead}
use Rattle.amqp_endpoint_fitting.proofs.Asked.{asking-channel, asking-gives, asking-waits, heard-gives, heard-waits}
use Rattle.amqp_endpoint_fitting.proofs.Handing.{step-channel, step-hands, step-waits}
use Rattle.amqp_endpoint_fitting.proofs.Lengths.{wider-queues}
use Rattle.amqp_endpoint_conversation.specs.Going.{AnswersPlain, FitsIn}
use Rattle.amqp_endpoint_conversation.proofs.Ends.{FitsAbove, fault-above}
use Rattle.amqp_endpoint_conversation.proofs.Handing.{one}
use Rattle.amqp_endpoint_conversation.proofs.HearingsFit.{BeginsSo, FailsSo, HearsSo}
use Rattle.amqp_endpoint_conversation.proofs.Tellings.{TellsSo}
use Rattle.amqp_endpoint_conversation.proofs.Goings.{Never, Nothing}

-- what fits a limit, once that is such as a peer may set
all-above : (limit : ℕ) (frames : List SessionFrame) → (512 ≤ limit → All (FrameFits limit) frames)
    → All (FitsAbove limit) frames
all-above limit frames fit k d below least = fit least k d below

-- what fits a limit fits a wider one
pub wider-fits : {R : Type 0} (limit wider : ℕ) (s : State R) → FitsIn limit s → limit ≤ wider → FitsIn wider s
wider-fits limit wider s fits more = wider-queues limit wider more ((s.fields).channel).0 (s.outgoing).queues fits

-- it fits on the same channel
on-channel : {R : Type 0} (limit : ℕ) (old new : State R) → (new.fields).channel ≡ (old.fields).channel
    → QueuesFit ((old.fields).channel).0 limit (new.outgoing).queues → FitsIn limit new
on-channel limit old new same fits =
    subst (λ (c : OutgoingChannel). QueuesFit c.0 limit (new.outgoing).queues) (sym same) fits

module _ {R A T D : Type 0} (gives : Relations R A T D) where
  -- no link answers a Flow with properties
  replies : AnswersPlain gives → RepliesFit gives
  replies plain = record { each = plain }

module _ {R A T D : Type 0} (gives : Relations R A T D) (limit : ℕ) where
  -- a step of a session
  one-waits : (old new : State R) (step : Act R A T D) → Step gives old step new
      → SendsFit ((old.fields).channel).0 limit step → FitsIn limit old → FitsIn limit new
  one-waits old new step does sends fits =
      on-channel limit old new (step-channel gives step old new does)
      (record { each = step-waits gives ((old.fields).channel).0 limit step old new does sends fits.each })

  one-leaves : (old new : State R) (step : Act R A T D) → Step gives old step new
      → SendsFit ((old.fields).channel).0 limit step → FitsIn limit old → 512 ≤ limit → All IsRead (frames_in step)
      → All (FrameFits limit) (frames_in step)
  one-leaves old new step does sends fits least read =
      step-hands gives limit step old new least does sends fits.each read

  -- what its owner does in it
  pub change-waits : (old new : AskingSession R) (steps : List (AskingAct R A T D)) → AskingHistory gives old steps new
      → AnswersPlain gives → AllAskingSendFit (((old.session).fields).channel).0 limit steps → FitsIn limit old.session
      → FitsIn limit new.session
  change-waits old new steps history plain sends fits =
      on-channel limit old.session new.session (asking-channel gives steps old new history)
      (record {
        each =
            asking-waits gives (((old.session).fields).channel).0 limit (replies gives plain) steps old new history
            sends fits.each;
      })

  pub change-leaves : (old new : AskingSession R) (steps : List (AskingAct R A T D)) (frames : List SessionFrame)
      → AskingHistory gives old steps new → AnswersPlain gives
      → AllAskingSendFit (((old.session).fields).channel).0 limit steps → AllAskingEndFit limit steps
      → FitsIn limit old.session → AllAskingHand steps frames → All IsRead frames → All (FitsAbove limit) frames
  change-leaves old new steps frames history plain sends ends fits hand reads =
      all-above limit frames
      (λ least.
      asking-gives gives (((old.session).fields).channel).0 limit (replies gives plain) steps old new frames least
      history refl sends ends fits.each hand reads)

  -- what the peer says in a session
  pub hears-so : AnswersPlain gives → (said : LinkPerformative)
      → HearsSo gives (FitsIn limit) (FitsAbove limit) said
  hears-so plain said before after out out_new told h fits = (
    let kept =
        heard-waits gives (((before.session).fields).channel).0 limit (replies gives plain) before after out out_new
        said told h in
        on-channel limit before.session after.session kept.0 (record { each = kept.1 fits.each }),
    λ frames queued reads.
        all-above limit frames
        (λ least.
        heard-gives gives limit (replies gives plain) said told before after out out_new frames least h fits.each
        queued reads),
  )

  -- its Begin
  pub begins-so : (channel : IncomingChannel) (begin : Begin)
      → BeginsSo gives (FitsIn limit) (FitsAbove limit) channel begin
  begins-so channel begin before after out out_new t fits =
      let step : Act R A T D = TakesBegin channel begin t.base t.left t.frames in (
        one-waits before after step t.stepped tt fits,
        λ reads.
            all-above limit t.frames (λ least. one-leaves before after step t.stepped tt fits least reads),
      )

  -- the own Flow
  pub tells-so : TellsSo gives (FitsIn limit) (FitsAbove limit)
  tells-so before after frame does fits =
      let step : Act R A T D = TellsFlow frame in (
        one-waits before after step does tt fits,
        λ read least.
            All-head (FrameFits limit) frame []
            (one-leaves before after step does tt fits least (one IsRead frame read)),
      )

  -- own Ends
  pub fails-so : FailsSo gives (FitsIn limit) (FitsAbove limit)
  fails-so s channel fault fits = fault-above limit channel fault

-- nothing of all this where no session goes on
module _ {R A T D : Type 0} (gives : Relations R A T D) where
  pub hears-none : (said : LinkPerformative) → HearsSo gives Never Nothing said
  hears-none said before after out out_new told h none = absurd none

  pub begins-none : (channel : IncomingChannel) (begin : Begin) → BeginsSo gives Never Nothing channel begin
  begins-none channel begin before after out out_new t none = absurd none

  pub tells-none : TellsSo gives Never Nothing
  tells-none before after frame does none = absurd none
