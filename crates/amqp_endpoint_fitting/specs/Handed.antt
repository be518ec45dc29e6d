-- What a session's steps bring, and what they hand out.
use Rattle.std.specs.Prelude.{◌≡◌, ℕ, List, [], ◌∷◌, ◌++◌, All, Some, None, Ok}
use Rattle.amqp_session_performatives.specs.declared.link_flow.LinkFlow.{LinkFlow}
use Rattle.amqp_session_performatives.specs.declared.session_frame.SessionFrame.{SessionFrame}
use Rattle.amqp_session_core.specs.History.{frames_in}
use Rattle.amqp_session_core.specs.Relay.{Relations}
use Rattle.amqp_session_core.specs.Steps.{Act, Reply, NoReply, OfSession, OfLink, SendsBegin, SendsEnd, TakesFlow}
use Rattle.amqp_session_core.specs.Steps.{SendsBehind, SendsTransfers}
use Rattle.amqp_endpoint_links.specs.History.{AskingAct, InSession, TakesFlow as AskingTakesFlow}
use Rattle.amqp_endpoint_fitting.specs.Fits.{BehindFits, FrameFits, UnitFits}

-- a link's answer to a Flow has no properties (part 2, 2.7.4)
abbrev pub ReplyFits : Reply → Type 0
ReplyFits NoReply = Unit {0}
ReplyFits OfSession = Unit {0}
ReplyFits (OfLink handle flow left) = flow.properties ≡ None

module _ {R A T D : Type 0} (gives : Relations R A T D) where
  -- no link answers a Flow with properties
  pub record RepliesFit : Type 0 where
    pub each : (old new : R) (flow reply : LinkFlow) → gives.flows old flow (Ok (Some reply)) new
        → reply.properties ≡ None

module _ {R A T D : Type 0} where
  -- what a step brings into a session on this channel fits
  abbrev pub SendsFit : ℕ → ℕ → Act R A T D → Type 0
  SendsFit channel limit (TakesFlow flow told reply base left frames) = ReplyFits reply
  SendsFit channel limit (SendsBehind handle frame left answer) = BehindFits channel limit frame
  SendsFit channel limit (SendsTransfers handle batch left frames) = All (UnitFits channel limit handle.0) batch
  SendsFit channel limit step = Unit {0}

  abbrev pub AllSendFit : ℕ → ℕ → List (Act R A T D) → Type 0
  AllSendFit channel limit [] = Unit {0}
  AllSendFit channel limit (step ∷ steps) = SendsFit channel limit step × AllSendFit channel limit steps

  -- an own End fits
  abbrev pub EndFits : ℕ → Act R A T D → Type 0
  EndFits limit (SendsEnd error frame) = FrameFits limit frame
  EndFits limit step = Unit {0}

  abbrev pub AllEndFit : ℕ → List (Act R A T D) → Type 0
  AllEndFit limit [] = Unit {0}
  AllEndFit limit (step ∷ steps) = EndFits limit step × AllEndFit limit steps

  -- the frames that a step hands out, an own Begin and an own End among them
  abbrev pub handed : Act R A T D → List SessionFrame
  handed (SendsBegin frame) = frame ∷ []
  handed (SendsEnd error frame) = frame ∷ []
  handed step = frames_in step

  -- those of all steps, in order
  abbrev pub handed_of : List (Act R A T D) → List SessionFrame
  handed_of [] = []
  handed_of (step ∷ steps) = handed step ++ handed_of steps

  -- likewise of a session with its asked links: what its own steps bring fits
  abbrev pub AskingSendsFit : ℕ → ℕ → AskingAct R A T D → Type 0
  AskingSendsFit channel limit (InSession step) = SendsFit channel limit step
  AskingSendsFit channel limit step = Unit {0}

  abbrev pub AllAskingSendFit : ℕ → ℕ → List (AskingAct R A T D) → Type 0
  AllAskingSendFit channel limit [] = Unit {0}
  AllAskingSendFit channel limit (step ∷ steps) =
      AskingSendsFit channel limit step × AllAskingSendFit channel limit steps

  abbrev pub AskingEndFits : ℕ → AskingAct R A T D → Type 0
  AskingEndFits limit (InSession step) = EndFits limit step
  AskingEndFits limit step = Unit {0}

  abbrev pub AllAskingEndFit : ℕ → List (AskingAct R A T D) → Type 0
  AllAskingEndFit limit [] = Unit {0}
  AllAskingEndFit limit (step ∷ steps) = AskingEndFits limit step × AllAskingEndFit limit steps

  -- the frames that a step of such a session hands out: of a Flow what is behind what was handed out before
  abbrev pub AskingHands : AskingAct R A T D → List SessionFrame → Type 0
  AskingHands (InSession step) frames = frames ≡ handed step
  AskingHands (AskingTakesFlow out flow result out_new) frames = out_new ≡ out ++ frames
  AskingHands step frames = frames ≡ []

  -- those of all steps, in order
  abbrev pub AllAskingHand : List (AskingAct R A T D) → List SessionFrame → Type 0
  AllAskingHand [] frames = frames ≡ []
  AllAskingHand (step ∷ steps) frames =
      (first : List SessionFrame) × (later : List SessionFrame) × AskingHands step first × AllAskingHand steps later
      × (frames ≡ first ++ later)
