-- Dispositions that a session sends for its links: part 2, 2.7.6.
use Rattle.std.specs.Prelude.{◌≡◌, ℕ, List, [], ◌∷◌, ◌++◌, map, All}
use Rattle.amqp_session_performatives.specs.declared.disposition.Disposition.{Disposition}
use Rattle.amqp_session_performatives.specs.declared.session_frame.SessionFrame.{SessionFrame}
use Rattle.amqp_session_performatives.specs.declared.session_frame.SessionFrameBody.TheVariants as body
use Rattle.amqp_session_core.specs.declared.fields.SessionFields.{SessionFields}
use Rattle.amqp_session_core.specs.Frames.{frame_of}
use Rattle.amqp_session_core.specs.Relay.{Relations}
use Rattle.amqp_session_core.specs.State.{State}
use Rattle.amqp_session_core.specs.Steps.{Step, SendsDisposition}
use Rattle.amqp_endpoint_attached.specs.Linked.{Linked, LinksIn, gives}
use Rattle.amqp_endpoint_fitting.specs.Fits.{FrameFits}

-- a Disposition as its session says it
abbrev pub said_by : SessionFields → Disposition → SessionFrame
said_by fields d = frame_of fields (body.Disposition d)

abbrev pub frames_of : SessionFields → List Disposition → List SessionFrame
frames_of fields told = map (said_by fields) told

module _ {R A T D : Type 0} (does : Relations R A T D) where
  -- a session sends a Disposition: it forgets the deliveries that this settles
  pub record SendsOne (old : State R) (d : Disposition) (new : State R) : Type 0 where
    pub settled : List ℕ
    pub stepped : Step does old (SendsDisposition d settled) new

  -- it sends each of these, one after the other
  abbrev pub SendsEach : State R → List Disposition → State R → Type 0
  SendsEach old [] new = new ≡ old
  SendsEach old (d ∷ rest) new = (mid : State R) × SendsOne old d mid × SendsEach mid rest new

-- deliveries are disposed of so by a link of a session, and the Dispositions that tell it are sent: each fits the limit
pub record IsDisposed (Disposes : LinksIn → List Disposition → LinksIn → Type 0) (limit : ℕ) (old : Linked)
    (out : List SessionFrame) (new : Linked) (out_new : List SessionFrame) : Type 0 where
  pub told : List Disposition
  pub mid : LinksIn
  pub disposes : Disposes old.session told mid
  pub sends : SendsEach gives mid told new.session
  pub rest : new ≡ record old { session = new.session }
  pub added : out_new ≡ out ++ frames_of (old.session).fields told
  pub fit : All (FrameFits limit) (frames_of (old.session).fields told)
