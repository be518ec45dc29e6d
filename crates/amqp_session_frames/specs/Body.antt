-- The body of a frame, as it is read: part 2, 2.3.2.
use Rattle.std.specs.Prelude.{ℕ, List, ◌≤◌, drop, length}
use Rattle.amqp_session_performatives.specs.declared.performative.Performative.{Performative}
use Rattle.amqp_session_frames.specs.declared.error.Error.{Error}
use Rattle.amqp_session_frames.specs.declared.error.Error.TheVariants.{DecodeError, NotImplemented, TooLarge, Memory}
use Rattle.amqp_session_frames.specs.declared.frame.FrameBody.{FrameBody}
use Rattle.amqp_session_frames.specs.Text.{Performs, BodyText}

-- this performative stands in front, in so many bytes
pub record Performed (content : List ℕ) (performative : Performative) (size : ℕ) : Type 0 where
  pub within : size ≤ length content
  pub performs : Performs content performative (drop size content)

-- none stands in front
pub record NotPerformed (content : List ℕ) : Type 0 where
  pub none : (performative : Performative) (rest : List ℕ) → Performs content performative rest → ⊥

-- the content is no frame's body
pub record HasNoBody (content : List ℕ) : Type 0 where
  pub none : (body : FrameBody) → BodyText content body → ⊥

-- why no performative is read
abbrev pub PerformativeRefused : List ℕ → Error → Type 0
PerformativeRefused content DecodeError = NotPerformed content
PerformativeRefused content Memory = Unit {0}
PerformativeRefused content NotImplemented = ⊥
PerformativeRefused content TooLarge = ⊥

-- why no body is read
abbrev pub BodyRefused : List ℕ → Error → Type 0
BodyRefused content DecodeError = HasNoBody content
BodyRefused content Memory = Unit {0}
BodyRefused content NotImplemented = ⊥
BodyRefused content TooLarge = ⊥
