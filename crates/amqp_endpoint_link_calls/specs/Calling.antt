-- What a call of a link does in the session that holds it, and why it isn't done there.
use Rattle.std.specs.Prelude.{◌≡◌, ℕ, List, [], ◌++◌, Bool, Some, None}
use Rattle.std.specs.Global.{Box}
use Rattle.amqp_session_types.specs.declared.handles.OutputHandle.{OutputHandle}
use Rattle.amqp_session_performatives.specs.declared.session_frame.SessionFrame.{SessionFrame}
use Rattle.amqp_endpoint_tables.specs.declared.link_place.LinkPlace.TheVariants.{Held, AtRest}
use Rattle.amqp_endpoint_tables.specs.Steps.{ChangesLive, Step}
use Rattle.amqp_endpoint_model.specs.declared.error.EndpointError.{EndpointError}
use Rattle.amqp_endpoint_model.specs.declared.error.EndpointError.TheVariants.{UnknownLink}
use Rattle.amqp_endpoint_attached.specs.Linked.{Linked}
use Rattle.amqp_endpoint_attached.specs.Detaching.{DetachGiven, RefusesDetach}
use Rattle.amqp_endpoint_attached.specs.Receiving.{CreditGiven, DrainWanted, RefusesDrain, RefusesGrant}
use Rattle.amqp_endpoint_link_calls.specs.Places.{LinkTalk, Where, end_held}

-- what is done to the link with an own handle in a session: the session before, what is handed out, and the session
-- behind it
abbrev pub Does : Type 1
Does = OutputHandle → Linked → List SessionFrame → Linked → Type 0

-- the link is detached, or closed, without an error (part 2, 2.6.5, 2.6.6)
abbrev pub detaches : Bool → Does
detaches closed handle before frames after = DetachGiven before handle closed None [] after frames

-- so much credit is given by it, and what was left is told (part 2, 2.6.7)
abbrev pub gives_credit : ℕ → ℕ → Does
gives_credit credit left handle before frames after = CreditGiven before handle credit left [] after frames

-- its credit is to be used up (part 2, 2.6.7)
abbrev pub wants_drain : Does
wants_drain handle before frames after = DrainWanted before handle [] after frames

-- it is done in the session with this number, and what comes of it is handed out: no other session changes
pub record DoneIn (does : Does) (number : ℕ) (handle : OutputHandle) (old : LinkTalk) (out : List SessionFrame)
    (new : LinkTalk) (out_new : List SessionFrame) : Type 0 where
  pub before : Box Linked
  pub after : Box Linked
  pub frames : List SessionFrame
  pub did : does handle before.value frames after.value
  pub stepped : Step old.sessions (ChangesLive number before after) new.sessions
  pub rest : new ≡ record old { sessions = new.sessions }
  pub queued : out_new ≡ out ++ frames

-- it is done where a session holds the link
abbrev pub DoneAt : Does → Where → LinkTalk → List SessionFrame → LinkTalk → List SessionFrame → Type 0
DoneAt does None old out new out_new = ⊥
DoneAt does (Some (AtRest end)) old out new out_new = ⊥
DoneAt does (Some (Held session handle)) old out new out_new = DoneIn does session handle old out new out_new

-- why a link isn't detached: no link has the number, then it isn't attached in its session, or is at rest, and then
-- there is no memory
abbrev pub BarsDetach : LinkTalk → Where → EndpointError → Type 0
BarsDetach talk None e = e ≡ UnknownLink
BarsDetach talk (Some place) e = RefusesDetach (end_held talk place) e

-- why so much credit isn't given: no link has the number, then it is no receiving link that is attached in its session,
-- then it is too much, and then there is no memory
abbrev pub BarsGrant : LinkTalk → Where → ℕ → EndpointError → Type 0
BarsGrant talk None credit e = e ≡ UnknownLink
BarsGrant talk (Some place) credit e = RefusesGrant (end_held talk place) credit e

-- why no drain is wanted: likewise
abbrev pub BarsDrain : LinkTalk → Where → EndpointError → Type 0
BarsDrain talk None e = e ≡ UnknownLink
BarsDrain talk (Some place) e = RefusesDrain (end_held talk place) e
