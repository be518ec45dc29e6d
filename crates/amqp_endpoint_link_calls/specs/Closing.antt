-- How a link is closed: part 2, 2.6.6.
use Rattle.std.specs.Prelude.{◌≡◌, ℕ, List, [], ◌++◌, Bool, true, false, Option, Some, None}
use Rattle.amqp_session_types.specs.declared.handles.OutputHandle.{OutputHandle}
use Rattle.amqp_session_performatives.specs.declared.session_frame.SessionFrame.{SessionFrame}
use Rattle.amqp_session_core.specs.State.{link_at}
use Rattle.amqp_session_core.specs.Steps.{Step, Changes}
use Rattle.amqp_link_base.specs.declared.state.LinkState.{LinkState}
use Rattle.amqp_link_base.specs.declared.state.LinkState.TheVariants as state
use Rattle.amqp_link.specs.Ends.{state_of}
use Rattle.amqp_link_sender.specs.Ending.{closed_at_rest}
use Rattle.amqp_link.specs.declared.end.End.{End}
use Rattle.amqp_link.specs.declared.end.End.TheVariants.{Sender, Receiver}
use Rattle.amqp_endpoint_tables.specs.LinkState.{without}
use Rattle.amqp_endpoint_tables.specs.declared.link_place.LinkPlace.TheVariants.{Held, AtRest}
use Rattle.amqp_endpoint_tables.specs.State.{live_at}
use Rattle.amqp_endpoint_model.specs.declared.error.EndpointError.{EndpointError}
use Rattle.amqp_endpoint_model.specs.declared.error.EndpointError.TheVariants.{Memory, UnknownLink}
use Rattle.amqp_endpoint_model.specs.declared.event.Event.{Event}
use Rattle.amqp_endpoint_attached.specs.Detaching.{DetachGiven, RefusesDetach}
use Rattle.amqp_endpoint_attached.specs.Linked.{Linked, LinksIn, end_at, gives}
use Rattle.amqp_endpoint_links.specs.declared.numbered.Numbered.{Numbered}
use Rattle.amqp_endpoint_messages.specs.All.{TellsFirst, behind_told, first_told, open_count, told_by}
use Rattle.amqp_endpoint_link_calls.specs.Calling.{Does, DoneIn}
use Rattle.amqp_endpoint_link_calls.specs.Places.{LinksBy, LinkTalk, Where, end_live}

-- the messages of a sending link that is closed while it is at rest end without an outcome
abbrev pub closed_end : End → End
closed_end (Sender s) = Sender (closed_at_rest s)
closed_end (Receiver r) = Receiver r

-- what is told of a link that is closed while it is at rest: the outcomes of as many messages as are open
abbrev pub rest_told : ℕ → End → List Event
rest_told link end = told_by link None (open_count (Some end)) (closed_end end)

-- it is forgotten, and this is told
pub record ForgetsRest (end : End) (links : LinksBy) (link : ℕ) (events : List Event) (links_new : LinksBy) : Type 0
  where
    pub forgotten : links_new ≡ without links link
    pub told : events ≡ rest_told link end

-- and nothing is handed out
pub record Forgets (end : End) (old : LinkTalk) (links : LinksBy) (link : ℕ) (out : List SessionFrame)
    (events : List Event) (new : LinkTalk) (links_new : LinksBy) (out_new : List SessionFrame) : Type 0 where
  pub forgets : ForgetsRest end links link events links_new
  pub same : new ≡ old
  pub silent : out_new ≡ out

-- an attached link of a session is closed: its Detach is sent, without an error, and then the outcomes of as many
-- messages are told as were open, which end without one
pub record ClosesTelling (events : List Event) (handle : OutputHandle) (before : Linked) (frames : List SessionFrame)
    (after : Linked) : Type 0 where
  pub mid : Linked
  pub detached : DetachGiven before handle true None [] mid frames
  pub tells : TellsFirst (open_count (end_at before handle)) handle (link_at mid.session handle.0) mid after
  pub told : events ≡ first_told (open_count (end_at before handle)) None (link_at mid.session handle.0)

abbrev pub closes : List Event → Does
closes events handle before frames after = ClosesTelling events handle before frames after

-- in its session, with what was to be sent before
pub record ClosedBy (events : List Event) (handle : OutputHandle) (old : Linked) (out : List SessionFrame)
    (new : Linked) (out_new : List SessionFrame) : Type 0 where
  pub frames : List SessionFrame
  pub closed : ClosesTelling events handle old frames new
  pub added : out_new ≡ out ++ frames

-- both ends detached the link, which its session holds still: its own Detach waits there behind its transfers (part 2,
-- 2.6.5, 2.7.7)
abbrev pub is_detached : LinkState → Bool
is_detached state.Detached = true
is_detached other = false

abbrev pub is_parted : Option End → Bool
is_parted None = false
is_parted (Some end) = is_detached (state_of end)

abbrev pub parted_at : LinkTalk → ℕ → OutputHandle → Bool
parted_at talk session handle = is_parted (end_live (live_at talk.sessions session) handle)

-- such a link is closed as one at rest is: its messages end without an outcome, and are told by this number. Nothing is
-- handed out, and what waits in the session waits on, its own Detach among that
pub record TellsFailed (link : ℕ) (events : List Event) (handle : OutputHandle) (before : Linked)
    (frames : List SessionFrame) (after : Linked) : Type 0 where
  pub it : Numbered End
  pub ends :
      Step gives before.session
      (Changes handle.0 it (record it { link = behind_told (open_count (Some it.link)) (closed_end it.link) }))
      after.session
  pub rest : after ≡ record before { session = after.session }
  pub told : events ≡ rest_told link it.link
  pub silent : frames ≡ []

abbrev pub fails : ℕ → List Event → Does
fails link events handle before frames after = TellsFailed link events handle before frames after

-- the same of so many messages of a link of the session, behind what was told before
pub record EndsBy (link count : ℕ) (handle : OutputHandle) (old : LinksIn) (events : List Event) (new : LinksIn)
    (events_new : List Event) : Type 0 where
  pub it : Numbered End
  pub ends :
      Step gives old (Changes handle.0 it (record it { link = behind_told count (closed_end it.link) })) new
  pub told : events_new ≡ events ++ told_by link None count (closed_end it.link)

-- it is unknown from then on
pub record ForgetsHeld (session : ℕ) (handle : OutputHandle) (old : LinkTalk) (links : LinksBy) (link : ℕ)
    (out : List SessionFrame) (events : List Event) (new : LinkTalk) (links_new : LinksBy)
    (out_new : List SessionFrame) : Type 0 where
  pub done : DoneIn (fails link events) session handle old out new out_new
  pub forgotten : links_new ≡ without links link

-- any other link that a session holds is closed there, and stays held
pub record ClosesHeld (session : ℕ) (handle : OutputHandle) (old : LinkTalk) (links : LinksBy)
    (out : List SessionFrame) (events : List Event) (new : LinkTalk) (links_new : LinksBy)
    (out_new : List SessionFrame) : Type 0 where
  pub done : DoneIn (closes events) session handle old out new out_new
  pub kept : links_new ≡ links

abbrev pub ClosedHeld : Bool → ℕ → OutputHandle → LinkTalk → LinksBy → ℕ → List SessionFrame → List Event → LinkTalk
    → LinksBy → List SessionFrame → Type 0
ClosedHeld true session handle old links link out events new links_new out_new =
    ForgetsHeld session handle old links link out events new links_new out_new
ClosedHeld false session handle old links link out events new links_new out_new =
    ClosesHeld session handle old links out events new links_new out_new

-- the link with this number is closed, by where it is, and these events are told
abbrev pub ClosedAt : Where → LinkTalk → LinksBy → ℕ → List SessionFrame → List Event → LinkTalk → LinksBy
    → List SessionFrame → Type 0
ClosedAt None old links link out events new links_new out_new = ⊥
ClosedAt (Some (AtRest end)) old links link out events new links_new out_new =
    Forgets end old links link out events new links_new out_new
ClosedAt (Some (Held session handle)) old links link out events new links_new out_new =
    ClosedHeld (parted_at old session handle) session handle old links link out events new links_new out_new

-- why a link that a session holds isn't closed: it is neither attached there nor detached by both ends, and then there
-- is no memory
abbrev pub RefusesClosing : Bool → Option End → EndpointError → Type 0
RefusesClosing true link e = e ≡ Memory
RefusesClosing false link e = RefusesDetach link e

-- why a link isn't: none has the number, or so. One that is at rest is refused for want of memory alone
abbrev pub BarsClosing : LinkTalk → Where → EndpointError → Type 0
BarsClosing talk None e = e ≡ UnknownLink
BarsClosing talk (Some (AtRest end)) e = e ≡ Memory
BarsClosing talk (Some (Held session handle)) e =
    RefusesClosing (parted_at talk session handle) (end_live (live_at talk.sessions session) handle) e
