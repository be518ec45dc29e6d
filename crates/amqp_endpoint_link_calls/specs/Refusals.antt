-- Why a link doesn't attach in one of an endpoint's sessions: part 2, 2.5.5, 2.6.1, 2.6.3, 2.7.2, 2.7.3.
use Rattle.std.specs.Prelude.{◌≡◌, ◌<◌, ◌⊎◌, ℕ, Bool, false, List, Option, Some, None, IsSome, option_map}
use Rattle.std.specs.FinMap as map
use Rattle.std.specs.Global.{Box}
use Rattle.amqp_session_types.specs.declared.handles.InputHandle.{InputHandle}
use Rattle.amqp_session_types.specs.declared.handles.OutputHandle.{OutputHandle}
use Rattle.amqp_session_types.specs.declared.refusals.SessionError.TheVariants.{HandleInUse as InUse}
use Rattle.amqp_link_types.specs.declared.link_error.LinkError.{LinkError}
use Rattle.amqp_link.specs.Ends.{state_of}
use Rattle.amqp_link.specs.declared.end.End.{End}
use Rattle.amqp_endpoint_links.specs.Asked.{Asked}
use Rattle.amqp_endpoint_attached.specs.Answering.{RefusesAnswer, asked_failed}
use Rattle.amqp_endpoint_attached.specs.Attaching.{RefusesAttach}
use Rattle.amqp_endpoint_attached.specs.Linked.{Linked}
use Rattle.amqp_endpoint_attached.specs.Links.{is_at_rest, offered}
use Rattle.amqp_endpoint_attached.specs.Refusals.{FindsTested, IsOffered}
use Rattle.amqp_endpoint_attached.specs.declared.refusal.AttachRefusal.{AttachRefusal}
use Rattle.amqp_endpoint_attached.specs.declared.refusal.AttachRefusal.TheVariants as why
use Rattle.amqp_endpoint_conversation.specs.Ending.{IsMapped}
use Rattle.amqp_endpoint_model.specs.declared.error.EndpointError.{EndpointError}
use Rattle.amqp_endpoint_model.specs.declared.error.EndpointError.TheVariants.{UnknownLink, UnknownSession}
use Rattle.amqp_endpoint_model.specs.declared.error.EndpointError.TheVariants.{IllegalState}
use Rattle.amqp_endpoint_model.specs.declared.error.EndpointError.TheVariants.{DuplicatedLinkName, HandleMaxReached}
use Rattle.amqp_endpoint_model.specs.declared.error.EndpointError.TheVariants.{FrameTooLarge, Memory, Session, Link}
use Rattle.amqp_endpoint_tables.specs.LinkState.{IsNewName, name_at, place_at as link_place}
use Rattle.amqp_endpoint_tables.specs.State.{live_at, place_at}
use Rattle.amqp_endpoint_tables.specs.declared.link_place.LinkPlace.{LinkPlace}
use Rattle.amqp_endpoint_tables.specs.declared.link_place.LinkPlace.TheVariants.{AtRest, Held}
use Rattle.amqp_endpoint_link_calls.specs.Attaching.{MayResume}
use Rattle.amqp_endpoint_link_calls.specs.Naming.{Meets, name_of}
use Rattle.amqp_endpoint_link_calls.specs.Places.{LinkTalk, LinksBy}

-- a session refuses a link that attaches of itself, or one that answers a link of the peer's
abbrev pub RefusesBy : Option InputHandle → ℕ → Linked → End → AttachRefusal → Type 0
RefusesBy None limit before link refusal = RefusesAttach limit before.session link refusal
RefusesBy (Some input) limit before link refusal = RefusesAnswer limit before link input refusal

-- it does so by whether the peer asks for it there
pub record RefusesOne (limit : ℕ) (before : Linked) (link : End) (refusal : AttachRefusal) : Type 0 where
  pub input : Option InputHandle
  pub meets : Meets before.asked link input
  pub refuses : RefusesBy input limit before link refusal

-- the session with this number does so
pub record RefusesIn (limit : ℕ) (talk : LinkTalk) (session : ℕ) (link : End) (refusal : AttachRefusal) : Type 0 where
  pub before : Box Linked
  pub live : live_at talk.sessions session ≡ Some before
  pub refused : RefusesOne limit before.value link refusal

-- which test a link fails first of the one that it answers, if it answers one
abbrev pub failed_at : End → Asked → Option InputHandle → Option LinkError
failed_at link asked None = None
failed_at link asked (Some input) = asked_failed link (map.get asked input.0)

-- what is found in a session of a link that meets this one, before anything grows: that the handle which is offered is
-- above the peer's handle-max, and else what is found of the tests of the one that it answers
abbrev pub FindsBy : Option InputHandle → Linked → End → Option AttachRefusal → Type 0
FindsBy input before link (Some why.HandleMaxReached) = before.session.handle_max < before.session.offered
FindsBy input before link found =
    IsOffered before.session × FindsTested (failed_at link before.asked input) found

-- what is found of one, by whether the peer asks for it there
pub record FindsOne (before : Linked) (link : End) (found : Option AttachRefusal) : Type 0 where
  pub input : Option InputHandle
  pub meets : Meets before.asked link input
  pub finds : FindsBy input before link found

-- in the session with this number
pub record FindsIn (talk : LinkTalk) (session : ℕ) (link : End) (found : Option AttachRefusal) : Type 0 where
  pub before : Box Linked
  pub live : live_at talk.sessions session ≡ Some before
  pub one : FindsOne before.value link found

-- nothing speaks against it there but what takes memory: its own Attach, or a test that tells a list
abbrev pub IsClearIn : LinkTalk → ℕ → End → Type 0
IsClearIn talk session link = FindsIn talk session link None ⊎ FindsIn talk session link (Some why.Memory)

-- what the endpoint says of it
abbrev pub of_refusal : AttachRefusal → EndpointError
of_refusal why.HandleMaxReached = HandleMaxReached
of_refusal why.HandleInUse = Session InUse
of_refusal (why.Link error) = Link error
of_refusal why.FrameTooLarge = FrameTooLarge
of_refusal why.Memory = Memory

-- the session refuses the link, and the endpoint says this of it
abbrev pub BarsIn : ℕ → LinkTalk → ℕ → End → EndpointError → Type 0
BarsIn limit talk session link e =
    (refusal : AttachRefusal) × (e ≡ of_refusal refusal) × RefusesIn limit talk session link refusal

-- what is found in the session with this number, as the endpoint says it
pub record FindsSaid (talk : LinkTalk) (session : ℕ) (link : End) (said : Option EndpointError) : Type 0 where
  pub found : Option AttachRefusal
  pub finds : FindsIn talk session link found
  pub says : said ≡ option_map of_refusal found

-- a link that isn't closed has this name
abbrev pub IsInUse : LinksBy → List ℕ → Type 0
IsInUse links name = (number : ℕ) × (name_at links number ≡ Some name)

-- the session is mapped, and no link that isn't closed has the name
abbrev pub MayAttach : LinkTalk → LinksBy → ℕ → List ℕ → Type 0
MayAttach talk links session name = IsMapped talk session × IsNewName links.links name

-- the session isn't mapped
abbrev pub IsUnmapped : LinkTalk → ℕ → Type 0
IsUnmapped talk session = IsSome (place_at talk.sessions session) × (IsMapped talk session → ⊥)

-- why no link with this name does: no session has the number, or it isn't mapped; then a link has the name; and then
-- there is no memory
abbrev pub BarsName : LinkTalk → LinksBy → ℕ → List ℕ → EndpointError → Type 0
BarsName talk links session name UnknownSession = place_at talk.sessions session ≡ None
BarsName talk links session name IllegalState = IsUnmapped talk session
BarsName talk links session name DuplicatedLinkName = IsMapped talk session × IsInUse links name
BarsName talk links session name Memory = MayAttach talk links session name
BarsName talk links session name e = ⊥

-- what is found of it before anything grows: the first that holds, which is never want of memory, or that none does
abbrev pub FindsName : LinkTalk → LinksBy → ℕ → List ℕ → Option EndpointError → Type 0
FindsName talk links session name None = MayAttach talk links session name
FindsName talk links session name (Some Memory) = ⊥
FindsName talk links session name (Some e) = BarsName talk links session name e

-- why a link doesn't: so, or its session refuses it, which tests the handle that it offers, then the Attach that the
-- link answers, and then the link's own. Want of memory stands where none of these but the last refuses it, or in place
-- of a test that tells a list
abbrev pub BarsAttaching : ℕ → LinkTalk → LinksBy → ℕ → End → EndpointError → Type 0
BarsAttaching limit talk links session link UnknownSession = place_at talk.sessions session ≡ None
BarsAttaching limit talk links session link IllegalState = IsUnmapped talk session
BarsAttaching limit talk links session link DuplicatedLinkName =
    IsMapped talk session × IsInUse links (name_of link)
BarsAttaching limit talk links session link HandleMaxReached =
    MayAttach talk links session (name_of link) × RefusesIn limit talk session link why.HandleMaxReached
BarsAttaching limit talk links session link (Link error) =
    MayAttach talk links session (name_of link) × RefusesIn limit talk session link (why.Link error)
BarsAttaching limit talk links session link FrameTooLarge =
    MayAttach talk links session (name_of link) × RefusesIn limit talk session link why.FrameTooLarge
BarsAttaching limit talk links session link (Session InUse) =
    MayAttach talk links session (name_of link) × RefusesIn limit talk session link why.HandleInUse
BarsAttaching limit talk links session link Memory =
    MayAttach talk links session (name_of link) × IsClearIn talk session link
BarsAttaching limit talk links session link e = ⊥

-- likewise, but that want of memory stands in place of each behind the name
abbrev pub BarsPlacing : ℕ → LinkTalk → LinksBy → ℕ → End → EndpointError → Type 0
BarsPlacing limit talk links session link Memory = MayAttach talk links session (name_of link)
BarsPlacing limit talk links session link e = BarsAttaching limit talk links session link e

-- what is found of a link before anything grows: the first of these that holds but for whether its own Attach fits, and
-- for whether a link of the session has the handle of the one that it answers, or that none does. It is want of memory
-- in place of a test alone that tells a list
abbrev pub FindsAttaching : LinkTalk → LinksBy → ℕ → End → Option EndpointError → Type 0
FindsAttaching talk links session link None =
    MayAttach talk links session (name_of link) × FindsIn talk session link None
FindsAttaching talk links session link (Some HandleMaxReached) =
    MayAttach talk links session (name_of link) × FindsIn talk session link (Some why.HandleMaxReached)
FindsAttaching talk links session link (Some (Link error)) =
    MayAttach talk links session (name_of link) × FindsIn talk session link (Some (why.Link error))
FindsAttaching talk links session link (Some Memory) =
    MayAttach talk links session (name_of link) × FindsIn talk session link (Some why.Memory)
FindsAttaching talk links session link (Some e) = BarsName talk links session (name_of link) e

-- a link in this place is at rest: no session holds it, and neither end is attached
abbrev pub is_resting : LinkPlace End → Bool
is_resting (Held session handle) = false
is_resting (AtRest link) = is_at_rest (state_of link)

-- the session with this number offers this handle (2.6.2)
pub record OffersIn (talk : LinkTalk) (session : ℕ) (handle : OutputHandle) : Type 0 where
  pub before : Box Linked
  pub live : live_at talk.sessions session ≡ Some before
  pub offers : handle ≡ offered (before.value).session

-- the handle that it offers is above the peer's handle-max (2.7.2)
pub record OffersNone (talk : LinkTalk) (session : ℕ) : Type 0 where
  pub before : Box Linked
  pub live : live_at talk.sessions session ≡ Some before
  pub above : (before.value).session.handle_max < (before.value).session.offered

-- why the link with this number doesn't attach again in the session with that one: no link has the number; no session
-- has that one; the session isn't mapped, or the link isn't at rest; the handle that is offered is above the peer's
-- handle-max; or its session refuses it, as any that attaches
abbrev pub BarsResuming : ℕ → LinkTalk → LinksBy → ℕ → ℕ → EndpointError → Type 0
BarsResuming limit talk links number session UnknownLink = link_place links number ≡ None
BarsResuming limit talk links number session UnknownSession =
    IsSome (link_place links number) × (place_at talk.sessions session ≡ None)
BarsResuming limit talk links number session IllegalState =
    (place : LinkPlace End) × (link_place links number ≡ Some place)
    × (IsUnmapped talk session ⊎ (IsMapped talk session × (is_resting place ≡ false)))
BarsResuming limit talk links number session HandleMaxReached =
    (link : End) × MayResume talk links number session link × OffersNone talk session
BarsResuming limit talk links number session e =
    (link : End) × MayResume talk links number session link × BarsIn limit talk session link e
