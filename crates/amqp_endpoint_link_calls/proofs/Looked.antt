-- What is found of a new link before anything grows.
use Rattle.std.proofs.Common.{◌≡◌, ◌<◌, inl, inr, ℕ, List, Option, Some, None, Result, Ok, Err, is_some, refl, sym, ap}
use Rattle.std.proofs.Common.{subst}
use Rattle.std.proofs.lemmas.Option.{none-some}
use Rattle.std.specs.FinMap as map
use Rattle.std.specs.Prelude.{IfErr, IfSome, IsSome, option_map}
use Rattle.amqp_session_types.specs.declared.handles.InputHandle.{InputHandle}
use Rattle.amqp_session_types.specs.declared.modes.Role.{Role}
use Rattle.amqp_session_types.specs.declared.modes.Role.TheVariants.{Sender, Receiver}
use Rattle.amqp_link_types.specs.declared.link_error.LinkError.{LinkError}
use Rattle.amqp_link.specs.declared.end.End.{End}
use Rattle.amqp_endpoint_links.specs.Asked.{Asked}
use Rattle.amqp_endpoint_links.specs.declared.links.AskedLink.{AskedLink}
use Rattle.amqp_endpoint_model.specs.declared.error.EndpointError.{EndpointError}
use Rattle.amqp_endpoint_model.specs.declared.error.EndpointError.TheVariants.{UnknownSession, IllegalState}
use Rattle.amqp_endpoint_model.specs.declared.error.EndpointError.TheVariants.{DuplicatedLinkName, HandleMaxReached}
use Rattle.amqp_endpoint_model.specs.declared.error.EndpointError.TheVariants.{Memory, Link}
use Rattle.amqp_endpoint_model.specs.declared.link.LinkSettings.{LinkSettings}
use Rattle.amqp_endpoint_tables.specs.LinkState.{name_at}
use Rattle.amqp_endpoint_attached.specs.Linked.{Linked}
use Rattle.amqp_endpoint_attached.specs.Links.{link_by}
use Rattle.amqp_endpoint_attached.specs.Refusals.{FindsTested, IsOffered}
use Rattle.amqp_endpoint_attached.specs.declared.refusal.AttachRefusal.{AttachRefusal}
use Rattle.amqp_endpoint_attached.specs.declared.refusal.AttachRefusal.TheVariants as why
use Rattle.amqp_endpoint_link_calls.specs.Naming.{Meets, MeetsBy, name_of}
use Rattle.amqp_endpoint_link_calls.specs.Places.{LinkTalk, LinksBy}
use Rattle.amqp_endpoint_link_calls.specs.Refusals.{BarsAttaching, BarsPlacing, FindsAttaching, FindsBy, FindsIn}
use Rattle.amqp_endpoint_link_calls.specs.Refusals.{FindsName, FindsOne, FindsSaid, IsInUse, MayAttach, RefusesBy}
use Rattle.amqp_endpoint_link_calls.specs.Refusals.{RefusesIn, RefusesOne, failed_at, of_refusal}
use Rattle.amqp_endpoint_link_calls.specs.declared.placed.Placed.{Placed}

-- a link by its settings has their name, and its role
named : (s : LinkSettings) (role : Role) → s.name ≡ name_of (link_by role s)
named s Sender = refl
named s Receiver = refl

meets-by : (asked : Asked) (s : LinkSettings) (role : Role) (input : Option InputHandle)
    → MeetsBy asked s.name role input → Meets asked (link_by role s) input
meets-by asked s Sender input by = by
meets-by asked s Receiver input by = by

-- a link has the name
pub in-use : (links : LinksBy) (name : List ℕ) (number : ℕ) → name_at links number ≡ Some name → IsInUse links name
in-use links name number is = (number, is)

-- the handle that is met is that of an asked link
pub is-met : (asked : Asked) (name : List ℕ) (role : Role) (input : Option InputHandle) → MeetsBy asked name role input
    → IfSome input (λ i. IsSome (map.get asked i.0))
is-met asked name role None by = tt
is-met asked name role (Some input) by = ap (λ (o : Option AskedLink). is_some o) by.there

either : (before : Linked) (link : End) (input : Option InputHandle) → IsOffered before.session
    → (found : Option AttachRefusal) → FindsTested (failed_at link before.asked input) found
    → FindsBy input before link found
either before link input given (Some why.HandleMaxReached) tested = absurd tested
either before link input given found tested = (given, tested)

-- the handle is given, and then the tests are made
pub finds-tested : (before : Linked) (s : LinkSettings) (role : Role) (input : Option InputHandle)
    (found : Option AttachRefusal) → MeetsBy before.asked s.name role input → IsOffered before.session
    → FindsTested (failed_at (link_by role s) before.asked input) found → FindsOne before (link_by role s) found
finds-tested before s role input found by given tested =
    record {
      input = input;
      meets = meets-by before.asked s role input by;
      finds = either before (link_by role s) input given found tested;
    }

-- or none is
pub finds-none : (before : Linked) (s : LinkSettings) (role : Role) (input : Option InputHandle)
    (refusal : AttachRefusal) → MeetsBy before.asked s.name role input → refusal ≡ why.HandleMaxReached
    → before.session.handle_max < before.session.offered → FindsOne before (link_by role s) (Some refusal)
finds-none before s role input refusal by is above =
    record {
      input = input;
      meets = meets-by before.asked s role input by;
      finds =
          subst (λ (r : AttachRefusal). FindsBy input before (link_by role s) (Some r)) (sym is) above;
    }

module _ (talk : LinkTalk) (links : LinksBy) (session : ℕ) where
  -- what is found by the name
  by-name : (link : End) (e : EndpointError) → FindsName talk links session (name_of link) (Some e)
      → FindsAttaching talk links session link (Some e)
  by-name link HandleMaxReached found = absurd found
  by-name link (Link error) found = absurd found
  by-name link Memory found = absurd found
  by-name link e found = found

  pub name-found : (s : LinkSettings) (role : Role) (e : EndpointError)
      → FindsName talk links session s.name (Some e) → FindsAttaching talk links session (link_by role s) (Some e)
  name-found s role e found =
      by-name (link_by role s) e
      (subst (λ (n : List ℕ). FindsName talk links session n (Some e)) (named s role) found)

  -- what is found in the session
  of-found : (link : End) → MayAttach talk links session (name_of link) → (found : Option AttachRefusal)
      → FindsIn talk session link found → FindsAttaching talk links session link (option_map of_refusal found)
  of-found link may None finds = (may, finds)
  of-found link may (Some why.HandleMaxReached) finds = (may, finds)
  of-found link may (Some (why.Link error)) finds = (may, finds)
  of-found link may (Some why.Memory) finds = (may, finds)
  of-found link may (Some why.HandleInUse) finds = absurd finds.one.finds.1
  of-found link may (Some why.FrameTooLarge) finds = absurd finds.one.finds.1

  pub session-found : (s : LinkSettings) (role : Role) → FindsName talk links session s.name None
      → (said : Option EndpointError) → FindsSaid talk session (link_by role s) said
      → FindsAttaching talk links session (link_by role s) said
  session-found s role may said f =
      subst (λ (o : Option EndpointError). FindsAttaching talk links session (link_by role s) o) (sym f.says)
      (of-found (link_by role s) (subst (λ (n : List ℕ). MayAttach talk links session n) (named s role) may) f.found
      f.finds)

-- what is found refuses the link
module _ (limit : ℕ) (before : Linked) (link : End) where
  by-max : (input : Option InputHandle) → before.session.handle_max < before.session.offered
      → RefusesBy input limit before link why.HandleMaxReached
  by-max None above = above
  by-max (Some input) above = above

  by-test : (input : Option InputHandle) (error : LinkError) → FindsBy input before link (Some (why.Link error))
      → RefusesBy input limit before link (why.Link error)
  by-test None error found = absurd (none-some _ found.1)
  by-test (Some input) error found = found

  max-refuses : FindsOne before link (Some why.HandleMaxReached) → RefusesOne limit before link why.HandleMaxReached
  max-refuses f = record { input = f.input; meets = f.meets; refuses = by-max f.input f.finds }

  test-refuses : (error : LinkError) → FindsOne before link (Some (why.Link error))
      → RefusesOne limit before link (why.Link error)
  test-refuses error f = record { input = f.input; meets = f.meets; refuses = by-test f.input error f.finds }

module _ (limit : ℕ) (talk : LinkTalk) (links : LinksBy) (session : ℕ) (link : End) where
  max-refuses-in : FindsIn talk session link (Some why.HandleMaxReached)
      → RefusesIn limit talk session link why.HandleMaxReached
  max-refuses-in f =
      record { before = f.before; live = f.live; refused = max-refuses limit (f.before).value link f.one }

  test-refuses-in : (error : LinkError) → FindsIn talk session link (Some (why.Link error))
      → RefusesIn limit talk session link (why.Link error)
  test-refuses-in error f =
      record { before = f.before; live = f.live; refused = test-refuses limit (f.before).value link error f.one }

  pub found-bars : (e : EndpointError) → FindsAttaching talk links session link (Some e)
      → BarsAttaching limit talk links session link e
  found-bars UnknownSession found = found
  found-bars IllegalState found = found
  found-bars DuplicatedLinkName found = found
  found-bars HandleMaxReached found = (found.0, max-refuses-in found.1)
  found-bars (Link error) found = (found.0, test-refuses-in error found.1)
  found-bars Memory found = (found.0, inr found.1)
  found-bars e found = absurd found

  -- where nothing was found, want of memory stands in place of what is left alone
  pub clear-bars : FindsAttaching talk links session link None → (e : EndpointError)
      → BarsPlacing limit talk links session link e → BarsAttaching limit talk links session link e
  clear-bars clear Memory bars = (clear.0, inl clear.1)
  clear-bars clear e bars = bars

  pub all-clear-bars : FindsAttaching talk links session link None → (r : Result Placed EndpointError)
      → IfErr r (BarsPlacing limit talk links session link) → IfErr r (BarsAttaching limit talk links session link)
  all-clear-bars clear (Ok placed) bars = tt
  all-clear-bars clear (Err e) bars = clear-bars clear e bars

pub ruleset names = (in-use)
