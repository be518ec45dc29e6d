-- The links that a peer asks for in a session (part 2, 2.6.3), by the handles that it gave them.
use Rattle.std.specs.Prelude.{◌≡◌, ◌≢◌, ℕ, List, Bool, false, Option, Some, None, Result, Ok, Err, ⊤, IsSome, is_some}
use Rattle.std.specs.Ordering.{nat_cmp}
use Rattle.std.specs.FinMap as map
use Rattle.amqp_session_types.specs.declared.handles.Handle.{Handle}
use Rattle.amqp_session_types.specs.declared.handles.InputHandle.{InputHandle}
use Rattle.amqp_session_performatives.specs.declared.attach.Attach.{Attach}
use Rattle.amqp_session_performatives.specs.declared.flow.Flow.{Flow}
use Rattle.amqp_session_performatives.specs.declared.link_flow.LinkFlow.{LinkFlow}
use Rattle.amqp_endpoint_links.specs.declared.links.AskedLink.{AskedLink}
use Rattle.amqp_endpoint_links.specs.declared.links.AskRefusal.{AskRefusal}
use Rattle.amqp_endpoint_links.specs.declared.links.AskRefusal.TheVariants.{HandleInUse, NameInUse, Memory}

abbrev pub Asked : Type 0
Asked = map.FinMap nat_cmp AskedLink

-- the asked link with this handle has this name
pub record HasName (asked : Asked) (handle : ℕ) (name : List ℕ) : Type 0 where
  pub link : AskedLink
  pub there : map.get asked handle ≡ Some link
  pub is : (link.attach).name ≡ name

-- none has
abbrev pub IsNewName : Asked → List ℕ → Type 0
IsNewName asked name = (handle : ℕ) (link : AskedLink) → map.get asked handle ≡ Some link → (link.attach).name ≢ name

-- the handle of the asked link with this name, if there is one
abbrev pub Names : Asked → List ℕ → Option InputHandle → Type 0
Names asked name None = IsNewName asked name
Names asked name (Some handle) = HasName asked handle.0 name

-- a link as it is asked for: no Flow came yet
abbrev pub asked_with : Attach → AskedLink
asked_with attach = record { attach = attach; flow = None }

-- the peer asks for a link with this Attach, and this is the answer
abbrev pub Asks : Asked → Attach → Result ⊤ AskRefusal → Asked → Type 0
Asks old attach (Ok done) new =
    (map.get old (attach.handle).0 ≡ None) × IsNewName old attach.name
    × (new ≡ map.insert old (attach.handle).0 (asked_with attach))
Asks old attach (Err HandleInUse) new = IsSome (map.get old (attach.handle).0) × (new ≡ old)
Asks old attach (Err NameInUse) new =
    (map.get old (attach.handle).0 ≡ None) × ((handle : ℕ) × HasName old handle attach.name) × (new ≡ old)
Asks old attach (Err Memory) new = (map.get old (attach.handle).0 ≡ None) × IsNewName old attach.name × (new ≡ old)

-- a Flow tells of the asked link with this handle, if there is one
abbrev pub told_to : Asked → ℕ → LinkFlow → Option AskedLink → Asked
told_to asked handle flow None = asked
told_to asked handle flow (Some link) = map.insert asked handle (record link { flow = Some flow })

abbrev pub told_at : Asked → ℕ → LinkFlow → Asked
told_at asked handle flow = told_to asked handle flow (map.get asked handle)

-- an asked link has the handle, if there is one
abbrev pub is_asked : Asked → Option Handle → Bool
is_asked asked None = false
is_asked asked (Some handle) = is_some (map.get asked handle.0)

-- what a Flow with this handle tells of its link
abbrev pub link_told : Flow → Handle → LinkFlow
link_told f handle =
    record {
      handle = handle;
      delivery_count = f.delivery_count;
      link_credit = f.link_credit;
      available = f.available;
      drain = f.drain;
      echo = f.echo;
      properties = f.properties;
    }

-- what is kept of a Flow for an asked link
abbrev pub told_of : Asked → Flow → Option Handle → Asked
told_of asked flow None = asked
told_of asked flow (Some handle) = told_at asked handle.0 (link_told flow handle)
