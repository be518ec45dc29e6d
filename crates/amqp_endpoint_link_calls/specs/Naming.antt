-- An endpoint's sessions and links, and which link of the peer's a link answers: part 2, 2.6.1, 2.6.3.
use Rattle.std.specs.Prelude.{◌≡◌, ◌⊎◌, ℕ, List, Bool, true, false, Option, Some, None}
use Rattle.std.specs.FinMap as map
use Rattle.amqp_session_types.specs.declared.handles.InputHandle.{InputHandle}
use Rattle.amqp_session_types.specs.declared.modes.Role.{Role}
use Rattle.amqp_session_types.specs.declared.modes.Role.TheVariants.{Sender, Receiver}
use Rattle.amqp_session_core.specs.Echoes.{opposite}
use Rattle.amqp_link.specs.Ends.{base_of}
use Rattle.amqp_link.specs.declared.end.End.{End}
use Rattle.amqp_endpoint_links.specs.Asked.{Asked, IsNewName}
use Rattle.amqp_endpoint_links.specs.declared.links.AskedLink.{AskedLink}
use Rattle.amqp_endpoint_attached.specs.Ends.{role_of}

-- the name of a link (2.6.1)
abbrev pub name_of : End → List ℕ
name_of link = (base_of link).name

-- two roles are those of both ends of a link (2.8.1)
abbrev pub are_both : Role → Role → Bool
are_both Sender Receiver = true
are_both Receiver Sender = true
are_both own peers = false

-- the peer asks for a link with this name by this handle, and has this end of it
pub record IsAsked (asked : Asked) (handle : ℕ) (name : List ℕ) (role : Role) : Type 0 where
  pub link : AskedLink
  pub there : map.get asked handle ≡ Some link
  pub named : (link.attach).name ≡ name
  pub has_role : (link.attach).role ≡ role

-- which asked link one answers: the one that has its name, of which the peer has the other end. It answers none where
-- the peer asks for none of its name, or for one of which it has the same end
abbrev pub MeetsBy : Asked → List ℕ → Role → Option InputHandle → Type 0
MeetsBy asked name role None = IsNewName asked name ⊎ ((handle : ℕ) × IsAsked asked handle name role)
MeetsBy asked name role (Some input) = IsAsked asked input.0 name (opposite role)

abbrev pub Meets : Asked → End → Option InputHandle → Type 0
Meets asked link input = MeetsBy asked (name_of link) (role_of link) input
