-- How a link begins to be attached by a call: a new one, or one that was at rest (part 2, 2.6.3).
use Rattle.std.specs.Prelude.{◌≡◌, ℕ, zero, suc, List, [], ◌∷◌, Some}
use Rattle.amqp_session_types.specs.declared.modes.Role.TheVariants.{Sender}
use Rattle.amqp_link.specs.declared.end.End.{End}
use Rattle.amqp_endpoint_attached.specs.Ends.{role_of}
use Rattle.amqp_endpoint_model.specs.Said.{Said, attaching}
use Rattle.amqp_endpoint_model.specs.declared.call.Call.{Call}
use Rattle.amqp_endpoint_model.specs.declared.call.Call.TheVariants.{AttachReceiver, AttachSender, Resume}
use Rattle.amqp_endpoint_link_calls.specs.Naming.{name_of}
use Rattle.amqp_endpoint_linking.specs.Linking.{Links}
use Rattle.amqp_endpoint_tables.specs.LinkState.{rest_at}
use Rattle.amqp_endpoint.specs.declared.linked.LinkedSessions.{LinkedSessions}
use Rattle.amqp_endpoint_laws.specs.Deeds.{Deed, Does}

-- by this call, which is answered so, the link with this number attaches in the session with that one
abbrev pub OpensBy : Call → Said → ℕ → ℕ → Type 0
OpensBy (AttachSender session its) (attaching one events) number link = (session ≡ number) × (one ≡ link)
OpensBy (AttachReceiver session its) (attaching one events) number link = (session ≡ number) × (one ≡ link)
OpensBy (Resume one session) (attaching answered events) number link = (session ≡ number) × (one ≡ link)
OpensBy call answer number link = ⊥

-- it does by this deed
abbrev pub Opens : Deed → ℕ → ℕ → Type 0
Opens (Does limit call answer frames) number link = OpensBy call answer number link
Opens deed number link = ⊥

-- the link with this number is at rest, sends, and has this name
pub record IsSenderAtRest (links : Links) (link : ℕ) (name : List ℕ) : Type 0 where
  pub end : End
  pub rests : rest_at links link ≡ Some end
  pub sends : role_of end ≡ Sender
  pub named : name_of end ≡ name

-- it attaches so as a sending link with this name
abbrev pub OpensSending : LinkedSessions → Deed → ℕ → ℕ → List ℕ → Type 0
OpensSending old (Does limit (AttachSender session its) (attaching one events) frames) number link name =
    (session ≡ number) × (one ≡ link) × (its.name ≡ name)
OpensSending old (Does limit (Resume one session) (attaching answered events) frames) number link name =
    (session ≡ number) × (one ≡ link) × IsSenderAtRest old.links one name
OpensSending old deed number link name = ⊥

-- those behind the one with this number, of things that are numbered from 0 on
abbrev pub those_behind : {A : Type 0} → ℕ → List A → List A
those_behind n [] = []
those_behind zero (x ∷ xs) = xs
those_behind (suc n) (x ∷ xs) = those_behind n xs
