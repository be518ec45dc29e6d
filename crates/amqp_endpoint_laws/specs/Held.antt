-- Where the links stand that an endpoint's sessions hold (part 2, 2.6.2).
use Rattle.std.specs.Prelude.{◌≡◌, ◌⊎◌, ℕ, Option, Some, None}
use Rattle.std.specs.Global.{Box}
use Rattle.amqp_session_types.specs.declared.handles.OutputHandle.{OutputHandle}
use Rattle.amqp_session_core.specs.State.{State, link_at}
use Rattle.amqp_endpoint_conversation.specs.Beginning.{Sessions}
use Rattle.amqp_endpoint_links.specs.declared.asking.AskingSession.{AskingSession}
use Rattle.amqp_endpoint_links.specs.declared.numbered.Numbered.{Numbered}
use Rattle.amqp_endpoint_tables.specs.OwnLinks.{slot_at}
use Rattle.amqp_endpoint_tables.specs.LinkState.{State as LinksBy, held_at}
use Rattle.amqp_endpoint_tables.specs.State.{live_at}

module _ {R : Type 0} where
  -- the number of a link
  abbrev pub number_of : Option (Numbered R) → Option ℕ
  number_of None = None
  number_of (Some link) = Some link.number

  -- that of the link with an own handle in a session
  abbrev pub number_in : State (Numbered R) → ℕ → Option ℕ
  number_in s handle = number_of (link_at s handle)

  abbrev pub number_live : Option (Box (AskingSession (Numbered R))) → ℕ → Option ℕ
  number_live None handle = None
  number_live (Some session) handle = number_in session.value.session handle

  -- likewise in the session with a number, as long as that goes on
  abbrev pub number_at : Sessions (Numbered R) → ℕ → ℕ → Option ℕ
  number_at s session handle = number_live (live_at s session) handle

-- the number of the link with an own handle in a session, for each session and each handle
abbrev pub Numbers : Type 0
Numbers = ℕ → ℕ → Option ℕ

module _ {L : Type 0} where
  -- the session holds the link under this handle, or the link is closed: such a one leaves its session only once
  -- nothing of it waits there (part 2, 2.6.6)
  abbrev pub IsHeldThere : LinksBy L → ℕ → ℕ → ℕ → Type 0
  IsHeldThere links link session handle =
      (held_at links link ≡ Some (session, record { 0 = handle })) ⊎ (slot_at links link ≡ Some None)

  -- a link that a session holds stands there under its handle, and the session goes on; and one that stands in a
  -- session is held there, or is closed
  pub record Agrees (numbers : Numbers) (links : LinksBy L) : Type 0 where
    pub held :
        (link session : ℕ) (handle : OutputHandle) → held_at links link ≡ Some (session, handle)
        → numbers session handle.0 ≡ Some link
    pub stands :
        (link session handle : ℕ) → numbers session handle ≡ Some link → IsHeldThere links link session handle
