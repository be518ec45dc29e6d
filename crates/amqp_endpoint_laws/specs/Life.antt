-- The life of a receiving link: which transfers reach it, from its endpoint's first deed to the last (part 2, 2.6.12,
-- 2.6.14).
use Rattle.std.specs.Prelude.{◌≡◌, ◌⊎◌, ℕ, List, [], ◌∷◌, ◌++◌, Option}
use Rattle.amqp_session_types.specs.declared.handles.OutputHandle.{OutputHandle}
use Rattle.amqp_link_base.specs.Readings.{Piece}
use Rattle.amqp_link_receiver.specs.Deliveries.{Delivery as Incoming}
use Rattle.amqp_endpoint_laws.specs.Deeds.{Deed, IsDeed}
use Rattle.amqp_endpoint.specs.Does.{linked}
use Rattle.amqp_endpoint.specs.declared.linked.LinkedSessions.{LinkedSessions}
use Rattle.amqp_endpoint_laws.specs.Handed.{IsReceiving, pieces_in}

-- before a deed and behind it a link is attached in this session under this own handle
pub record StaysAttached (old new : LinkedSessions) (link session : ℕ) (own : OutputHandle) : Type 0 where
  pub held : Option Incoming
  pub later : Option Incoming
  pub before : IsReceiving old link session own held
  pub behind : IsReceiving new link session own later

-- it is so in some session, under some own handle
abbrev pub StaysSomewhere : LinkedSessions → LinkedSessions → ℕ → Type 0
StaysSomewhere old new link = (session : ℕ) × (own : OutputHandle) × StaysAttached old new link session own

-- these transfers reach a link by one deed: where the link stays attached so, the one that comes to it by the deed, if
-- one does; and none where it stays attached nowhere
abbrev pub ReachBy : (link session : ℕ) → OutputHandle → LinkedSessions → Deed → LinkedSessions → List Piece → Type 0
ReachBy link session own old deed new pieces =
    (StaysAttached old new link session own × (pieces ≡ pieces_in session own old deed))
    ⊎ ((StaysSomewhere old new link → ⊥) × (pieces ≡ []))

-- and these by deeds that are done one after the other, where it stays attached by any of them in this session alone,
-- under this own handle alone
abbrev pub Reach : (link session : ℕ) → OutputHandle → LinkedSessions → List Deed → LinkedSessions → List Piece
    → Type 0
Reach link session own old [] new pieces = (new ≡ old) × (pieces ≡ [])
Reach link session own old (deed ∷ deeds) new pieces =
    (mid : LinkedSessions) × (first : List Piece) × (later : List Piece) × IsDeed linked old deed mid
    × ReachBy link session own old deed mid first × Reach link session own mid deeds new later
    × (pieces ≡ first ++ later)
