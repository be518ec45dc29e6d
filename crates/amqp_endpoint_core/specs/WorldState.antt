-- Two endpoints, and the bytes on their way between them.
use Rattle.std.specs.Prelude.{◌≡◌, List, [], ℕ}
use Rattle.amqp_endpoint_model.specs.declared.settings.Settings.{Settings}
use Rattle.amqp_endpoint_model.specs.Relay.{Relations, IsNew}
use Rattle.amqp_endpoint_model.specs.State.{State, fresh}
use Rattle.amqp_endpoint_core.specs.declared.step.End.{End}
use Rattle.amqp_endpoint_core.specs.declared.step.End.TheVariants.{A, B}

-- a world, whose endpoints have sessions that are an S
pub record WorldState (S : Type 0) : Type 0 where
  pub a : State S
  pub b : State S
  -- the bytes pulled of the other end that each end is still to be fed, in order
  pub to_a : List ℕ
  pub to_b : List ℕ

-- one direction of a world: the end that sends, the bytes on their way, and the end that receives
pub record Way (S : Type 0) : Type 0 where
  pub from : State S
  pub stream : List ℕ
  pub to : State S

abbrev pub other : End → End
other A = B
other B = A

module _ {S : Type 0} where
  abbrev pub state_at : End → WorldState S → State S
  state_at A w = w.a
  state_at B w = w.b

  -- the bytes on their way to an end
  abbrev pub stream_to : End → WorldState S → List ℕ
  stream_to A w = w.to_a
  stream_to B w = w.to_b

  -- the direction in which an end sends
  abbrev pub way_from : End → WorldState S → Way S
  way_from A w = record { from = w.a; stream = w.to_b; to = w.b }
  way_from B w = record { from = w.b; stream = w.to_a; to = w.a }

-- a new world of these settings: both endpoints are new, and nothing is on its way
pub record IsNewWorld {S : Type 0} (does : Relations S) (settings_a settings_b : Settings) (w : WorldState S) : Type 0
  where
    pub sessions_a : S
    pub sessions_b : S
    pub new_a : IsNew does settings_a sessions_a
    pub new_b : IsNew does settings_b sessions_b
    pub is : w ≡ record { a = fresh settings_a sessions_a; b = fresh settings_b sessions_b; to_a = []; to_b = [] }
