-- What a script comes to: the bytes that it prints, and its status.
use Rattle.std.specs.Prelude.{◌≡◌, ℕ, List, [], ◌++◌, Option, Some, None, codes, decimal}
use Rattle.amqp_endpoint_model.specs.declared.error.EndpointError.{EndpointError}
use Rattle.amqp_endpoint_model.specs.Numbers.{number}
use Rattle.amqp_endpoint_model.specs.Relay.{IsNew}
use Rattle.amqp_endpoint_model.specs.Said.{Told}
use Rattle.amqp_endpoint_model.specs.State.{State, fresh}
use Rattle.amqp_endpoint_model.specs.Step.{refusal_of_settings}
use Rattle.amqp_endpoint_model.specs.History.{Run}
use Rattle.amqp_endpoint.specs.declared.linked.LinkedSessions.{LinkedSessions}
use Rattle.amqp_endpoint.specs.Does.{linked}
use Rattle.amqp_endpoint_core.specs.WorldSaid.{WorldTold}
use Rattle.amqp_endpoint_core.specs.WorldState.{IsNewWorld, WorldState}
use Rattle.amqp_endpoint_core.specs.WorldStep.{WorldRun}
use Rattle.amqp_endpoint_scripts.specs.Script.{Given, OneScript, TwoScript, Reading, nothing, unreadable, of_one}
use Rattle.amqp_endpoint_scripts.specs.Script.{of_two, reading}
use Rattle.amqp_endpoint_scripts.specs.Printed.{printed, world_printed, line_end}

-- the endpoint of these settings may answer the steps so, and that is printed
pub record Plays (script : OneScript) (output : List ℕ) : Type 0 where
  pub tolds : List Told
  pub sessions : LinkedSessions
  pub last : State LinkedSessions
  pub new : IsNew linked (script.given).settings sessions
  pub run : Run linked (fresh (script.given).settings sessions) script.calls tolds last
  pub output_is : output ≡ printed script.lines tolds

-- two endpoints of these settings may do the steps so, and that is printed
pub record PlaysTwo (script : TwoScript) (output : List ℕ) : Type 0 where
  pub tolds : List WorldTold
  pub start : WorldState LinkedSessions
  pub last : WorldState LinkedSessions
  pub new : IsNewWorld linked (script.given_a).settings (script.given_b).settings start
  pub run : WorldRun linked start script.steps tolds last
  pub output_is : output ≡ world_printed script.lines script.steps tolds

-- settings are refused
abbrev pub refused_by : Given → EndpointError → List ℕ → ℕ → Type 0
refused_by given e output status =
    (output ≡ decimal given.line ++ (codes " refused " ++ (decimal (number e) ++ line_end))) × (status ≡ 1)

-- a script of one end that was read, with the first refusal of its settings
abbrev pub one_with : OneScript → Option EndpointError → List ℕ → ℕ → Type 0
one_with script (Some e) output status = refused_by script.given e output status
one_with script None output status = Plays script output × (status ≡ 0)

abbrev pub one_comes_to : OneScript → List ℕ → ℕ → Type 0
one_comes_to script output status = one_with script (refusal_of_settings (script.given).settings) output status

-- a script of two ends: those of the first are refused first
abbrev pub two_with : TwoScript → Option EndpointError → Option EndpointError → List ℕ → ℕ → Type 0
two_with script (Some e) other output status = refused_by script.given_a e output status
two_with script None (Some e) output status = refused_by script.given_b e output status
two_with script None None output status = PlaysTwo script output × (status ≡ 0)

abbrev pub two_comes_to : TwoScript → List ℕ → ℕ → Type 0
two_comes_to script output status =
    two_with script (refusal_of_settings (script.given_a).settings) (refusal_of_settings (script.given_b).settings)
    output status

abbrev pub reading_comes_to : Reading → List ℕ → ℕ → Type 0
reading_comes_to nothing output status = (output ≡ []) × (status ≡ 1)
reading_comes_to (unreadable line) output status =
    (output ≡ decimal line ++ (codes " unreadable" ++ line_end)) × (status ≡ 1)
reading_comes_to (of_one script) output status = one_comes_to script output status
reading_comes_to (of_two script) output status = two_comes_to script output status

-- this script prints this, with this status
abbrev pub comes_to : List ℕ → List ℕ → ℕ → Type 0
comes_to text output status = reading_comes_to (reading text) output status
