-- A script's reading, step by step.
use Rattle.std.proofs.Common.{ℕ, List, ◌++◌}
use Rattle.amqp_endpoint_model.specs.declared.call.Call.{Call}
use Rattle.amqp_endpoint_core.specs.declared.step.Step.{Step}
use Rattle.amqp_endpoint_scripts.specs.Script.{Reading, of_one, of_two}

-- these steps of one end, and behind them what is read of the others
abbrev pub behind_calls : List ℕ → List Call → Reading → Reading
behind_calls lines calls (of_one s) = of_one (record s { lines = lines ++ s.lines; calls = calls ++ s.calls })
behind_calls lines calls reading = reading

-- these steps of two ends, and behind them what is read of the others
abbrev pub behind_steps : List ℕ → List Step → Reading → Reading
behind_steps lines steps (of_two s) = of_two (record s { lines = lines ++ s.lines; steps = steps ++ s.steps })
behind_steps lines steps reading = reading
