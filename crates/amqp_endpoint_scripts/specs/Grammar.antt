-- The grammar of scripts: the line `one`, at most one settings line, and steps; or the line `two`, at most one settings
-- line of each end, and steps.
use Rattle.std.specs.Prelude.{◌≡◌, ◌≢◌, ◌⊎◌, ℕ, false, List, [], ◌∷◌, ◌++◌, map, Option, Some}
use Rattle.amqp_endpoint_model.specs.declared.settings.Settings.{Settings}
use Rattle.amqp_endpoint_model.specs.declared.call.Call.{Call}
use Rattle.amqp_endpoint_core.specs.declared.step.End.{End}
use Rattle.amqp_endpoint_core.specs.declared.step.End.TheVariants.{A, B}
use Rattle.amqp_endpoint_core.specs.declared.step.Step.{Step}
use Rattle.amqp_endpoint_core.specs.declared.step.Step.TheVariants as world
use Rattle.amqp_endpoint_core.specs.WorldStep.{is_the_worlds}
use Rattle.amqp_endpoint_scripts.specs.declared.statement.Statement.{Statement}
use Rattle.amqp_endpoint_scripts.specs.declared.statement.Statement.TheVariants.{One, Two, Settings as SettingsAre}
use Rattle.amqp_endpoint_scripts.specs.declared.statement.Statement.TheVariants.{Call as CallAt, Move, Break}
use Rattle.amqp_endpoint_scripts.specs.Script.{Line, Given, OneScript, TwoScript, Reading, nothing, unreadable, of_one}
use Rattle.amqp_endpoint_scripts.specs.Script.{of_two, statement, default_settings, script_lines, reading}

-- what each line says
abbrev pub statements : List Line → List (Option Statement)
statements lines = map (λ l. statement l.text) lines

-- a settings line: of which end, and which
abbrev pub Head : Type 0
Head = End × Settings

abbrev pub heads_said : List Head → List (Option Statement)
heads_said heads = map (λ h. Some (SettingsAre h.0 h.1)) heads

-- at most one of the end `a`
abbrev pub OfOne : List Head → Type 0
OfOne [] = Unit {0}
OfOne (h ∷ []) = h.0 ≡ A
OfOne (h ∷ k ∷ heads) = ⊥

-- at most one of each end
abbrev pub OfTwo : List Head → Type 0
OfTwo [] = Unit {0}
OfTwo (h ∷ []) = Unit {0}
OfTwo (h ∷ k ∷ []) = h.0 ≢ k.0
OfTwo (h ∷ k ∷ l ∷ heads) = ⊥

abbrev pub calls_said : List Call → List (Option Statement)
calls_said calls = map (λ call. Some (CallAt A call)) calls

abbrev pub step_said : Step → Statement
step_said (world.Call end call) = CallAt end call
step_said (world.Move end count) = Move end count
step_said world.Break = Break

abbrev pub steps_said : List Step → List (Option Statement)
steps_said steps = map (λ step. Some (step_said step)) steps

-- no end feeds, pulls or breaks off by a call of its own
abbrev pub IsOfTwo : Step → Type 0
IsOfTwo (world.Call end call) = is_the_worlds call ≡ false
IsOfTwo step = Unit {0}

abbrev pub AllOfTwo : List Step → Type 0
AllOfTwo [] = Unit {0}
AllOfTwo (step ∷ steps) = IsOfTwo step × AllOfTwo steps

-- what the lines of a script say, one after the other
pub record SaysOne (said : List (Option Statement)) (heads : List Head) (calls : List Call) : Type 0 where
  pub once : OfOne heads
  pub is : said ≡ Some One ∷ (heads_said heads ++ calls_said calls)

pub record SaysTwo (said : List (Option Statement)) (heads : List Head) (steps : List Step) : Type 0 where
  pub once : OfTwo heads
  pub are_of_two : AllOfTwo steps
  pub is : said ≡ Some Two ∷ (heads_said heads ++ steps_said steps)

abbrev pub SaysScript : List (Option Statement) → Type 0
SaysScript said =
    ((heads : List Head) × (calls : List Call) × SaysOne said heads calls)
    ⊎ ((heads : List Head) × (steps : List Step) × SaysTwo said heads steps)

-- these lines can be the first ones of a script
pub record MayBegin (lines : List Line) : Type 0 where
  pub more : List (Option Statement)
  pub said : SaysScript (statements lines ++ more)

-- n is the line up to which the lines can be the first ones of a script, and with which they can't
pub record IsFirstUnreadable (lines : List Line) (n : ℕ) : Type 0 where
  pub front : List Line
  pub line : Line
  pub rest : List Line
  pub lines_are : lines ≡ front ++ line ∷ rest
  pub number : n ≡ line.number
  pub begins : MayBegin front
  pub stops : MayBegin (front ++ line ∷ []) → ⊥

-- the settings of an end and their line are those of its settings line, or its own ones and the first line
abbrev pub IsGiven : Line → List Line → List Head → End → Given → Type 0
IsGiven first lines [] end given = given ≡ record { line = first.number; settings = default_settings end }
IsGiven first [] (h ∷ heads) end given = ⊥
IsGiven first (line ∷ lines) (h ∷ heads) end given =
    ((h.0 ≡ end) × (given ≡ record { line = line.number; settings = h.1 }))
    ⊎ ((h.0 ≢ end) × IsGiven first lines heads end given)

-- the lines of a script: the first one, those of its settings, and those of its steps
pub record Lines (lines : List Line) (heads : List Head) (numbers : List ℕ) : Type 0 where
  pub first : Line
  pub settings : List Line
  pub steps : List Line
  pub are : lines ≡ first ∷ (settings ++ steps)
  pub given : statements settings ≡ heads_said heads
  pub numbered : numbers ≡ map (λ l. l.number) steps

-- these lines are this script of one end
pub record IsOne (lines : List Line) (script : OneScript) : Type 0 where
  pub heads : List Head
  pub says : SaysOne (statements lines) heads script.calls
  pub parts : Lines lines heads script.lines
  pub given : IsGiven parts.first parts.settings heads A script.given

-- these lines are this script of two ends
pub record IsTwo (lines : List Line) (script : TwoScript) : Type 0 where
  pub heads : List Head
  pub says : SaysTwo (statements lines) heads script.steps
  pub parts : Lines lines heads script.lines
  pub given_a : IsGiven parts.first parts.settings heads A script.given_a
  pub given_b : IsGiven parts.first parts.settings heads B script.given_b

abbrev pub Means : List Line → Reading → Type 0
Means lines nothing = lines ≡ []
Means lines (unreadable n) = IsFirstUnreadable lines n
Means lines (of_one script) = IsOne lines script
Means lines (of_two script) = IsTwo lines script

-- a script is read by the grammar
abbrev pub FollowsGrammar : Type 0
FollowsGrammar = (text : List ℕ) → Means (script_lines text) (reading text)
