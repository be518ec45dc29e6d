-- A script is read by its grammar.
use Rattle.std.proofs.Common.{◌≡◌, ◌≢◌, inl, inr, ℕ, Bool, true, false, List, [], ◌∷◌, ◌++◌, map, Option, Some, None}
use Rattle.std.proofs.Common.{refl, sym, ◌∙◌, ap, subst, append_assoc}
use Rattle.std.proofs.lemmas.List.{map-append}
use Rattle.amqp_endpoint_model.specs.declared.settings.Settings.{Settings}
use Rattle.amqp_endpoint_model.specs.declared.call.Call.{Call}
use Rattle.amqp_endpoint_core.specs.declared.step.End.{End}
use Rattle.amqp_endpoint_core.specs.declared.step.End.TheVariants.{A, B}
use Rattle.amqp_endpoint_core.specs.declared.step.Step.{Step}
use Rattle.amqp_endpoint_core.specs.declared.step.Step.TheVariants as world
use Rattle.amqp_endpoint_core.specs.WorldState.{other}
use Rattle.amqp_endpoint_core.specs.WorldStep.{is_the_worlds}
use Rattle.amqp_endpoint_scripts.specs.declared.statement.Statement.{Statement}
use Rattle.amqp_endpoint_scripts.specs.declared.statement.Statement.TheVariants.{One, Two, Settings as SettingsAre}
use Rattle.amqp_endpoint_scripts.specs.declared.statement.Statement.TheVariants.{Call as CallAt, Move, Break}
use Rattle.amqp_endpoint_scripts.specs.Script.{Line, Given, OneScript, TwoScript, Reading, nothing, unreadable, of_one}
use Rattle.amqp_endpoint_scripts.specs.Script.{of_two, statement, given_none, given_on, one_step, two_call, two_step}
use Rattle.amqp_endpoint_scripts.specs.Script.{one_before, two_before, one_steps, two_steps, one_given, behind_one}
use Rattle.amqp_endpoint_scripts.specs.Script.{steps_with, other_given, behind_given, two_given, behind_two, form_then}
use Rattle.amqp_endpoint_scripts.specs.Script.{reading_of, script_lines}
use Rattle.amqp_endpoint_scripts.specs.Grammar.{statements, Head, heads_said, OfOne, OfTwo, calls_said, step_said}
use Rattle.amqp_endpoint_scripts.specs.Grammar.{steps_said, IsOfTwo, AllOfTwo, SaysScript, IsFirstUnreadable, IsGiven}
use Rattle.amqp_endpoint_scripts.specs.Grammar.{Means, FollowsGrammar}

abbrev Said : Type 0
Said = List (Option Statement)

abbrev first_of_said : Said → Option Statement
first_of_said [] = None
first_of_said (s ∷ ss) = s

abbrev others_said : Said → Said
others_said [] = []
others_said (s ∷ ss) = ss

-- some list of this kind begins so
record Begins (F : Said → Type 0) (said : Said) : Type 0 where
  more : Said
  whole : F (said ++ more)

-- the first of these lines with which none does
record Stops (F : Said → Type 0) (lines : List Line) (n : ℕ) : Type 0 where
  front : List Line
  line : Line
  rest : List Line
  lines_are : lines ≡ front ++ line ∷ rest
  number : n ≡ line.number
  begins : Begins F (statements front)
  stops : (more : Said) → F (statements front ++ statement line.text ∷ more) → ⊥

stops_here : (F : Said → Type 0) (line : Line) (lines : List Line) → Begins F []
    → ((more : Said) → F (statement line.text ∷ more) → ⊥) → Stops F (line ∷ lines) line.number
stops_here F line lines begins stops =
    record { front = []; line = line; rest = lines; lines_are = refl; number = refl; begins = begins; stops = stops }

-- behind a line, a list of one kind goes on as one of the other
stops_behind : (F G : Said → Type 0) (line : Line) (lines : List Line) (n : ℕ)
    → ((ss : Said) → F (statement line.text ∷ ss) → G ss) → ((ss : Said) → G ss → F (statement line.text ∷ ss))
    → Stops G lines n → Stops F (line ∷ lines) n
stops_behind F G line lines n off on h =
    record {
      front = line ∷ h.front;
      line = h.line;
      rest = h.rest;
      lines_are = ap (λ ls. line ∷ ls) h.lines_are;
      number = h.number;
      begins = record { more = (h.begins).more; whole = on (statements h.front ++ (h.begins).more) (h.begins).whole };
      stops = λ more f. h.stops more (off (statements h.front ++ statement h.line.text ∷ more) f);
    }

-- with this first line, a list of one kind is one of the other
stops_as : (F G : Said → Type 0) (line : Line) (lines : List Line) (n : ℕ)
    → ((ss : Said) → F (statement line.text ∷ ss) → G (statement line.text ∷ ss)) → ((ss : Said) → G ss → F ss)
    → Stops G (line ∷ lines) n → Stops F (line ∷ lines) n
stops_as F G line lines n down up h =
    record {
      front = h.front;
      line = h.line;
      rest = h.rest;
      lines_are = h.lines_are;
      number = h.number;
      begins = record { more = (h.begins).more; whole = up (statements h.front ++ (h.begins).more) (h.begins).whole };
      stops = λ more f. h.stops more (go h.front h.line h.rest h.lines_are more f);
    }
  where
    go : (front : List Line) (l : Line) (rest : List Line) → line ∷ lines ≡ front ++ l ∷ rest → (more : Said)
        → F (statements front ++ statement l.text ∷ more) → G (statements front ++ statement l.text ∷ more)
    go [] l rest e more f =
        let k : line ≡ l = cc in
        subst (λ (x : Line). F (statement x.text ∷ more) → G (statement x.text ∷ more)) k (down more) f
    go (x ∷ front) l rest e more f =
        let k : line ≡ x = cc in
        let ss : Said = statements front ++ statement l.text ∷ more in
        subst (λ (y : Line). F (statement y.text ∷ ss) → G (statement y.text ∷ ss)) k (down ss) f

-- the line is this settings line
abbrev IsOfSettings : End → Settings → Line → Type 0
IsOfSettings end settings line = statement line.text ≡ Some (SettingsAre end settings)

-- no settings of this end
abbrev NotOf : End → Option Statement → Type 0
NotOf A (Some (SettingsAre A settings)) = ⊥
NotOf B (Some (SettingsAre B settings)) = ⊥
NotOf end said = Unit {0}

not_of : (end : End) (settings : Settings) → NotOf end (Some (SettingsAre end settings)) → ⊥
not_of A settings h = h
not_of B settings h = h

not_other : (end : End) → end ≡ other end → ⊥
not_other A e = cc
not_other B e = cc

-- the end that isn't this one is the other
is_other : (end x : End) → x ≢ end → x ≡ other end
is_other A A h = absurd (h refl)
is_other A B h = refl
is_other B A h = refl
is_other B B h = absurd (h refl)

-- Steps of one end.
record IsCalls (said : Said) : Type 0 where
  calls : List Call
  is : said ≡ calls_said calls

no_calls : Begins IsCalls []
no_calls = record { more = []; whole = record { calls = []; is = refl } }

no_call : (s : Option Statement) (more : Said) → one_step s ≡ None → IsCalls (s ∷ more) → ⊥
no_call s more none h = go h.calls h.is
  where
    go : (calls : List Call) → s ∷ more ≡ calls_said calls → ⊥
    go [] e = let k : s ∷ more ≡ [] = e in cc
    go (call ∷ calls) e = let k : one_step s ≡ Some call = ap one_step (ap first_of_said e) in cc

one_is : (s : Option Statement) (call : Call) → one_step s ≡ Some call → s ≡ Some (CallAt A call)
one_is (Some (CallAt A c)) call e = cc
one_is s call e = cc

calls_off : (s : Option Statement) (ss : Said) → IsCalls (s ∷ ss) → IsCalls ss
calls_off s ss h = go h.calls h.is
  where
    go : (calls : List Call) → s ∷ ss ≡ calls_said calls → IsCalls ss
    go [] e = let k : s ∷ ss ≡ [] = e in absurd cc
    go (call ∷ calls) e = record { calls = calls; is = ap others_said e }

calls_on : (s : Option Statement) (call : Call) (ss : Said) → s ≡ Some (CallAt A call) → IsCalls ss → IsCalls (s ∷ ss)
calls_on s call ss e h =
    record { calls = call ∷ h.calls; is = ap (λ x. x ∷ ss) e ∙ ap (λ xs. Some (CallAt A call) ∷ xs) h.is }

record AreCalls (given : Given) (lines : List Line) (script : OneScript) : Type 0 where
  said : statements lines ≡ calls_said script.calls
  numbers : script.lines ≡ map (λ l. l.number) lines
  given_is : script.given ≡ given

abbrev OneMean : (Said → Type 0) → Given → List Line → Reading → Type 0
OneMean F given lines nothing = ⊥
OneMean F given lines (unreadable n) = Stops F lines n
OneMean F given lines (of_one script) = AreCalls given lines script
OneMean F given lines (of_two script) = ⊥

call_more : (given : Given) (line : Line) (lines : List Line) (call : Call) (r : Reading)
    → statement line.text ≡ Some (CallAt A call) → OneMean IsCalls given lines r
    → OneMean IsCalls given (line ∷ lines) (one_before line.number (Some call) r)
call_more given line lines call nothing e h = h
call_more given line lines call (unreadable n) e h =
    stops_behind IsCalls IsCalls line lines n (λ ss x. calls_off (statement line.text) ss x)
    (λ ss x. calls_on (statement line.text) call ss e x) h
call_more given line lines call (of_one script) e h =
    record {
      said = ap (λ s. s ∷ statements lines) e ∙ ap (λ ss. Some (CallAt A call) ∷ ss) h.said;
      numbers = ap (λ ns. line.number ∷ ns) h.numbers;
      given_is = h.given_is;
    }
call_more given line lines call (of_two script) e h = h

calls_more : (given : Given) (line : Line) (lines : List Line) (c : Option Call) (r : Reading)
    → one_step (statement line.text) ≡ c → OneMean IsCalls given lines r
    → OneMean IsCalls given (line ∷ lines) (one_before line.number c r)
calls_more given line lines None r e h =
    stops_here IsCalls line lines no_calls (λ more x. no_call (statement line.text) more e x)
calls_more given line lines (Some call) r e h =
    call_more given line lines call r (one_is (statement line.text) call e) h

calls_mean : (given : Given) (lines : List Line) → OneMean IsCalls given lines (one_steps given lines)
calls_mean given [] = record { said = refl; numbers = refl; given_is = refl }
calls_mean given (line ∷ lines) =
    calls_more given line lines (one_step (statement line.text)) (one_steps given lines) refl (calls_mean given lines)

one_as : (F : Said → Type 0) (given : Given) (line : Line) (lines : List Line) (r : Reading)
    → ((ss : Said) → F (statement line.text ∷ ss) → IsCalls (statement line.text ∷ ss))
    → ((ss : Said) → IsCalls ss → F ss) → OneMean IsCalls given (line ∷ lines) r → OneMean F given (line ∷ lines) r
one_as F given line lines nothing down up h = h
one_as F given line lines (unreadable n) down up h = stops_as F IsCalls line lines n down up h
one_as F given line lines (of_one script) down up h = h
one_as F given line lines (of_two script) down up h = h

-- Behind the line `one`.
record IsBehindOne (said : Said) : Type 0 where
  heads : List Head
  calls : List Call
  once : OfOne heads
  is : said ≡ heads_said heads ++ calls_said calls

one_up : (ss : Said) → IsCalls ss → IsBehindOne ss
one_up ss h = record { heads = []; calls = h.calls; once = tt; is = h.is }

one_down : (s : Option Statement) (ss : Said) → NotOf A s → IsBehindOne (s ∷ ss) → IsCalls (s ∷ ss)
one_down s ss none h = go h.heads h.once h.is
  where
    go : (heads : List Head) → OfOne heads → s ∷ ss ≡ heads_said heads ++ calls_said h.calls → IsCalls (s ∷ ss)
    go [] once e = record { calls = h.calls; is = e }
    go (k ∷ []) once e =
        let says : s ≡ Some (SettingsAre k.0 k.1) = ap first_of_said e in
        absurd (subst (λ (x : End). NotOf A (Some (SettingsAre x k.1))) once (subst (NotOf A) says none))
    go (k ∷ l ∷ heads) once e = absurd once

one_off : (s : Option Statement) (settings : Settings) (ss : Said) → s ≡ Some (SettingsAre A settings)
    → IsBehindOne (s ∷ ss) → IsCalls ss
one_off s settings ss is h = go h.heads h.calls h.once h.is
  where
    go : (heads : List Head) (calls : List Call) → OfOne heads → s ∷ ss ≡ heads_said heads ++ calls_said calls
        → IsCalls ss
    go [] [] once e = let k : s ∷ ss ≡ [] = e in absurd cc
    go [] (call ∷ calls) once e = let k : s ≡ Some (CallAt A call) = ap first_of_said e in absurd cc
    go (k ∷ []) calls once e = record { calls = calls; is = ap others_said e }
    go (k ∷ l ∷ heads) calls once e = absurd once

one_on : (s : Option Statement) (settings : Settings) (ss : Said) → s ≡ Some (SettingsAre A settings) → IsCalls ss
    → IsBehindOne (s ∷ ss)
one_on s settings ss is h =
    record {
      heads = (A, settings) ∷ [];
      calls = h.calls;
      once = refl;
      is = ap (λ x. x ∷ ss) is ∙ ap (λ xs. Some (SettingsAre A settings) ∷ xs) h.is;
    }

-- Steps of two ends.
record IsSteps (said : Said) : Type 0 where
  steps : List Step
  are_of_two : AllOfTwo steps
  is : said ≡ steps_said steps

no_steps : Begins IsSteps []
no_steps = record { more = []; whole = record { steps = []; are_of_two = tt; is = refl } }

step_said_is : (step : Step) → IsOfTwo step → two_step (Some (step_said step)) ≡ Some step
step_said_is (world.Call end call) h = ap (λ b. two_call b end call) h
step_said_is (world.Move end n) h = refl
step_said_is world.Break h = refl

no_step : (s : Option Statement) (more : Said) → two_step s ≡ None → IsSteps (s ∷ more) → ⊥
no_step s more none h = go h.steps h.are_of_two h.is
  where
    go : (steps : List Step) → AllOfTwo steps → s ∷ more ≡ steps_said steps → ⊥
    go [] are e = let k : s ∷ more ≡ [] = e in cc
    go (step ∷ steps) are e =
        let k : two_step s ≡ Some step = ap two_step (ap first_of_said e) ∙ step_said_is step are.0 in cc

record IsStep (s : Option Statement) (step : Step) : Type 0 where
  says : s ≡ Some (step_said step)
  is_of_two : IsOfTwo step

call_is : (end : End) (call : Call) (step : Step) (b : Bool) → is_the_worlds call ≡ b
    → two_call b end call ≡ Some step → IsStep (Some (CallAt end call)) step
call_is end call step true own e = let k : None ≡ Some step = e in absurd cc
call_is end call step false own e =
    let is : Some (world.Call end call) ≡ Some step = e in
    let k : world.Call end call ≡ step = cc in
    subst (λ (s : Step). IsStep (Some (CallAt end call)) s) k (record { says = refl; is_of_two = own })

two_is : (s : Option Statement) (step : Step) → two_step s ≡ Some step → IsStep s step
two_is (Some (CallAt end call)) step e = call_is end call step (is_the_worlds call) refl e
two_is (Some (Move end n)) step e =
    let is : Some (world.Move end n) ≡ Some step = e in
    let k : world.Move end n ≡ step = cc in
    subst (λ (s : Step). IsStep (Some (Move end n)) s) k (record { says = refl; is_of_two = tt })
two_is (Some Break) step e =
    let is : Some world.Break ≡ Some step = e in
    let k : world.Break ≡ step = cc in
    subst (λ (s : Step). IsStep (Some Break) s) k (record { says = refl; is_of_two = tt })
two_is s step e = let k : None ≡ Some step = e in absurd cc

steps_off : (s : Option Statement) (ss : Said) → IsSteps (s ∷ ss) → IsSteps ss
steps_off s ss h = go h.steps h.are_of_two h.is
  where
    go : (steps : List Step) → AllOfTwo steps → s ∷ ss ≡ steps_said steps → IsSteps ss
    go [] are e = let k : s ∷ ss ≡ [] = e in absurd cc
    go (step ∷ steps) are e = record { steps = steps; are_of_two = are.1; is = ap others_said e }

steps_on : (s : Option Statement) (step : Step) (ss : Said) → IsStep s step → IsSteps ss → IsSteps (s ∷ ss)
steps_on s step ss first h =
    record {
      steps = step ∷ h.steps;
      are_of_two = (first.is_of_two, h.are_of_two);
      is = ap (λ x. x ∷ ss) first.says ∙ ap (λ xs. Some (step_said step) ∷ xs) h.is;
    }

-- the settings of an end, and their line
abbrev given_at : End → TwoScript → Given
given_at A script = script.given_a
given_at B script = script.given_b

record AreSteps (end : End) (given given_other : Given) (lines : List Line) (script : TwoScript) : Type 0 where
  said : statements lines ≡ steps_said script.steps
  are_of_two : AllOfTwo script.steps
  numbers : script.lines ≡ map (λ l. l.number) lines
  given_is : given_at end script ≡ given
  other_is : given_at (other end) script ≡ given_other

abbrev TwoMean : (Said → Type 0) → End → Given → Given → List Line → Reading → Type 0
TwoMean F end given given_other lines nothing = ⊥
TwoMean F end given given_other lines (unreadable n) = Stops F lines n
TwoMean F end given given_other lines (of_one script) = ⊥
TwoMean F end given given_other lines (of_two script) = AreSteps end given given_other lines script

step_more : (end : End) (given given_other : Given) (line : Line) (lines : List Line) (step : Step) (r : Reading)
    → IsStep (statement line.text) step → TwoMean IsSteps end given given_other lines r
    → TwoMean IsSteps end given given_other (line ∷ lines) (two_before line.number (Some step) r)
step_more end given given_other line lines step nothing e h = h
step_more end given given_other line lines step (unreadable n) e h =
    stops_behind IsSteps IsSteps line lines n (λ ss x. steps_off (statement line.text) ss x)
    (λ ss x. steps_on (statement line.text) step ss e x) h
step_more end given given_other line lines step (of_one script) e h = h
step_more A given given_other line lines step (of_two script) e h =
    record {
      said = ap (λ s. s ∷ statements lines) e.says ∙ ap (λ ss. Some (step_said step) ∷ ss) h.said;
      are_of_two = (e.is_of_two, h.are_of_two);
      numbers = ap (λ ns. line.number ∷ ns) h.numbers;
      given_is = h.given_is;
      other_is = h.other_is;
    }
step_more B given given_other line lines step (of_two script) e h =
    record {
      said = ap (λ s. s ∷ statements lines) e.says ∙ ap (λ ss. Some (step_said step) ∷ ss) h.said;
      are_of_two = (e.is_of_two, h.are_of_two);
      numbers = ap (λ ns. line.number ∷ ns) h.numbers;
      given_is = h.given_is;
      other_is = h.other_is;
    }

steps_more : (end : End) (given given_other : Given) (line : Line) (lines : List Line) (o : Option Step) (r : Reading)
    → two_step (statement line.text) ≡ o → TwoMean IsSteps end given given_other lines r
    → TwoMean IsSteps end given given_other (line ∷ lines) (two_before line.number o r)
steps_more end given given_other line lines None r e h =
    stops_here IsSteps line lines no_steps (λ more x. no_step (statement line.text) more e x)
steps_more end given given_other line lines (Some step) r e h =
    step_more end given given_other line lines step r (two_is (statement line.text) step e) h

steps_mean : (end : End) (given given_other : Given) (lines : List Line)
    → TwoMean IsSteps end given given_other lines (steps_with end given given_other lines)
steps_mean A given given_other [] =
    record { said = refl; are_of_two = tt; numbers = refl; given_is = refl; other_is = refl }
steps_mean B given given_other [] =
    record { said = refl; are_of_two = tt; numbers = refl; given_is = refl; other_is = refl }
steps_mean A given given_other (line ∷ lines) =
    steps_more A given given_other line lines (two_step (statement line.text)) (two_steps given given_other lines)
    refl (steps_mean A given given_other lines)
steps_mean B given given_other (line ∷ lines) =
    steps_more B given given_other line lines (two_step (statement line.text)) (two_steps given_other given lines)
    refl (steps_mean B given given_other lines)

two_as : (F : Said → Type 0) (end : End) (given given_other : Given) (line : Line) (lines : List Line) (r : Reading)
    → ((ss : Said) → F (statement line.text ∷ ss) → IsSteps (statement line.text ∷ ss))
    → ((ss : Said) → IsSteps ss → F ss) → TwoMean IsSteps end given given_other (line ∷ lines) r
    → TwoMean F end given given_other (line ∷ lines) r
two_as F end given given_other line lines nothing down up h = h
two_as F end given given_other line lines (unreadable n) down up h = stops_as F IsSteps line lines n down up h
two_as F end given given_other line lines (of_one script) down up h = h
two_as F end given given_other line lines (of_two script) down up h = h

no_settings_step : (step : Step) (end : End) (settings : Settings)
    → Some (step_said step) ≡ Some (SettingsAre end settings) → ⊥
no_settings_step (world.Call at call) end settings e = cc
no_settings_step (world.Move at n) end settings e = cc
no_settings_step world.Break end settings e = cc

no_settings_steps : (s : Option Statement) (ss : Said) (steps : List Step) (end : End) (settings : Settings)
    → s ≡ Some (SettingsAre end settings) → s ∷ ss ≡ steps_said steps → ⊥
no_settings_steps s ss [] end settings is e = let k : s ∷ ss ≡ [] = e in cc
no_settings_steps s ss (step ∷ steps) end settings is e =
    no_settings_step step end settings (sym (ap first_of_said e) ∙ is)

-- Behind the settings line of an end: at most one of the other end.
abbrev OfOther : End → List Head → Type 0
OfOther end [] = Unit {0}
OfOther end (h ∷ []) = h.0 ≢ end
OfOther end (h ∷ k ∷ heads) = ⊥

record IsBehindGiven (end : End) (said : Said) : Type 0 where
  heads : List Head
  steps : List Step
  once : OfOther end heads
  are_of_two : AllOfTwo steps
  is : said ≡ heads_said heads ++ steps_said steps

given_up : (end : End) (ss : Said) → IsSteps ss → IsBehindGiven end ss
given_up end ss h = record { heads = []; steps = h.steps; once = tt; are_of_two = h.are_of_two; is = h.is }

given_down : (end : End) (s : Option Statement) (ss : Said) → NotOf (other end) s → IsBehindGiven end (s ∷ ss)
    → IsSteps (s ∷ ss)
given_down end s ss none h = go h.heads h.once h.is
  where
    go : (heads : List Head) → OfOther end heads → s ∷ ss ≡ heads_said heads ++ steps_said h.steps → IsSteps (s ∷ ss)
    go [] once e = record { steps = h.steps; are_of_two = h.are_of_two; is = e }
    go (k ∷ []) once e =
        let says : s ≡ Some (SettingsAre k.0 k.1) = ap first_of_said e in
        let at : k.0 ≡ other end = is_other end k.0 once in
        absurd (
        not_of (other end) k.1
        (subst (λ (x : End). NotOf (other end) (Some (SettingsAre x k.1))) at (subst (NotOf (other end)) says none))
        )
    go (k ∷ l ∷ heads) once e = absurd once

given_off : (end : End) (s : Option Statement) (settings : Settings) (ss : Said)
    → s ≡ Some (SettingsAre (other end) settings) → IsBehindGiven end (s ∷ ss) → IsSteps ss
given_off end s settings ss is h = go h.heads h.once h.is
  where
    go : (heads : List Head) → OfOther end heads → s ∷ ss ≡ heads_said heads ++ steps_said h.steps → IsSteps ss
    go [] once e = absurd (no_settings_steps s ss h.steps (other end) settings is e)
    go (k ∷ []) once e = record { steps = h.steps; are_of_two = h.are_of_two; is = ap others_said e }
    go (k ∷ l ∷ heads) once e = absurd once

given_on_line : (end : End) (s : Option Statement) (settings : Settings) (ss : Said)
    → s ≡ Some (SettingsAre (other end) settings) → IsSteps ss → IsBehindGiven end (s ∷ ss)
given_on_line end s settings ss is h =
    record {
      heads = (other end, settings) ∷ [];
      steps = h.steps;
      once = λ e. not_other end (sym e);
      are_of_two = h.are_of_two;
      is = ap (λ x. x ∷ ss) is ∙ ap (λ xs. Some (SettingsAre (other end) settings) ∷ xs) h.is;
    }

-- Behind the line `two`.
record IsBehindTwo (said : Said) : Type 0 where
  heads : List Head
  steps : List Step
  once : OfTwo heads
  are_of_two : AllOfTwo steps
  is : said ≡ heads_said heads ++ steps_said steps

two_up : (ss : Said) → IsSteps ss → IsBehindTwo ss
two_up ss h = record { heads = []; steps = h.steps; once = tt; are_of_two = h.are_of_two; is = h.is }

two_down : (s : Option Statement) (ss : Said)
    → ((end : End) (settings : Settings) → s ≡ Some (SettingsAre end settings) → ⊥) → IsBehindTwo (s ∷ ss)
    → IsSteps (s ∷ ss)
two_down s ss none h = go h.heads h.is
  where
    go : (heads : List Head) → s ∷ ss ≡ heads_said heads ++ steps_said h.steps → IsSteps (s ∷ ss)
    go [] e = record { steps = h.steps; are_of_two = h.are_of_two; is = e }
    go (k ∷ heads) e = absurd (none k.0 k.1 (ap first_of_said e))

two_off : (end : End) (s : Option Statement) (settings : Settings) (ss : Said) → s ≡ Some (SettingsAre end settings)
    → IsBehindTwo (s ∷ ss) → IsBehindGiven end ss
two_off end s settings ss is h = go h.heads h.once h.is
  where
    go : (heads : List Head) → OfTwo heads → s ∷ ss ≡ heads_said heads ++ steps_said h.steps → IsBehindGiven end ss
    go [] once e = absurd (no_settings_steps s ss h.steps end settings is e)
    go (k ∷ []) once e =
        record { heads = []; steps = h.steps; once = tt; are_of_two = h.are_of_two; is = ap others_said e }
    go (k ∷ l ∷ []) once e =
        let says : Some (SettingsAre k.0 k.1) ≡ Some (SettingsAre end settings) = sym (ap first_of_said e) ∙ is in
        let at : k.0 ≡ end = cc in
        record {
          heads = l ∷ [];
          steps = h.steps;
          once = λ (q : l.0 ≡ end). once (at ∙ sym q);
          are_of_two = h.are_of_two;
          is = ap others_said e;
        }
    go (k ∷ l ∷ m ∷ heads) once e = absurd once

two_once : (end : End) (settings : Settings) (heads : List Head) → OfOther end heads → OfTwo ((end, settings) ∷ heads)
two_once end settings [] once = tt
two_once end settings (k ∷ []) once = λ q. once (sym q)
two_once end settings (k ∷ l ∷ heads) once = absurd once

two_on : (end : End) (s : Option Statement) (settings : Settings) (ss : Said) → s ≡ Some (SettingsAre end settings)
    → IsBehindGiven end ss → IsBehindTwo (s ∷ ss)
two_on end s settings ss is h =
    record {
      heads = (end, settings) ∷ h.heads;
      steps = h.steps;
      once = two_once end settings h.heads h.once;
      are_of_two = h.are_of_two;
      is = ap (λ x. x ∷ ss) is ∙ ap (λ xs. Some (SettingsAre end settings) ∷ xs) h.is;
    }

-- Whole scripts.
said_with : (front : List Line) (line : Line) (more : Said)
    → statements (front ++ line ∷ []) ++ more ≡ statements front ++ (statement line.text ∷ more)
said_with front line more =
    ap (λ ss. ss ++ more) (map-append (λ l. statement l.text) front (line ∷ [])) ∙ append_assoc (statements front)
    (statement line.text ∷ []) more

first_unreadable : (lines : List Line) (n : ℕ) → Stops SaysScript lines n → IsFirstUnreadable lines n
first_unreadable lines n h =
    record {
      front = h.front;
      line = h.line;
      rest = h.rest;
      lines_are = h.lines_are;
      number = h.number;
      begins = record { more = (h.begins).more; said = (h.begins).whole };
      stops = λ b. h.stops b.more (subst SaysScript (said_with h.front h.line b.more) b.said);
    }

module _ (one : Line) (is_one : statement one.text ≡ Some One) where
  off_one : (ss : Said) → SaysScript (statement one.text ∷ ss) → IsBehindOne ss
  off_one ss (inl h) = record { heads = h.0; calls = h.1; once = (h.2).once; is = ap others_said (h.2).is }
  off_one ss (inr h) = let k : statement one.text ≡ Some Two = ap first_of_said (h.2).is in absurd cc

  on_one : (ss : Said) → IsBehindOne ss → SaysScript (statement one.text ∷ ss)
  on_one ss h =
      inl (h.heads, h.calls, record { once = h.once; is = ap (λ s. s ∷ ss) is_one ∙ ap (λ xs. Some One ∷ xs) h.is })

  one_bare : (lines : List Line) (r : Reading) → OneMean IsBehindOne (given_none one.number A) lines r
      → Means (one ∷ lines) r
  one_bare lines nothing h = absurd h
  one_bare lines (unreadable n) h =
      first_unreadable (one ∷ lines) n (stops_behind SaysScript IsBehindOne one lines n off_one on_one h)
  one_bare lines (of_one script) h =
      record {
        heads = [];
        says = record { once = tt; is = ap (λ s. s ∷ statements lines) is_one ∙ ap (λ ss. Some One ∷ ss) h.said };
        parts = record { first = one; settings = []; steps = lines; are = refl; given = refl; numbered = h.numbers };
        given = h.given_is;
      }
  one_bare lines (of_two script) h = absurd h

  one_with : (line : Line) (settings : Settings) (lines : List Line) (r : Reading)
      → statement line.text ≡ Some (SettingsAre A settings) → OneMean IsCalls (given_on line settings) lines r
      → Means (one ∷ line ∷ lines) r
  one_with line settings lines nothing e h = absurd h
  one_with line settings lines (unreadable n) e h =
      first_unreadable (one ∷ line ∷ lines) n (stops_behind SaysScript IsBehindOne one (line ∷ lines) n off_one on_one (
      stops_behind IsBehindOne IsCalls line lines n (λ ss x. one_off (statement line.text) settings ss e x)
      (λ ss x. one_on (statement line.text) settings ss e x) h
      ))
  one_with line settings lines (of_one script) e h =
      record {
        heads = (A, settings) ∷ [];
        says = record {
          once = refl;
          is =
              ap (λ s. s ∷ statements (line ∷ lines)) is_one ∙ ap (λ s. Some One ∷ s ∷ statements lines) e
              ∙ ap (λ ss. Some One ∷ Some (SettingsAre A settings) ∷ ss) h.said;
        };
        parts = record {
          first = one;
          settings = line ∷ [];
          steps = lines;
          are = refl;
          given = ap (λ s. s ∷ []) e;
          numbered = h.numbers;
        };
        given = inl (refl, h.given_is);
      }
  one_with line settings lines (of_two script) e h = absurd h

  one_plain : (line : Line) (lines : List Line) → NotOf A (statement line.text)
      → Means (one ∷ line ∷ lines) (one_steps (given_none one.number A) (line ∷ lines))
  one_plain line lines none =
      one_bare (line ∷ lines) (one_steps (given_none one.number A) (line ∷ lines)) (
      one_as IsBehindOne (given_none one.number A) line lines (one_steps (given_none one.number A) (line ∷ lines))
      (λ ss x. one_down (statement line.text) ss none x) one_up (calls_mean (given_none one.number A) (line ∷ lines))
      )

  one_given_means : (line : Line) (lines : List Line) (o : Option Statement) → statement line.text ≡ o
      → Means (one ∷ line ∷ lines) (one_given one.number o line lines)
  one_given_means line lines (Some (SettingsAre A settings)) e =
      one_with line settings lines (one_steps (given_on line settings) lines) e
      (calls_mean (given_on line settings) lines)
  one_given_means line lines o e = one_plain line lines (subst (NotOf A) (sym e) tt)

  behind_one_means : (lines : List Line) → Means (one ∷ lines) (behind_one one.number lines)
  behind_one_means [] = one_bare [] (one_steps (given_none one.number A) []) (calls_mean (given_none one.number A) [])
  behind_one_means (line ∷ lines) = one_given_means line lines (statement line.text) refl

module _ (two : Line) (is_two : statement two.text ≡ Some Two) where
  off_two : (ss : Said) → SaysScript (statement two.text ∷ ss) → IsBehindTwo ss
  off_two ss (inl h) = let k : statement two.text ≡ Some One = ap first_of_said (h.2).is in absurd cc
  off_two ss (inr h) =
      record {
        heads = h.0;
        steps = h.1;
        once = (h.2).once;
        are_of_two = (h.2).are_of_two;
        is = ap others_said (h.2).is;
      }

  on_two : (ss : Said) → IsBehindTwo ss → SaysScript (statement two.text ∷ ss)
  on_two ss h =
      inr (
        h.heads,
        h.steps,
        record {
          once = h.once;
          are_of_two = h.are_of_two;
          is = ap (λ s. s ∷ ss) is_two ∙ ap (λ xs. Some Two ∷ xs) h.is;
        },
      )

  abbrev none_at : End → Given
  none_at end = given_none two.number end

  two_bare : (lines : List Line) (r : Reading) → TwoMean IsBehindTwo A (none_at A) (none_at B) lines r
      → Means (two ∷ lines) r
  two_bare lines nothing h = absurd h
  two_bare lines (unreadable n) h =
      first_unreadable (two ∷ lines) n (stops_behind SaysScript IsBehindTwo two lines n off_two on_two h)
  two_bare lines (of_one script) h = absurd h
  two_bare lines (of_two script) h =
      record {
        heads = [];
        says = record {
          once = tt;
          are_of_two = h.are_of_two;
          is = ap (λ s. s ∷ statements lines) is_two ∙ ap (λ ss. Some Two ∷ ss) h.said;
        };
        parts = record { first = two; settings = []; steps = lines; are = refl; given = refl; numbered = h.numbers };
        given_a = h.given_is;
        given_b = h.other_is;
      }

  -- one settings line
  module _ (end : End) (line : Line) (settings : Settings) (e : IsOfSettings end settings line) where
    one_head : (x : End) (script : TwoScript) → given_at end script ≡ given_on line settings
        → given_at (other end) script ≡ none_at (other end)
        → IsGiven two (line ∷ []) ((end, settings) ∷ []) x (given_at x script)
    one_head x script given_is other_is = go end x script settings given_is other_is
      where
        go : (end x : End) (script : TwoScript) (settings : Settings) → given_at end script ≡ given_on line settings
            → given_at (other end) script ≡ none_at (other end)
            → IsGiven two (line ∷ []) ((end, settings) ∷ []) x (given_at x script)
        go A A script settings given_is other_is = inl (refl, given_is)
        go A B script settings given_is other_is = inr (λ q. not_other A q, other_is)
        go B A script settings given_is other_is = inr (λ q. not_other B q, other_is)
        go B B script settings given_is other_is = inl (refl, given_is)

    with_one : (lines : List Line) (r : Reading)
        → TwoMean (IsBehindGiven end) end (given_on line settings) (none_at (other end)) lines r
        → Means (two ∷ line ∷ lines) r
    with_one lines nothing h = absurd h
    with_one lines (unreadable n) h =
        first_unreadable (two ∷ line ∷ lines) n
        (stops_behind SaysScript IsBehindTwo two (line ∷ lines) n off_two on_two (
        stops_behind IsBehindTwo (IsBehindGiven end) line lines n
        (λ ss x. two_off end (statement line.text) settings ss e x)
        (λ ss x. two_on end (statement line.text) settings ss e x) h
        ))
    with_one lines (of_one script) h = absurd h
    with_one lines (of_two script) h =
        record {
          heads = (end, settings) ∷ [];
          says = record {
            once = tt;
            are_of_two = h.are_of_two;
            is =
                ap (λ s. s ∷ statements (line ∷ lines)) is_two ∙ ap (λ s. Some Two ∷ s ∷ statements lines) e
                ∙ ap (λ ss. Some Two ∷ Some (SettingsAre end settings) ∷ ss) h.said;
          };
          parts = record {
            first = two;
            settings = line ∷ [];
            steps = lines;
            are = refl;
            given = ap (λ s. s ∷ []) e;
            numbered = h.numbers;
          };
          given_a = one_head A script h.given_is h.other_is;
          given_b = one_head B script h.given_is h.other_is;
        }

    -- and one of the other end
    module _ (second : Line) (others : Settings) (f : IsOfSettings (other end) others second) where
      two_heads : (x : End) (script : TwoScript) → given_at end script ≡ given_on line settings
          → given_at (other end) script ≡ given_on second others
          → IsGiven two (line ∷ second ∷ []) ((end, settings) ∷ (other end, others) ∷ []) x (given_at x script)
      two_heads x script given_is other_is = go end x script settings others given_is other_is
        where
          go : (end x : End) (script : TwoScript) (settings others : Settings)
              → given_at end script ≡ given_on line settings → given_at (other end) script ≡ given_on second others
              → IsGiven two (line ∷ second ∷ []) ((end, settings) ∷ (other end, others) ∷ []) x (given_at x script)
          go A A script settings others given_is other_is = inl (refl, given_is)
          go A B script settings others given_is other_is = inr (λ q. not_other A q, inl (refl, other_is))
          go B A script settings others given_is other_is = inr (λ q. not_other B q, inl (refl, other_is))
          go B B script settings others given_is other_is = inl (refl, given_is)

      with_two : (lines : List Line) (r : Reading)
          → TwoMean IsSteps end (given_on line settings) (given_on second others) lines r
          → Means (two ∷ line ∷ second ∷ lines) r
      with_two lines nothing h = absurd h
      with_two lines (unreadable n) h =
          first_unreadable (two ∷ line ∷ second ∷ lines) n
          (stops_behind SaysScript IsBehindTwo two (line ∷ second ∷ lines) n off_two on_two (
          stops_behind IsBehindTwo (IsBehindGiven end) line (second ∷ lines) n
          (λ ss x. two_off end (statement line.text) settings ss e x)
          (λ ss x. two_on end (statement line.text) settings ss e x) (
          stops_behind (IsBehindGiven end) IsSteps second lines n
          (λ ss x. given_off end (statement second.text) others ss f x)
          (λ ss x. given_on_line end (statement second.text) others ss f x) h
          )
          ))
      with_two lines (of_one script) h = absurd h
      with_two lines (of_two script) h =
          record {
            heads = (end, settings) ∷ (other end, others) ∷ [];
            says = record {
              once = λ q. not_other end q;
              are_of_two = h.are_of_two;
              is =
                  ap (λ s. s ∷ statements (line ∷ second ∷ lines)) is_two
                  ∙ ap (λ s. Some Two ∷ s ∷ statements (second ∷ lines)) e
                  ∙ ap (λ s. Some Two ∷ Some (SettingsAre end settings) ∷ s ∷ statements lines) f
                  ∙ ap (λ ss. Some Two ∷ Some (SettingsAre end settings) ∷ Some (SettingsAre (other end) others) ∷ ss)
                  h.said;
            };
            parts = record {
              first = two;
              settings = line ∷ second ∷ [];
              steps = lines;
              are = refl;
              given = ap (λ s. s ∷ statement second.text ∷ []) e ∙ ap (λ s. Some (SettingsAre end settings) ∷ s ∷ []) f;
              numbered = h.numbers;
            };
            given_a = two_heads A script h.given_is h.other_is;
            given_b = two_heads B script h.given_is h.other_is;
          }

    with_plain : (second : Line) (lines : List Line) → NotOf (other end) (statement second.text)
        → Means (two ∷ line ∷ second ∷ lines)
        (steps_with end (given_on line settings) (none_at (other end)) (second ∷ lines))
    with_plain second lines none =
        with_one (second ∷ lines) (steps_with end (given_on line settings) (none_at (other end)) (second ∷ lines)) (
        two_as (IsBehindGiven end) end (given_on line settings) (none_at (other end)) second lines
        (steps_with end (given_on line settings) (none_at (other end)) (second ∷ lines))
        (λ ss x. given_down end (statement second.text) ss none x) (given_up end)
        (steps_mean end (given_on line settings) (none_at (other end)) (second ∷ lines))
        )

  other_given_means : (end : End) (line : Line) (settings : Settings) (second : Line) (lines : List Line)
      (o : Option Statement) → IsOfSettings end settings line → statement second.text ≡ o
      → Means (two ∷ line ∷ second ∷ lines) (other_given two.number end (given_on line settings) o second lines)
  other_given_means A line settings second lines (Some (SettingsAre B others)) e f =
      with_two A line settings e second others f lines
      (two_steps (given_on line settings) (given_on second others) lines)
      (steps_mean A (given_on line settings) (given_on second others) lines)
  other_given_means B line settings second lines (Some (SettingsAre A others)) e f =
      with_two B line settings e second others f lines
      (two_steps (given_on second others) (given_on line settings) lines)
      (steps_mean B (given_on line settings) (given_on second others) lines)
  other_given_means A line settings second lines o e f =
      with_plain A line settings e second lines (subst (NotOf B) (sym f) tt)
  other_given_means B line settings second lines o e f =
      with_plain B line settings e second lines (subst (NotOf A) (sym f) tt)

  behind_given_means : (end : End) (line : Line) (settings : Settings) (lines : List Line)
      → statement line.text ≡ Some (SettingsAre end settings)
      → Means (two ∷ line ∷ lines) (behind_given two.number end (given_on line settings) lines)
  behind_given_means A line settings [] e =
      with_one A line settings e [] (two_steps (given_on line settings) (none_at B) [])
      (steps_mean A (given_on line settings) (none_at B) [])
  behind_given_means B line settings [] e =
      with_one B line settings e [] (two_steps (none_at A) (given_on line settings) [])
      (steps_mean B (given_on line settings) (none_at A) [])
  behind_given_means A line settings (second ∷ lines) e =
      other_given_means A line settings second lines (statement second.text) e refl
  behind_given_means B line settings (second ∷ lines) e =
      other_given_means B line settings second lines (statement second.text) e refl

  abbrev NoSettings : Option Statement → Type 0
  NoSettings (Some (SettingsAre end settings)) = ⊥
  NoSettings said = Unit {0}

  two_plain : (line : Line) (lines : List Line) → NoSettings (statement line.text)
      → Means (two ∷ line ∷ lines) (two_steps (none_at A) (none_at B) (line ∷ lines))
  two_plain line lines none =
      two_bare (line ∷ lines) (two_steps (none_at A) (none_at B) (line ∷ lines)) (
      two_as IsBehindTwo A (none_at A) (none_at B) line lines (two_steps (none_at A) (none_at B) (line ∷ lines))
      (λ ss x. two_down (statement line.text) ss (λ end settings e. subst NoSettings e none) x) two_up
      (steps_mean A (none_at A) (none_at B) (line ∷ lines))
      )

  two_given_means : (line : Line) (lines : List Line) (o : Option Statement) → statement line.text ≡ o
      → Means (two ∷ line ∷ lines) (two_given two.number o line lines)
  two_given_means line lines (Some (SettingsAre end settings)) e = behind_given_means end line settings lines e
  two_given_means line lines o e = two_plain line lines (subst NoSettings (sym e) tt)

  behind_two_means : (lines : List Line) → Means (two ∷ lines) (behind_two two.number lines)
  behind_two_means [] = two_bare [] (two_steps (none_at A) (none_at B) []) (steps_mean A (none_at A) (none_at B) [])
  behind_two_means (line ∷ lines) = two_given_means line lines (statement line.text) refl

-- a first line that is neither
abbrev NotForm : Option Statement → Type 0
NotForm (Some One) = ⊥
NotForm (Some Two) = ⊥
NotForm said = Unit {0}

some_script : Begins SaysScript []
some_script = record { more = Some One ∷ []; whole = inl ([], [], record { once = tt; is = refl }) }

no_form : (line : Line) (lines : List Line) → NotForm (statement line.text)
    → IsFirstUnreadable (line ∷ lines) line.number
no_form line lines none = first_unreadable (line ∷ lines) line.number (stops_here SaysScript line lines some_script go)
  where
    go : (more : Said) → SaysScript (statement line.text ∷ more) → ⊥
    go more (inl h) = subst NotForm (ap first_of_said (h.2).is) none
    go more (inr h) = subst NotForm (ap first_of_said (h.2).is) none

form_means : (line : Line) (lines : List Line) (o : Option Statement) → statement line.text ≡ o
    → Means (line ∷ lines) (form_then line.number o lines)
form_means line lines (Some One) e = behind_one_means line e lines
form_means line lines (Some Two) e = behind_two_means line e lines
form_means line lines o e = no_form line lines (subst NotForm (sym e) tt)

lines_mean : (lines : List Line) → Means lines (reading_of lines)
lines_mean [] = refl
lines_mean (line ∷ lines) = form_means line lines (statement line.text) refl

pub follows_grammar : FollowsGrammar
follows_grammar text = lines_mean (script_lines text)
