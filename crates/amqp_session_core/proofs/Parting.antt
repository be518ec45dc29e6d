-- A history taken apart between two calls.
use Rattle.std.proofs.Common.{◌≡◌, ℕ, List, [], ◌∷◌, ◌++◌, Bool, true, false, refl, sym, ◌∙◌, ap, IsTrue}
use Rattle.std.proofs.lemmas.Bool.{eq-eqb}
use Rattle.std.specs.Prelude.{if◌then◌else◌, Option, Some, None}
use Rattle.amqp_session_core.specs.Relay.{Relations}
use Rattle.amqp_session_core.specs.State.{State, link_at}
use Rattle.amqp_session_core.specs.Steps.{Act, Step, Allocates}
use Rattle.amqp_session_core.specs.History.{History, is_freed}
use Rattle.amqp_session_core.proofs.Owning.{own-history}

module _ {R A T D : Type 0} (gives : Relations R A T D) where
  abbrev Runs : State R → List (Act R A T D) → State R → Type 0
  Runs = History gives

  -- the state between the two parts
  pub record Parted (start : State R) (steps later : List (Act R A T D)) (end : State R) : Type 0 where
    pub mid : State R
    pub before : Runs start steps mid
    pub behind : Runs mid later end

  pub parted : (steps later : List (Act R A T D)) (start end : State R) → Runs start (steps ++ later) end
      → Parted start steps later end
  parted [] later start end run = record { mid = start; before = refl; behind = run }
  parted (step ∷ steps) later start end run =
      let rest = parted steps later run.0 end run.2 in
      record { mid = rest.mid; before = (run.0, run.1, rest.before); behind = rest.behind }

  -- a link has its handle from then on
  given : (handle : ℕ) (x : R) (input : Option ℕ) (old new : State R) → Step gives old (Allocates handle x input) new
      → link_at new handle ≡ Some x
  given handle x None old new s = s.3 handle ∙ ap (λ (b : Bool). if b then Some x else link_at old handle) (eq-eqb handle handle refl)
  given handle x (Some input) old new s = s.4 handle ∙ ap (λ (b : Bool). if b then Some x else link_at old handle) (eq-eqb handle handle refl)

  -- and none had it before
  vacant : (handle : ℕ) (x : R) (input : Option ℕ) (old new : State R) → Step gives old (Allocates handle x input) new
      → link_at old handle ≡ None
  vacant handle x None old new s = s.1
  vacant handle x (Some input) old new s = s.2

  pub links-apart : (start end : State R) (one two : R) (input other : Option ℕ) (handle : ℕ)
      (between later : List (Act R A T D))
      → Runs start (Allocates handle one input ∷ (between ++ Allocates handle two other ∷ later)) end → IsTrue (is_freed handle between)
  links-apart start end one two input other handle between later run = by (is_freed handle between) refl
    where
      by : (b : Bool) → is_freed handle between ≡ b → IsTrue b
      by true e = refl
      by false e =
          let parts = parted between (Allocates handle two other ∷ later) run.0 end run.2 in
          let lives = own-history gives handle one between run.0 parts.mid parts.before e (given handle one input start run.0 run.1) in
          let none = vacant handle two other parts.mid parts.behind.0 parts.behind.1 in
          absurd (let clash : Some lives.new ≡ None = sym lives.stands ∙ none in cc)
