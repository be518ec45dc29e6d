-- A link that gets a handle and is changed by its owner then got it as it is then.
use Rattle.std.proofs.Common.{◌≡◌, ◌⊎◌, inl, inr, ℕ, ◌==◌, Bool, true, false, List, Option, Some, None, IsSome, if◌then◌else◌}
use Rattle.std.proofs.Common.{refl, sym, ap, subst, ◌∙◌, eq-eqb}
use Rattle.std.proofs.lemmas.Bool.Decides.{eqb_tells}
use Rattle.std.proofs.lemmas.List.{get_or-set_same, get_or-set_other}
use Rattle.std.specs.FinMap as map
use Rattle.std.specs.Prelude.{IfSome, slice_index_or, slice_set}
use Rattle.amqp_session_core.specs.Relay.{Relations}
use Rattle.amqp_session_core.specs.State.{State, link_at}
use Rattle.amqp_session_core.specs.Steps.{Step, Allocates, Changes}
use Rattle.amqp_endpoint_attached.proofs.There.{reaches_to}

module _ {R A T D : Type 0} (relations : Relations R A T D) (old mid new : State R) (handle : ℕ) (link before after : R)
    (changes : Step relations mid (Changes handle before after) new) where
  -- the links, each by its handle
  each : ((other : ℕ) → link_at mid other ≡ (if other == handle then Some link else link_at old other))
      → (other : ℕ) → link_at new other ≡ (if other == handle then Some after else link_at old other)
  each were other =
      elim (eqb_tells other handle) [
        | inl p ↦
            ap (λ (s : State R). link_at s other) changes.1
            ∙ ap (λ (k : ℕ). slice_index_or (slice_set mid.links handle (Some after)) k None) p.1
            ∙ get_or-set_same mid.links handle (Some after) None (reaches_to mid.links handle before changes.0)
            ∙ sym (ap (λ (b : Bool). if b then Some after else link_at old other) p.0)
        | inr p ↦
            ap (λ (s : State R). link_at s other) changes.1
            ∙ get_or-set_other mid.links handle other (Some after) None p.1
            ∙ were other
            ∙ ap (λ (b : Bool). if b then Some link else link_at old other) p.0
            ∙ sym (ap (λ (b : Bool). if b then Some after else link_at old other) p.0)
      ]

  -- a link that the peer doesn't ask for
  pub owned : Step relations old (Allocates handle link None) mid → Step relations old (Allocates handle after None) new
  owned step =
      let changed = changes.1 ∙ ap (λ (s : State R). record s { links = slice_set mid.links handle (Some after) }) step.4 in (
        step.0,
        step.1,
        step.2,
        each step.3,
        changed ∙ sym (ap (λ (s : State R). record old { links = s.links; offered = s.offered }) changed),
      )

  -- one that answers
  pub owned_by : (input : ℕ) → Step relations old (Allocates handle link (Some input)) mid
      → Step relations old (Allocates handle after (Some input)) new
  owned_by input step =
      let changed = changes.1 ∙ ap (λ (s : State R). record s { links = slice_set mid.links handle (Some after) }) step.5 in (
        step.0,
        step.1,
        step.2,
        step.3,
        each step.4,
        changed
            ∙ sym (ap (λ (s : State R). record old {
              links = s.links;
              offered = s.offered;
              routes = map.insert old.routes input handle;
            }) changed),
      )

-- what a session has under the handle that it gave
module _ {R A T D : Type 0} (relations : Relations R A T D) (old mid : State R) (handle : ℕ) (link : R) where
  pub given : Step relations old (Allocates handle link None) mid → link_at mid handle ≡ Some link
  given step =
      step.3 handle ∙ ap (λ (b : Bool). if b then Some link else link_at old handle) (eq-eqb handle handle refl)

  pub given_by : (input : ℕ) → Step relations old (Allocates handle link (Some input)) mid
      → link_at mid handle ≡ Some link
  given_by input step =
      step.4 handle ∙ ap (λ (b : Bool). if b then Some link else link_at old handle) (eq-eqb handle handle refl)

-- what holds of a link that is there
pub if_some : {R : Type 0} (P : R → Type 0) (o : Option R) (link : R) → o ≡ Some link → P link → IfSome o P
if_some P o link there holds = subst (λ (x : Option _). IfSome x P) (sym there) holds

-- what stands in an option, or in an answer, is one
pub some_is : {X : Type 0} (a b : X) → Some a ≡ Some b → a ≡ b
some_is a b e = cc
