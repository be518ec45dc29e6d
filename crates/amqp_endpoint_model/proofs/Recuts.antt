-- It does not matter how the bytes of adjacent feeds are cut.
use Rattle.std.proofs.Common.{◌≡◌, ◌≢◌, ℕ, List, [], ◌∷◌, ◌++◌, length, refl, sym, ◌∙◌, ap, subst, Option, Some, None, inl, inr}
use Rattle.amqp_endpoint_model.specs.declared.error.EndpointError.{EndpointError}
use Rattle.amqp_endpoint_model.specs.declared.error.EndpointError.TheVariants.{Memory}
use Rattle.amqp_endpoint_model.specs.declared.event.Event.{Event}
use Rattle.amqp_endpoint_model.specs.declared.call.Call.{Call}
use Rattle.amqp_endpoint_model.specs.declared.call.Call.TheVariants.{Feed}
use Rattle.amqp_endpoint_model.specs.Relay.{Relations}
use Rattle.amqp_endpoint_model.specs.Said.{Said, refused, fed, Told}
use Rattle.amqp_endpoint_model.specs.State.{State}
use Rattle.amqp_endpoint_model.specs.Step.{FeedsIn, MayRefuse, Step}
use Rattle.amqp_endpoint_model.specs.History.{Run, first_fault, feeds_joined, feed_before, merged_answer, told_joined, told_before, HasMemory, AllHaveMemory}
use Rattle.amqp_endpoint_model.proofs.Joins.{feeds_then}

pub no_feed_refused : {S : Type 0} (s : State S) (bytes : List ℕ) (e : EndpointError) → MayRefuse s (Feed bytes) e → ⊥
no_feed_refused s bytes e (inl is) = cc
no_feed_refused s bytes e (inr (none, memory, grows)) = grows

pub has_memory : (answer : Said) (es : List Event) (f : Option EndpointError) → answer ≡ fed es f → HasMemory answer
    → f ≢ Some Memory
has_memory answer es f is h = let P : Said → Type 0 = λ x. HasMemory x in subst P is h

first_has_memory : (f g : Option EndpointError) → f ≢ Some Memory → g ≢ Some Memory → first_fault f g ≢ Some Memory
first_has_memory (Some e) g a b = a
first_has_memory None g a b = b

merged-is : (t u : Told) (es ds : List Event) (f g : Option EndpointError) → t.answer ≡ fed es f → u.answer ≡ fed ds g
    → merged_answer t.answer u.answer ≡ fed (es ++ ds) (first_fault f g)
merged-is t u es ds f g a b = ap (λ x. merged_answer x u.answer) a ∙ ap (λ x. merged_answer (fed es f) x) b

module _ {S : Type 0} (does : Relations S) where
  -- what a feed answers
  pub record FeedSaid (old : State S) (bytes : List ℕ) (answer : Said) (new : State S) : Type 0 where
    pub events : List Event
    pub fault : Option EndpointError
    pub answer_is : answer ≡ fed events fault
    pub feeds : FeedsIn does old.phase old bytes events fault new

  pub feed_said : (old : State S) (bytes : List ℕ) (answer : Said) (new : State S)
      → Step does old (Feed bytes) answer new → FeedSaid old bytes answer new
  feed_said old bytes (fed es f) new step = record { events = es; fault = f; answer_is = refl; feeds = step }
  feed_said old bytes (refused e) new step = absurd (no_feed_refused old bytes e step.0)
  feed_said old bytes answer new step = absurd step

  pub record Joined (old : State S) (calls : List Call) (ts : List Told) (end : State S) : Type 0 where
    pub run : Run does old calls ts end
    pub memory : AllHaveMemory ts

  joined-feed : (old mid : State S) (bytes : List ℕ) (t : Told) (calls : List Call) (ts : List Told) (end : State S)
      → Step does old (Feed bytes) t.answer mid → t.queued ≡ length mid.queue → HasMemory t.answer
      → Run does mid calls ts end → AllHaveMemory ts → Joined old (feed_before bytes calls) (told_before t calls ts) end
  joined-feed old mid bytes t (Feed more ∷ calls) (u ∷ us) end step queued h (next, one, left, rest) (first, others) =
      let a : FeedSaid old bytes t.answer mid = feed_said old bytes t.answer mid step in
      let b : FeedSaid mid more u.answer next = feed_said mid more u.answer next one in
      let m : a.fault ≢ Some Memory = has_memory t.answer a.events a.fault a.answer_is h in
      let n : b.fault ≢ Some Memory = has_memory u.answer b.events b.fault b.answer_is first in
      let is : merged_answer t.answer u.answer ≡ fed (a.events ++ b.events) (first_fault a.fault b.fault)
      = merged-is t u a.events b.events a.fault b.fault a.answer_is b.answer_is in
      let both = feeds_then does old bytes more a.events b.events a.fault b.fault mid next m a.feeds b.feeds in
      let P : Said → Type 0 = λ x. Step does old (Feed (bytes ++ more)) x next in
      let Q : Said → Type 0 = λ x. HasMemory x in
      record {
        run = (next, subst P (sym is) both, left, rest);
        memory = (subst Q (sym is) (first_has_memory a.fault b.fault m n), others);
      }
  joined-feed old mid bytes t (Feed more ∷ calls) [] end step queued h run others = absurd run
  joined-feed old mid bytes t calls ts end step queued h run others = record {
    run = (mid, step, queued, run);
    memory = (h, others);
  }

  -- a run, its adjacent feeds as one, is a run
  pub joined-run : (old : State S) (calls : List Call) (ts : List Told) (end : State S) → Run does old calls ts end
      → AllHaveMemory ts → Joined old (feeds_joined calls) (told_joined calls ts) end
  joined-run old [] [] end run h = record { run = run; memory = h }
  joined-run old [] (t ∷ ts) end run h = absurd run
  joined-run old (call ∷ calls) [] end run h = absurd run
  joined-run old (Feed bytes ∷ calls) (t ∷ ts) end (mid, step, queued, rest) (first, others) =
      let later : Joined mid (feeds_joined calls) (told_joined calls ts) end
      = joined-run mid calls ts end rest others in
      joined-feed old mid bytes t (feeds_joined calls) (told_joined calls ts) end step queued first later.run
      later.memory
  joined-run old (call ∷ calls) (t ∷ ts) end (mid, step, queued, rest) (first, others) =
      let later : Joined mid (feeds_joined calls) (told_joined calls ts) end
      = joined-run mid calls ts end rest others in
      record { run = (mid, step, queued, later.run); memory = (first, later.memory) }
