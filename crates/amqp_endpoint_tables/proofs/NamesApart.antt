-- No two links that aren't closed have one name, whatever comes.
use Rattle.std.proofs.Common.{◌≡◌, ◌≢◌, ◌⊎◌, inl, inr, ℕ, true, false, List, [], ◌∷◌, ◌++◌, Option, Some, None, sym, ap, subst, ◌∙◌, ◌==◌, length, slice_set}
use Rattle.std.proofs.lemmas.Bool.Decides.{eqb_tells}
use Rattle.std.proofs.lemmas.Option.{none-some, same_Some}
use Rattle.amqp_endpoint_tables.specs.declared.link_place.LinkPlace.{LinkPlace}
use Rattle.amqp_endpoint_tables.specs.declared.link_place.LinkPlace.TheVariants.{Held, AtRest}
use Rattle.amqp_endpoint_tables.specs.declared.link_place.Named.{Named}
use Rattle.amqp_endpoint_tables.specs.LinkState.{State, AreApart, IsNewName, fresh, name_in, put_in}
use Rattle.amqp_endpoint_tables.specs.LinkSteps.{Act, Step, History, MakesRoom, LowersRoom, Enters, Rests, Holds}
use Rattle.amqp_endpoint_tables.specs.LinkSteps.{ChangesAtRest, Closes}
use Rattle.amqp_endpoint_tables.proofs.Slots.{name-before, name-entered, name-gone, name-left, name-put}

pub none_apart : (L : Type 0) → AreApart (fresh {L = L}).links
none_apart L m n name a b = absurd (none-some _ a)

module _ {L : Type 0} where
  module _ (links : List (Option (Named L))) (apart : AreApart links) where
    put_apart : (number : ℕ) (place : LinkPlace L) → AreApart (put_in links number place)
    put_apart number place m n name a b =
        apart m n name (sym (name-put links number place m) ∙ a) (sym (name-put links number place n) ∙ b)

    closed_apart : (number : ℕ) → AreApart (slice_set links number None)
    closed_apart number m n name a b = apart m n name (was m a) (was n b)
      where
        was : (k : ℕ) → name_in (slice_set links number None) k ≡ Some name → name_in links k ≡ Some name
        was k e = by (eqb_tells k number)
          where
            by : (((k == number) ≡ true) × (k ≡ number)) ⊎ (((k == number) ≡ false) × (k ≢ number))
                → name_in links k ≡ Some name
            by (inl p) =
                absurd (none-some _ (sym (ap (name_in (slice_set links number None)) p.1 ∙ name-gone links number) ∙ e))
            by (inr p) = sym (name-left links number k p.1) ∙ e

    entered_apart : (link : Named L) → IsNewName links link.name → AreApart (links ++ Some link ∷ [])
    entered_apart link new m n name a b = by (eqb_tells m (length links)) (eqb_tells n (length links))
      where
        is : (k : ℕ) → name_in (links ++ Some link ∷ []) k ≡ Some name → k ≡ length links → link.name ≡ name
        is k e last = same_Some _ _ (sym (ap (name_in (links ++ Some link ∷ [])) last ∙ name-entered links link) ∙ e)

        clash : (k : ℕ) → name_in (links ++ Some link ∷ []) k ≡ Some name → k ≢ length links → link.name ≡ name → ⊥
        clash k e other same =
            new k (sym (name-before links link k other) ∙ e ∙ ap (λ (x : List ℕ). Some x) (sym same))

        by : (((m == length links) ≡ true) × (m ≡ length links)) ⊎ (((m == length links) ≡ false) × (m ≢ length links))
            → (((n == length links) ≡ true) × (n ≡ length links)) ⊎ (((n == length links) ≡ false) × (n ≢ length links))
            → m ≡ n
        by (inl p) (inl q) = p.1 ∙ sym q.1
        by (inl p) (inr q) = absurd (clash n b q.1 (is m a p.1))
        by (inr p) (inl q) = absurd (clash m a p.1 (is n b q.1))
        by (inr p) (inr q) =
            apart m n name (sym (name-before links link m p.1) ∙ a) (sym (name-before links link n q.1) ∙ b)

  same_links : (old new : State L) (links : List (Option (Named L))) → new.links ≡ links → AreApart links
      → AreApart new.links
  same_links old new links is apart = subst (λ (ls : List (Option (Named L))). AreApart ls) (sym is) apart

  step_apart : (old : State L) (step : Act L) (new : State L) → Step old step new → AreApart old.links
      → AreApart new.links
  step_apart old (MakesRoom name) new s apart =
      same_links old new old.links (ap (λ (x : State L). x.links) s.1) apart
  step_apart old (LowersRoom room) new s apart =
      same_links old new old.links (ap (λ (x : State L). x.links) s) apart
  step_apart old (Enters number name session handle) new s apart =
      same_links old new _ (ap (λ (x : State L). x.links) s.3)
      (entered_apart old.links apart (record { name = name; place = Held session handle }) s.0)
  step_apart old (Rests number link) new s apart =
      same_links old new _ (ap (λ (x : State L). x.links) s.1) (put_apart old.links apart number (AtRest link))
  step_apart old (Holds number session handle link) new s apart =
      same_links old new _ (ap (λ (x : State L). x.links) s.1) (put_apart old.links apart number (Held session handle))
  step_apart old (ChangesAtRest number before after) new s apart =
      same_links old new _ (ap (λ (x : State L). x.links) s.1) (put_apart old.links apart number (AtRest after))
  step_apart old (Closes number place) new s apart =
      same_links old new _ (ap (λ (x : State L). x.links) s.1) (closed_apart old.links apart number)

  pub stay_apart : (start end : State L) (steps : List (Act L)) → AreApart start.links → History start steps end
      → AreApart end.links
  stay_apart start end [] apart h = same_links start end start.links (ap (λ (x : State L). x.links) h) apart
  stay_apart start end (step ∷ steps) apart (mid, s, h) = stay_apart mid end steps (step_apart start step mid s apart) h
