-- Which numbers stand in which of an endpoint's sessions, as a session goes on or is over.
use Rattle.std.proofs.Common.{◌≡◌, ◌==◌, ◌⊎◌, inl, inr, ℕ, zero, suc, Bool, true, false, List, [], ◌∷◌, Option}
use Rattle.std.proofs.Common.{Some, None, ap, refl, subst, sym, ◌∙◌, if◌then◌else◌}
use Rattle.std.specs.Prelude.{slice_index_or}
use Rattle.std.specs.Global.{Box}
use Rattle.std.proofs.lemmas.Bool.{eq-eqb}
use Rattle.std.proofs.lemmas.Option.{none-some, same_Some}
use Rattle.amqp_session_types.specs.declared.channels.OutgoingChannel.{OutgoingChannel}
use Rattle.amqp_session_core.specs.State.{State, links_in}
use Rattle.amqp_endpoint_links.specs.declared.session.AskedSession.{AskedSession}
use Rattle.amqp_endpoint_conversation.specs.Beginning.{Sessions}
use Rattle.amqp_endpoint_links.specs.declared.asking.AskingSession.{AskingSession}
use Rattle.amqp_endpoint_links.specs.declared.numbered.Numbered.{Numbered}
use Rattle.amqp_endpoint_tables.specs.LinkState.{State as LinksBy}
use Rattle.amqp_endpoint_tables.specs.State.{live_of, place_at, told_place, with_live}
use Rattle.amqp_endpoint_tables.specs.Steps.{ChangesLive, Ends, Step}
use Rattle.amqp_endpoint_tables.specs.declared.place.Place.{Place}
use Rattle.amqp_endpoint_tables.specs.declared.place.Place.TheVariants.{Asked, Ending, Live, Over}
use Rattle.amqp_endpoint_tables.proofs.Owning.{at, other_number, same_number}
use Rattle.amqp_endpoint_laws.specs.Held.{Agrees, Numbers, number_at, number_in, number_live, number_of}
use Rattle.amqp_endpoint_laws.proofs.Agreeing.{Same, enter, leave, shut, stay}
use Rattle.amqp_endpoint_laws.proofs.Numbers.{KeepNumbers}
use Rattle.amqp_endpoint_laws.proofs.Parted.{ComesIn, Parted, Shut}

-- a number that is behind a test
if-true : {X : Type 0} (b : Bool) (x y : X) → b ≡ true → (if b then x else y) ≡ x
if-true true x y e = refl
if-true false x y e = let clash = e in absurd cc

if-false : {X : Type 0} (b : Bool) (x y : X) → b ≡ false → (if b then x else y) ≡ y
if-false true x y e = let clash = e in absurd cc
if-false false x y e = refl

never-both : (b : Bool) → b ≡ true → b ≡ false → ⊥
never-both true t f = let clash = f in absurd cc
never-both false t f = let clash = t in absurd cc

-- a session that goes on, with links of one type, and where one stands
abbrev SessionOf : Type 0 → Type 0
SessionOf R = Box (AskingSession (Numbered R))

abbrev StoodOf : Type 0 → Type 0
StoodOf R = Place (Box AskedSession) (SessionOf R)

or-true : (b c : Bool) → c ≡ true → (if b then true else c) ≡ true
or-true true c e = refl
or-true false c e = e

module _ {R : Type 0} where
  -- the numbers of these links
  abbrev pub among : List (Numbered R) → ℕ → Bool
  among [] number = false
  among (link ∷ links) number = if number == link.number then true else among links number

  in-links : (slots : List (Option (Numbered R))) (handle number : ℕ)
      → number_of (slice_index_or slots handle None) ≡ Some number → among (links_in slots) number ≡ true
  in-links [] handle number e = absurd (none-some number e)
  in-links (None ∷ slots) zero number e = absurd (none-some number e)
  in-links (None ∷ slots) (suc handle) number e = in-links slots handle number e
  in-links (Some link ∷ slots) zero number e =
      if-true (number == link.number) true (among (links_in slots) number)
      (eq-eqb number link.number (sym (same_Some _ _ e)))
  in-links (Some link ∷ slots) (suc handle) number e =
      or-true (number == link.number) (among (links_in slots) number) (in-links slots handle number e)

  from-either : (link : Numbered R) (slots : List (Option (Numbered R))) (number : ℕ)
      → (among (links_in slots) number ≡ true
      → (handle : ℕ) × (number_of (slice_index_or slots handle None) ≡ Some number))
      → (b : Bool) → (number == link.number) ≡ b → (if b then true else among (links_in slots) number) ≡ true
      → (handle : ℕ) × (number_of (slice_index_or (Some link ∷ slots) handle None) ≡ Some number)
  from-either link slots number others true is e = (zero, ap Some (sym (same_number number link.number is)))
  from-either link slots number others false is e = let (handle, there) = others e in (suc handle, there)

  from-links : (slots : List (Option (Numbered R))) (number : ℕ) → among (links_in slots) number ≡ true
      → (handle : ℕ) × (number_of (slice_index_or slots handle None) ≡ Some number)
  from-links [] number e = let clash = e in absurd cc
  from-links (None ∷ slots) number e =
      let (handle, is) = from-links slots number e in (suc handle, is)
  from-links (Some link ∷ slots) number e =
      from-either link slots number (λ others. from-links slots number others) (number == link.number) refl e

  -- the numbers of all, where the session with this number stands so
  abbrev pub within : Numbers → ℕ → State (Numbered R) → Numbers
  within numbers number s n handle = if n == number then number_in s handle else numbers n handle

  within-same : (numbers like : Numbers) (number : ℕ) (s : State (Numbered R))
      → ((handle : ℕ) → like number handle ≡ number_in s handle)
      → ((n handle : ℕ) → (n == number) ≡ false → like n handle ≡ numbers n handle) → (n handle : ℕ)
      → like n handle ≡ within numbers number s n handle
  within-same numbers like number s here other n handle = by (n == number) refl
    where
      by : (b : Bool) → (n == number) ≡ b → like n handle ≡ (if b then number_in s handle else numbers n handle)
      by true e = ap (λ (k : ℕ). like k handle) (same_number n number e) ∙ here handle
      by false e = other n handle e

  within-here : (numbers : Numbers) (number handle : ℕ) (s : State (Numbered R))
      → within numbers number s number handle ≡ number_in s handle
  within-here numbers number handle s =
      if-true (number == number) (number_in s handle) (numbers number handle) (eq-eqb number number refl)

  -- what happens to the links of one session
  module _ {L : Type 0} (numbers : Numbers) (number : ℕ) (s t : State (Numbered R)) (links links_new : LinksBy L) where
    abbrev Before : Numbers
    Before = within numbers number s

    abbrev Behind : Numbers
    Behind = within numbers number t

    kept-within : KeepNumbers s t → Same Before Behind
    kept-within kept n handle = by (n == number)
      where
        by : (b : Bool)
            → (if b then number_in t handle else numbers n handle)
            ≡ (if b then number_in s handle else numbers n handle)
        by true = kept handle
        by false = refl

    pub keep-in : KeepNumbers s t → links_new ≡ links → Agrees Before links → Agrees Behind links_new
    keep-in kept same a = stay Before Behind links links_new (kept-within kept) same a

    pub shut-in : (link : ℕ) → KeepNumbers s t → Shut link links links_new → Agrees Before links
        → Agrees Behind links_new
    shut-in link kept is a = shut Before Behind links links_new link (kept-within kept) is a

    -- one leaves it
    module _ (link handle : ℕ) (was : number_in s handle ≡ Some link)
        (becomes : (other : ℕ) → number_in t other ≡ (if other == handle then None else number_in s other)) where
      part-keeps : (it h : ℕ) → number_in s h ≡ Some it → (it == link) ≡ false → number_in t h ≡ Some it
      part-keeps it h is other = by (h == handle) refl
        where
          by : (b : Bool) → (h == handle) ≡ b → number_in t h ≡ Some it
          by true e =
              absurd
              (other_number it link other
              (same_Some _ _ (sym is ∙ ap (number_in s) (same_number h handle e) ∙ was)))
          by false e = becomes h ∙ if-false (h == handle) None (number_in s h) e ∙ is

      part-fewer : (it h : ℕ) → number_in t h ≡ Some it → number_in s h ≡ Some it
      part-fewer it h is = by (h == handle) refl
        where
          by : (b : Bool) → (h == handle) ≡ b → number_in s h ≡ Some it
          by true e =
              absurd (none-some it (sym (becomes h ∙ if-true (h == handle) None (number_in s h) e) ∙ is))
          by false e = sym (becomes h ∙ if-false (h == handle) None (number_in s h) e) ∙ is

      pub part-in : Parted (λ (it : ℕ). it == link) links links_new → Agrees Before links → Agrees Behind links_new
      part-in p a =
          leave Before Behind links links_new (λ (it : ℕ). it == link) p
          (record {
            keeps = λ it n h is other. keeps it n h other (n == number) is;
            fewer = λ it n h is. fewer it n h (n == number) is;
            gone = λ it is. (
              number,
              handle,
              within-here numbers number handle s ∙ was ∙ ap Some (sym (same_number it link is)),
              within-here numbers number handle t ∙ becomes handle
                  ∙ if-true (handle == handle) None (number_in s handle) (eq-eqb handle handle refl),
            );
          })
          a
        where
          keeps : (it n h : ℕ) → (it == link) ≡ false → (b : Bool)
              → (if b then number_in s h else numbers n h) ≡ Some it
              → (if b then number_in t h else numbers n h) ≡ Some it
          keeps it n h other true is = part-keeps it h is other
          keeps it n h other false is = is

          fewer : (it n h : ℕ) (b : Bool) → (if b then number_in t h else numbers n h) ≡ Some it
              → (if b then number_in s h else numbers n h) ≡ Some it
          fewer it n h true is = part-fewer it h is
          fewer it n h false is = is

    -- one comes to stand in it
    module _ (link handle : ℕ) (none : number_in s handle ≡ None)
        (becomes : (other : ℕ) → number_in t other ≡ (if other == handle then Some link else number_in s other)) where
      enters-here : (n h : ℕ) → n ≡ number → (c : Bool) → (h == handle) ≡ c
          → ((n ≡ number) × (h ≡ handle)) ⊎ (number_in t h ≡ number_in s h)
      enters-here n h in_it true e = inl (in_it, same_number h handle e)
      enters-here n h in_it false e = inr (becomes h ∙ if-false (h == handle) (Some link) (number_in s h) e)

      enters-other : (n h : ℕ) (b : Bool) → (n == number) ≡ b
          → ((n ≡ number) × (h ≡ handle))
          ⊎ ((if b then number_in t h else numbers n h) ≡ (if b then number_in s h else numbers n h))
      enters-other n h true e = enters-here n h (same_number n number e) (h == handle) refl
      enters-other n h false e = inr refl

      pub enter-in : ComesIn link number (record { 0 = handle }) links links_new → Agrees Before links
          → Agrees Behind links_new
      enter-in e a =
          enter Before Behind links links_new link number handle e
          (record {
            none = within-here numbers number handle s ∙ none;
            here =
                within-here numbers number handle t ∙ becomes handle
                ∙ if-true (handle == handle) (Some link) (number_in s handle) (eq-eqb handle handle refl);
            other = λ n h. enters-other n h (n == number) refl;
          })
          a

  -- the session with this number goes on, and no other changes
  pub record Changed (number : ℕ) (before after : State (Numbered R)) (old new : Sessions (Numbered R)) : Type 0 where
    pub was : (handle : ℕ) → number_at old number handle ≡ number_in before handle
    pub is : (handle : ℕ) → number_at new number handle ≡ number_in after handle
    pub other : (n handle : ℕ) → (n == number) ≡ false → number_at new n handle ≡ number_at old n handle

  stays-live : (stood : StoodOf R) (before after : SessionOf R) → live_of (Some stood) ≡ Some before
      → live_of (Some (with_live stood after)) ≡ Some after
  stays-live (Live channel session) before after e = refl
  stays-live (Asked channel asked) before after e = absurd (none-some before e)
  stays-live (Ending channel own_end) before after e = absurd (none-some before e)
  stays-live (Over peer_end complete) before after e = absurd (none-some before e)

  abbrev Stands : Option (StoodOf R) → ℕ → Option ℕ
  Stands o handle = number_live (live_of o) handle

  pub live-changed : (number : ℕ) (before after : SessionOf R) (old new : Sessions (Numbered R))
      → Step old (ChangesLive number before after) new
      → Changed number before.value.session after.value.session old new
  live-changed number before after old new stepped =
      let (stood, was, lives, becomes) =
      (at number old (ChangesLive number before after) new stepped).about (eq-eqb number number refl) in
      record {
        was = λ handle.
            ap (λ (o : Option (StoodOf R)). Stands o handle) was
            ∙ ap (λ (o : Option (SessionOf R)). number_live o handle) lives;
        is = λ handle.
            ap (λ (o : Option (StoodOf R)). Stands o handle) becomes
            ∙ ap (λ (o : Option (SessionOf R)). number_live o handle) (stays-live stood before after lives);
        other = λ n handle e.
            ap (λ (o : Option (StoodOf R)). Stands o handle)
            ((at n old (ChangesLive number before after) new stepped).other e);
      }

  module _ {L : Type 0} (number : ℕ) (before after : State (Numbered R)) (old new : Sessions (Numbered R))
      (c : Changed number before after old new) (links links_new : LinksBy L) where
    -- what is so inside of a session is so among all
    pub inside : (Agrees (within (number_at old) number before) links
        → Agrees (within (number_at old) number after) links_new) → Agrees (number_at old) links
        → Agrees (number_at new) links_new
    inside does a =
        stay (within (number_at old) number after) (number_at new) links_new links_new
        (within-same (number_at old) (number_at new) number after c.is c.other) refl
        (does
        (stay (number_at old) (within (number_at old) number before) links links
        (λ n handle.
        sym (within-same (number_at old) (number_at old) number before c.was (λ n h e. refl) n handle)) refl a))

    pub changed-stays : KeepNumbers before after → links_new ≡ links → Agrees (number_at old) links
        → Agrees (number_at new) links_new
    changed-stays kept same a = inside (keep-in (number_at old) number before after links links_new kept same) a

  pub changed-same : (number : ℕ) (before after : State (Numbered R)) (old new : Sessions (Numbered R))
      → Changed number before after old new → KeepNumbers before after → Same (number_at old) (number_at new)
  changed-same number before after old new c kept n handle = by (n == number) refl
    where
      by : (b : Bool) → (n == number) ≡ b → number_at new n handle ≡ number_at old n handle
      by true e =
          subst (λ (k : ℕ). number_at new k handle ≡ number_at old k handle) (sym (same_number n number e))
          (c.is handle ∙ kept handle ∙ sym (c.was handle))
      by false e = c.other n handle e

  -- one session stands elsewhere, where the same numbers stand
  pub about-same : (number : ℕ) (old new : Sessions (Numbered R))
      → ((n : ℕ) → (n == number) ≡ false → place_at new n ≡ place_at old n)
      → ((handle : ℕ) → number_at new number handle ≡ number_at old number handle)
      → Same (number_at old) (number_at new)
  about-same number old new other here n handle = by (n == number) refl
    where
      by : (b : Bool) → (n == number) ≡ b → number_at new n handle ≡ number_at old n handle
      by true e =
          subst (λ (k : ℕ). number_at new k handle ≡ number_at old k handle) (sym (same_number n number e))
          (here handle)
      by false e = ap (λ (o : Option (StoodOf R)). Stands o handle) (other n e)

  -- a session is over, and no other changes
  pub record Gone (number : ℕ) (session : SessionOf R) (old new : Sessions (Numbered R)) : Type 0 where
    pub was : (handle : ℕ) → number_at old number handle ≡ number_in session.value.session handle
    pub is : (handle : ℕ) → number_at new number handle ≡ None
    pub other : (n handle : ℕ) → (n == number) ≡ false → number_at new n handle ≡ number_at old n handle

  pub ends-gone : (number : ℕ) (channel : OutgoingChannel) (session : SessionOf R) (own_end : Bool)
      (old new : Sessions (Numbered R)) → Step old (Ends number channel session own_end) new
      → Gone number session old new
  ends-gone number channel session own_end old new stepped =
      let (was, becomes) =
      (at number old (Ends number channel session own_end) new stepped).about (eq-eqb number number refl) in
      record {
        was = λ handle. ap (λ (o : Option (StoodOf R)). Stands o handle) was;
        is = λ handle. ap (λ (o : Option (StoodOf R)). Stands o handle) becomes;
        other = λ n handle e.
            ap (λ (o : Option (StoodOf R)). Stands o handle)
            ((at n old (Ends number channel session own_end) new stepped).other e);
      }

  pub told-same : (stood : StoodOf R) (handle : ℕ)
      → Stands (Some (told_place stood)) handle ≡ Stands (Some stood) handle
  told-same (Live channel session) handle = refl
  told-same (Asked channel asked) handle = refl
  told-same (Ending channel own_end) handle = refl
  told-same (Over peer_end complete) handle = refl

  -- its links are held no longer
  module _ {L : Type 0} (number : ℕ) (session : SessionOf R) (old new : Sessions (Numbered R))
      (g : Gone number session old new) (links links_new : LinksBy L) where
    abbrev left : List (Numbered R)
    left = links_in session.value.session.links

    gone-keeps : (link n handle : ℕ) → number_at old n handle ≡ Some link → among left link ≡ false → (b : Bool)
        → (n == number) ≡ b → number_at new n handle ≡ Some link
    gone-keeps link n handle was not true e =
        absurd
        (never-both (among left link)
        (in-links session.value.session.links handle link
        (sym (g.was handle) ∙ ap (λ (k : ℕ). number_at old k handle) (sym (same_number n number e)) ∙ was))
        not)
    gone-keeps link n handle was not false e = g.other n handle e ∙ was

    gone-fewer : (link n handle : ℕ) → number_at new n handle ≡ Some link → (b : Bool) → (n == number) ≡ b
        → number_at old n handle ≡ Some link
    gone-fewer link n handle is true e =
        absurd
        (none-some link
        (sym (ap (λ (k : ℕ). number_at new k handle) (same_number n number e) ∙ g.is handle) ∙ is))
    gone-fewer link n handle is false e = sym (g.other n handle e) ∙ is

    gone-gone : (link : ℕ) → among left link ≡ true
        → (n : ℕ) × (handle : ℕ) × (number_at old n handle ≡ Some link) × (number_at new n handle ≡ None)
    gone-gone link is =
        let (handle, there) = from-links session.value.session.links link is in
        (number, handle, g.was handle ∙ there, g.is handle)

    pub gone : Parted (among left) links links_new → Agrees (number_at old) links → Agrees (number_at new) links_new
    gone p a =
        leave (number_at old) (number_at new) links links_new (among left) p
        (record {
          keeps = λ link n handle was not. gone-keeps link n handle was not (n == number) refl;
          fewer = λ link n handle is. gone-fewer link n handle is (n == number) refl;
          gone = gone-gone;
        })
        a
