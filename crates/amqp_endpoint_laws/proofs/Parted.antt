-- Links that are held no longer, and one that comes to be held.
use Rattle.std.proofs.Common.{◌≡◌, ◌≢◌, ◌==◌, ℕ, Bool, true, false, List, Option, Some, None, Ok, Err, ap, refl, sym}
use Rattle.std.proofs.Common.{◌∙◌}
use Rattle.std.specs.Prelude.{Result, ⊤, if◌then◌else◌}
use Rattle.std.proofs.lemmas.Bool.{eq-eqb}
use Rattle.std.proofs.lemmas.Option.{none-some, same_Some}
use Rattle.amqp_session_types.specs.declared.handles.OutputHandle.{OutputHandle}
use Rattle.amqp_endpoint_tables.specs.declared.link_place.LinkPlace.{LinkPlace}
use Rattle.amqp_endpoint_tables.specs.declared.link_place.Named.{Named}
use Rattle.amqp_endpoint_tables.specs.LinkState.{State, held_at, held_of, open_of, place_of}
use Rattle.amqp_endpoint_tables.specs.LinkSteps.{Closed, Closes, Enters, Rested, Rests, Step}
use Rattle.amqp_endpoint_tables.specs.OwnLinks.{slot_at}
use Rattle.amqp_endpoint_tables.proofs.OwningLinks.{at, same_number}

module _ {L : Type 0} where
  -- the session that holds what stands at a number, and its own handle there
  abbrev pub holder : Option (Option (Named L)) → Option (ℕ × OutputHandle)
  holder slot = held_of (place_of (open_of slot))

  -- none of these is held any more, what is closed stays so, and the others stay where they are
  pub record Parted (among : ℕ → Bool) (old new : State L) : Type 0 where
    pub other : (link : ℕ) → among link ≡ false → slot_at new link ≡ slot_at old link
    pub here : (link : ℕ) → among link ≡ true → held_at new link ≡ None
    pub closed : (link : ℕ) → slot_at old link ≡ Some None → slot_at new link ≡ Some None

  -- one that wasn't held stays where it is
  module _ (number : ℕ) (old new : State L) (same : new ≡ old) (none : held_at old number ≡ None) where
    stays-apart : Parted (λ link. link == number) old new
    stays-apart =
        record {
          other = λ link e. ap (λ (s : State L). slot_at s link) same;
          here = λ link e.
              ap (λ (s : State L). held_at s link) same ∙ ap (held_at old) (same_number link number e) ∙ none;
          closed = λ link e. ap (λ (s : State L). slot_at s link) same ∙ e;
        }

  -- a link is closed, or was so before
  pub closed-parts : (number : ℕ) (place : Option (LinkPlace L)) (old new : State L) → Closed old number place new
      → Parted (λ link. link == number) old new
  closed-parts number None old new c = stays-apart number old new c.1 (ap held_of c.0)
  closed-parts number (Some place) old new c =
      record {
        other = λ link e. (at link old (Closes number place) new c).other e;
        here = λ link e.
            let (stood, had, was, is) = (at link old (Closes number place) new c).about e in ap holder is;
        closed = λ link e. by link e (link == number) refl;
      }
    where
      by : (link : ℕ) → slot_at old link ≡ Some None → (b : Bool) → (link == number) ≡ b
          → slot_at new link ≡ Some None
      by link e true this =
          let (stood, had, was, is) = (at link old (Closes number place) new c).about this in is
      by link e false this = (at link old (Closes number place) new c).other this ∙ e

  -- a link comes to rest, where a session held it
  pub rested-parts : (number : ℕ) (it : L) (back : Result ⊤ L) (old new : State L) → Rested old number it back new
      → Parted (λ link. link == number) old new
  rested-parts number it (Err given) old new r = stays-apart number old new r.2 r.0
  rested-parts number it (Ok done) old new r =
      record {
        other = λ link e. (at link old (Rests number it) new r).other e;
        here = λ link e.
            let (stood, had, was, is) = (at link old (Rests number it) new r).about e in ap holder is;
        closed = λ link e. by link e (link == number) refl;
      }
    where
      by : (link : ℕ) → slot_at old link ≡ Some None → (b : Bool) → (link == number) ≡ b
          → slot_at new link ≡ Some None
      by link e true this =
          let (stood, had, was, is) = (at link old (Rests number it) new r).about this in
          absurd (none-some stood (same_Some _ _ (sym e ∙ had)))
      by link e false this = (at link old (Rests number it) new r).other this ∙ e

  -- some leave, and then others
  module _ (first later : ℕ → Bool) (old mid new : State L) (p : Parted first old mid) (q : Parted later mid new) where
    neither : (b c : Bool) → (if b then true else c) ≡ false → (b ≡ false) × (c ≡ false)
    neither true c e = let clash = e in absurd cc
    neither false c e = (refl, e)

    either : (link : ℕ) (b : Bool) → later link ≡ b → (if first link then true else b) ≡ true → held_at new link ≡ None
    either link true l e = q.here link l
    either link false l e = by (first link) refl e
      where
        by : (c : Bool) → first link ≡ c → (if c then true else false) ≡ true → held_at new link ≡ None
        by true f e = ap holder (q.other link l) ∙ p.here link f
        by false f e = let clash = e in absurd cc

    pub parted-on : Parted (λ link. if first link then true else later link) old new
    parted-on =
        record {
          other = λ link e.
              let (f, l) = neither (first link) (later link) e in q.other link l ∙ p.other link f;
          here = λ link e. either link (later link) refl e;
          closed = λ link e. q.closed link (p.closed link e);
        }

  -- a session comes to hold a link that gets its number by that
  pub record Entered (number session : ℕ) (handle : OutputHandle) (old new : State L) : Type 0 where
    pub none : slot_at old number ≡ None
    pub held : held_at new number ≡ Some (session, handle)
    pub other : (link : ℕ) → (link == number) ≡ false → slot_at new link ≡ slot_at old link

  pub entered : (number : ℕ) (name : List ℕ) (session : ℕ) (handle : OutputHandle) (old new : State L)
      → Step old (Enters number name session handle) new → Entered number session handle old new
  entered number name session handle old new s =
      let (none, is) = (at number old (Enters number name session handle) new s).about (eq-eqb number number refl) in
      record {
        none = none;
        held = ap holder is;
        other = λ link e. (at link old (Enters number name session handle) new s).other e;
      }

  -- one comes to hold a link that none held, and that isn't closed
  pub record ComesIn (number session : ℕ) (handle : OutputHandle) (old new : State L) : Type 0 where
    pub vacant : held_at old number ≡ None
    pub unclosed : slot_at old number ≢ Some None
    pub held : held_at new number ≡ Some (session, handle)
    pub other : (link : ℕ) → (link == number) ≡ false → slot_at new link ≡ slot_at old link

  -- one is closed
  pub record Shut (number : ℕ) (old new : State L) : Type 0 where
    pub other : (link : ℕ) → (link == number) ≡ false → slot_at new link ≡ slot_at old link
    pub here : slot_at new number ≡ Some None

  pub closes-shut : (number : ℕ) (place : LinkPlace L) (old new : State L) → Step old (Closes number place) new
      → Shut number old new
  closes-shut number place old new s =
      let (stood, had, was, is) = (at number old (Closes number place) new s).about (eq-eqb number number refl) in
      record { other = λ link e. (at link old (Closes number place) new s).other e; here = is }
