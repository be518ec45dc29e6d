-- What is left of links once their connection is over, by the links that its sessions had.
use Rattle.std.proofs.Common.{◌≡◌, ℕ, zero, suc, Bool, true, false, List, [], ◌∷◌, Option, Some, None}
use Rattle.std.proofs.Common.{Result, Ok, Err, IsSome, length, refl, sym, ap, subst, ◌∙◌, slice_get, slice_set}
use Rattle.std.proofs.Common.{slice_index_or}
use Rattle.std.specs.Prelude.{⊤}
use Rattle.std.proofs.lemmas.Option.{none-some}
use Rattle.amqp_session_types.specs.declared.handles.OutputHandle.{OutputHandle}
use Rattle.amqp_link.specs.declared.end.End.{End}
use Rattle.amqp_endpoint_tables.specs.declared.link_place.LinkPlace.{LinkPlace}
use Rattle.amqp_endpoint_tables.specs.declared.place.Place.TheVariants.{Asked, Live, Ending, Over}
use Rattle.amqp_endpoint_tables.specs.LinkState.{held_at}
use Rattle.amqp_endpoint_tables.specs.LinkSteps.{Closed, Rested}
use Rattle.amqp_endpoint_tables.specs.State.{finished_place, live_of, place_at, with_live}
use Rattle.amqp_endpoint_tables.specs.Steps.{Finished}
use Rattle.amqp_endpoint_attached.specs.Ends.{broken, is_closed_end}
use Rattle.amqp_endpoint_linking.specs.Ending.{Finishes, FinishesFirst, FinishesOne}
use Rattle.amqp_endpoint_linking.specs.GivingBack.{AllGivenBack, SessionGivenBack}
use Rattle.amqp_endpoint_linking.specs.GivingBack.{StandsAs}
use Rattle.amqp_endpoint_linking.specs.Linking.{Link, Links, Session, Sessions, Stood, Talk, links_of}

-- the links that a session has
abbrev pub given : Option Session → List Link
given None = []
given (Some session) = links_of session

abbrev kept : Stood → List Link
kept place = given (live_of (Some place))

-- those of all
abbrev pub all_kept : List Stood → List (List Link)
all_kept [] = []
all_kept (place ∷ places) = kept place ∷ all_kept places

abbrev pub at : List (List Link) → ℕ → List Link
at [] n = []
at (links ∷ all) zero = links
at (links ∷ all) (suc n) = at all n

abbrev pub put : List (List Link) → ℕ → List Link → List (List Link)
put [] n links = []
put (old ∷ all) zero links = links ∷ all
put (old ∷ all) (suc n) links = old ∷ put all n links

pub put-same : (all : List (List Link)) (n : ℕ) → put all n (at all n) ≡ all
put-same [] n = refl
put-same (links ∷ all) zero = refl
put-same (links ∷ all) (suc n) = ap (λ (rest : List (List Link)). links ∷ rest) (put-same all n)

pub put-twice : (all : List (List Link)) (n : ℕ) (first second : List Link)
    → put (put all n first) n second ≡ put all n second
put-twice [] n first second = refl
put-twice (links ∷ all) zero first second = refl
put-twice (links ∷ all) (suc n) first second =
    ap (λ (rest : List (List Link)). links ∷ rest) (put-twice all n first second)

kept-length : (places : List Stood) → length (all_kept places) ≡ length places
kept-length [] = refl
kept-length (place ∷ places) = ap suc (kept-length places)

pub given-at : (places : List Stood) (n : ℕ) → given (live_of (slice_get places n)) ≡ at (all_kept places) n
given-at [] n = refl
given-at (place ∷ places) zero = refl
given-at (place ∷ places) (suc n) = given-at places n

kept-set : (places : List Stood) (n : ℕ) (place : Stood)
    → all_kept (slice_set places n place) ≡ put (all_kept places) n (kept place)
kept-set [] n place = refl
kept-set (old ∷ places) zero place = refl
kept-set (old ∷ places) (suc n) place =
    ap (λ (rest : List (List Link)). kept old ∷ rest) (kept-set places n place)

kept-none : (places : List Stood) (n : ℕ) → slice_get places n ≡ None → put (all_kept places) n [] ≡ all_kept places
kept-none [] n none = refl
kept-none (place ∷ places) zero none = absurd (none-some place (sym none))
kept-none (place ∷ places) (suc n) none =
    ap (λ (rest : List (List Link)). kept place ∷ rest) (kept-none places n none)

-- a session that has begun goes on with these
pub kept-live : (places : List Stood) (n : ℕ) (before after : Session) (other : Stood)
    → live_of (slice_get places n) ≡ Some before
    → all_kept (slice_set places n (with_live (slice_index_or places n other) after))
    ≡ put (all_kept places) n (links_of after)
kept-live [] n before after other is = absurd (none-some before is)
kept-live (Live channel session ∷ places) zero before after other is = refl
kept-live (Asked channel asked ∷ places) zero before after other is = absurd (none-some before is)
kept-live (Ending channel own_end ∷ places) zero before after other is = absurd (none-some before is)
kept-live (Over peer_end complete ∷ places) zero before after other is = absurd (none-some before is)
kept-live (place ∷ places) (suc n) before after other is =
    ap (λ (rest : List (List Link)). kept place ∷ rest) (kept-live places n before after other is)

-- a link is given back in one way
closed-once : (old : Links) (number : ℕ) (p q : Option (LinkPlace End)) (one two : Links) → Closed old number p one
    → Closed old number q two → one ≡ two
closed-once old number (Some p) (Some q) one two (there, is) (there', is') = is ∙ sym is'
closed-once old number (Some p) None one two (there, is) (none, is') = absurd (none-some p (sym none ∙ there))
closed-once old number None (Some q) one two (none, is) (there, is') = absurd (none-some q (sym none ∙ there))
closed-once old number None None one two (none, is) (none', is') = is ∙ sym is'

not-held : (old : Links) (number : ℕ) → IsSome (held_at old number) → held_at old number ≡ None → ⊥
not-held old number held none =
    let there : IsSome {T = ℕ × OutputHandle} None =
    subst (λ (o : Option (ℕ × OutputHandle)). IsSome o) none held in absurd cc

rested-once : (old : Links) (number : ℕ) (link : End) (r t : Result ⊤ End) (one two : Links)
    → Rested old number link r one → Rested old number link t two → one ≡ two
rested-once old number link (Ok r) (Ok t) one two (held, is) (held', is') = is ∙ sym is'
rested-once old number link (Ok r) (Err t) one two (held, is) (none, back, is') =
    absurd (not-held old number held none)
rested-once old number link (Err r) (Ok t) one two (none, back, is) (held, is') =
    absurd (not-held old number held none)
rested-once old number link (Err r) (Err t) one two (none, back, is) (none', back', is') = is ∙ sym is'

stands-once : (closed : Bool) (old : Links) (number : ℕ) (link : End) (one two : Links)
    → StandsAs closed old number link one → StandsAs closed old number link two → one ≡ two
stands-once true old number link one two a b = closed-once old number a.place b.place one two a.closed b.closed
stands-once false old number link one two a b = rested-once old number link a.back b.back one two a.rested b.rested

all-once : (links : List Link) (old one two : Links) → AllGivenBack old links one → AllGivenBack old links two
    → one ≡ two
all-once [] old one two a b = a ∙ sym b
all-once (link ∷ links) old one two (mid, first, rest) (mid', first', rest') =
    let same : mid ≡ mid' =
    stands-once (is_closed_end (broken link.link)) old link.number (broken link.link) mid mid' first first' in
    all-once links mid' one two (subst (λ (m : Links). AllGivenBack m links one) same rest) rest'

given-back : (session : Option Session) (old new : Links) → SessionGivenBack old session new
    → AllGivenBack old (given session) new
given-back None old new back = back
given-back (Some session) old new back = back

-- a session that is over has none
finished-none : (place : Stood) → kept (finished_place place) ≡ []
finished-none (Asked channel asked) = refl
finished-none (Live channel session) = refl
finished-none (Ending channel own_end) = refl
finished-none (Over peer_end complete) = refl

finished-stood : (stood : Option Stood) (old : Sessions) (n : ℕ) (new : Sessions) → Finished old n stood new
    → stood ≡ place_at old n
finished-stood (Some place) old n new f = sym f.0
finished-stood None old n new f = sym f.0

finished-kept : (stood : Option Stood) (old : Sessions) (n : ℕ) (new : Sessions) → Finished old n stood new
    → all_kept new.places ≡ put (all_kept old.places) n []
finished-kept (Some place) old n new (there, gives, is) =
    ap (λ (s : Sessions). all_kept s.places) is ∙ kept-set old.places n (finished_place place)
    ∙ ap (λ (links : List Link). put (all_kept old.places) n links) (finished-none place)
finished-kept None old n new (none, is) =
    ap (λ (s : Sessions). all_kept s.places) is ∙ sym (kept-none old.places n none)

-- two connections are over whose sessions have the same links
module _ (a b : Sessions) (links links' : Links) (n : ℕ) (a_new b_new : Sessions) (links_new links'_new : Links)
    (same : all_kept a.places ≡ all_kept b.places) (alike : links ≡ links') where
  back-at : (old new : Sessions) (ls ls_new : Links) → (f : FinishesOne old ls n new ls_new)
      → AllGivenBack ls (at (all_kept old.places) n) ls_new
  back-at old new ls ls_new f =
      let is : given (live_of f.stood) ≡ at (all_kept old.places) n =
      ap (λ (o : Option Stood). given (live_of o)) (finished-stood f.stood old n new f.finished)
      ∙ given-at old.places n in
      subst (λ (all : List Link). AllGivenBack ls all ls_new) is (given-back (live_of f.stood) ls ls_new f.back)

  one-alike : FinishesOne a links n a_new links_new → FinishesOne b links' n b_new links'_new
      → (all_kept a_new.places ≡ all_kept b_new.places) × (links_new ≡ links'_new)
  one-alike f g = (
    finished-kept f.stood a n a_new f.finished ∙ ap (λ (all : List (List Link)). put all n []) same
        ∙ sym (finished-kept g.stood b n b_new g.finished),
    all-once (at (all_kept b.places) n) links' links_new links'_new
        (subst (λ (l : Links). AllGivenBack l (at (all_kept b.places) n) links_new) alike
        (subst (λ (all : List (List Link)). AllGivenBack links (at all n) links_new) same
        (back-at a a_new links links_new f)))
        (back-at b b_new links' links'_new g),
  )

first-alike : (n : ℕ) (a b : Sessions) (links links' : Links) (a_new b_new : Sessions) (links_new links'_new : Links)
    → all_kept a.places ≡ all_kept b.places → links ≡ links'
    → FinishesFirst n a links a_new links_new → FinishesFirst n b links' b_new links'_new
    → (all_kept a_new.places ≡ all_kept b_new.places) × (links_new ≡ links'_new)
first-alike zero a b links links' a_new b_new links_new links'_new same alike (is, stay) (is', stay') = (
  ap (λ (s : Sessions). all_kept s.places) is ∙ same ∙ sym (ap (λ (s : Sessions). all_kept s.places) is'),
  stay ∙ alike ∙ sym stay',
)
first-alike (suc n) a b links links' a_new b_new links_new links'_new same alike (mid, links_mid, first, one)
    (mid', links_mid', first', one') =
    let (kept_same, links_same) =
    first-alike n a b links links' mid mid' links_mid links_mid' same alike first first' in
    one-alike mid mid' links_mid links_mid' n a_new b_new links_new links'_new kept_same links_same one one'

pub finishes-alike : (a b : Talk) (links : Links) (a_new b_new : Talk) (links_a links_b : Links)
    → all_kept a.sessions.places ≡ all_kept b.sessions.places
    → Finishes a links a_new links_a → Finishes b links b_new links_b → links_a ≡ links_b
finishes-alike a b links a_new b_new links_a links_b same f g =
    let long : length a.sessions.places ≡ length b.sessions.places =
    sym (kept-length a.sessions.places) ∙ ap (λ (all : List (List Link)). length all) same
    ∙ kept-length b.sessions.places in
    (first-alike (length b.sessions.places) a.sessions b.sessions links links a_new.sessions b_new.sessions links_a
    links_b same refl
    (subst (λ (n : ℕ). FinishesFirst n a.sessions links a_new.sessions links_a) long f.each) g.each).1
