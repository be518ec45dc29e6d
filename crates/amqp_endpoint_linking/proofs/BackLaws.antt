-- Links that are given back go on by steps of their own.
use Rattle.std.proofs.Common.{◌≡◌, ℕ, zero, suc, List, [], ◌∷◌, Bool, true, false, Option, Some, None, Ok, Err, refl}
use Rattle.std.proofs.Common.{subst, length}
use Rattle.std.proofs.lemmas.List.Elements.{All-cons, All-nil}
use Rattle.amqp_link.specs.declared.end.End.{End}
use Rattle.std.specs.Prelude.{Result, ⊤}
use Rattle.amqp_endpoint_tables.specs.declared.link_place.LinkPlace.{LinkPlace}
use Rattle.amqp_endpoint_tables.specs.LinkSteps.{Closed, Closes, Rested, Rests}
use Rattle.amqp_endpoint_attached.specs.Ends.{broken, is_closed_end}
use Rattle.amqp_endpoint_linking.specs.Linking.{Link, Links, Session, Sessions, Talk, links_of}
use Rattle.amqp_endpoint_linking.specs.GivingBack.{AllGivenBack, GoOn, IsAtRest, IsClosed, IsGivenBack}
use Rattle.amqp_endpoint_linking.specs.GivingBack.{SessionGivenBack, StandsAs}
use Rattle.amqp_endpoint_linking.specs.Ending.{Finishes, FinishesFirst, Leaves, LeavesFirst, session_of}
use Rattle.amqp_endpoint_tables.specs.State.{live_of}

none-needed : (old new : Links) → new ≡ old → GoOn old new
none-needed old new is = record { steps = []; history = is; given_back = All-nil IsGivenBack }

-- what goes on behind a state goes on behind the same
module _ (old mid end : Links) (on : GoOn mid end) where
  same : mid ≡ old → GoOn old end
  same is = subst (λ (l : Links). GoOn l end) is on

  closed-on : (number : ℕ) → IsClosed old number mid → GoOn old end
  closed-on number c = by c.place c.closed
    where
      by : (place : Option (LinkPlace End)) → Closed old number place mid → GoOn old end
      by None t = same t.1
      by (Some place) t =
          record {
            steps = Closes number place ∷ on.steps;
            history = (mid, t, on.history);
            given_back = All-cons IsGivenBack (Closes number place) on.steps tt on.given_back;
          }

  rested-on : (number : ℕ) (link : End) → IsAtRest old number link mid → GoOn old end
  rested-on number link r = by r.back r.rested
    where
      by : (back : Result ⊤ End) → Rested old number link back mid → GoOn old end
      by (Err given) t = same t.2
      by (Ok done) t =
          record {
            steps = Rests number link ∷ on.steps;
            history = (mid, t, on.history);
            given_back = All-cons IsGivenBack (Rests number link) on.steps tt on.given_back;
          }

  stood-on : (closed : Bool) (number : ℕ) (link : End) → StandsAs closed old number link mid → GoOn old end
  stood-on true number link s = closed-on number s
  stood-on false number link s = rested-on number link s

given-on : (old mid end : Links) (left : List Link) → AllGivenBack old left mid → GoOn mid end → GoOn old end
given-on old mid end [] is on = same old mid end on is
given-on old mid end (it ∷ others) (first, given, rest) on =
    stood-on old first end (given-on first mid end others rest on) (is_closed_end (broken it.link)) it.number
    (broken it.link) given

session-on : (old mid end : Links) (session : Option Session) → SessionGivenBack old session mid → GoOn mid end
    → GoOn old end
session-on old mid end None is on = same old mid end on is
session-on old mid end (Some session) given on = given-on old mid end (links_of session) given on

left-on : (number : ℕ) (old : Sessions) (links : Links) (new : Sessions) (mid end : Links)
    → LeavesFirst number old links new mid → GoOn mid end → GoOn links end
left-on zero old links new mid end is on = same links mid end on is.1
left-on (suc number) old links new mid end (sessions, before, first, one) on =
    left-on number old links sessions before end first (session-on before mid end (session_of one.left) one.back on)

finished-on : (number : ℕ) (old : Sessions) (links : Links) (new : Sessions) (mid end : Links)
    → FinishesFirst number old links new mid → GoOn mid end → GoOn links end
finished-on zero old links new mid end is on = same links mid end on is.1
finished-on (suc number) old links new mid end (sessions, before, first, one) on =
    finished-on number old links sessions before end first
    (session-on before mid end (live_of one.stood) one.back on)

pub back-goes-on : (old new : Links) (left : List Link) → AllGivenBack old left new → GoOn old new
back-goes-on old new left given = given-on old new new left given (none-needed new new refl)

pub left-goes-on : (old new : Talk) (links links_new : Links) → Leaves old links new links_new → GoOn links links_new
left-goes-on old new links links_new l =
    left-on (length old.sessions.places) old.sessions links new.sessions links_new links_new l.each
    (none-needed links_new links_new refl)

pub finished-goes-on : (old new : Talk) (links links_new : Links) → Finishes old links new links_new
    → GoOn links links_new
finished-goes-on old new links links_new f =
    finished-on (length old.sessions.places) old.sessions links new.sessions links_new links_new f.each
    (none-needed links_new links_new refl)
