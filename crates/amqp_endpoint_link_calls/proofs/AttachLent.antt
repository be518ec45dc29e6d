-- What is done in a session that is lent.
use Rattle.std.proofs.Common.{◌≡◌, ℕ, List, Option, Some, None, Result, Ok, Err, false, refl, sym, ap, subst, ◌∙◌}
use Rattle.std.proofs.Common.{slice_get, slice_index_or, slice_set}
use Rattle.std.specs.Prelude.{IfErr, IfOk, OnErr}
use Rattle.std.specs.Box.{with_value}
use Rattle.std.specs.Global.{Box}
use Rattle.std.proofs.lemmas.List.{set-get_or}
use Rattle.std.proofs.lemmas.Option.{none-some, same_Some, get_or_from_slice_get}
use Rattle.amqp_session_performatives.specs.declared.session_frame.SessionFrame.{SessionFrame}
use Rattle.amqp_link.specs.declared.end.End.{End}
use Rattle.amqp_endpoint_attached.specs.Linked.{Linked}
use Rattle.amqp_endpoint_attached.specs.declared.refusal.AttachRefusal.{AttachRefusal}
use Rattle.amqp_endpoint_attached.specs.declared.refusal.Unattached.{Unattached}
use Rattle.amqp_endpoint_conversation.specs.Beginning.{Sessions}
use Rattle.amqp_endpoint_links.specs.declared.numbered.Numbered.{Numbered}
use Rattle.amqp_endpoint_tables.specs.declared.place.PeerEnd.TheVariants.{Missing}
use Rattle.amqp_endpoint_tables.specs.declared.place.Place.{Place}
use Rattle.amqp_endpoint_tables.specs.declared.place.Place.TheVariants.{Asked, Live, Ending, Over}
use Rattle.amqp_endpoint_tables.specs.Lends.{set_live}
use Rattle.amqp_endpoint_tables.specs.State.{State, live_at, live_of, with_live}
use Rattle.amqp_endpoint_link_calls.specs.Attaching.{AttachesIn, AttachesOne}
use Rattle.amqp_endpoint_link_calls.specs.Places.{LinkTalk}
use Rattle.amqp_endpoint_link_calls.specs.Refusals.{RefusesIn, RefusesOne}
use Rattle.amqp_endpoint_link_calls.specs.declared.placed.Placed.{Placed}

-- a session that is lent and stays as it was
module _ {A S : Type 0} (s : State A S) (n : ℕ) (x : S) where
  pub unlent : live_at s n ≡ Some x → set_live s n x ≡ s
  unlent live = by (slice_get s.places n) refl live
    where
      by : (o : Option (Place A S)) → slice_get s.places n ≡ o → live_of o ≡ Some x → set_live s n x ≡ s
      by None e q = absurd (none-some _ q)
      by (Some (Asked c a)) e q = absurd (none-some _ q)
      by (Some (Live c y)) e q =
          let here = get_or_from_slice_get s.places n (Live c y) (Over Missing false) e in
          let same : Live c x ≡ slice_index_or s.places n (Over Missing false) =
          ap (λ (z : S). Live c z) (sym (same_Some _ _ q)) ∙ sym here in
          ap (λ (ps : List (Place A S)). record s { places = ps })
          (ap (λ (p : Place A S). slice_set s.places n (with_live p x)) here
          ∙ ap (λ (p : Place A S). slice_set s.places n p) same
          ∙ set-get_or s.places n (Over Missing false))
      by (Some (Ending c own_end)) e q = absurd (none-some _ q)
      by (Some (Over p c)) e q = absurd (none-some _ q)

module _ (old : LinkTalk) (session : ℕ) (lent : Box Linked) (live : live_at old.sessions session ≡ Some lent) where
  -- the sessions behind a call of the one that is lent
  abbrev changed : Linked → LinkTalk
  changed s = record old { sessions = set_live old.sessions session (with_value lent s) }

  -- the link attaches there
  attaches-in : (s : Linked) (limit : ℕ) (link : End) (placed : Placed) (out out_new : List SessionFrame)
      → AttachesOne lent.value out limit link placed s out_new → placed.session ≡ session
      → AttachesIn old out limit session link placed (changed s) out_new
  attaches-in s limit link placed out out_new does held =
      record {
        before = lent;
        after = with_value lent s;
        attached = does;
        held = held;
        stepped = (live, refl);
        rest = refl;
      }

  -- it is refused there
  refuses-in : (limit : ℕ) (link : End) (refusal : AttachRefusal) → RefusesOne limit lent.value link refusal
      → RefusesIn limit old session link refusal
  refuses-in limit link refusal refuses = record { before = lent; live = live; refused = refuses }

  -- it stays as it was
  stays : (s : Linked) → s ≡ lent.value → changed s ≡ old
  stays s is =
      ap (λ (t : Linked). record old { sessions = set_live old.sessions session (with_value lent t) }) is
      ∙ ap (λ (ss : Sessions (Numbered End)). record old { sessions = ss }) (unlent old.sessions session lent live)

  -- whichever it answers
  module _ (now s : Linked) (is : now ≡ lent.value) (limit : ℕ) (link : End) (out out_new : List SessionFrame) where
    pub all-attach : (number : ℕ) (r : Result Placed Unattached)
        → IfOk r (λ placed. AttachesOne now out limit link placed s out_new)
        → IfOk r (λ placed. (placed.session ≡ session) × (placed.link ≡ number))
        → IfOk r (λ placed. AttachesIn old out limit session link placed (changed s) out_new)
    all-attach number (Ok placed) does held =
        attaches-in s limit link placed out out_new
        (subst (λ (l : Linked). AttachesOne l out limit link placed s out_new) is does) held.0
    all-attach number (Err refused) does held = tt

    pub all-refuse : (r : Result Placed Unattached)
        → IfErr r (λ refused. RefusesOne limit now link refused.refusal × (refused.link ≡ link))
        → IfErr r (λ refused. RefusesIn limit old session link refused.refusal × (refused.link ≡ link))
    all-refuse (Ok placed) refuses = tt
    all-refuse (Err refused) refuses = (
      refuses-in limit link refused.refusal
          (subst (λ (l : Linked). RefusesOne limit l link refused.refusal) is refuses.0),
      refuses.1,
    )

    pub all-stay : (r : Result Placed Unattached) → OnErr r ((s ≡ now) × (out_new ≡ out))
        → OnErr r ((changed s ≡ old) × (out_new ≡ out))
    all-stay (Ok placed) same = tt
    all-stay (Err refused) same = (stays s (same.0 ∙ is), same.1)
