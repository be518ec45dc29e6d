-- Where a connection begins anew nothing is read yet.
use Rattle.std.proofs.Common.{◌≡◌, ℕ, ◌==◌, Bool, true, false, List, [], ◌∷◌, Option, Some, None}
use Rattle.std.proofs.Common.{ap, arith, length, refl, sym, subst, ◌∙◌}
use Rattle.std.specs.FinMap as map
use Rattle.std.specs.FinMap.{get-empty}
use Rattle.std.specs.Ordering.{nat_cmp}
use Rattle.std.specs.Prelude.{if◌then◌else◌}
use Rattle.std.proofs.lemmas.Option.{none-some, same_Some}
use Rattle.amqp_session_types.specs.declared.channels.IncomingChannel.{IncomingChannel}
use Rattle.amqp_session_performatives.specs.declared.end.End.{End}
use Rattle.amqp_session_frames.specs.declared.frame.FrameBody.{FrameBody}
use Rattle.amqp_session_frames.specs.declared.frame.FrameBody.TheVariants as body
use Rattle.amqp_session_performatives.specs.declared.session_frame.SessionFrameBody.{SessionFrameBody}
use Rattle.amqp_session_performatives.specs.declared.session_frame.SessionFrameBody.TheVariants as session
use Rattle.amqp_session_frames.specs.State.{Table}
use Rattle.amqp_endpoint_tables.specs.declared.place.Place.{Place}
use Rattle.amqp_endpoint_tables.specs.declared.place.Place.TheVariants.{Asked, Live, Ending, Over}
use Rattle.amqp_endpoint_tables.specs.State.{State, asked_in, ended_place, finished_place, place_at, routed_in}
use Rattle.amqp_endpoint_tables.specs.State.{told_place, when_asked, with_asked, with_live}
use Rattle.amqp_endpoint_tables.specs.Steps.{Act, Step, History, GivesBack, EndTaken, ChangesConnection, Begins}
use Rattle.amqp_endpoint_tables.specs.Steps.{Asks}
use Rattle.amqp_endpoint_tables.specs.Steps.{Accepts, TakesBegin, TakesEnd, Ends, Finishes, TellsEnd, ChangesAsked}
use Rattle.amqp_endpoint_tables.specs.Steps.{ChangesLive}
use Rattle.amqp_endpoint_tables.proofs.Apart.{split}
use Rattle.amqp_endpoint_tables.proofs.Owning.{at, other_number}
use Rattle.amqp_endpoint_laws.specs.Beside.{Agrees, AskedOn, Gone, Has, IsOff, Known, Nowhere, InTables}
use Rattle.amqp_endpoint_laws.specs.Beside.{role_at, role_of}
use Rattle.amqp_endpoint_laws.specs.Reading.{Comes, Goes, Reader, Speaks, Wired, behind_all, nothing_read}
use Rattle.amqp_endpoint_laws.specs.Reading.{behind_coming, behind_going, own_begins, peer_begins, peer_ends}
use Rattle.amqp_endpoint_laws.specs.Reading.{reaches, with_at}
use Rattle.amqp_endpoint_laws.proofs.Beside.{put-at, take-at}
use Rattle.amqp_endpoint_laws.proofs.Views.{Found, apart, found, here, unless-some}

-- a table of which an entry was taken
less : (old new : Table) (key c m : ℕ) → new ≡ map.remove old key → map.get new c ≡ Some m → map.get old c ≡ Some m
less old new key c m is e =
    by (found (λ x. map.get old x) key None (λ x. map.get new x) (take-at old new key is) c)
  where
    by : Found (λ x. map.get old x) key None (λ x. map.get new x) c → map.get old c ≡ Some m
    by (here b same so) = absurd (none-some m (sym so ∙ e))
    by (apart b ne so) = sym so ∙ e

module _ {A S : Type 0} where
  -- the table of those that are asked for has no other sessions than before, but one that is none no longer
  module _ (old new : State A S) (n : ℕ) (about : (m : ℕ) → (m == n) ≡ true → role_at new m ≡ Nowhere → ⊥)
      (other : (m : ℕ) → (m == n) ≡ false → place_at new m ≡ place_at old m)
      (entries : (m c : ℕ) → map.get new.asked c ≡ Some m → (m == n) ≡ false → map.get old.asked c ≡ Some m) where
    known-by : Known old → Known new
    known-by k =
        record {
          there = λ m c e none.
              split (m == n) (λ b. about m b none)
              (λ b. k.there m c (entries m c e b) (sym (ap role_of (other m b)) ∙ none));
        }

  -- no step makes a session none
  not-none : (stood : Place A S) → role_of (Some stood) ≡ Nowhere → ⊥
  not-none (Asked c a) e = let clash : AskedOn c.0 ≡ Nowhere = e in absurd cc
  not-none (Live c s) e = let clash : Has c.0 ≡ Nowhere = e in absurd cc
  not-none (Ending c own_end) e = let clash : Has c.0 ≡ Nowhere = e in absurd cc
  not-none (Over p c) e = let clash : Gone ≡ Nowhere = e in absurd cc

  is-there : (old new : State A S) (stood : Place A S) (m : ℕ) → place_at new m ≡ Some stood
      → role_at new m ≡ Nowhere → ⊥
  is-there old new stood m is none = not-none stood (sym (ap role_of is) ∙ none)

  same-table : (old new : State A S) (m c : ℕ) → new.asked ≡ old.asked → map.get new.asked c ≡ Some m
      → map.get old.asked c ≡ Some m
  same-table old new m c is e = sym (ap (λ (t : Table). map.get t c) is) ∙ e

  same-places : (old new : State A S) → new.asked ≡ old.asked → ((m : ℕ) → place_at new m ≡ place_at old m)
      → Known old → Known new
  same-places old new is same k =
      record {
        there = λ m c e none. k.there m c (same-table old new m c is e) (sym (ap role_of (same m)) ∙ none);
      }

  ended-table : (old new : State A S) (n : ℕ) (channel : IncomingChannel) (end : End) (stood : Place A S)
      → EndTaken old n channel end stood new → (m c : ℕ) → map.get new.asked c ≡ Some m
      → map.get old.asked c ≡ Some m
  ended-table old new n channel end (Asked d a) t m c e =
      less old.asked new.asked channel.0 c m (ap (λ (s : State A S). s.asked) t.1) e
  ended-table old new n channel end (Live d s) t m c e =
      same-table old new m c (ap (λ (s : State A S). s.asked) t.1) e
  ended-table old new n channel end (Ending d own_end) t m c e =
      same-table old new m c (ap (λ (s : State A S). s.asked) t.1) e
  ended-table old new n channel end (Over p d) t m c e = absurd t

  finished-table : (old new : State A S) (stood : Place A S) → GivesBack old stood new.connection new.asked
      → (m c : ℕ) → map.get new.asked c ≡ Some m → map.get old.asked c ≡ Some m
  finished-table old new (Asked d a) g m c e = less old.asked new.asked d.0 c m g.1 e
  finished-table old new (Live d s) g m c e = same-table old new m c g.1 e
  finished-table old new (Ending d own_end) g m c e = same-table old new m c g.1 e
  finished-table old new (Over p d) g m c e = same-table old new m c g.1 e

  step-known : (step : Act A S) (old new : State A S) → Step old step new → Known old → Known new
  step-known (ChangesConnection before after) old new s k =
      same-places old new (ap (λ (t : State A S). t.asked) s.1)
      (λ m. (at m old (ChangesConnection before after) new s).other refl) k
  step-known (Begins n channel session) old new s k =
      let step : Act A S = Begins n channel session in
      known-by old new n (λ m b none. is-there old new (Live channel session) m ((at m old step new s).about b).1 none)
      (λ m b. (at m old step new s).other b)
      (λ m c e b. same-table old new m c (ap (λ (t : State A S). t.asked) s.2) e) k
  step-known (Asks n channel wanted) old new s k =
      let step : Act A S = Asks n channel wanted in
      known-by old new n
      (λ m b none. is-there old new (Asked channel wanted) m ((at m old step new s).about b).1 none)
      (λ m b. (at m old step new s).other b)
      (λ m c e b.
      put_entry m c e b
      (found (λ x. map.get old.asked x) channel.0 (Some n) (λ x. map.get new.asked x)
      (put-at old.asked new.asked channel.0 channel.0 n refl (ap (λ (t : State A S). t.asked) s.2)) c)) k
    where
      put_entry : (m c : ℕ) → map.get new.asked c ≡ Some m → (m == n) ≡ false
          → Found (λ x. map.get old.asked x) channel.0 (Some n) (λ x. map.get new.asked x) c
          → map.get old.asked c ≡ Some m
      put_entry m c e b (here d same so) =
          let is : n ≡ m = same_Some n m (sym so ∙ e) in
          absurd (not_it m (sym is) b)
        where
          not_it : (m : ℕ) → m ≡ n → (m == n) ≡ false → ⊥
          not_it m same e = other_number m n e same
      put_entry m c e b (apart d ne so) = sym so ∙ e
  step-known (Accepts n incoming wanted outgoing session) old new s k =
      let step : Act A S = Accepts n incoming wanted outgoing session in
      known-by old new n
      (λ m b none. is-there old new (Live outgoing session) m ((at m old step new s).about b).1 none)
      (λ m b. (at m old step new s).other b)
      (λ m c e b. less old.asked new.asked incoming.0 c m (ap (λ (t : State A S). t.asked) s.2) e) k
  step-known (TakesBegin n channel begin) old new s k =
      same-places old new (ap (λ (t : State A S). t.asked) s.1)
      (λ m. (at m old (TakesBegin n channel begin) new s).other refl) k
  step-known (TakesEnd n channel end stood) old new s k =
      let step : Act A S = TakesEnd n channel end stood in
      known-by old new n (λ m b none. is-there old new (ended_place stood) m ((at m old step new s).about b).1 none)
      (λ m b. (at m old step new s).other b) (λ m c e b. ended-table old new n channel end stood s.2 m c e) k
  step-known (Ends n channel session own_end) old new s k =
      let step : Act A S = Ends n channel session own_end in
      known-by old new n
      (λ m b none. is-there old new (Ending channel own_end) m ((at m old step new s).about b).1 none)
      (λ m b. (at m old step new s).other b)
      (λ m c e b. same-table old new m c (ap (λ (t : State A S). t.asked) s.1) e) k
  step-known (Finishes n stood) old new s k =
      let step : Act A S = Finishes n stood in
      known-by old new n (λ m b none. is-there old new (finished_place stood) m ((at m old step new s).about b).1 none)
      (λ m b. (at m old step new s).other b) (λ m c e b. finished-table old new stood s.1 m c e) k
  step-known (TellsEnd n) old new s k =
      let step : Act A S = TellsEnd n in
      known-by old new n
      (λ m b none.
      let (stood, had, came, is) = (at m old step new s).about b in
      is-there old new (told_place stood) m is none)
      (λ m b. (at m old step new s).other b)
      (λ m c e b. same-table old new m c (ap (λ (t : State A S). t.asked) s.3) e) k
  step-known (ChangesAsked n before after) old new s k =
      let step : Act A S = ChangesAsked n before after in
      known-by old new n
      (λ m b none.
      let (stood, had, was, is) = (at m old step new s).about b in
      is-there old new (with_asked stood after) m is none)
      (λ m b. (at m old step new s).other b)
      (λ m c e b. same-table old new m c (ap (λ (t : State A S). t.asked) s.1) e) k
  step-known (ChangesLive n before after) old new s k =
      let step : Act A S = ChangesLive n before after in
      known-by old new n
      (λ m b none.
      let (stood, had, was, is) = (at m old step new s).about b in
      is-there old new (with_live stood after) m is none)
      (λ m b. (at m old step new s).other b)
      (λ m c e b. same-table old new m c (ap (λ (t : State A S). t.asked) s.1) e) k

  pub steps-known : (steps : List (Act A S)) (old new : State A S) → History old steps new → Known old → Known new
  steps-known [] old new same k = subst Known (sym same) k
  steps-known (step ∷ steps) old new (mid, one, rest) k =
      steps-known steps mid new rest (step-known step old mid one k)

  -- no channel is given or led yet
  module _ (s : State A S) (known : Known s) (off : (n : ℕ) → IsOff (role_at s n))
      (live : s.connection.live ≡ map.empty) (routes : s.connection.routes ≡ map.empty) where
    none-in : (t : Table) (c : ℕ) → t ≡ map.empty → map.get t c ≡ None
    none-in t c is = ap (λ (x : Table). map.get x c) is ∙ get-empty nat_cmp c

    off-has : {B : Type 0} (n c : ℕ) → role_at s n ≡ Has c → B
    off-has n c e = absurd (subst IsOff e (off n))

    off-asks : {B : Type 0} (n c : ℕ) → role_at s n ≡ AskedOn c → B
    off-asks n c e = absurd (subst IsOff e (off n))

    pub anew-stands : InTables s
    anew-stands =
        record {
          has = λ n c e. off-has n c e;
          had = λ n c e. absurd (none-some n (sym (none-in s.connection.live c live) ∙ e));
          asks = λ n c e. off-asks n c e;
          asked = λ n c other e f. off-asks n other f;
          led_there = λ n c e. absurd (none-some n (sym (none-in s.connection.routes c routes) ∙ e));
          asked_there = known.there;
        }

    off-asked : (n : ℕ) (o : Option (Place A S)) → IsOff (role_of o) → when_asked n o ≡ None
    off-asked n None is = refl
    off-asked n (Some (Asked channel a)) is = absurd is
    off-asked n (Some (Live channel x)) is = refl
    off-asked n (Some (Ending channel own_end)) is = refl
    off-asked n (Some (Over peer_end complete)) is = refl

    pub anew-agrees : Agrees (length s.places) nothing_read s
    anew-agrees =
        record {
          count = let e : length s.places ≡ length s.places = refl in omega (arith, e);
          own = λ c. none-in s.connection.live c live;
          led = λ c. ap (routed_in s) (none-in s.connection.routes c routes);
          asked = λ c. by (map.get s.asked c);
        }
      where
        by : (o : Option ℕ) → asked_in s o ≡ None
        by None = refl
        by (Some n) = off-asked n (place_at s n) (off n)

-- a session that has a channel is the one that speaks on it
put-speaks : (r : Reader) (channel : ℕ) (it : Option ℕ) → Speaks r → (c n : ℕ)
    → with_at r.own channel it c ≡ Some n → with_at r.speaks channel it c ≡ Some n
put-speaks r channel it s c n e = by (c == channel) e
  where
    by : (b : Bool) → (if b then it else r.own c) ≡ Some n → (if b then it else r.speaks c) ≡ Some n
    by true f = f
    by false f = s c n f

own-speaks : (remote : Option ℕ) (channel : ℕ) (r : Reader) → Speaks r → Speaks (own_begins remote channel r)
own-speaks None channel r s c n e = put-speaks r channel (Some r.begun) s c n e
own-speaks (Some named) channel r s c n e = put-speaks r channel (r.asked named) s c n e

peer-speaks : (remote : Option ℕ) (channel : ℕ) (r : Reader) → Speaks r → Speaks (peer_begins remote channel r)
peer-speaks None channel r s c n e = s c n e
peer-speaks (Some named) channel r s c n e = s c n e

ends-speaks : (o : Option ℕ) (r : Reader) → Speaks r → Speaks (peer_ends o r)
ends-speaks None r s c n e = s c n e
ends-speaks (Some number) r s c n e = s c n (unless-some number n (r.own c) e).0

coming-speaks : (channel : ℕ) (it : FrameBody) (r : Reader) → Speaks r → Speaks (behind_coming channel it r)
coming-speaks channel (body.Begin begin) r s = peer-speaks begin.remote_channel channel r s
coming-speaks channel (body.End end) r s = ends-speaks (reaches r channel) r s
coming-speaks channel body.Empty r s = s
coming-speaks channel (body.Open opening) r s = s
coming-speaks channel (body.Close closing) r s = s
coming-speaks channel (body.Attach attach) r s = s
coming-speaks channel (body.Flow flow) r s = s
coming-speaks channel (body.Transfer transfer payload) r s = s
coming-speaks channel (body.Disposition disposition) r s = s
coming-speaks channel (body.Detach detach) r s = s

going-speaks : (channel : ℕ) (it : SessionFrameBody) (r : Reader) → Speaks r → Speaks (behind_going channel it r)
going-speaks channel (session.Begin begin) r s = own-speaks begin.remote_channel channel r s
going-speaks channel (session.Attach attach) r s = s
going-speaks channel (session.Flow flow) r s = s
going-speaks channel (session.Transfer transfer payload) r s = s
going-speaks channel (session.Disposition disposition) r s = s
going-speaks channel (session.Detach detach) r s = s
going-speaks channel (session.End end) r s = s

pub all-speak : (frames : List Wired) (r : Reader) → Speaks r → Speaks (behind_all r frames)
all-speak [] r s = s
all-speak (Comes frame ∷ frames) r s =
    all-speak frames (behind_coming frame.channel frame.body r) (coming-speaks frame.channel frame.body r s)
all-speak (Goes frame ∷ frames) r s =
    all-speak frames (behind_going frame.channel frame.body r) (going-speaks frame.channel frame.body r s)

pub speaks-there : (frames : List Wired) → Speaks (behind_all nothing_read frames)
speaks-there frames = all-speak frames nothing_read (λ c n none. absurd (none-some n none))
