-- As a connection goes on, the sessions on its channels are those that are read.
use Rattle.std.proofs.Common.{◌≡◌, ◌≢◌, ◌⊎◌, inl, inr, ℕ, suc, ◌+◌, ◌==◌, Bool, true, false, cond, List, [], ◌∷◌}
use Rattle.std.proofs.Common.{◌++◌}
use Rattle.std.proofs.Common.{Option, Some, None, ap, length, refl, slice_set, sym, subst, ◌∙◌}
use Rattle.std.specs.FinMap as map
use Rattle.std.proofs.lemmas.Bool.Decides.{eqb_tells}
use Rattle.std.proofs.lemmas.List.{length-set}
use Rattle.std.proofs.lemmas.Option.{none-some, same_Some}
use Rattle.amqp_session_types.specs.declared.channels.IncomingChannel.{IncomingChannel}
use Rattle.amqp_session_types.specs.declared.channels.OutgoingChannel.{OutgoingChannel}
use Rattle.amqp_session_performatives.specs.declared.begin.Begin.{Begin}
use Rattle.amqp_session_performatives.specs.declared.end.End.{End}
use Rattle.amqp_session_frames.specs.State as channels
use Rattle.amqp_session_frames.specs.State.{Table}
use Rattle.amqp_session_frames.specs.Steps.{DeallocateSession, named_session}
use Rattle.amqp_endpoint_tables.specs.declared.place.Place.{Place}
use Rattle.amqp_endpoint_tables.specs.declared.place.Place.TheVariants.{Asked, Live, Ending, Over}
use Rattle.amqp_endpoint_tables.specs.State.{State, asked_in, asked_on, ended_place, first_of, place_at, reached}
use Rattle.amqp_endpoint_tables.specs.State.{routed, routed_in, told_place, when_asked, with_asked, with_channel}
use Rattle.amqp_endpoint_tables.specs.State.{with_live}
use Rattle.amqp_endpoint_tables.specs.Steps.{Act, Step, History, ChangesConnection, Begins, Asks, Accepts}
use Rattle.amqp_endpoint_tables.specs.Steps.{TakesBegin, TakesEnd, Ends, Finishes, TellsEnd, ChangesAsked}
use Rattle.amqp_endpoint_tables.specs.Steps.{ChangesLive}
use Rattle.amqp_endpoint_tables.specs.Steps.{TakesChannelBack}
use Rattle.amqp_endpoint_tables.proofs.Apart.{split}
use Rattle.amqp_endpoint_tables.proofs.Owning.{at}
use Rattle.amqp_endpoint_tables.proofs.Places.{get-put, get-take}
use Rattle.amqp_endpoint_laws.specs.Beside.{Agrees, AskedOn, OnConnection, Gone, Has, Nowhere, Role, InTables}
use Rattle.amqp_endpoint_laws.specs.Beside.{behind_step}
use Rattle.amqp_endpoint_laws.specs.Beside.{behind_steps, from, role_at, role_of}
use Rattle.amqp_endpoint_laws.specs.Reading.{Reader, peer_begins, peer_ends, reaches, unless_it}
use Rattle.amqp_endpoint_laws.proofs.Views.{Agree, Cut, Found, IsPut, Stand, View, accepted-agree}
use Rattle.amqp_endpoint_laws.proofs.Views.{accepted-stand, apart}
use Rattle.amqp_endpoint_laws.proofs.Views.{asked-agree, asked-stand, begun-agree, begun-stand, cut, first-read}
use Rattle.amqp_endpoint_laws.proofs.Views.{found}
use Rattle.amqp_endpoint_laws.proofs.Views.{here, led-agree, led-stand, over-agree, over-stand, still-agree}
use Rattle.amqp_endpoint_laws.proofs.Views.{still-stand}
use Rattle.amqp_endpoint_laws.proofs.Views.{stays, unless-other, unless-same, via, when_asks, when_has}
use Rattle.amqp_endpoint_laws.proofs.Views as views

-- a number is itself
pub itself : (n : ℕ) → (n == n) ≡ true
itself n = by (eqb_tells n n)
  where
    by : (((n == n) ≡ true) × (n ≡ n)) ⊎ (((n == n) ≡ false) × (n ≢ n)) → (n == n) ≡ true
    by (inl p) = p.0
    by (inr p) = absurd (p.1 refl)

pushed : {X : Type 0} (xs : List X) (x : X) → length (xs ++ x ∷ []) ≡ suc (length xs)
pushed [] x = refl
pushed (y ∷ ys) x = ap suc (pushed ys x)

-- an entry of a table is put or taken
pub put-at : (old new : Table) (key other value : ℕ) → key ≡ other → new ≡ map.insert old key value
    → IsPut (λ c. map.get old c) other (Some value) (λ c. map.get new c)
put-at old new key other value same is c =
    ap (λ (t : Table). map.get t c) is ∙ get-put old key c value
    ∙ ap (λ (k : ℕ). cond (c == k) (Some value) (map.get old c)) same

pub take-at : (old new : Table) (key : ℕ) → new ≡ map.remove old key
    → IsPut (λ c. map.get old c) key None (λ c. map.get new c)
take-at old new key is c = ap (λ (t : Table). map.get t c) is ∙ get-take old key c

first-none : (a b : Option ℕ) → first_of a b ≡ None → b ≡ None
first-none None b e = e
first-none (Some n) b e = absurd (none-some n (sym e))

module _ {A S : Type 0} where
  abbrev view : State A S → View
  view s =
      record {
        count = length s.places;
        live = λ c. map.get s.connection.live c;
        routes = λ c. map.get s.connection.routes c;
        asked = λ c. map.get s.asked c;
        role = role_at s;
      }

  has-of : (n : ℕ) (o : Option (Place A S)) → with_channel n o ≡ when_has n (role_of o)
  has-of n None = refl
  has-of n (Some (Asked channel a)) = refl
  has-of n (Some (Live channel s)) = refl
  has-of n (Some (Ending channel own_end)) = refl
  has-of n (Some (Over peer_end complete)) = refl

  asks-of : (n : ℕ) (o : Option (Place A S)) → when_asked n o ≡ when_asks n (role_of o)
  asks-of n None = refl
  asks-of n (Some (Asked channel a)) = refl
  asks-of n (Some (Live channel s)) = refl
  asks-of n (Some (Ending channel own_end)) = refl
  asks-of n (Some (Over peer_end complete)) = refl

  routed-is : (s : State A S) (channel : ℕ) → routed s channel ≡ views.led_in (view s) channel
  routed-is s channel = by (map.get s.connection.routes channel)
    where
      by : (o : Option ℕ) → routed_in s o ≡ via when_has (role_at s) o
      by None = refl
      by (Some n) = has-of n (place_at s n)

  asked-is : (s : State A S) (channel : ℕ) → asked_on s channel ≡ views.asked_in (view s) channel
  asked-is s channel = by (map.get s.asked channel)
    where
      by : (o : Option ℕ) → asked_in s o ≡ via when_asks (role_at s) o
      by None = refl
      by (Some n) = asks-of n (place_at s n)

  to-stand : (s : State A S) → InTables s → Stand (view s)
  to-stand s t =
      record {
        has = t.has;
        had = t.had;
        asks = t.asks;
        asked = t.asked;
        led_there = t.led_there;
        asked_there = t.asked_there;
      }

  of-stand : (s : State A S) → Stand (view s) → InTables s
  of-stand s t =
      record {
        has = t.has;
        had = t.had;
        asks = t.asks;
        asked = t.asked;
        led_there = t.led_there;
        asked_there = t.asked_there;
      }

  to-agree : (base : ℕ) (r : Reader) (s : State A S) → Agrees base r s → Agree base r (view s)
  to-agree base r s a =
      record {
        count = a.count;
        own = a.own;
        led = λ c. sym (routed-is s c) ∙ a.led c;
        asked = λ c. sym (asked-is s c) ∙ a.asked c;
      }

  of-agree : (base : ℕ) (r : Reader) (s : State A S) → Agree base r (view s) → Agrees base r s
  of-agree base r s a =
      record {
        count = a.count;
        own = a.own;
        led = λ c. routed-is s c ∙ a.led c;
        asked = λ c. asked-is s c ∙ a.asked c;
      }

  -- a step is about one session, and has it such a role
  role-put : (old new : State A S) (n : ℕ) (role : Role)
      → ((m : ℕ) → (m == n) ≡ true → role_at new m ≡ role)
      → ((m : ℕ) → (m == n) ≡ false → place_at new m ≡ place_at old m) → IsPut (role_at old) n role (role_at new)
  role-put old new n role about other m =
      split (m == n)
      (λ e. about m e ∙ sym (ap (λ (b : Bool). cond b role (role_at old m)) e))
      (λ e. ap role_of (other m e) ∙ sym (ap (λ (b : Bool). cond b role (role_at old m)) e))

  -- or leaves it as it is
  role-same : (old new : State A S) (n : ℕ) → ((m : ℕ) → (m == n) ≡ true → role_at new m ≡ role_at old m)
      → ((m : ℕ) → (m == n) ≡ false → place_at new m ≡ place_at old m) → (m : ℕ) → role_at new m ≡ role_at old m
  role-same old new n about other m = split (m == n) (about m) (λ e. ap role_of (other m e))

  told-role : (stood : Place A S) → role_of (Some (told_place stood)) ≡ role_of (Some stood)
  told-role (Asked c a) = refl
  told-role (Live c s) = refl
  told-role (Ending c own_end) = refl
  told-role (Over p c) = refl

  live-role : (stood : Place A S) (after : S) → role_of (Some (with_live stood after)) ≡ role_of (Some stood)
  live-role (Asked c a) after = refl
  live-role (Live c s) after = refl
  live-role (Ending c own_end) after = refl
  live-role (Over p c) after = refl

  asked-role : (stood : Place A S) (after : A) → role_of (Some (with_asked stood after)) ≡ role_of (Some stood)
  asked-role (Asked c a) after = refl
  asked-role (Live c s) after = refl
  asked-role (Ending c own_end) after = refl
  asked-role (Over p c) after = refl

  -- what a step keeps
  abbrev Keeps : State A S → (Reader → Reader) → State A S → Type 0
  Keeps old reads new =
      (base : ℕ) (r : Reader) → Stand (view old) → Agree base r (view old)
      → Stand (view new) × Agree base (reads r) (view new)

  abbrev Behind : Act A S → Reader → Reader
  Behind step r = behind_step r step

  still : (old new : State A S) → length new.places ≡ length old.places
      → new.connection.live ≡ old.connection.live → new.connection.routes ≡ old.connection.routes
      → new.asked ≡ old.asked → ((m : ℕ) → role_at new m ≡ role_at old m) → Keeps old (λ r. r) new
  still old new count live routes asked role base r s a = (
    still-stand (view old) (view new) count (λ c. ap (λ (t : Table). map.get t c) live)
        (λ c. ap (λ (t : Table). map.get t c) routes) (λ c. ap (λ (t : Table). map.get t c) asked) role s,
    still-agree (view old) (view new) count (λ c. ap (λ (t : Table). map.get t c) live)
        (λ c. ap (λ (t : Table). map.get t c) routes) (λ c. ap (λ (t : Table). map.get t c) asked) role base r a,
  )

  -- another place stands in the list, and no role changes
  replaced : (old new : State A S) (n : ℕ) (place : Place A S)
      → new ≡ record old { places = slice_set old.places n place }
      → ((m : ℕ) → role_at new m ≡ role_at old m) → Keeps old (λ r. r) new
  replaced old new n place is role =
      still old new (ap (λ (t : State A S). length t.places) is ∙ length-set old.places n place)
      (ap (λ (t : State A S). t.connection.live) is) (ap (λ (t : State A S). t.connection.routes) is)
      (ap (λ (t : State A S). t.asked) is) role

  begun : (old new : State A S) (n : ℕ) (channel : OutgoingChannel) (session : S)
      → Step old (Begins n channel session) new → Keeps old (Behind (Begins n channel session)) new
  begun old new n channel session s base r stands agrees =
      let step : Act A S = Begins n channel session in
      let allocated = s.0 in
      let is_new : role_at old n ≡ Nowhere = ap role_of ((at n old step new s).about (itself n)).0 in
      let vacant : map.get old.connection.live channel.0 ≡ None =
      ap (map.get old.connection.live) allocated.2 ∙ allocated.3 in
      let count : length new.places ≡ suc (length old.places) =
      ap (λ (t : State A S). length t.places) s.2 ∙ pushed old.places (Live channel session) in
      let live : IsPut (λ c. map.get old.connection.live c) channel.0 (Some n) (λ c. map.get new.connection.live c) =
      put-at old.connection.live new.connection.live old.connection.offered channel.0 n (sym allocated.2)
      (ap (λ (c : channels.State). c.live) allocated.4) in
      let routes : (c : ℕ) → map.get new.connection.routes c ≡ map.get old.connection.routes c =
      λ c. ap (λ (x : channels.State). map.get x.routes c) allocated.4 in
      let asked : (c : ℕ) → map.get new.asked c ≡ map.get old.asked c =
      λ c. ap (λ (t : State A S). map.get t.asked c) s.2 in
      let role : IsPut (role_at old) n (Has channel.0) (role_at new) =
      role-put old new n (Has channel.0) (λ m e. ap role_of ((at m old step new s).about e).1)
      (λ m e. (at m old step new s).other e) in (
        begun-stand (view old) (view new) n channel.0 s.1 is_new vacant count live routes asked role stands,
        begun-agree (view old) (view new) n channel.0 s.1 is_new vacant count live routes asked role base r stands
            agrees,
      )

  asked-for : (old new : State A S) (n : ℕ) (channel : IncomingChannel) (wanted : A)
      → Step old (Asks n channel wanted) new → Keeps old (Behind (Asks n channel wanted)) new
  asked-for old new n channel wanted s base r stands agrees =
      let step : Act A S = Asks n channel wanted in
      let is_new : role_at old n ≡ Nowhere = ap role_of ((at n old step new s).about (itself n)).0 in
      let unasked : views.asked_in (view old) channel.0 ≡ None =
      sym (asked-is old channel.0) ∙ first-none (routed old channel.0) (asked_on old channel.0) s.0 in
      let count : length new.places ≡ suc (length old.places) =
      ap (λ (t : State A S). length t.places) s.2 ∙ pushed old.places (Asked channel wanted) in
      let live : (c : ℕ) → map.get new.connection.live c ≡ map.get old.connection.live c =
      λ c. ap (λ (t : State A S). map.get t.connection.live c) s.2 in
      let routes : (c : ℕ) → map.get new.connection.routes c ≡ map.get old.connection.routes c =
      λ c. ap (λ (t : State A S). map.get t.connection.routes c) s.2 in
      let asked : IsPut (λ c. map.get old.asked c) channel.0 (Some n) (λ c. map.get new.asked c) =
      put-at old.asked new.asked channel.0 channel.0 n refl (ap (λ (t : State A S). t.asked) s.2) in
      let role : IsPut (role_at old) n (AskedOn channel.0) (role_at new) =
      role-put old new n (AskedOn channel.0) (λ m e. ap role_of ((at m old step new s).about e).1)
      (λ m e. (at m old step new s).other e) in (
        asked-stand (view old) (view new) n channel.0 s.1 is_new unasked count live routes asked role stands,
        asked-agree (view old) (view new) n channel.0 s.1 is_new unasked count live routes asked role base r stands
            agrees,
      )

  accepted : (old new : State A S) (n : ℕ) (incoming : IncomingChannel) (wanted : A) (outgoing : OutgoingChannel)
      (session : S) → Step old (Accepts n incoming wanted outgoing session) new
      → Keeps old (Behind (Accepts n incoming wanted outgoing session)) new
  accepted old new n incoming wanted outgoing session s base r stands agrees =
      let step : Act A S = Accepts n incoming wanted outgoing session in
      let mid = (s.1).mid in
      let given = (s.1).given in
      let led = (s.1).led in
      let is_asked : role_at old n ≡ AskedOn incoming.0 = ap role_of s.0 in
      let vacant : map.get old.connection.live outgoing.0 ≡ None =
      ap (map.get old.connection.live) given.2 ∙ given.3 in
      let count : length new.places ≡ length old.places =
      ap (λ (t : State A S). length t.places) s.2 ∙ length-set old.places n (Live outgoing session) in
      let live : IsPut (λ c. map.get old.connection.live c) outgoing.0 (Some n) (λ c. map.get new.connection.live c) =
      put-at old.connection.live new.connection.live old.connection.offered outgoing.0 n (sym given.2)
      (ap (λ (c : channels.State). c.live) led ∙ ap (λ (c : channels.State). c.live) given.4) in
      let routes : IsPut (λ c. map.get old.connection.routes c) incoming.0 (Some n)
      (λ c. map.get new.connection.routes c) =
      put-at old.connection.routes new.connection.routes incoming.0 incoming.0 n refl
      (ap (λ (c : channels.State). c.routes) led
      ∙ ap (λ (c : channels.State). map.insert c.routes incoming.0 n) given.4) in
      let asked : IsPut (λ c. map.get old.asked c) incoming.0 None (λ c. map.get new.asked c) =
      take-at old.asked new.asked incoming.0 (ap (λ (t : State A S). t.asked) s.2) in
      let role : IsPut (role_at old) n (Has outgoing.0) (role_at new) =
      role-put old new n (Has outgoing.0) (λ m e. ap role_of ((at m old step new s).about e).1)
      (λ m e. (at m old step new s).other e) in (
        accepted-stand (view old) (view new) n incoming.0 outgoing.0 is_asked vacant count live routes asked role
            stands,
        accepted-agree (view old) (view new) n incoming.0 outgoing.0 is_asked vacant count live routes asked role base
            r stands agrees,
      )

  taken : (old new : State A S) (n : ℕ) (channel : IncomingChannel) (begin : Begin)
      → Step old (TakesBegin n channel begin) new → Keeps old (Behind (TakesBegin n channel begin)) new
  taken old new n channel begin s base r stands agrees = by begin.remote_channel refl
    where
      by : (o : Option ℕ) → begin.remote_channel ≡ o
          → Stand (view new) × Agree base (peer_begins begin.remote_channel channel.0 r) (view new)
      by None e =
          absurd (none-some n (sym (ap (named_session old.connection) e) ∙ (s.0).0))
      by (Some named) e =
          let is_named : map.get old.connection.live named ≡ Some n =
          sym (ap (named_session old.connection) e) ∙ (s.0).0 in
          let count : length new.places ≡ length old.places = ap (λ (t : State A S). length t.places) s.1 in
          let live : (c : ℕ) → map.get new.connection.live c ≡ map.get old.connection.live c =
          λ c. ap (λ (x : channels.State). map.get x.live c) (s.0).1 in
          let routes : IsPut (λ c. map.get old.connection.routes c) channel.0 (Some n)
          (λ c. map.get new.connection.routes c) =
          put-at old.connection.routes new.connection.routes channel.0 channel.0 n refl
          (ap (λ (x : channels.State). x.routes) (s.0).1) in
          let asked : (c : ℕ) → map.get new.asked c ≡ map.get old.asked c =
          λ c. ap (λ (t : State A S). map.get t.asked c) s.1 in
          let role : (m : ℕ) → role_at new m ≡ role_at old m =
          λ m. ap role_of ((at m old (TakesBegin n channel begin) new s).other refl) in (
            led-stand (view old) (view new) n channel.0 named is_named count live routes asked role stands,
            subst (λ (o : Option ℕ). Agree base (peer_begins o channel.0 r) (view new)) (sym e)
                (led-agree (view old) (view new) n channel.0 named is_named count live routes asked role base r stands
                agrees),
          )

  -- a session is over by the peer's End
  over-role : (stood : Place A S) → role_of (Some (ended_place stood)) ≡ Gone
  over-role (Asked c a) = refl
  over-role (Live c l) = refl
  over-role (Ending c own_end) = refl
  over-role (Over p c) = refl

  ended : (old new : State A S) (n : ℕ) (channel : IncomingChannel) (end : End) (stood : Place A S)
      → Step old (TakesEnd n channel end stood) new → Keeps old (Behind (TakesEnd n channel end stood)) new
  ended old new n channel end stood s base r stands agrees = by stood s (reaches r channel.0) refl
    where
      -- the session that was read
      is_read : (stood : Place A S) → Step old (TakesEnd n channel end stood) new → (o : Option ℕ)
          → reaches r channel.0 ≡ o → Some n ≡ from base o
      is_read stood s o e =
          sym s.0
          ∙ ap (λ (x : Option ℕ). first_of x (asked_on old channel.0))
          (routed-is old channel.0 ∙ agrees.led channel.0)
          ∙ ap (λ (x : Option ℕ). first_of (from base (r.led channel.0)) x)
          (asked-is old channel.0 ∙ agrees.asked channel.0)
          ∙ first-read base (r.led channel.0) (r.asked channel.0) ∙ ap (from base) e

      role : (stood : Place A S) → Step old (TakesEnd n channel end stood) new
          → IsPut (role_at old) n Gone (role_at new)
      role stood s =
          role-put old new n Gone
          (λ m e. ap role_of ((at m old (TakesEnd n channel end stood) new s).about e).1 ∙ over-role stood)
          (λ m e. (at m old (TakesEnd n channel end stood) new s).other e)

      -- one that is asked for
      while_asked : (c : IncomingChannel) (a : A) → Step old (TakesEnd n channel end (Asked c a)) new → (k : ℕ)
          → n ≡ base + k → Stand (view new) × Agree base (peer_ends (Some k) r) (view new)
      while_asked c a s k is =
          let unrouted = (s.2).0 in
          let after = (s.2).1 in
          let stood_so : role_at old n ≡ AskedOn c.0 = ap role_of s.1 in
          let told : views.asked_in (view old) channel.0 ≡ Some n =
          sym (asked-is old channel.0)
          ∙ ap (λ (x : Option ℕ). first_of x (asked_on old channel.0)) (sym unrouted) ∙ s.0 in
          let count : length new.places ≡ length old.places =
          ap (λ (t : State A S). length t.places) after ∙ length-set old.places n (ended_place (Asked c a)) in
          let live : (x : ℕ) → map.get new.connection.live x ≡ unless_it n (map.get old.connection.live x) =
          λ x. ap (λ (t : State A S). map.get t.connection.live x) after ∙ untouched c.0 x stood_so
          (map.get old.connection.live x) refl in
          let routes : (x : ℕ) → Cut n (views.led_in (view old) x) (map.get old.connection.routes x)
          (map.get new.connection.routes x) =
          λ x. stays (ap (λ (t : State A S). map.get t.connection.routes x) after) in
          let asked : (x : ℕ) → Cut n (views.asked_in (view old) x) (map.get old.asked x) (map.get new.asked x) =
          λ x. cut_at told (found (λ y. map.get old.asked y) channel.0 None (λ y. map.get new.asked y)
          (take-at old.asked new.asked channel.0 (ap (λ (t : State A S). t.asked) after)) x) in (
            over-stand (view old) (view new) n count live routes asked (role (Asked c a) s) stands,
            over-agree (view old) (view new) n count live routes asked (role (Asked c a) s) base k r is agrees,
          )
        where
          untouched : (c x : ℕ) → role_at old n ≡ AskedOn c → (o : Option ℕ) → map.get old.connection.live x ≡ o
              → o ≡ unless_it n o
          untouched c x is None e = refl
          untouched c x is (Some m) e =
              sym (unless-other n m (λ same.
              views.not-both x c (sym (stands.had m x e) ∙ ap (role_at old) same ∙ is)))

          cut_at : {x : ℕ} → views.asked_in (view old) channel.0 ≡ Some n
              → Found (λ y. map.get old.asked y) channel.0 None (λ y. map.get new.asked y) x
              → Cut n (views.asked_in (view old) x) (map.get old.asked x) (map.get new.asked x)
          cut_at told (here b same so) = cut (ap (views.asked_in (view old)) same ∙ told) so
          cut_at told (apart b ne so) = stays so

      -- one that has an own channel
      while_on : (stood : Place A S) (c : OutgoingChannel) → role_of (Some stood) ≡ Has c.0
          → TakesChannelBack old.connection channel end n c new.connection
          → new ≡ record old {
            connection = new.connection;
            places = slice_set old.places n (ended_place stood);
          }
          → Step old (TakesEnd n channel end stood) new → (k : ℕ) → n ≡ base + k
          → Stand (view new) × Agree base (peer_ends (Some k) r) (view new)
      while_on stood c stood_as back after s k is =
          let stood_so : role_at old n ≡ Has c.0 = ap role_of s.1 ∙ stood_as in
          let led = back.ended in
          let freed : new.connection ≡ record back.mid {
            live = map.remove back.mid.live c.0;
            offered = new.connection.offered;
          } =
          subst (λ (o : Option ℕ). DeallocateSession back.mid c.0 o new.connection)
          (ap (λ (x : channels.State). map.get x.live c.0) led.1 ∙ stands.has n c.0 stood_so) back.back in
          let count : length new.places ≡ length old.places =
          ap (λ (t : State A S). length t.places) after ∙ length-set old.places n (ended_place stood) in
          let live_is : new.connection.live ≡ map.remove old.connection.live c.0 =
          ap (λ (x : channels.State). x.live) freed
          ∙ ap (λ (x : channels.State). map.remove x.live c.0) led.1 in
          let routes_are : new.connection.routes ≡ map.remove old.connection.routes channel.0 =
          ap (λ (x : channels.State). x.routes) freed ∙ ap (λ (x : channels.State). x.routes) led.1 in
          let told : views.led_in (view old) channel.0 ≡ Some n =
          ap (via when_has (role_at old)) led.0 ∙ ap (when_has n) stood_so in
          let live : (x : ℕ) → map.get new.connection.live x ≡ unless_it n (map.get old.connection.live x) =
          λ x. live_at c.0 stood_so (found (λ y. map.get old.connection.live y) c.0 None
          (λ y. map.get new.connection.live y)
          (take-at old.connection.live new.connection.live c.0 live_is) x) in
          let routes : (x : ℕ) → Cut n (views.led_in (view old) x) (map.get old.connection.routes x)
          (map.get new.connection.routes x) =
          λ x. cut_at told (found (λ y. map.get old.connection.routes y) channel.0 None
          (λ y. map.get new.connection.routes y)
          (take-at old.connection.routes new.connection.routes channel.0 routes_are) x) in
          let asked : (x : ℕ) → Cut n (views.asked_in (view old) x) (map.get old.asked x) (map.get new.asked x) =
          λ x. stays (ap (λ (t : State A S). map.get t.asked x) after) in (
            over-stand (view old) (view new) n count live routes asked (role stood s) stands,
            over-agree (view old) (view new) n count live routes asked (role stood s) base k r is agrees,
          )
        where
          others : (c x : ℕ) → role_at old n ≡ Has c → x ≢ c → (o : Option ℕ) → map.get old.connection.live x ≡ o
              → o ≡ unless_it n o
          others c x is ne None e = refl
          others c x is ne (Some m) e =
              sym (unless-other n m (λ same.
              ne (views.same-channel x c (sym (stands.had m x e) ∙ ap (role_at old) same ∙ is))))

          live_at : {x : ℕ} (c : ℕ) → role_at old n ≡ Has c
              → Found (λ y. map.get old.connection.live y) c None (λ y. map.get new.connection.live y) x
              → map.get new.connection.live x ≡ unless_it n (map.get old.connection.live x)
          live_at {x} c is (here b same so) =
              so ∙ sym (unless-same n)
              ∙ sym (ap (unless_it n) (ap (map.get old.connection.live) same ∙ stands.has n c is))
          live_at {x} c is (apart b ne so) = so ∙ others c x is ne (map.get old.connection.live x) refl

          cut_at : {x : ℕ} → views.led_in (view old) channel.0 ≡ Some n
              → Found (λ y. map.get old.connection.routes y) channel.0 None (λ y. map.get new.connection.routes y) x
              → Cut n (views.led_in (view old) x) (map.get old.connection.routes x) (map.get new.connection.routes x)
          cut_at told (here b same so) = cut (ap (views.led_in (view old)) same ∙ told) so
          cut_at told (apart b ne so) = stays so

      at_stood : (stood : Place A S) → Step old (TakesEnd n channel end stood) new → (k : ℕ) → n ≡ base + k
          → Stand (view new) × Agree base (peer_ends (Some k) r) (view new)
      at_stood (Asked c a) s k is = while_asked c a s k is
      at_stood (Live c l) s k is = while_on (Live c l) c refl (s.2).0 (s.2).1 s k is
      at_stood (Ending c own_end) s k is = while_on (Ending c own_end) c refl (s.2).0 (s.2).1 s k is
      at_stood (Over p c) s k is = absurd s.2

      by : (stood : Place A S) → Step old (TakesEnd n channel end stood) new → (o : Option ℕ)
          → reaches r channel.0 ≡ o
          → Stand (view new) × Agree base (peer_ends (reaches r channel.0) r) (view new)
      by stood s None e = absurd (none-some n (sym (is_read stood s None e)))
      by stood s (Some k) e =
          let (stand, agree) = at_stood stood s k (same_Some n (base + k) (is_read stood s (Some k) e)) in
          (stand, subst (λ (o : Option ℕ). Agree base (peer_ends o r) (view new)) (sym e) agree)

  step-keeps : (step : Act A S) (old new : State A S) → OnConnection (step ∷ []) → Step old step new
      → Keeps old (Behind step) new
  step-keeps (ChangesConnection before after) old new (live, routes, on) s =
      still old new (ap (λ (t : State A S). length t.places) s.1)
      (ap (λ (t : State A S). t.connection.live) s.1 ∙ live ∙ ap (λ (c : channels.State). c.live) s.0)
      (ap (λ (t : State A S). t.connection.routes) s.1 ∙ routes ∙ ap (λ (c : channels.State). c.routes) s.0)
      (ap (λ (t : State A S). t.asked) s.1)
      (λ m. ap role_of ((at m old (ChangesConnection before after) new s).other refl))
  step-keeps (Begins n channel session) old new on s = begun old new n channel session s
  step-keeps (Asks n channel wanted) old new on s = asked-for old new n channel wanted s
  step-keeps (Accepts n incoming wanted outgoing session) old new on s =
      accepted old new n incoming wanted outgoing session s
  step-keeps (TakesBegin n channel begin) old new on s = taken old new n channel begin s
  step-keeps (TakesEnd n channel end stood) old new on s = ended old new n channel end stood s
  step-keeps (Ends n channel session own_end) old new on s =
      replaced old new n (Ending channel own_end) s.1
      (role-same old new n
      (λ m e.
      let p = (at m old (Ends n channel session own_end) new s).about e in
      ap role_of p.1 ∙ sym (ap role_of p.0))
      (λ m e. (at m old (Ends n channel session own_end) new s).other e))
  step-keeps (Finishes n stood) old new on s = absurd on
  step-keeps (TellsEnd n) old new on s =
      replaced old new n (told_place s.0) s.3
      (role-same old new n
      (λ m e.
      let (stood, had, came, is) = (at m old (TellsEnd n) new s).about e in
      ap role_of is ∙ told-role stood ∙ sym (ap role_of had))
      (λ m e. (at m old (TellsEnd n) new s).other e))
  step-keeps (ChangesAsked n before after) old new on s =
      replaced old new n _ s.1
      (role-same old new n
      (λ m e.
      let (stood, had, was, is) = (at m old (ChangesAsked n before after) new s).about e in
      ap role_of is ∙ asked-role stood after ∙ sym (ap role_of had))
      (λ m e. (at m old (ChangesAsked n before after) new s).other e))
  step-keeps (ChangesLive n before after) old new on s =
      replaced old new n _ s.1
      (role-same old new n
      (λ m e.
      let (stood, had, was, is) = (at m old (ChangesLive n before after) new s).about e in
      ap role_of is ∙ live-role stood after ∙ sym (ap role_of had))
      (λ m e. (at m old (ChangesLive n before after) new s).other e))

  -- of a list of steps, the first and the others
  first-on : (step : Act A S) (steps : List (Act A S)) → OnConnection (step ∷ steps)
      → OnConnection (step ∷ []) × OnConnection steps
  first-on (ChangesConnection before after) steps (live, routes, on) = ((live, routes, tt), on)
  first-on (Begins number channel session) steps on = (tt, on)
  first-on (Asks number channel asked) steps on = (tt, on)
  first-on (Accepts number incoming asked outgoing session) steps on = (tt, on)
  first-on (TakesBegin number channel begin) steps on = (tt, on)
  first-on (TakesEnd number channel end stood) steps on = (tt, on)
  first-on (Ends number channel session own_end) steps on = (tt, on)
  first-on (Finishes number stood) steps on = absurd on
  first-on (TellsEnd number) steps on = (tt, on)
  first-on (ChangesAsked number before after) steps on = (tt, on)
  first-on (ChangesLive number before after) steps on = (tt, on)

  steps-keep : (steps : List (Act A S)) (base : ℕ) (r : Reader) (old new : State A S) → History old steps new
      → OnConnection steps → Stand (view old) → Agree base r (view old)
      → Stand (view new) × Agree base (behind_steps r steps) (view new)
  steps-keep [] base r old new same on stands agrees = (
    subst (λ (t : State A S). Stand (view t)) (sym same) stands,
    subst (λ (t : State A S). Agree base r (view t)) (sym same) agrees,
  )
  steps-keep (step ∷ steps) base r old new (mid, one, rest) on stands agrees =
      let (first, later) = first-on step steps on in
      let (stand, agree) = step-keeps step old mid first one base r stands agrees in
      steps-keep steps base (behind_step r step) mid new rest later stand agree

  -- so the peer's frames on a channel reach the session that is read
  pub reaches-it : (base : ℕ) (r : Reader) (s : State A S) (channel : ℕ) → Agrees base r s
      → reached s channel ≡ from base (reaches r channel)
  reaches-it base r s channel a =
      ap (λ (o : Option ℕ). first_of o (asked_on s channel)) (a.led channel)
      ∙ ap (λ (o : Option ℕ). first_of (from base (r.led channel)) o) (a.asked channel)
      ∙ first-read base (r.led channel) (r.asked channel)

  pub channels-tell : (base : ℕ) (r : Reader) (start end : State A S) (steps : List (Act A S))
      → History start steps end → OnConnection steps → InTables start → Agrees base r start
      → InTables end × Agrees base (behind_steps r steps) end
  channels-tell base r start end steps h on stands agrees =
      let (stand, agree) =
      steps-keep steps base r start end h on (to-stand start stands) (to-agree base r start agrees) in
      (of-stand end stand, of-agree base (behind_steps r steps) end agree)
