-- While no connection is up every session of an endpoint is over; so one that begins anew is read from nothing.
use Rattle.std.proofs.Common.{◌≡◌, ◌⊎◌, inl, inr, ℕ, Bool, true, false, List, [], ◌∷◌, ◌++◌, Option, Some, None}
use Rattle.std.proofs.Common.{ap, length, refl, slice_get, sym, subst, ◌∙◌}
use Rattle.std.specs.FinMap.{get-empty}
use Rattle.std.specs.Global.{Box}
use Rattle.std.specs.Ordering.{nat_cmp}
use Rattle.std.specs.Prelude.{if◌then◌else◌}
use Rattle.std.proofs.lemmas.Option.{none-some}
use Rattle.amqp_session_performatives.specs.declared.session_frame.SessionFrame.{SessionFrame}
use Rattle.amqp_endpoint_links.specs.declared.session.AskedSession.{AskedSession}
use Rattle.amqp_endpoint_model.specs.declared.call.Call.{Call}
use Rattle.amqp_endpoint_model.specs.declared.call.Call.TheVariants.{AcceptBegin, Begin}
use Rattle.amqp_endpoint_model.specs.declared.phase.Phase.TheVariants.{Running, Unconnected}
use Rattle.amqp_endpoint_model.specs.declared.settings.Settings.{Settings}
use Rattle.amqp_endpoint_model.specs.Relay.{IsNew}
use Rattle.amqp_endpoint_model.specs.Said.{Said, session_begun}
use Rattle.amqp_endpoint_model.specs.Step.{anew}
use Rattle.amqp_endpoint_laws.specs.Deeds.{AreDone, Closes, Deed, Does, Finishes, Hears, IsDeed, MayPass, Moves}
use Rattle.amqp_endpoint_laws.specs.Deeds.{Queues, Refuses, Renews, Takes, Throughout, come_to, up_behind}
use Rattle.amqp_endpoint.specs.Calling.{Calls}
use Rattle.amqp_endpoint.specs.Does.{linked}
use Rattle.amqp_endpoint.specs.declared.linked.LinkedSessions.{LinkedSessions}
use Rattle.amqp_endpoint_linking.specs.Ending.{Finishes as ConnectionFinishes}
use Rattle.amqp_endpoint_linking.specs.Linking.{Session, Sessions, Stood}
use Rattle.amqp_endpoint_tables.specs.State.{channel_in, place_at, with_asked, with_live}
use Rattle.amqp_endpoint_tables.specs.declared.place.Place.TheVariants.{Asked, Live, Ending, Over}
use Rattle.amqp_endpoint_conversation.specs.Windows.{Passing, Went, went}
use Rattle.amqp_endpoint_laws.specs.Beside.{Agrees, InTables, IsOff, Known, role_at, role_of}
use Rattle.amqp_endpoint_laws.specs.Reading.{nothing_read}
use Rattle.amqp_endpoint_laws.proofs.Beginning.{anew-agrees, anew-stands, steps-known}
use Rattle.amqp_endpoint_laws.specs.Conversing.{SessionsGoOn}
use Rattle.amqp_endpoint_laws.proofs.DeedsKept.{deed-keeps}
use Rattle.amqp_endpoint_laws.proofs.Keeping.{MayDo}
use Rattle.amqp_endpoint_laws.proofs.PassedKept.{deed-first, deed-judges, over-at}
use Rattle.amqp_endpoint_laws.proofs.PassedPlaces.{IsGone, Keeping}
use Rattle.amqp_endpoint_laws.proofs.SessionsApart.{HasNone, all-over, steps-none}
use Rattle.amqp_endpoint_laws.proofs.SessionsGoing.{leaves-first}
use Rattle.amqp_endpoint_laws.proofs.SessionsKept.{ByCall, accepted, begun, called, finishes-none, go-keep, plainly}

-- no session goes on there, and none is asked for: there is none, or it is ending or over
abbrev IsOut : Option Stood → Type 0
IsOut None = Unit {0}
IsOut (Some (Asked channel a)) = ⊥
IsOut (Some (Live channel s)) = ⊥
IsOut (Some (Ending channel own_end)) = Unit {0}
IsOut (Some (Over peer_end complete)) = Unit {0}

-- where nothing passes none begins
abbrev StaysOut : ℕ → Option Stood → List Passing → Option Stood → Type 0
StaysOut first old ps new = ps ≡ [] → IsOut old → IsOut new

gone-out : (o : Option Stood) → IsGone o → IsOut o
gone-out (Some (Ending channel own_end)) gone = tt
gone-out (Some (Over peer_end complete)) gone = tt
gone-out (Some (Asked channel a)) gone = absurd gone
gone-out (Some (Live channel s)) gone = absurd gone
gone-out None gone = absurd gone

over-out : (o : Option Stood) → IsGone o ⊎ (o ≡ None) → IsOut o
over-out o (inl gone) = gone-out o gone
over-out o (inr none) = subst IsOut (sym none) tt

live-out : (stood : Stood) (after : Session) → IsOut (Some stood) → IsOut (Some (with_live stood after))
live-out (Asked channel a) after out = absurd out
live-out (Live channel s) after out = absurd out
live-out (Ending channel own_end) after out = tt
live-out (Over peer_end complete) after out = tt

asked-out : (stood : Stood) (after : Box AskedSession) → IsOut (Some stood) → IsOut (Some (with_asked stood after))
asked-out (Asked channel a) after out = absurd out
asked-out (Live channel s) after out = absurd out
asked-out (Ending channel own_end) after out = tt
asked-out (Over peer_end complete) after out = tt

both-none : {A : Type 0} (xs ys : List A) → xs ++ ys ≡ [] → (xs ≡ []) × (ys ≡ [])
both-none [] ys none = (refl, none)
both-none (x ∷ xs) ys none = let clash : x ∷ (xs ++ ys) ≡ [] = none in absurd cc

some-none : {A B : Type 0} (x : A) (xs : List A) → x ∷ xs ≡ [] → B
some-none x xs none = absurd cc

out-keeps : Keeping (λ accepted. Unit {0}) StaysOut
out-keeps =
    record {
      quiet = λ accepted up. tt;
      still = λ first old new same none out. subst IsOut (sym same) out;
      on = λ first a b d ps qs before behind none out.
          let (ps_none, qs_none) = both-none ps qs none in
          behind qs_none (before ps_none out);
      gone = λ first old new ps gone unsaid none out. gone-out new gone;
      free = λ first stood frames unsaid none out. out;
      live = λ first stood accepted before after ps allowed is goes asked none out. live-out stood after out;
      fails = λ first stood before after ps qs over is goes unsaid gone none out. gone-out over gone;
      told = λ first stood before after it is hears none out. asked-out stood after out;
      asks = λ first channel asked begin is none out. some-none _ _ none;
      begins = λ first window channel session frame b none out. some-none (Went frame) [] none;
      accepts = λ first window incoming channel asked outgoing session frame a none out. absurd out;
    }

-- what every deed keeps of the numbers of first transfers
pub done-first : (deeds : List Deed) (old new : LinkedSessions) → AreDone linked old deeds new
    → new.talk.first_transfer_number ≡ old.talk.first_transfer_number
done-first [] old new same = ap (λ (s : LinkedSessions). s.talk.first_transfer_number) same
done-first (deed ∷ deeds) old new (mid, one, rest) =
    done-first deeds mid new rest
    ∙ deed-first StaysOut out-keeps deed old mid (λ sends accepted. tt) one

-- no session has a channel, and none goes on or is asked for
record Idle (s : LinkedSessions) : Type 0 where
  none : HasNone s.talk.sessions
  out : (n : ℕ) → IsOut (place_at s.talk.sessions n)

same-idle : (old new : LinkedSessions) → new.talk.sessions.places ≡ old.talk.sessions.places → Idle old → Idle new
same-idle old new same i =
    record {
      none = λ n. ap (λ (ps : List Stood). channel_in (slice_get ps n)) same ∙ i.none n;
      out = λ n. subst (λ (ps : List Stood). IsOut (slice_get ps n)) (sym same) (i.out n);
    }

finished-idle : (old new : LinkedSessions) → ConnectionFinishes old.talk old.links new.talk new.links → Idle new
finished-idle old new f =
    record {
      none =
          all-over old.talk.sessions new.talk.sessions
          (finishes-none _ old.talk.sessions new.talk.sessions old.links new.links f.each);
      out = λ n.
          over-out (place_at new.talk.sessions n)
          (over-at (place_at old.talk.sessions n) old.talk.sessions new.talk.sessions old.links new.links n refl
          f.each);
    }

-- a call by which nothing is sent lets no session begin
no-begin : (it : Call) (answer : Said) (old new : LinkedSessions) (limit : ℕ) (frames : List SessionFrame)
    → frames ≡ [] → Calls old limit it answer frames new → MayDo Unconnected it
no-begin Begin (session_begun n) old new limit frames none c =
    some-none c.begins.frame [] (sym c.begins.queued ∙ none)
no-begin (AcceptBegin channel) (session_begun n) old new limit frames none c =
    some-none c.accepts.frame [] (sym c.accepts.queued ∙ none)
no-begin Begin answer old new limit frames none c = absurd c
no-begin (AcceptBegin channel) answer old new limit frames none c = absurd c
no-begin it answer old new limit frames none c = tt

none-called : (old new : Sessions) → ByCall (Unconnected ≡ Running) old new → HasNone old → HasNone new
none-called old new (plainly g) none = steps-none old g.steps new g.none g.history none
none-called old new (begun may number channel session stepped) none = absurd cc
none-called old new (accepted may number incoming wanted outgoing session after mid stepped taken) none = absurd cc

pub none-went : (b : Bool) (frames : List SessionFrame) → frames ≡ [] → (if b then went frames else []) ≡ []
none-went true frames none = ap (λ (fs : List SessionFrame). went fs) none
none-went false frames none = refl

not-both : {A : Type 0} (up : Bool) → up ≡ true → up ≡ false → A
not-both up is down = absurd cc

-- behind each deed, as long as no connection is up
idle-kept : (up : Bool) (deed : Deed) (old new : LinkedSessions) → MayPass up deed → IsDeed linked old deed new
    → (up ≡ false → Idle old) → up_behind up deed ≡ false → Idle new
idle-kept up (Queues it) old new may same was down = subst Idle (sym same) (was down)
idle-kept up (Hears frame events) old new may d was down = not-both up may down
idle-kept up (Takes limit frame frames events) old new may d was down = not-both up may down
idle-kept up (Refuses limit frame error own_close) old new may e was down =
    finished-idle e.closes.told new (e.closes.over).0
idle-kept up (Does limit it answer frames) old new may c was down =
    let nothing : frames ≡ [] = may down in
    let i : Idle old = was down in
    record {
      none =
          none-called old.talk.sessions new.talk.sessions
          (called Unconnected it answer old new limit frames (no-begin it answer old new limit frames nothing c.0) c.0)
          i.none;
      out = λ n.
          deed-judges StaysOut out-keeps (Does limit it answer frames) old new (λ sends accepted. tt) c n
          (none-went _ frames nothing) (i.out n);
    }
idle-kept up (Moves connection) old new may m was down =
    same-idle old new (ap (λ (s : LinkedSessions). s.talk.sessions.places) m.1) (was down)
idle-kept up Renews old new may is was down = not-both true refl down
idle-kept up Closes old new may l was down =
    let i : Idle old = was down in
    let g = leaves-first _ old.talk.sessions new.talk.sessions old.links new.links (l.0).each in
    record {
      none = steps-none old.talk.sessions g.steps new.talk.sessions g.none g.history i.none;
      out = λ n. deed-judges StaysOut out-keeps Closes old new (λ sends accepted. tt) l n refl (i.out n);
    }
idle-kept up Finishes old new may f was down = finished-idle old new f.0

idle-done : (deeds : List Deed) (up : Bool) (old new : LinkedSessions) → Throughout up_behind MayPass up deeds
    → AreDone linked old deeds new → (up ≡ false → Idle old) → come_to up_behind up deeds ≡ false → Idle new
idle-done [] up old new t same was down = subst Idle (sym same) (was down)
idle-done (deed ∷ deeds) up old new (may, t) (mid, one, rest) was down =
    idle-done deeds (up_behind up deed) mid new t rest (idle-kept up deed old mid may one was) down

went-on : (start : Sessions) (deeds : List Deed) (old new : LinkedSessions) → AreDone linked old deeds new
    → SessionsGoOn start old.talk.sessions → SessionsGoOn start new.talk.sessions
went-on start [] old new same on = subst (λ (s : LinkedSessions). SessionsGoOn start s.talk.sessions) (sym same) on
went-on start (deed ∷ deeds) old new (mid, one, rest) on =
    went-on start deeds mid new rest
    (deed-keeps linked (λ s. SessionsGoOn start s.talk.sessions) (go-keep start) deed old mid one on)

off-there : (o : Option Stood) → channel_in o ≡ None → IsOut o → IsOff (role_of o)
off-there None none out = tt
off-there (Some (Asked channel a)) none out = absurd out
off-there (Some (Live channel s)) none out = absurd out
off-there (Some (Ending channel own_end)) none out = absurd (none-some channel (sym none))
off-there (Some (Over peer_end complete)) none out = tt

-- a connection that begins anew is read from nothing: its sessions get the numbers behind those that there were
pub anew-read : (sessions start : LinkedSessions) (settings : Settings) (before : List Deed)
    → IsNew linked settings sessions → AreDone linked sessions before start
    → Throughout up_behind MayPass false before → come_to up_behind false before ≡ false
    → InTables (anew linked start).talk.sessions
    × Agrees (length start.talk.sessions.places) nothing_read (anew linked start).talk.sessions
anew-read sessions start settings before new done t down =
    let none-at : (n : ℕ) → place_at sessions.talk.sessions n ≡ None =
    λ n. ap (λ (s : LinkedSessions). place_at s.talk.sessions n) new.is in
    let first : Idle sessions =
    record {
      none = λ n. ap channel_in (none-at n);
      out = λ n. subst IsOut (sym (none-at n)) tt;
    } in
    let i : Idle start = idle-done before false sessions start t done (λ is. first) down in
    let known-first : Known sessions.talk.sessions =
    subst (λ (s : LinkedSessions). Known s.talk.sessions) (sym new.is)
    (record { there = λ number channel e none. none-some number (sym (get-empty nat_cmp channel) ∙ e) }) in
    let on = went-on sessions.talk.sessions before sessions start done (record { steps = []; history = refl }) in
    let known = steps-known on.steps sessions.talk.sessions start.talk.sessions on.history known-first in
    let again : Known (anew linked start).talk.sessions =
    record { there = λ number channel e none. known.there number channel e none } in
    let off : (n : ℕ) → IsOff (role_at (anew linked start).talk.sessions n) =
    λ n. off-there (place_at start.talk.sessions n) (i.none n) (i.out n) in (
      anew-stands (anew linked start).talk.sessions again off refl refl,
      anew-agrees (anew linked start).talk.sessions again off refl refl,
    )
