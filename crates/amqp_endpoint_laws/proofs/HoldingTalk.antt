-- What links hold of their messages in all sessions of an endpoint, as one of these goes on, begins or ends.
use Rattle.std.proofs.Common.{◌≡◌, ◌==◌, ◌⊎◌, inl, inr, ℕ, Bool, true, false, List, [], ◌∷◌, Option, Some, None}
use Rattle.std.proofs.Common.{Ok, Err, ap, if◌then◌else◌, refl, sym, subst, ◌∙◌}
use Rattle.std.proofs.lemmas.Option.{none-some}
use Rattle.std.specs.FinMap as map
use Rattle.std.specs.Global.{Box}
use Rattle.amqp_session_types.specs.declared.channels.IncomingChannel.{IncomingChannel}
use Rattle.amqp_session_types.specs.declared.error.Error.{Error}
use Rattle.amqp_session_types.specs.declared.handles.OutputHandle.{OutputHandle}
use Rattle.amqp_session_types.specs.declared.modes.Role.{Role}
use Rattle.amqp_session_types.specs.declared.refusals.SessionError.{SessionError}
use Rattle.amqp_session_performatives.specs.declared.attach.Attach.{Attach}
use Rattle.amqp_session_performatives.specs.declared.session_frame.SessionFrame.{SessionFrame}
use Rattle.amqp_session_core.specs.History.{History}
use Rattle.amqp_session_core.specs.State.{link_at}
use Rattle.amqp_session_core.specs.Steps.{Act, Step as SessionStep, TakesDisposition}
use Rattle.amqp_link_base.specs.declared.detached.Detached.{Detached}
use Rattle.amqp_link_base.specs.declared.state.LinkState.{LinkState}
use Rattle.amqp_link_base.specs.declared.state.LinkState.TheVariants as state
use Rattle.amqp_link.specs.Ends.{state_of}
use Rattle.amqp_link.specs.declared.relay.AttachTold.{AttachTold}
use Rattle.amqp_link_receiver.specs.Deliveries.{Delivery}
use Rattle.amqp_link_receiver.specs.declared.answer.Told.{Told}
use Rattle.amqp_endpoint_links.specs.declared.session.AskedSession.{AskedSession}
use Rattle.amqp_endpoint_attached.specs.Ends.{role_of}
use Rattle.amqp_endpoint_attached.specs.Linked.{Linked, LinksIn, gives}
use Rattle.amqp_endpoint_conversation.specs.Ending.{EndsHere}
use Rattle.amqp_endpoint_conversation.specs.Hearing.{Answered, AnsweredAt, AnsweredIn, AskedAnswered, LiveAnswered}
use Rattle.amqp_endpoint_conversation.specs.declared.hearing.HearRefusal.TheVariants as refused
use Rattle.amqp_endpoint_conversation.specs.declared.hearing.Heard.TheVariants as heard_as
use Rattle.amqp_endpoint_link_hearing.specs.InSession.{GoesOn}
use Rattle.amqp_endpoint_link_hearing.specs.Naming.{IsNamed, IsNamedIn, IsNamedOn, is_other, link_in, link_of}
use Rattle.amqp_endpoint_link_hearing.specs.Naming.{named_by, named_held, named_link, standing}
use Rattle.amqp_endpoint_link_hearing.specs.Saying.{LinkHeard}
use Rattle.amqp_endpoint_linking.specs.Linking.{Link, Links, Session, Sessions, Stood, Talk}
use Rattle.amqp_endpoint_links.specs.Hearing.{Hears}
use Rattle.amqp_endpoint_links.specs.History.{AreHearing, AskingHistory, AskingAct, AtMostOne, IsAttach, IsDetach}
use Rattle.amqp_endpoint_links.specs.History.{IsDoneBy, IsFlow, IsHearing}
use Rattle.amqp_endpoint_links.specs.declared.asking.NamedLink.{NamedLink}
use Rattle.amqp_endpoint_links.specs.declared.asking.NamedLink.TheVariants.{Absent, Waiting}
use Rattle.amqp_endpoint_links.specs.declared.hearing.LinkPerformative.{LinkPerformative}
use Rattle.amqp_endpoint_links.specs.declared.hearing.LinkPerformative.TheVariants as said
use Rattle.amqp_endpoint_links.specs.declared.hearing.PerformativeTaken.{PerformativeTaken}
use Rattle.amqp_endpoint_links.proofs.Heard.{heard}
use Rattle.amqp_endpoint_links.proofs.Projecting.{Within, step-within}
use Rattle.amqp_endpoint_tables.specs.LinkState.{held_at}
use Rattle.amqp_endpoint_tables.specs.Own.{is_about}
use Rattle.amqp_endpoint_tables.specs.State.{asked_at, asked_of, live_at, live_of, place_at, reached}
use Rattle.amqp_endpoint_tables.specs.State.{with_asked, with_live}
use Rattle.amqp_endpoint_tables.specs.Steps.{ChangesAsked, ChangesLive, Ends, Step}
use Rattle.amqp_endpoint_tables.specs.declared.place.Place.TheVariants.{Asked, Live, Ending, Over}
use Rattle.amqp_endpoint_tables.proofs.Owning.{at, same_number}
use Rattle.amqp_endpoint_laws.specs.Conversing.{SessionsAct}
use Rattle.amqp_endpoint_laws.specs.Held.{number_live, number_of}
use Rattle.amqp_endpoint_laws.proofs.HoldingEnds.{Goes, Holding, IsAttached, Stays, goes-on, held_link, stands_so}
use Rattle.amqp_endpoint_laws.proofs.HoldingEnds.{stays-on, stays-still}
use Rattle.amqp_endpoint_laws.proofs.HoldingInside.{IsCalm, LeadsFirst, LeadsMore, Rests, all-same, attach-leads}
use Rattle.amqp_endpoint_laws.proofs.HoldingInside.{calm-stays, was-so}
use Rattle.amqp_endpoint_laws.proofs.LeadingStill.{waiting-holds}
use Rattle.amqp_endpoint_laws.proofs.PassedPlaces.{eq-same}

-- what a link holds under an own handle in a session that goes on
abbrev pub held_in : Option Session → ℕ → Holding
held_in None h = None
held_in (Some session) h = held_link (link_at session.value.session h)

pub held-of : (o : Option Session) (own : OutputHandle) → held_in o own.0 ≡ held_link (link_in o own)
held-of None own = refl
held-of (Some session) own = refl

-- in a session that goes on, the own handle that one of the peer's leads to
abbrev pub leads_in : Option Session → ℕ → Option ℕ
leads_in None input = None
leads_in (Some session) input = map.get session.value.session.routes input

abbrev pub EachAt : (Holding → Holding → Type 0) → Option Session → Option Session → Type 0
EachAt Rel old new = (h : ℕ) → Rel (held_in old h) (held_in new h)

pub each-same : (Rel : Holding → Holding → Type 0) → ((a : Holding) → Rel a a) → (old new : Option Session)
    → new ≡ old → EachAt Rel old new
each-same Rel still old new same h =
    subst (λ (o : Option Session). Rel (held_in old h) (held_in o h)) (sym same) (still (held_in old h))

-- where a handle of the peer's led to a receiving link that is attached then too, it leads there still
abbrev pub LeadsStillAt : Option Session → Option Session → Type 0
LeadsStillAt old new =
    (input h k : ℕ) (held : Option Delivery) → leads_in old input ≡ Some h → held_in new h ≡ Some (k, (true, held))
    → leads_in new input ≡ Some h

pub still-same : (old new : Option Session) → new ≡ old → LeadsStillAt old new
still-same old new same input h k held there is = ap (λ (o : Option Session). leads_in o input) same ∙ there

-- what is held in it stays, and the peer's handles lead to no other links, and to those still that are attached
pub record RestsAt (old new : Option Session) : Type 0 where
  pub holds : EachAt Stays old new
  pub leads : (input h : ℕ) → leads_in new input ≡ Some h → leads_in old input ≡ Some h
  pub keeps : LeadsStillAt old new

rests-at : (before after : Session) → Rests before.value.session after.value.session
    → RestsAt (Some before) (Some after)
rests-at before after r = record { holds = r.holds; leads = r.leads; keeps = r.keeps }

pub rests-same : (old new : Option Session) → new ≡ old → RestsAt old new
rests-same old new same =
    record {
      holds = each-same Stays stays-still old new same;
      leads = λ input h there. sym (ap (λ (o : Option Session). leads_in o input) same) ∙ there;
      keeps = still-same old new same;
    }

-- and so it is where it begins, and where it is over
pub rests-none : (old new : Option Session) → ((h : ℕ) → held_in new h ≡ None)
    → ((input : ℕ) → leads_in new input ≡ None) → RestsAt old new
rests-none old new bare unled =
    record {
      holds = λ h. inr (bare h);
      leads = λ input h there. absurd (none-some h (sym (unled input) ∙ there));
      keeps = λ input h k held there is. absurd (none-some (k, (true, held)) (sym (bare h) ∙ is));
    }

pub rests-dead : (old new : Option Session) → new ≡ None → RestsAt old new
rests-dead old new dead =
    rests-none old new (λ h. ap (λ (o : Option Session). held_in o h) dead)
    (λ input. ap (λ (o : Option Session). leads_in o input) dead)

abbrev pub EachOf : (Holding → Holding → Type 0) → Sessions → Sessions → Type 0
EachOf Rel old new = (n : ℕ) → EachAt Rel (live_at old n) (live_at new n)

abbrev pub AllRest : Sessions → Sessions → Type 0
AllRest old new = (n : ℕ) → RestsAt (live_at old n) (live_at new n)

pub still-on : (old mid new : Option Session) → LeadsStillAt old mid → RestsAt mid new → LeadsStillAt old new
still-on old mid new first later input h k held there is =
    later.keeps input h k held
    (first input h k held there (was-so (held_in mid h) (held_in new h) (k, (true, held)) (later.holds h) is)) is

rests-on : (old mid new : Option Session) → RestsAt old mid → RestsAt mid new → RestsAt old new
rests-on old mid new first later =
    record {
      holds = λ h.
          stays-on (held_in old h) (held_in mid h) (held_in new h) (first.holds h) (later.holds h);
      leads = λ input h there. first.leads input h (later.leads input h there);
      keeps = still-on old mid new first.keeps later;
    }

pub all-on : (old mid new : Sessions) → AllRest old mid → AllRest mid new → AllRest old new
all-on old mid new first later n = rests-on (live_at old n) (live_at mid n) (live_at new n) (first n) (later n)

pub each-goes-on : (old mid new : Sessions) → EachOf Goes old mid → AllRest mid new → EachOf Goes old new
each-goes-on old mid new first later n h =
    goes-on (held_in (live_at old n) h) (held_in (live_at mid n) h) (held_in (live_at new n) h) (first n h)
    ((later n).holds h)

pub rest-go : (old new : Sessions) → AllRest old new → EachOf Goes old new
rest-go old new each n h = inr ((each n).holds h)

-- all stand as they stood
pub places-same : (old new : Sessions) → ((n : ℕ) → place_at new n ≡ place_at old n) → AllRest old new
places-same old new same n = rests-same (live_at old n) (live_at new n) (ap live_of (same n))

pub sessions-same : (old new : Sessions) → new ≡ old → AllRest old new
sessions-same old new same = places-same old new (λ n. ap (λ (s : Sessions). place_at s n) same)

another-live : (stood : Stood) (before after : Session) → live_of (Some stood) ≡ Some before
    → live_of (Some (with_live stood after)) ≡ Some after
another-live (Live channel s) before after is = refl
another-live (Asked channel a) before after is = absurd (none-some before is)
another-live (Ending channel own_end) before after is = absurd (none-some before is)
another-live (Over peer_end complete) before after is = absurd (none-some before is)

-- it stands there then
pub changed-live : (m : ℕ) (before after : Session) (old new : Sessions) → Step old (ChangesLive m before after) new
    → live_at new m ≡ Some after
changed-live m before after old new s =
    let (stood, was, lives, becomes) = (at m old (ChangesLive m before after) new s).about (eq-same m) in
    ap live_of becomes ∙ another-live stood before after lives

still-asked : (stood : Stood) (before after : Box AskedSession) → asked_of (Some stood) ≡ Some before
    → live_of (Some (with_asked stood after)) ≡ live_of (Some stood)
still-asked (Asked channel a) before after is = refl
still-asked (Live channel s) before after is = absurd (none-some before is)
still-asked (Ending channel own_end) before after is = absurd (none-some before is)
still-asked (Over peer_end complete) before after is = absurd (none-some before is)

-- a relation of where a session stands, by which it may stay
module _ (At : Option Session → Option Session → Type 0)
    (still : (old new : Option Session) → new ≡ old → At old new) where
  -- a session goes on
  pub live-changes : (m : ℕ) (before after : Session) (old new : Sessions) → Step old (ChangesLive m before after) new
      → At (Some before) (Some after) → (n : ℕ) → At (live_at old n) (live_at new n)
  live-changes m before after old new s it n = by (n == m) refl
    where
      by : (b : Bool) → (n == m) ≡ b → At (live_at old n) (live_at new n)
      by true e =
          let (stood, was, lives, becomes) = (at n old (ChangesLive m before after) new s).about e in
          let first : live_at old n ≡ Some before = ap live_of was ∙ lives in
          let later : live_at new n ≡ Some after = ap live_of becomes ∙ another-live stood before after lives in
          subst (λ (o : Option Session). At o (live_at new n)) (sym first)
          (subst (λ (o : Option Session). At (Some before) o) (sym later) it)
      by false e =
          still (live_at old n) (live_at new n) (ap live_of ((at n old (ChangesLive m before after) new s).other e))

  asked-changes : (m : ℕ) (before after : Box AskedSession) (old new : Sessions)
      → Step old (ChangesAsked m before after) new → (n : ℕ) → At (live_at old n) (live_at new n)
  asked-changes m before after old new s n = by (n == m) refl
    where
      by : (b : Bool) → (n == m) ≡ b → At (live_at old n) (live_at new n)
      by true e =
          let (stood, was, asked, becomes) = (at n old (ChangesAsked m before after) new s).about e in
          still (live_at old n) (live_at new n)
          (ap live_of becomes ∙ still-asked stood before after asked ∙ sym (ap live_of was))
      by false e =
          still (live_at old n) (live_at new n) (ap live_of ((at n old (ChangesAsked m before after) new s).other e))

  -- the peer says something, by which the session that hears it goes on so
  module _ (it : LinkPerformative) (old new : Talk) (channel : IncomingChannel)
      (goes : (told : PerformativeTaken AttachTold Told Detached) (number : ℕ) (before after : Session)
      (out : List SessionFrame) → reached old.sessions channel.0 ≡ Some number
      → live_at old.sessions number ≡ Some before → Hears gives before.value [] it (Ok told) after.value out
      → At (Some before) (Some after)) where
    abbrev All : Type 0
    All = (n : ℕ) → At (live_at old.sessions n) (live_at new.sessions n)

    asked-hears : (number : ℕ) (before : Box AskedSession) (h : LinkHeard)
        → AskedAnswered old number before it (Ok h) new → All
    asked-hears number before (heard_as.Asked n) (same, t) =
        asked-changes number before t.after old.sessions new.sessions t.stepped
    asked-hears number before (heard_as.Live n told) a = absurd a
    asked-hears number before (heard_as.Dropped n) a = absurd a

    live-hears : (number : ℕ) (before : Session) → reached old.sessions channel.0 ≡ Some number
        → live_at old.sessions number ≡ Some before → (h : LinkHeard) (frames : List SessionFrame)
        → LiveAnswered gives old [] number before it (Ok h) new frames → All
    live-hears number before reaches is (heard_as.Live n told) frames (same, t) =
        live-changes number before t.after old.sessions new.sessions t.hears.stepped
        (goes told number before t.after frames reaches is t.hears.heard)
    live-hears number before reaches is (heard_as.Asked n) frames a = absurd a
    live-hears number before reaches is (heard_as.Dropped n) frames a = absurd a

    hears-at : (asked : Option (Box AskedSession)) (live : Option Session) (number : ℕ)
        → reached old.sessions channel.0 ≡ Some number → live_at old.sessions number ≡ live → (h : LinkHeard)
        (frames : List SessionFrame) → AnsweredAt gives asked live old [] number it (Ok h) new frames → All
    hears-at (Some asked) live number reaches is h frames (t, none) = asked-hears number asked h t
    hears-at None (Some session) number reaches is h frames t = live-hears number session reaches is h frames t
    hears-at None None number reaches is h frames (dead, same, none) =
        (λ n.
        still (live_at old.sessions n) (live_at new.sessions n) (ap (λ (t : Talk). live_at t.sessions n) same))

    hears-in : (number : Option ℕ) → reached old.sessions channel.0 ≡ number → (h : LinkHeard)
        (frames : List SessionFrame) → AnsweredIn gives number old [] it (Ok h) new frames → All
    hears-in None reaches h frames (wrong, same, none) = let clash = wrong in absurd cc
    hears-in (Some number) reaches h frames t =
        hears-at (asked_at old.sessions number) (live_at old.sessions number) number reaches refl h frames t

    hears-so : (h : LinkHeard) (frames : List SessionFrame) → Answered gives old [] channel it (Ok h) new frames → All
    hears-so h frames t = hears-in (reached old.sessions channel.0) refl h frames t

-- a session begins without a link, or is over
pub born-stays : (m : ℕ) (step : SessionsAct) (old new : Sessions)
    → ((n : ℕ) → (n == m) ≡ false → is_about n step ≡ false) → Step old step new
    → RestsAt (live_at old m) (live_at new m) → AllRest old new
born-stays m step old new apart s rests n = by (n == m) refl
  where
    by : (b : Bool) → (n == m) ≡ b → RestsAt (live_at old n) (live_at new n)
    by true e =
        subst (λ (k : ℕ). RestsAt (live_at old k) (live_at new k)) (sym (same_number n m e)) rests
    by false e = rests-same (live_at old n) (live_at new n) (ap live_of ((at n old step new s).other (apart n e)))

-- or is asked for
pub dead-stays : (m : ℕ) (step : SessionsAct) (old new : Sessions)
    → ((n : ℕ) → (n == m) ≡ false → is_about n step ≡ false) → Step old step new → live_at new m ≡ None
    → AllRest old new
dead-stays m step old new apart s dead =
    born-stays m step old new apart s (rests-dead (live_at old m) (live_at new m) dead)

pub ends-stays : (number : ℕ) (error : Option Error) (session : Session) (old new : Talk)
    (out out_new : List SessionFrame) → EndsHere old out number error session new out_new
    → AllRest old.sessions new.sessions
ends-stays number error session old new out out_new e =
    let (was, is) =
    (at number old.sessions (Ends number e.channel session true) new.sessions e.stepped).about (eq-same number) in
    dead-stays number (Ends number e.channel session true) old.sessions new.sessions (λ n other. other) e.stepped
    (ap live_of is)

-- what is done in a session that goes on
pub inside-stays : (m : ℕ) (before after : Session) (old new : Sessions) → Step old (ChangesLive m before after) new
    → Rests before.value.session after.value.session → AllRest old new
inside-stays m before after old new s each =
    live-changes RestsAt rests-same m before after old new s (rests-at before after each)

pub goes-on-stays : (Does : Linked → Linked → Type 0) (old : Talk) (session : ℕ) (new : Talk)
    → ((before after : Linked) → Does before after → Rests before.session after.session)
    → GoesOn Does old session new → AllRest old.sessions new.sessions
goes-on-stays Does old session new stays g =
    inside-stays session g.before g.after old.sessions new.sessions g.stepped
    (stays g.before.value g.after.value g.done)

-- what a session hears, but for a Transfer and an Attach
abbrev pub IsCalmSaid : LinkPerformative → Type 0
IsCalmSaid (said.Transfer transfer payload) = ⊥
IsCalmSaid (said.Attach attach named) = ⊥
IsCalmSaid it = Unit {0}

module _ (old new : LinksIn) where
  one-does : (Rel : LinksIn → LinksIn → Type 0) → (Rests old new → Rel old new)
      → (Is : Act Link AttachTold Told Detached → Type 0) (steps : List (Act Link AttachTold Told Detached))
      → ((step : Act Link AttachTold Told Detached) → Is step → SessionStep gives old step new → Rel old new)
      → AtMostOne Is steps → History gives old steps new → Rel old new
  one-does Rel rests Is [] does are same = rests (all-same old new same)
  one-does Rel rests Is (step ∷ []) does are (mid, s, same) =
      does step are (subst (λ (x : LinksIn). SessionStep gives old step x) (sym same) s)
  one-does Rel rests Is (step ∷ next ∷ steps) does are run = absurd are

  is-calm : (step other : Act Link AttachTold Told Detached) → step ≡ other → IsCalm other
      → SessionStep gives old step new → Rests old new
  is-calm step other is calm s =
      calm-stays other old new
      (subst (λ (x : Act Link AttachTold Told Detached). SessionStep gives old x new) is s) calm

step-rests : (it : LinkPerformative) (step : AskingAct Link AttachTold Told Detached) (old new : Linked)
    → IsCalmSaid it → IsHearing it step → Within gives step old new → Rests old.session new.session
step-rests (said.Flow flow) step old new calm (out, result, out_new, is) w =
    one-does old.session new.session Rests (λ r. r) (IsFlow flow) w.steps (λ s i stepped. by s i stepped)
    (subst (λ (x : AskingAct Link AttachTold Told Detached). IsDoneBy x w.steps) is w.are) w.run
  where
    by : (s : Act Link AttachTold Told Detached) → IsFlow flow s → SessionStep gives old.session s new.session
        → Rests old.session new.session
    by s (inl t) stepped = is-calm old.session new.session s _ t.is tt stepped
    by s (inr (inl t)) stepped = is-calm old.session new.session s _ t.is tt stepped
    by s (inr (inr (base, is))) stepped = is-calm old.session new.session s _ is tt stepped
step-rests (said.Transfer transfer payload) step old new calm is w = absurd calm
step-rests (said.Attach attach named) step old new calm is w = absurd calm
step-rests (said.Disposition disposition) step old new calm (walk, echoes, is) w =
    let done : w.steps ≡ TakesDisposition disposition walk echoes ∷ [] =
    subst (λ (x : AskingAct Link AttachTold Told Detached). IsDoneBy x w.steps) is w.are in
    let (mid, s, same) =
    subst (λ (ss : List (Act Link AttachTold Told Detached)). History gives old.session ss new.session) done w.run in
    is-calm old.session new.session (TakesDisposition disposition walk echoes)
    (TakesDisposition disposition walk echoes) refl tt
    (subst
    (λ (x : LinksIn). SessionStep gives old.session (TakesDisposition disposition walk echoes) x) (sym same) s)
step-rests (said.Detach detach) step old new calm (result, is) w =
    one-does old.session new.session Rests (λ r. r) (IsDetach detach) w.steps
    (λ s i stepped. is-calm old.session new.session s _ i.is tt stepped)
    (subst (λ (x : AskingAct Link AttachTold Told Detached). IsDoneBy x w.steps) is w.are) w.run

hearing-does : (Rel : LinksIn → LinksIn → Type 0) (it : LinkPerformative)
    (steps : List (AskingAct Link AttachTold Told Detached)) (old new : Linked)
    → (Rests old.session new.session → Rel old.session new.session)
    → ((step : AskingAct Link AttachTold Told Detached) → IsHearing it step → Within gives step old new
    → Rel old.session new.session)
    → AreHearing it steps → AskingHistory gives old steps new → Rel old.session new.session
hearing-does Rel it [] old new rests does are same =
    rests (all-same old.session new.session (ap (λ (t : Linked). t.session) same))
hearing-does Rel it (step ∷ []) old new rests does are (mid, stepped, same) =
    does step are
    (subst (λ (t : Linked). Within gives step old t) (sym same) (step-within gives step old mid stepped))
hearing-does Rel it (step ∷ next ∷ steps) old new rests does are h = absurd are

pub heard-rests : (it : LinkPerformative) → IsCalmSaid it → (old : Talk) (channel : IncomingChannel) (h : LinkHeard)
    (frames : List SessionFrame) (new : Talk) → Answered gives old [] channel it (Ok h) new frames
    → AllRest old.sessions new.sessions
heard-rests it calm old channel h frames new t =
    hears-so RestsAt rests-same it old new channel
    (λ told number before after out reaches live l.
    let (steps, are, history) = heard gives before.value after.value [] out it (Ok told) l in
    rests-at before after
    (hearing-does Rests it steps before.value after.value (λ r. r)
    (λ step is w. step-rests it step before.value after.value calm is w) are history))
    h frames t

-- a link that waits for it takes the peer's Attach, or none does
abbrev AttachesIn : Attach → NamedLink → LinksIn → LinksIn → Type 0
AttachesIn attach named old new =
    Rests old new ⊎ ((handle : OutputHandle) × (named ≡ Waiting handle) × LeadsMore attach handle.0 old new)

step-attaches : (attach : Attach) (named : NamedLink) (step : AskingAct Link AttachTold Told Detached)
    (old new : Linked) → IsHearing (said.Attach attach named) step → Within gives step old new
    → AttachesIn attach named old.session new.session
step-attaches attach named step old new (result, is) w =
    one-does old.session new.session (AttachesIn attach named) (λ r. inl r) (IsAttach attach named) w.steps
    (λ s i stepped.
    inr (
      i.handle,
      i.waits,
      attach-leads old.session new.session i.handle.0 attach i.told
          (subst (λ (x : Act Link AttachTold Told Detached). SessionStep gives old.session x new.session) i.is
          stepped),
    ))
    (subst (λ (x : AskingAct Link AttachTold Told Detached). IsDoneBy x w.steps) is w.are) w.run

-- that link wasn't attached before
waits-so : (s : LinkState) (h handle : OutputHandle) → standing s h ≡ Waiting handle
    → (stands_so s ≡ Some false) × (h ≡ handle)
waits-so state.AttachSent h handle is = let same : h ≡ handle = cc in (refl, same)
waits-so state.IncompleteAttachSent h handle is = let same : h ≡ handle = cc in (refl, same)
waits-so state.Attached h handle is = absurd cc
waits-so state.IncompleteAttachExchanged h handle is = absurd cc
waits-so s h handle is = absurd cc

pub record WaitsThere (talk : Talk) (session : ℕ) (handle : OutputHandle) : Type 0 where
  pub link : Link
  pub there : link_of talk session handle ≡ Some link
  pub waits : stands_so (state_of link.link) ≡ Some false

module _ (talk : Talk) (links : Links) (session : ℕ) (role : Role) (handle : OutputHandle) where
  end-named : (l : Link) (h : OutputHandle) → link_of talk session h ≡ Some l → (b : Bool)
      → (if b then standing (state_of l.link) h else Absent) ≡ Waiting handle → WaitsThere talk session handle
  end-named l h there true is =
      let (waits, same) = waits-so (state_of l.link) h handle is in
      record {
        link = l;
        there = ap (λ (k : OutputHandle). link_of talk session k) (sym same) ∙ there;
        waits = waits;
      }
  end-named l h there false is = absurd cc

  link-named : (o : Option Link) (h : OutputHandle) → link_of talk session h ≡ o
      → named_link o role h ≡ Waiting handle → WaitsThere talk session handle
  link-named None h there is = absurd cc
  link-named (Some l) h there is = end-named l h there (is_other (role_of l.link) role) is

  held-named : (held : ℕ × OutputHandle) (b : Bool)
      → (if b then named_link (link_of talk session held.1) role held.1 else Absent) ≡ Waiting handle
      → WaitsThere talk session handle
  held-named held true is = link-named (link_of talk session held.1) held.1 refl is
  held-named held false is = absurd cc

  place-named : (o : Option (ℕ × OutputHandle)) → named_held talk session role o ≡ Waiting handle
      → WaitsThere talk session handle
  place-named None is = absurd cc
  place-named (Some held) is = held-named held (held.0 == session) is

  name-named : (o : Option ℕ) → named_by talk links session role o ≡ Waiting handle → WaitsThere talk session handle
  name-named None is = absurd cc
  name-named (Some number) is = place-named (held_at links number) is

pub record LeadsMoreAt (attach : Attach) (old new : Option Session) : Type 0 where
  pub handle : OutputHandle
  pub unattached : (k : ℕ) (held : Option Delivery) → held_in old handle.0 ≡ Some (k, (true, held)) → ⊥
  pub holds : EachAt Goes old new
  pub keeps : LeadsStillAt old new
  pub there : (h : ℕ) → IsAttached (held_in old h) (held_in new h) → leads_in new attach.handle.0 ≡ Some h
  pub leads :
      (input h : ℕ) → leads_in new input ≡ Some h
      → (leads_in old input ≡ Some h) ⊎ ((input ≡ attach.handle.0) × (h ≡ handle.0))
  pub waits :
      (k : ℕ) (held : Option Delivery) → held_in new handle.0 ≡ Some (k, (false, held)) → (input h : ℕ)
      → leads_in new input ≡ Some h → leads_in old input ≡ Some h

abbrev pub AttachesAt : Attach → Option Session → Option Session → Type 0
AttachesAt attach old new = RestsAt old new ⊎ LeadsMoreAt attach old new

module _ (attach : Attach) (named : NamedLink) (old : Talk) (links : Links) (channel : IncomingChannel) where
  named-in : (number : ℕ) → reached old.sessions channel.0 ≡ Some number → IsNamedOn old links channel attach named
      → IsNamed old links number attach named
  named-in number reaches n = subst (λ (o : Option ℕ). IsNamedIn o old links attach named) reaches n

  unattached-so : (number : ℕ) (before : Session) (handle : OutputHandle) → live_at old.sessions number ≡ Some before
      → IsNamed old links number attach named → named ≡ Waiting handle → (k : ℕ) (held : Option Delivery)
      → held_in (Some before) handle.0 ≡ Some (k, (true, held)) → ⊥
  unattached-so number before handle live n waits k held is =
      let w = name-named old links number attach.role handle n.number (sym n.is ∙ waits) in
      waiting-holds w.link.number w.link.link k held w.waits
      (sym (ap held_link w.there)
      ∙ ap (λ (o : Option Session). held_link (link_in o handle)) live ∙ is)

  pub heard-attaches : (h : LinkHeard) (frames : List SessionFrame) (new : Talk)
      → IsNamedOn old links channel attach named
      → Answered gives old [] channel (said.Attach attach named) (Ok h) new frames
      → (n : ℕ) → AttachesAt attach (live_at old.sessions n) (live_at new.sessions n)
  heard-attaches h frames new n t =
      hears-so (AttachesAt attach) (λ o p same. inl (rests-same o p same)) (said.Attach attach named) old new channel
      (λ told number before after out reaches live l.
      let (steps, are, history) = heard gives before.value after.value [] out (said.Attach attach named) (Ok told) l in
      by number before after reaches live
      (hearing-does (AttachesIn attach named) (said.Attach attach named) steps before.value after.value (λ r. inl r)
      (λ step is w. step-attaches attach named step before.value after.value is w) are history))
      h frames t
    where
      by : (number : ℕ) (before after : Session) → reached old.sessions channel.0 ≡ Some number
          → live_at old.sessions number ≡ Some before
          → AttachesIn attach named before.value.session after.value.session
          → AttachesAt attach (Some before) (Some after)
      by number before after reaches live (inl r) = inl (rests-at before after r)
      by number before after reaches live (inr (handle, waits, m)) =
          inr (record {
            handle = handle;
            unattached =
                unattached-so number before handle live (named-in number reaches n) waits;
            holds = m.holds;
            keeps = m.keeps;
            there = m.there;
            leads = m.leads;
            waits = m.waits;
          })

pub attaches-on : (attach : Attach) (old mid new : Option Session) → AttachesAt attach old mid → RestsAt mid new
    → AttachesAt attach old new
attaches-on attach old mid new (inl r) later = inl (rests-on old mid new r later)
attaches-on attach old mid new (inr m) later =
    inr (record {
      handle = m.handle;
      unattached = m.unattached;
      holds = λ h. goes-on (held_in old h) (held_in mid h) (held_in new h) (m.holds h) (later.holds h);
      keeps = still-on old mid new m.keeps later;
      there = λ h t.
          let is = was-so (held_in mid h) (held_in new h) (t.number, (true, t.held)) (later.holds h) t.is in
          later.keeps attach.handle.0 h t.number t.held
          (m.there h (record { number = t.number; held = t.held; was = t.was; is = is })) t.is;
      leads = λ input h there. m.leads input h (later.leads input h there);
      waits = λ k held is input h there.
          m.waits k held
          (was-so (held_in mid m.handle.0) (held_in new m.handle.0) (k, (false, held)) (later.holds m.handle.0) is)
          input h (later.leads input h there);
    })

-- where before that nothing changes of what is held, nor where the peer's handles lead
pub attaches-behind : (attach : Attach) (old mid new : Option Session) → ((h : ℕ) → held_in mid h ≡ held_in old h)
    → ((input : ℕ) → leads_in mid input ≡ leads_in old input) → AttachesAt attach mid new → AttachesAt attach old new
attaches-behind attach old mid new holds leads (inl r) =
    inl
    (rests-on old mid new
    (record {
      holds = λ h. inl (holds h);
      leads = λ input h there. sym (leads input) ∙ there;
      keeps = λ input h k held there is. leads input ∙ there;
    })
    r)
attaches-behind attach old mid new holds leads (inr m) =
    inr (record {
      handle = m.handle;
      unattached = λ k held is. m.unattached k held (holds m.handle.0 ∙ is);
      holds = λ h. subst (λ (x : Holding). Goes x (held_in new h)) (holds h) (m.holds h);
      keeps = λ input h k held there is. m.keeps input h k held (leads input ∙ there) is;
      there = λ h t.
          m.there h (record { number = t.number; held = t.held; was = holds h ∙ t.was; is = t.is });
      leads = λ input h there.
          elim (m.leads input h there) [ inl same ↦ inl (sym (leads input) ∙ same) | inr its ↦ inr its ];
      waits = λ k held is input h there. sym (leads input) ∙ m.waits k held is input h there;
    })

pub attaches-go : (attach : Attach) (old new : Sessions)
    → ((n : ℕ) → AttachesAt attach (live_at old n) (live_at new n)) → EachOf Goes old new
attaches-go attach old new each n h = by (each n)
  where
    by : AttachesAt attach (live_at old n) (live_at new n)
        → Goes (held_in (live_at old n) h) (held_in (live_at new n) h)
    by (inl r) = inr (r.holds h)
    by (inr m) = m.holds h

-- a link enters one of them
pub record LeadsFirstAt (handle : ℕ) (old new : Option Session) : Type 0 where
  pub vacant : number_live old handle ≡ None
  pub others : (h : ℕ) → (h == handle) ≡ false → Stays (held_in old h) (held_in new h)
  pub keeps : LeadsStillAt old new
  pub input : Option ℕ
  pub there :
      (k : ℕ) (held : Option Delivery) → held_in new handle ≡ Some (k, (true, held))
      → (other : ℕ) × (input ≡ Some other) × (leads_in new other ≡ Some handle)
  pub leads :
      (other h : ℕ) → leads_in new other ≡ Some h
      → (leads_in old other ≡ Some h) ⊎ ((input ≡ Some other) × (h ≡ handle))
  pub waits : (k : ℕ) (held : Option Delivery) → held_in new handle ≡ Some (k, (false, held)) → input ≡ None

abbrev pub EntersAt : ℕ → Option Session → Option Session → Type 0
EntersAt handle old new = RestsAt old new ⊎ LeadsFirstAt handle old new

pub first-at : (handle : ℕ) (before after : Session) → LeadsFirst handle before.value.session after.value.session
    → EntersAt handle (Some before) (Some after)
first-at handle before after f =
    inr (record {
      vacant = ap number_of f.vacant;
      others = f.others;
      keeps = f.keeps;
      input = f.input;
      there = f.there;
      leads = f.leads;
      waits = f.waits;
    })

-- a session ends by its fault
module _ (it : LinkPerformative) (old new : Talk) (n : ℕ) (fault : SessionError) (session : Session)
    (frames : List SessionFrame) where
  live-fails : (number : ℕ) (before : Session)
      → LiveAnswered gives old [] number before it (Err (refused.Session n fault session)) new frames
      → AllRest old.sessions new.sessions
  live-fails number before (same, f) k = by (k == number) refl
    where
      by : (b : Bool) → (k == number) ≡ b → RestsAt (live_at old.sessions k) (live_at new.sessions k)
      by true e =
          let (was, is) =
          (at k f.mid.sessions (Ends number f.ends.channel session true) new.sessions f.ends.stepped).about e in
          rests-dead (live_at old.sessions k) (live_at new.sessions k) (ap live_of is)
      by false e =
          rests-same (live_at old.sessions k) (live_at new.sessions k)
          (ap live_of
          ((at k f.mid.sessions (Ends number f.ends.channel session true) new.sessions f.ends.stepped).other e
          ∙ (at k old.sessions (ChangesLive number before session) f.mid.sessions f.refuses.hears.stepped).other e))

  fails-at : (asked : Option (Box AskedSession)) (live : Option Session) (number : ℕ)
      → AnsweredAt gives asked live old [] number it (Err (refused.Session n fault session)) new frames
      → AllRest old.sessions new.sessions
  fails-at (Some asked) live number t = absurd t.0
  fails-at None (Some before) number t = live-fails number before t
  fails-at None None number (is, same, none) = let clash = is in absurd cc

  fails-in : (number : Option ℕ) → AnsweredIn gives number old [] it (Err (refused.Session n fault session)) new frames
      → AllRest old.sessions new.sessions
  fails-in None (wrong, same, none) = let clash = wrong in absurd cc
  fails-in (Some number) t = fails-at (asked_at old.sessions number) (live_at old.sessions number) number t

  pub fails-stay : (channel : IncomingChannel)
      → Answered gives old [] channel it (Err (refused.Session n fault session)) new frames
      → AllRest old.sessions new.sessions
  fails-stay channel t = fails-in (reached old.sessions channel.0) t
