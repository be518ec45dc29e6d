-- The links of an endpoint go on by steps of their own.
use Rattle.std.proofs.Common.{◌≡◌, inl, inr, ℕ, Bool, true, false, List, [], ◌∷◌, ◌++◌, Option, Some, None, Ok, Err}
use Rattle.std.proofs.Common.{refl, sym, ap, subst}
use Rattle.std.specs.Prelude.{All, Result, ⊤}
use Rattle.std.proofs.lemmas.List.Elements.{All-head, All-tail}
use Rattle.amqp_session_types.specs.declared.channels.IncomingChannel.{IncomingChannel}
use Rattle.amqp_session_types.specs.declared.handles.OutputHandle.{OutputHandle}
use Rattle.amqp_session_performatives.specs.declared.session_frame.SessionFrame.{SessionFrame}
use Rattle.amqp_session_performatives.specs.declared.session_frame.SessionFrameBody.{SessionFrameBody}
use Rattle.amqp_session_performatives.specs.declared.session_frame.SessionFrameBody.TheVariants as session_body
use Rattle.amqp_session_core.specs.State.{link_at}
use Rattle.amqp_session_frames.specs.declared.frame.FrameBody.{FrameBody}
use Rattle.amqp_session_frames.specs.declared.frame.FrameBody.TheVariants as body
use Rattle.amqp_link_base.specs.declared.detached.Detached.{Detached}
use Rattle.amqp_link.specs.declared.end.End.{End}
use Rattle.amqp_endpoint_tables.specs.declared.link_place.LinkPlace.{LinkPlace}
use Rattle.amqp_endpoint_tables.specs.declared.link_place.LinkPlace.TheVariants.{AtRest, Held}
use Rattle.amqp_endpoint_tables.specs.LinkState.{AreApart, fresh, place_at}
use Rattle.amqp_endpoint_tables.specs.LinkSteps.{Closed, Closes, Enters, History, Holds, MakesRoom, Rested, Rests, Act}
use Rattle.amqp_endpoint_tables.specs.LinkSteps.{Step}
use Rattle.amqp_endpoint_tables.proofs.NamesApart.{none_apart, stay_apart}
use Rattle.amqp_endpoint_model.specs.declared.call.Call.{Call}
use Rattle.amqp_endpoint_model.specs.declared.call.Call.TheVariants as call
use Rattle.amqp_endpoint_model.specs.declared.event.Event.{Event}
use Rattle.amqp_endpoint_model.specs.declared.settings.Settings.{Settings}
use Rattle.amqp_endpoint_model.specs.History.{Run}
use Rattle.amqp_endpoint_model.specs.Relay.{IsNew}
use Rattle.amqp_endpoint_model.specs.Said.{Said, Told, attaching, count, credit_is, done, link_closed, session_begun}
use Rattle.amqp_endpoint_model.specs.Said.{message_sent, tried_end, truth, waiting}
use Rattle.amqp_endpoint_model.specs.State.{State, fresh as fresh_endpoint}
use Rattle.amqp_endpoint_attached.specs.Linked.{Linked}
use Rattle.amqp_endpoint_linking.specs.Linking.{Link, Links, Session, Talk}
use Rattle.amqp_endpoint_linking.specs.GivingBack.{AllGivenBack, GoOn, IsGivenBack, SessionGivenBack}
use Rattle.amqp_endpoint_linking.specs.Ending.{Finishes, Leaves}
use Rattle.amqp_endpoint_link_calls.specs.Attaching.{with_room}
use Rattle.amqp_endpoint_link_calls.specs.Closing.{ClosedAt, ClosedHeld, parted_at}
use Rattle.amqp_endpoint_link_calls.specs.Places.{Where}
use Rattle.amqp_endpoint_link_hearing.specs.Detaching.{Becomes}
use Rattle.amqp_endpoint_link_hearing.specs.Flowing.{LeaveWith, LeavesOnce, LeavesWith, LetsGo, ended_link}
use Rattle.amqp_endpoint_link_hearing.specs.Heard.{session_of}
use Rattle.amqp_endpoint_link_hearing.specs.Leaving.{IsLeft}
use Rattle.amqp_endpoint.specs.Attaching.{LinkAttached, LinkResumed}
use Rattle.amqp_endpoint.specs.Calling.{Calls}
use Rattle.amqp_endpoint.specs.Does.{linked}
use Rattle.amqp_endpoint.specs.Hearing.{Hears}
use Rattle.amqp_endpoint.specs.declared.linked.LinkedSessions.{LinkedSessions}
use Rattle.amqp_endpoint_laws.specs.Deeds.{Deed, IsDeed}
use Rattle.amqp_endpoint_laws.proofs.DeedsKept.{MayBe, deed-keeps-if}
use Rattle.amqp_endpoint_laws.proofs.Keeping.{Keeps, KeepsSilent}
use Rattle.amqp_endpoint_laws.specs.Linking.{HaveCome}
use Rattle.amqp_endpoint_laws.proofs.Kept.{run-keeps}

more : (start mid end : Links) (steps others : List (Act End)) → History start steps mid → History mid others end
    → History start (steps ++ others) end
more start mid end [] others same h = subst (λ (l : Links). History l others end) same h
more start mid end (step ∷ steps) others (next, one, rest) h = (next, one, more next mid end steps others rest h)

-- links that are given back go on by steps of their own
abbrev pub BackGoesOn : Type 0
BackGoesOn = (old new : Links) (left : List Link) → AllGivenBack old left new → GoOn old new

abbrev pub LeftGoesOn : Type 0
LeftGoesOn = (old new : Talk) (links links_new : Links) → Leaves old links new links_new → GoOn links links_new

abbrev pub FinishedGoesOn : Type 0
FinishedGoesOn = (old new : Talk) (links links_new : Links) → Finishes old links new links_new → GoOn links links_new

-- a step by which no link attaches again but one of these
abbrev pub HoldsOnly : (ℕ → Type 0) → Act End → Type 0
HoldsOnly allows (Holds number session handle link) = allows number
HoldsOnly allows step = Unit {0}

-- each of them
abbrev AllHoldOnly : (ℕ → Type 0) → List (Act End) → Type 0
AllHoldOnly allows [] = Unit {0}
AllHoldOnly allows (step ∷ steps) = HoldsOnly allows step × AllHoldOnly allows steps

-- and a call
abbrev pub MayHold : (ℕ → Type 0) → Call → Type 0
MayHold allows (call.Resume number session) = allows number
MayHold allows it = Unit {0}

given-holds : (allows : ℕ → Type 0) (step : Act End) → IsGivenBack step → HoldsOnly allows step
given-holds allows (Holds number session handle link) back = absurd back
given-holds allows step back = tt

hold-only : (allows : ℕ → Type 0) (steps : List (Act End)) → All IsGivenBack steps → AllHoldOnly allows steps
hold-only allows [] given = tt
hold-only allows (step ∷ steps) given = (
  given-holds allows step (All-head IsGivenBack step steps given),
  hold-only allows steps (All-tail IsGivenBack step steps given),
)

-- what each such step keeps is kept by all that an endpoint does
module _ (P : Links → Type 0) (allows : ℕ → Type 0)
    (kept : (step : Act End) (old new : Links) → HoldsOnly allows step → Step old step new → P old → P new)
    (back_on : BackGoesOn) where
  all-kept : (steps : List (Act End)) (old new : Links) → AllHoldOnly allows steps → History old steps new → P old
      → P new
  all-kept [] old new none same p = subst P (sym same) p
  all-kept (step ∷ steps) old new (one, others) (mid, stepped, rest) p =
      all-kept steps mid new others rest (kept step old mid one stepped p)

  -- by further steps
  module _ (old new : Links) (came : P old) where
    by : (steps : List (Act End)) → AllHoldOnly allows steps → History old steps new → P new
    by steps none h = all-kept steps old new none h came

    same : new ≡ old → P new
    same is = subst P (sym is) came

    goes-on : GoOn old new → P new
    goes-on g = by g.steps (hold-only allows g.steps g.given_back) g.history

    back : (left : List Link) → AllGivenBack old left new → P new
    back left given = goes-on (back_on old new left given)

    session-back : (session : Option Session) → SessionGivenBack old session new → P new
    session-back None is = same is
    session-back (Some session) given = back _ given

    closed : (number : ℕ) (place : Option (LinkPlace End)) → Closed old number place new → P new
    closed number None t = same t.1
    closed number (Some place) t = by (Closes number place ∷ []) (tt, tt) (new, t, refl)

    rested : (number : ℕ) (link : End) (left : Result ⊤ End) → Rested old number link left new → P new
    rested number link (Err given) t = same t.2
    rested number link (Ok given) t = by (Rests number link ∷ []) (tt, tt) (new, t, refl)

    left-so : (is_closed : Bool) (number : ℕ) (left : Option Link) → IsLeft is_closed old number left new → P new
    left-so true number left c = closed number c.place c.closed
    left-so false number None is = same is
    left-so false number (Some link) r = rested number link.link r.back r.rested

    attached : (old_talk new_talk : Talk) (limit session : ℕ) (link : End) (number : ℕ) (events : List Event)
        (frames : List SessionFrame)
        → LinkAttached old_talk old limit session link number events frames new_talk new → P new
    attached old_talk new_talk limit session link number events frames a =
        by (MakesRoom _ ∷ Enters _ _ _ _ ∷ []) (tt, (tt, tt))
        (with_room old, (a.attaches.entered.0, refl), (new, a.attaches.entered, refl))

    resumed : (old_talk new_talk : Talk) (limit link session number : ℕ) (events : List Event)
        (frames : List SessionFrame) → allows link
        → LinkResumed old_talk old limit link session number events frames new_talk new → P new
    resumed old_talk new_talk limit link session number events frames allowed r =
        by (Holds link session r.placed.handle r.resumes.link ∷ []) (allowed, tt) (new, r.resumes.held, refl)

    closed-held : (parted : Bool) (session : ℕ) (handle : OutputHandle) (number : ℕ) (events : List Event)
        (old_talk new_talk : Talk) (frames : List SessionFrame) → place_at old number ≡ Some (Held session handle)
        → ClosedHeld parted session handle old_talk old number [] events new_talk new frames → P new
    closed-held true session handle number events old_talk new_talk frames is c =
        by (Closes number (Held session handle) ∷ []) (tt, tt) (new, (is, c.forgotten), refl)
    closed-held false session handle number events old_talk new_talk frames is c = same c.kept

    closed-at : (place : Where) (number : ℕ) (events : List Event) (old_talk new_talk : Talk)
        (frames : List SessionFrame) → place_at old number ≡ place
        → ClosedAt place old_talk old number [] events new_talk new frames → P new
    closed-at None number events old_talk new_talk frames is c = absurd c
    closed-at (Some (AtRest end)) number events old_talk new_talk frames is c =
        by (Closes number (AtRest end) ∷ []) (tt, tt) (new, (is, c.forgets.forgotten), refl)
    closed-at (Some (Held session handle)) number events old_talk new_talk frames is c =
        closed-held (parted_at old_talk session handle) session handle number events
        old_talk new_talk frames is c

  heard-detach : (took : Option (ℕ × Detached)) (limit : ℕ) (old mid new : Talk) (links links_new : Links)
      (frames : List SessionFrame) (events : List Event) (it : _)
      → Becomes took limit old links it mid frames events new links_new → P links → P links_new
  heard-detach (Some (session, told)) limit old mid new links links_new frames events it b came =
      left-so links links_new came told.closed b.link.number b.left b.is_left
  heard-detach None limit old mid new links links_new frames events it b came = same links links_new came b.same

  -- a link that leaves by a Flow comes to rest, or is closed
  once : (it : Option (ℕ × Bool)) (handle : OutputHandle) (old new : Linked)
      (links links_new : Links) → LeavesOnce it handle old links new links_new → P links → P links_new
  once None handle old new links links_new l came = same links links_new came l.1
  once (Some (number, is_closed)) handle old new links links_new l came =
      left-so links links_new came is_closed number l.left l.is_left

  with-frame : (frame : SessionFrameBody) (old new : Linked) (links links_new : Links)
      → LeavesWith frame old links new links_new → P links → P links_new
  with-frame (session_body.Detach detach) old new links links_new l came =
      once (ended_link (link_at old.session detach.handle.0)) (record { 0 = detach.handle.0 }) old new links
      links_new l came
  with-frame frame old new links links_new l came = same links links_new came l.1

  with-each : (frames : List SessionFrame) (old new : Linked) (links links_new : Links)
      → LeaveWith frames old links new links_new → P links → P links_new
  with-each [] old new links links_new l came = same links links_new came l.1
  with-each (frame ∷ frames) old new links links_new (mid, links_mid, one, others) came =
      with-each frames mid new links_mid links_new others
      (with-frame frame.body old mid links links_mid one came)

  heard-flow : (took : Option ℕ) (frames : List SessionFrame) (mid new : Talk)
      (links links_new : Links) → LetsGo took frames mid links new links_new → P links → P links_new
  heard-flow None frames mid new links links_new l came = same links links_new came l.1
  heard-flow (Some session) frames mid new links links_new g came =
      with-each frames g.before.value g.after.value links links_new g.done came

  heard : (said : FrameBody) (old new : Talk) (links links_new : Links) (given given_new limit : ℕ)
      (channel : IncomingChannel) (frames : List SessionFrame) (events : List Event)
      → Hears old links given limit channel said frames events new links_new given_new → P links
      → P links_new
  heard (body.Begin begin) old new links links_new given given_new limit channel frames events (inl t, g) came =
      same links links_new came t.same
  heard (body.Begin begin) old new links links_new given given_new limit channel frames events (inr f, g) came =
      back links links_new came _ f.fails.back
  heard (body.Attach attach) old new links links_new given given_new limit channel frames events (a, g) came =
      elim a.hears
      [ inl t ↦ same links links_new came t.same | inr f ↦ back links links_new came _ f.back ]
  heard (body.Flow flow) old new links links_new given given_new limit channel frames events (h, g) came =
      elim h.hears [
        | inl t ↦ heard-flow (session_of t.heard) t.first t.mid t.left links links_new t.leave came
        | inr f ↦ back links links_new came _ f.back
      ]
  heard (body.Transfer transfer payload) old new links links_new given given_new limit channel frames events
      (inl t) came =
      same links links_new came t.same
  heard (body.Transfer transfer payload) old new links links_new given given_new limit channel frames events
      (inr f) came =
      back links links_new came _ f.fails.back
  heard (body.Disposition disposition) old new links links_new given given_new limit channel frames events
      (inl t, g) came =
      same links links_new came t.same
  heard (body.Disposition disposition) old new links links_new given given_new limit channel frames events
      (inr f, g) came =
      back links links_new came _ f.back
  heard (body.Detach detach) old new links links_new given given_new limit channel frames events (inl t, g) came =
      heard-detach _ limit old t.mid new links links_new frames events detach t.becomes came
  heard (body.Detach detach) old new links links_new given given_new limit channel frames events (inr f, g) came =
      back links links_new came _ f.back
  heard (body.End end) old new links links_new given given_new limit channel frames events (t, g) came =
      session-back links links_new came t.heard.ended t.back
  heard said old new links links_new given given_new limit channel frames events h came = absurd h

  called : (by_call : Call) (answer : Said) (old new : LinkedSessions) (limit : ℕ)
      (frames : List SessionFrame) → MayHold allows by_call → Calls old limit by_call answer frames new → P old.links
      → P new.links
  called call.Begin (session_begun n) old new limit frames may c came = same old.links new.links came c.same
  called (call.AcceptBegin channel) (session_begun n) old new limit frames may c came =
      same old.links new.links came c.same
  called (call.End n) done old new limit frames may c came = back old.links new.links came _ c.back
  called (call.IsEnded n) (truth b) old new limit frames may c came =
      same old.links new.links came (ap (λ (s : LinkedSessions). s.links) c.same)
  called (call.TryEnd n) (tried_end o) old new limit frames may c came =
      same old.links new.links came (ap (λ (s : LinkedSessions). s.links) c.rest)
  called (call.AttachSender n settings) (attaching link events) old new limit frames may c came =
      attached old.links new.links came old.talk new.talk limit n _ link events frames c
  called (call.AttachReceiver n settings) (attaching link events) old new limit frames may c came =
      attached old.links new.links came old.talk new.talk limit n _ link events frames c
  called (call.Resume link n) (attaching number events) old new limit frames may c came =
      resumed old.links new.links came old.talk new.talk limit link n number events frames may c
  called (call.Detach link) done old new limit frames may c came = same old.links new.links came c.same
  called (call.CloseLink link) (link_closed events) old new limit frames may c came =
      closed-at old.links new.links came _ link events old.talk new.talk frames refl c
  called (call.Grant link n) (credit_is left) old new limit frames may c came =
      same old.links new.links came c.same
  called (call.Drain link) done old new limit frames may c came = same old.links new.links came c.same
  called (call.Send link message) (message_sent tag outcome) old new limit frames may c came =
      same old.links new.links came c.same
  called (call.Dispose link message disposal) done old new limit frames may c came =
      same old.links new.links came c.same
  called (call.DisposeAll link messages disposal) done old new limit frames may c came =
      same old.links new.links came c.same
  called (call.Credit link) (credit_is left) old new limit frames may c came =
      same old.links new.links came (ap (λ (s : LinkedSessions). s.links) c.same)
  called (call.HeldBack n) (count m) old new limit frames may c came =
      same old.links new.links came (ap (λ (s : LinkedSessions). s.links) c.same)
  called (call.Waiting n) (waiting turn) old new limit frames may c came =
      same old.links new.links came (ap (λ (s : LinkedSessions). s.links) c.same)
  called by_call answer old new limit frames may c came = absurd c

  module _ (left_on : LeftGoesOn) (finished_on : FinishedGoesOn) where
    links-keep-silent : KeepsSilent linked (λ phase s. P s.links)
    links-keep-silent =
        record {
          moved = λ phase s connection live came. came;
          renewed = λ s came. came;
          runs = λ phase s came. came;
          refused = λ phase old new limit channel said e r came. same old.links new.links came r.0.same;
          closed = λ phase old new c came.
              goes-on old.links new.links came (left_on old.talk new.talk old.links new.links c.0);
          finished = λ phase to old new f came.
              goes-on old.links new.links came (finished_on old.talk new.talk old.links new.links f.0);
        }

    -- by each deed by which no link attaches again but one of these
    pub links-kept : (deed : Deed) (old new : LinkedSessions) → MayBe (MayHold allows) deed
        → IsDeed linked old deed new → P old.links → P new.links
    links-kept deed old new may d came =
        deed-keeps-if linked (λ s. P s.links) links-keep-silent
        (λ old new limit channel said frames events h came.
        heard said old.talk new.talk old.links new.links old.given new.given limit (record { 0 = channel }) frames
        events h.0 came)
        (MayHold allows)
        (λ old new limit by_call answer frames may c came. called by_call answer old new limit frames may c.0 came)
        deed old new may d came

    may-hold : ((n : ℕ) → allows n) → (it : Call) → MayHold allows it
    may-hold free (call.Resume number session) = free number
    may-hold free it = tt

    pub links-keep : ((n : ℕ) → allows n) → Keeps linked (λ seen tags phase s. P s.links)
    links-keep free =
        record {
          silent = λ seen tags. links-keep-silent;
          told = λ seen tags event phase s theirs came. came;
          taken = λ seen tags phase old new limit channel said frames events h came.
              heard said old.talk new.talk old.links new.links old.given new.given limit
              (record { 0 = channel }) frames events h.0 came;
          called = λ seen tags phase old new limit by_call answer frames may c came.
              called by_call answer old new limit frames (may-hold free by_call) c.0 came;
        }

come-on : (step : Act End) (old new : Links) → HoldsOnly (λ n. Unit {0}) step → Step old step new → HaveCome old
    → HaveCome new
come-on step old new free stepped came =
    record {
      steps = came.steps ++ step ∷ [];
      history = more fresh old new came.steps (step ∷ []) came.history (new, stepped, refl);
    }

pub have-come : (back_on : BackGoesOn) (left_on : LeftGoesOn) (finished_on : FinishedGoesOn)
    (sessions : LinkedSessions) (settings : Settings) (calls : List Call) (told : List Told)
    (end : State LinkedSessions) → IsNew linked settings sessions
    → Run linked (fresh_endpoint settings sessions) calls told end → HaveCome end.sessions.links
have-come back_on left_on finished_on sessions settings calls told end new run =
    run-keeps linked (λ seen tags phase s. HaveCome s.links)
    (links-keep HaveCome (λ n. Unit {0}) come-on back_on left_on finished_on (λ n. tt)) [] []
    (fresh_endpoint settings sessions) end calls told run
    (record { steps = []; history = ap (λ (s : LinkedSessions). s.links) new.is })

pub are-apart : (links : Links) → HaveCome links → AreApart links.links
are-apart links came = stay_apart fresh links came.steps (none_apart End) came.history
