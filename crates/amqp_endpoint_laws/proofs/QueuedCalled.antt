-- In each run of an endpoint what a link is given to send by its calls is queued in order.
use Rattle.std.proofs.Common.{◌≡◌, ℕ, zero, suc, List, [], ◌∷◌, ◌++◌, Some, ap, refl, slice_get, subst, sym, ◌∙◌}
use Rattle.std.proofs.lemmas.Option.{none-some, same_Some}
use Rattle.amqp_session_types.specs.declared.handles.OutputHandle.{OutputHandle}
use Rattle.amqp_session_performatives.specs.declared.session_frame.SessionFrame.{SessionFrame}
use Rattle.amqp_endpoint_laws.specs.Deeds.{AreDone, Closes, Deed, Does, Finishes, Hears, IsDeed, IsDone, Moves, Queues}
use Rattle.amqp_endpoint_laws.specs.Deeds.{Refuses, Renews, Takes, done_by, done_since, fed_since, pulled_since}
use Rattle.amqp_endpoint_laws.specs.Deeds.{told_since}
use Rattle.amqp_endpoint_laws.specs.CallsDone.{calls_done, events_told}
use Rattle.amqp_endpoint_laws.proofs.Runs.{is-done}
use Rattle.amqp_endpoint.specs.Does.{linked}
use Rattle.amqp_endpoint.specs.declared.linked.LinkedSessions.{LinkedSessions}
use Rattle.amqp_endpoint_linking.specs.Linking.{Session}
use Rattle.amqp_endpoint_model.specs.History.{Run}
use Rattle.amqp_endpoint_model.specs.Relay.{IsNew}
use Rattle.amqp_endpoint_model.specs.Said.{Said, Told}
use Rattle.amqp_endpoint_model.specs.State.{State, fresh}
use Rattle.amqp_endpoint_model.specs.declared.call.Call.{Call}
use Rattle.amqp_endpoint_model.specs.declared.settings.Settings.{Settings}
use Rattle.amqp_endpoint_tables.specs.LinkState.{place_at as link_place}
use Rattle.amqp_endpoint_tables.specs.declared.link_place.LinkPlace.TheVariants.{Held}
use Rattle.amqp_endpoint_tables.specs.State.{live_at}
use Rattle.amqp_endpoint_conversation.specs.Windows.{Passing}
use Rattle.amqp_endpoint_laws.specs.Opening.{OpensBy, those_behind}
use Rattle.amqp_endpoint_laws.specs.Passed.{PassesIn, passes_in}
use Rattle.amqp_endpoint_laws.specs.Queued.{Message, SaysSince, message_done, messages_by, messages_done}
use Rattle.amqp_endpoint_laws.specs.Resumed.{NeverCalledAgain, NeverResumed}
use Rattle.amqp_endpoint_laws.proofs.Again.{never-resumed}
use Rattle.amqp_endpoint_laws.proofs.LinksKept.{BackGoesOn, FinishedGoesOn, LeftGoesOn}
use Rattle.amqp_endpoint_laws.proofs.Opening.{opened}
use Rattle.amqp_endpoint_laws.proofs.PassedKept.{some-passes}
use Rattle.amqp_endpoint_laws.proofs.QueuedAttached.{HandlesApart, HandlesStand, says-all}

-- the messages of deeds are those of the calls that they do
pub messages-done : (link : ℕ) (deeds : List Deed) → messages_by link deeds ≡ messages_done link (done_by deeds)
messages-done link [] = refl
messages-done link (Does limit it answer frames ∷ deeds) =
    ap (λ (ms : List Message). message_done link it answer ++ ms) (messages-done link deeds)
messages-done link (Queues it ∷ deeds) = messages-done link deeds
messages-done link (Hears frame events ∷ deeds) = messages-done link deeds
messages-done link (Takes limit frame frames events ∷ deeds) = messages-done link deeds
messages-done link (Refuses limit frame error own_close ∷ deeds) = messages-done link deeds
messages-done link (Moves connection ∷ deeds) = messages-done link deeds
messages-done link (Renews ∷ deeds) = messages-done link deeds
messages-done link (Closes ∷ deeds) = messages-done link deeds
messages-done link (Finishes ∷ deeds) = messages-done link deeds

-- where a call is done, the deed is that does it, and the calls behind it are those of the deeds since
record IsAmong (it : Call) (answer : Said) (deeds : List Deed) (n : ℕ) : Type 0 where
  before : List Deed
  limit : ℕ
  frames : List SessionFrame
  since : List Deed
  are : deeds ≡ before ++ Does limit it answer frames ∷ since
  behind : those_behind n (done_by deeds) ≡ done_by since

later : (it : Call) (answer : Said) (deed : Deed) (deeds : List Deed) (m n : ℕ) (a : IsAmong it answer deeds m)
    → those_behind n (done_by (deed ∷ deeds)) ≡ done_by a.since → IsAmong it answer (deed ∷ deeds) n
later it answer deed deeds m n a behind =
    record {
      before = deed ∷ a.before;
      limit = a.limit;
      frames = a.frames;
      since = a.since;
      are = ap (λ (ds : List Deed). deed ∷ ds) a.are;
      behind = behind;
    }

among : (it : Call) (answer : Said) (deeds : List Deed) (n : ℕ) → slice_get (done_by deeds) n ≡ Some (it, answer)
    → IsAmong it answer deeds n
among it answer [] n is = absurd (none-some _ is)
among it answer (Does limit other reply frames ∷ deeds) zero is =
    let same = same_Some (other, reply) (it, answer) is in
    record {
      before = [];
      limit = limit;
      frames = frames;
      since = deeds;
      are = ap (λ (did : Call × Said). Does limit did.0 did.1 frames ∷ deeds) same;
      behind = refl;
    }
among it answer (Does limit other reply frames ∷ deeds) (suc n) is =
    let a = among it answer deeds n is in
    later it answer (Does limit other reply frames) deeds n (suc n) a a.behind
among it answer (Queues q ∷ deeds) n is =
    let a = among it answer deeds n is in later it answer (Queues q) deeds n n a a.behind
among it answer (Hears frame events ∷ deeds) n is =
    let a = among it answer deeds n is in later it answer (Hears frame events) deeds n n a a.behind
among it answer (Takes limit frame frames events ∷ deeds) n is =
    let a = among it answer deeds n is in later it answer (Takes limit frame frames events) deeds n n a a.behind
among it answer (Refuses limit frame error own_close ∷ deeds) n is =
    let a = among it answer deeds n is in later it answer (Refuses limit frame error own_close) deeds n n a a.behind
among it answer (Moves connection ∷ deeds) n is =
    let a = among it answer deeds n is in later it answer (Moves connection) deeds n n a a.behind
among it answer (Renews ∷ deeds) n is =
    let a = among it answer deeds n is in later it answer Renews deeds n n a a.behind
among it answer (Closes ∷ deeds) n is =
    let a = among it answer deeds n is in later it answer Closes deeds n n a a.behind
among it answer (Finishes ∷ deeds) n is =
    let a = among it answer deeds n is in later it answer Finishes deeds n n a a.behind

done-first : (before since : List Deed) (old new : LinkedSessions) → AreDone linked old (before ++ since) new
    → (mid : LinkedSessions) × AreDone linked old before mid × AreDone linked mid since new
done-first [] since old new done = (old, refl, done)
done-first (deed ∷ before) since old new (next, one, rest) =
    let (mid, first, others) = done-first before since next new rest in (mid, (next, one, first), others)

module _ (back_on : BackGoesOn) (left_on : LeftGoesOn) (finished_on : FinishedGoesOn) (handles_apart : HandlesApart)
    (handles_stand : HandlesStand)
    (sessions : LinkedSessions) (settings : Settings) (calls : List Call) (told : List Told)
    (end : State LinkedSessions) (link n number : ℕ) (it : Call) (answer : Said) (handle : OutputHandle)
    (session : Session) (new : IsNew linked settings sessions)
    (run : Run linked (fresh settings sessions) calls told end) (opens : OpensBy it answer number link)
    (never : NeverCalledAgain link (those_behind n (calls_done calls told))) where
  abbrev DidSo : Type 0
  DidSo =
      IsDone linked settings.max_frame_size sessions (pulled_since [] calls told) (fed_since [] calls told)
      (told_since [] calls told) (done_since [] calls told) (events_told told) (calls_done calls told) end

  abbrev SaysIt : DidSo → Type 0
  SaysIt did =
      SaysSince sessions (did.before ++ did.since) number link it answer handle end.sessions session
      (messages_done link (those_behind n (calls_done calls told)))

  -- the messages are all those of the run behind the call
  module _ (did : DidSo) (a : IsAmong it answer (did.before ++ did.since) n) (old next : LinkedSessions)
      (came : AreDone linked sessions a.before old)
      (one : IsDeed linked old (Does a.limit it answer a.frames) next) where
    calls-since : those_behind n (calls_done calls told) ≡ done_by a.since
    calls-since = ap (λ (ds : List (Call × Said)). those_behind n ds) (sym did.all.calls) ∙ a.behind

    messages-since : messages_done link (those_behind n (calls_done calls told)) ≡ messages_by link a.since
    messages-since = ap (messages_done link) calls-since ∙ sym (messages-done link a.since)

    never-since : NeverResumed link a.since
    never-since = never-resumed link a.since (those_behind n (calls_done calls told)) (sym calls-since) never

    says-since : link_place end.sessions.links link ≡ Some (Held number handle)
        → live_at end.sessions.talk.sessions number ≡ Some session → (passings : List Passing)
        → PassesIn number next a.since end.sessions passings → SaysIt did
    says-since held live passings passes =
        let deed : Deed = Does a.limit it answer a.frames in
        record {
          before = a.before;
          limit = a.limit;
          frames = a.frames;
          since = a.since;
          are = a.are;
          old = old;
          came = came;
          passings = passes_in number old deed ++ passings;
          passes = (next, passings, one, passes, refl);
          by_calls = sym messages-since;
          says =
              says-all handles_apart handles_stand back_on left_on finished_on sessions old next end.sessions settings
              a.before a.since number link deed passings handle new came (opened old next number link deed one opens)
              one passes held never-since session live;
        }

  pub says-called : slice_get (calls_done calls told) n ≡ Some (it, answer)
      → link_place end.sessions.links link ≡ Some (Held number handle)
      → live_at end.sessions.talk.sessions number ≡ Some session → (did : DidSo) × SaysIt did
  says-called is held live = (did-so, by among-so)
    where
      did-so : DidSo
      did-so = is-done linked sessions settings calls told end run

      among-so : IsAmong it answer (did-so.before ++ did-so.since) n
      among-so =
          among it answer (did-so.before ++ did-so.since) n
          (ap (λ (ds : List (Call × Said)). slice_get ds n) did-so.all.calls ∙ is)

      by : IsAmong it answer (did-so.before ++ did-so.since) n → SaysIt did-so
      by a =
          let (old, came, others) =
          done-first a.before (Does a.limit it answer a.frames ∷ a.since) sessions end.sessions
          (subst (λ (ds : List Deed). AreDone linked sessions ds end.sessions) a.are did-so.are_done) in
          let (next, one, rest) = others in
          let (passings, passes) = some-passes a.since number next end.sessions rest in
          says-since did-so a old next came one held live passings passes
