-- What passes in the sessions of a connection is what one reads who knows their channels alone; so it lies in windows.
use Rattle.std.proofs.Common.{◌≡◌, ℕ, ◌+◌, Bool, true, false, List, [], ◌∷◌, ◌++◌, None}
use Rattle.std.proofs.Common.{ap, arith, length, refl, sym, subst, ◌∙◌}
use Rattle.std.specs.Prelude.{if◌then◌else◌, map}
use Rattle.std.proofs.lemmas.List.{append_assoc, map-append}
use Rattle.std.proofs.lemmas.Option.{none-some, slice_get_past}
use Rattle.amqp_session_performatives.specs.declared.session_frame.SessionFrame.{SessionFrame}
use Rattle.amqp_endpoint_model.specs.declared.call.Call.{Call}
use Rattle.amqp_endpoint_model.specs.declared.settings.Settings.{Settings}
use Rattle.amqp_endpoint_model.specs.History.{Run}
use Rattle.amqp_endpoint_model.specs.Relay.{IsNew}
use Rattle.amqp_endpoint_model.specs.Said.{Told}
use Rattle.amqp_endpoint_model.specs.State.{State, fresh, is_unconnected}
use Rattle.amqp_endpoint_laws.specs.Deeds.{AreDone, Closes, Deed, Does, Finishes, Hears, IsDeed, IsDone, IsInOrder}
use Rattle.amqp_endpoint_laws.specs.Deeds.{MayPass, Moves, NoneRenews, Queues, Refuses, Renews, Takes, Throughout}
use Rattle.amqp_endpoint_laws.specs.Deeds.{come_to, done_since, fed_since, opened_behind, pulled_since, told_since}
use Rattle.amqp_endpoint_laws.specs.Deeds.{up_behind}
use Rattle.amqp_endpoint_laws.specs.CallsDone.{calls_done, events_told}
use Rattle.amqp_endpoint_laws.proofs.Runs.{is-done}
use Rattle.amqp_endpoint.specs.Does.{linked}
use Rattle.amqp_endpoint.specs.declared.linked.LinkedSessions.{LinkedSessions}
use Rattle.amqp_endpoint_tables.specs.State.{place_at}
use Rattle.amqp_endpoint_conversation.specs.Windows.{KeepsWindow, Passing, begins_with}
use Rattle.amqp_endpoint_laws.specs.Beside.{Agrees, InTables}
use Rattle.amqp_endpoint_laws.specs.Following.{goes}
use Rattle.amqp_endpoint_laws.specs.Reading.{Reader, Speaks, Wired, behind, behind_all, is_of, nothing_read, read_on}
use Rattle.amqp_endpoint_laws.specs.Reading.{whose}
use Rattle.amqp_endpoint_laws.proofs.Beginning.{all-speak, speaks-there}
use Rattle.amqp_endpoint_laws.proofs.Following.{follows-keeps}
use Rattle.amqp_endpoint_laws.specs.Judged.{Judged}
use Rattle.amqp_endpoint_laws.specs.Passed.{PassesIn, passes_in}
use Rattle.amqp_endpoint_laws.specs.Seen.{AreOnes, OnOwnChannels, passing_in, passing_of, wired_by, wired_in}
use Rattle.amqp_endpoint_laws.proofs.JudgedAnew.{anew-read, done-first, none-went}
use Rattle.amqp_endpoint_laws.proofs.PassedKept.{some-passes}
use Rattle.amqp_endpoint_laws.proofs.PassedWindows.{window-kept-from}
use Rattle.amqp_endpoint_laws.proofs.Seen.{GoesOn, Seen, channels-kept, deed-seen}

-- what is so throughout deeds, in two parts
parts-of : {A : Type 0} (behind : A → Deed → A) (P : A → Deed → Type 0) (deeds more : List Deed) (from : A)
    → Throughout behind P from (deeds ++ more)
    → Throughout behind P from deeds × Throughout behind P (come_to behind from deeds) more
parts-of behind P [] more from t = (tt, t)
parts-of behind P (deed ∷ deeds) more from (may, t) =
    let (first, later) = parts-of behind P deeds more (behind from deed) t in
    ((may, first), later)

-- sessions stand somewhere between
done-parts : (deeds more : List Deed) (old new : LinkedSessions) → AreDone linked old (deeds ++ more) new
    → (mid : LinkedSessions) × AreDone linked old deeds mid × AreDone linked mid more new
done-parts [] more old new d = (old, refl, d)
done-parts (deed ∷ deeds) more old new (next, one, rest) =
    let (mid, first, later) = done-parts deeds more next new rest in
    (mid, (next, one, first), later)

-- what passes is read one list behind the other
passing-both : (number : ℕ) (frames more : List Wired) (r : Reader)
    → passing_in number r (frames ++ more)
    ≡ passing_in number r frames ++ passing_in number (behind_all r frames) more
passing-both number [] more r = refl
passing-both number (it ∷ frames) more r =
    let its : List Wired = if is_of (whose r it) number then it ∷ [] else [] in
    let next : Reader = behind r it in
    let later : List Passing = passing_in number (behind_all next frames) more in
    map-append passing_of its (read_on number next (frames ++ more))
    ∙ ap (λ (ps : List Passing). map passing_of its ++ ps) (passing-both number frames more next)
    ∙ sym (append_assoc (map passing_of its) (passing_in number next frames) later)
    ∙ ap (λ (ps : List Passing). ps ++ later) (sym (map-append passing_of its (read_on number next frames)))

-- a deed by which a connection goes on, or one by which it is over, where nothing of sessions passes
data Onward (deed : Deed) : Type 0 where
  goes-on : GoesOn deed → up_behind true deed ≡ true → Onward deed
  is-over : ((n : ℕ) (s : LinkedSessions) → passes_in n s deed ≡ []) → wired_in deed ≡ []
      → up_behind true deed ≡ false → Onward deed
  begins-anew : deed ≡ Renews → Onward deed

onward : (deed : Deed) → Onward deed
onward (Queues it) = goes-on tt refl
onward (Hears frame events) = goes-on tt refl
onward (Takes limit frame frames events) = goes-on tt refl
onward (Refuses limit frame error own_close) = is-over (λ n s. refl) refl refl
onward (Does limit call answer frames) = goes-on tt refl
onward (Moves connection) = goes-on tt refl
onward Renews = begins-anew refl
onward Closes = goes-on tt refl
onward Finishes = is-over (λ n s. refl) refl refl

tail-none : (deed : Deed) (deeds : List Deed) → NoneRenews (deed ∷ deeds) → NoneRenews deeds
tail-none (Queues it) deeds none = none
tail-none (Hears frame events) deeds none = none
tail-none (Takes limit frame frames events) deeds none = none
tail-none (Refuses limit frame error own_close) deeds none = none
tail-none (Does limit call answer frames) deeds none = none
tail-none (Moves connection) deeds none = none
tail-none Renews deeds none = absurd none
tail-none Closes deeds none = none
tail-none Finishes deeds none = none

-- behind its end nothing of sessions passes
record Silent (deed : Deed) : Type 0 where
  passes : (n : ℕ) (s : LinkedSessions) → passes_in n s deed ≡ []
  wired : wired_in deed ≡ []
  stays : up_behind false deed ≡ false

silent : (deed : Deed) (deeds : List Deed) → MayPass false deed → NoneRenews (deed ∷ deeds) → Silent deed
silent (Queues it) deeds may none = record { passes = λ n s. refl; wired = refl; stays = refl }
silent (Hears frame events) deeds may none = absurd cc
silent (Takes limit frame frames events) deeds may none = absurd cc
silent (Refuses limit frame error own_close) deeds may none = absurd cc
silent (Does limit call answer frames) deeds may none =
    let nothing : frames ≡ [] = may refl in
    record {
      passes = λ n s. none-went _ frames nothing;
      wired = ap (λ (fs : List SessionFrame). goes fs) nothing;
      stays = refl;
    }
silent (Moves connection) deeds may none = record { passes = λ n s. refl; wired = refl; stays = refl }
silent Renews deeds may none = absurd none
silent Closes deeds may none = record { passes = λ n s. refl; wired = refl; stays = refl }
silent Finishes deeds may none = record { passes = λ n s. refl; wired = refl; stays = refl }

none-behind : (deeds : List Deed) (n : ℕ) (old new : LinkedSessions) (passings : List Passing)
    → Throughout up_behind MayPass false deeds → NoneRenews deeds → PassesIn n old deeds new passings
    → (passings ≡ []) × (wired_by deeds ≡ [])
none-behind [] n old new passings t none (same, is) = (is, refl)
none-behind (deed ∷ deeds) n old new passings (may, t) none (mid, later, one, rest, is) =
    let s : Silent deed = silent deed deeds may none in
    let (ps_none, ws_none) =
    none-behind deeds n mid new later (subst (λ (up : Bool). Throughout up_behind MayPass up deeds) s.stays t)
    (tail-none deed deeds none) rest in (
      is ∙ ap (λ (ps : List Passing). ps ++ later) (s.passes n old) ∙ ps_none,
      ap (λ (ws : List Wired). ws ++ wired_by deeds) s.wired ∙ ws_none,
    )

channels-stay : (deeds : List Deed) (old new : LinkedSessions) → AreDone linked old deeds new → OnOwnChannels old
    → OnOwnChannels new
channels-stay [] old new same own = subst OnOwnChannels (sym same) own
channels-stay (deed ∷ deeds) old new (mid, one, rest) own =
    channels-stay deeds mid new rest (channels-kept old mid deed own one)

-- as long as a connection is up, what passes by each deed is read; and behind its end nothing passes
read-along : (base number : ℕ) (deeds : List Deed) (r : Reader) (old new : LinkedSessions) (passings : List Passing)
    → OnOwnChannels old → InTables old.talk.sessions → Agrees base r old.talk.sessions → Speaks r
    → Throughout up_behind MayPass true deeds → NoneRenews deeds → PassesIn (base + number) old deeds new passings
    → passings ≡ passing_in number r (wired_by deeds)
read-along base number [] r old new passings own tables agrees speaks t none (same, is) = is
read-along base number (deed ∷ deeds) r old new passings own tables agrees speaks (may, t) none
    (mid, later, one, rest, is) =
    let others : NoneRenews deeds = tail-none deed deeds none in
    elim (onward deed) [
      | goes-on on up ↦
          let s : Seen old deed mid = deed-seen old mid deed on own tables one in
          let (stands, agree) =
          follows-keeps base r old.talk.sessions mid.talk.sessions (wired_in deed) s.follows tables agrees in
          is ∙ ap (λ (ps : List Passing). ps ++ later) (sym (s.reads base number r agrees speaks))
          ∙ ap (λ (ps : List Passing). passing_in number r (wired_in deed) ++ ps)
          (read-along base number deeds (behind_all r (wired_in deed)) mid new later
          (channels-kept old mid deed own one) stands agree (all-speak (wired_in deed) r speaks)
          (subst (λ (b : Bool). Throughout up_behind MayPass b deeds) up t) others rest)
          ∙ sym (passing-both number (wired_in deed) (wired_by deeds) r)
      | is-over passes wired down ↦
          let (ps_none, ws_none) =
          none-behind deeds (base + number) mid new later
          (subst (λ (b : Bool). Throughout up_behind MayPass b deeds) down t) others rest in
          is ∙ ap (λ (ps : List Passing). ps ++ later) (passes (base + number) old) ∙ ps_none
          ∙ sym
          (ap (λ (ws : List Wired). passing_in number r (ws ++ wired_by deeds)) wired
          ∙ ap (λ (ws : List Wired). passing_in number r ws) ws_none)
      | begins-anew renews ↦ absurd (subst (λ (d : Deed). NoneRenews (d ∷ deeds)) renews none)
    ]

-- each frame that goes is a session's
ones-both : (r : Reader) (frames more : List Wired) → AreOnes r frames → AreOnes (behind_all r frames) more
    → AreOnes r (frames ++ more)
ones-both r [] more are later = later
ones-both r (it ∷ frames) more (one, are) later = (one, ones-both (behind r it) frames more are later)

ones-along : (base : ℕ) (deeds : List Deed) (r : Reader) (old new : LinkedSessions) → OnOwnChannels old
    → InTables old.talk.sessions → Agrees base r old.talk.sessions → Speaks r
    → Throughout up_behind MayPass true deeds → NoneRenews deeds → AreDone linked old deeds new
    → AreOnes r (wired_by deeds)
ones-along base [] r old new own tables agrees speaks t none done = tt
ones-along base (deed ∷ deeds) r old new own tables agrees speaks (may, t) none (mid, one, rest) =
    let others : NoneRenews deeds = tail-none deed deeds none in
    elim (onward deed) [
      | goes-on on up ↦
          let s : Seen old deed mid = deed-seen old mid deed on own tables one in
          let (stands, agree) =
          follows-keeps base r old.talk.sessions mid.talk.sessions (wired_in deed) s.follows tables agrees in
          ones-both r (wired_in deed) (wired_by deeds) (s.ones base r agrees speaks)
          (ones-along base deeds (behind_all r (wired_in deed)) mid new (channels-kept old mid deed own one) stands
          agree (all-speak (wired_in deed) r speaks)
          (subst (λ (b : Bool). Throughout up_behind MayPass b deeds) up t) others rest)
      | is-over passes wired down ↦
          let (passings, p) = some-passes deeds 0 mid new rest in
          let (ps_none, ws_none) =
          none-behind deeds 0 mid new passings
          (subst (λ (b : Bool). Throughout up_behind MayPass b deeds) down t) others p in
          subst (AreOnes r) (sym (ap (λ (ws : List Wired). ws ++ wired_by deeds) wired ∙ ws_none)) tt
      | begins-anew renews ↦ absurd (subst (λ (d : Deed). NoneRenews (d ∷ deeds)) renews none)
    ]

module _ (sessions start : LinkedSessions) (settings : Settings) (before later : List Deed)
    (new : IsNew linked settings sessions) (done : AreDone linked sessions before start)
    (t : Throughout up_behind MayPass false (before ++ Renews ∷ later)) (none : NoneRenews later) where
  -- where the connection begins anew nothing is read yet
  record Anew (mid : LinkedSessions) : Type 0 where
    own : OnOwnChannels mid
    tables : InTables mid.talk.sessions
    agrees : Agrees (length start.talk.sessions.places) nothing_read mid.talk.sessions
    since : Throughout up_behind MayPass true later

  anew-at : (mid : LinkedSessions) → IsDeed linked start Renews mid → Anew mid
  anew-at mid renewed =
      let (up_to, (down, since)) = parts-of up_behind MayPass before (Renews ∷ later) false t in
      let (tables, agrees) = anew-read sessions start settings before new done up_to down in
      let own_first : OnOwnChannels sessions =
      λ n channel session e.
      absurd
      (none-some _ (sym (ap (λ (s : LinkedSessions). place_at s.talk.sessions n) new.is) ∙ e)) in
      record {
        own = channels-kept start mid Renews (channels-stay before sessions start done own_first) renewed;
        tables = subst (λ (s : LinkedSessions). InTables s.talk.sessions) (sym renewed) tables;
        agrees =
            subst
            (λ (s : LinkedSessions). Agrees (length start.talk.sessions.places) nothing_read s.talk.sessions)
            (sym renewed) agrees;
        since = since;
      }

  pub passes-read : (end : LinkedSessions) (number : ℕ) (passings : List Passing)
      → PassesIn (length start.talk.sessions.places + number) start (Renews ∷ later) end passings
      → passings ≡ passing_in number nothing_read (wired_by later)
  passes-read end number passings (mid, others, renewed, rest, is) =
      let a : Anew mid = anew-at mid renewed in
      is
      ∙ read-along (length start.talk.sessions.places) number later nothing_read mid end others a.own a.tables
      a.agrees (speaks-there []) a.since none rest

  pub ones-read : (end : LinkedSessions) → AreDone linked start (Renews ∷ later) end
      → AreOnes nothing_read (wired_by later)
  ones-read end (mid, renewed, rest) =
      let a : Anew mid = anew-at mid renewed in
      ones-along (length start.talk.sessions.places) later nothing_read mid end a.own a.tables a.agrees
      (speaks-there []) a.since none rest

  pub windows-read : (end : LinkedSessions) (number : ℕ) → AreDone linked start (Renews ∷ later) end
      → KeepsWindow (begins_with settings.first_transfer_number) (passing_in number nothing_read (wired_by later))
  windows-read end number d =
      let so_many : ℕ = length start.talk.sessions.places in
      let (passings, p) = some-passes (Renews ∷ later) (so_many + number) start end d in
      let first : start.talk.first_transfer_number ≡ settings.first_transfer_number =
      done-first before sessions start done ∙ ap (λ (s : LinkedSessions). s.talk.first_transfer_number) new.is in
      subst
      (λ (ps : List Passing). KeepsWindow (begins_with settings.first_transfer_number) ps)
      (passes-read end number passings p)
      (subst (λ (f : ℕ). KeepsWindow (begins_with f) passings) first
      (window-kept-from start end (Renews ∷ later) (so_many + number) passings
      (slice_get_past start.talk.sessions.places (length start.talk.sessions.places + number) (omega (arith))) p))

pub run-judged : (sessions : LinkedSessions) (settings : Settings) (calls : List Call) (told : List Told)
    (end : State LinkedSessions) → IsNew linked settings sessions
    → Run linked (fresh settings sessions) calls told end → is_unconnected end.phase ≡ false
    → (did : IsDone linked settings.max_frame_size sessions (pulled_since [] calls told) (fed_since [] calls told)
    (told_since [] calls told) (done_since [] calls told) (events_told told) (calls_done calls told) end)
    × Judged settings.first_transfer_number did.since
run-judged sessions settings calls told end new run up =
    let i = is-done linked sessions settings calls told end run in
    let one = i.of_one up in
    let (start, done, since) =
    done-parts i.before (Renews ∷ one.later) sessions end.sessions
    (subst (λ (ds : List Deed). AreDone linked sessions (i.before ++ ds) end.sessions) one.is i.are_done) in
    let t : Throughout up_behind MayPass false (i.before ++ Renews ∷ one.later) =
    subst (λ (ds : List Deed). Throughout up_behind MayPass false (i.before ++ ds)) one.is i.up_in_order in
    let (order, (any, later)) =
    parts-of opened_behind IsInOrder i.before (Renews ∷ one.later) None
    (subst (λ (ds : List Deed). Throughout opened_behind IsInOrder None (i.before ++ ds)) one.is i.in_order) in (
      i,
      record {
        keep = λ number.
            subst
            (λ (ds : List Deed).
            KeepsWindow (begins_with settings.first_transfer_number) (passing_in number nothing_read (wired_by ds)))
            (sym one.is)
            (windows-read sessions start settings i.before one.later new done t one.none end.sessions number since);
        each =
            subst (λ (ds : List Deed). AreOnes nothing_read (wired_by ds)) (sym one.is)
            (ones-read sessions start settings i.before one.later new done t one.none end.sessions since);
        fit = subst (λ (ds : List Deed). Throughout opened_behind IsInOrder None ds) (sym one.is) (tt, later);
      },
    )
