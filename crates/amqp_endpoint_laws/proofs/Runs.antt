-- Each run of an endpoint is what is done in it, and what passes by that.
use Rattle.std.proofs.Common.{◌≡◌, ℕ, Bool, true, false, ◌||◌, List, [], ◌∷◌, ◌++◌, Option, Some, None, inl, inr}
use Rattle.std.proofs.Common.{ap, drop, refl, sym, subst, take, ◌∙◌, take-append-drop}
use Rattle.std.specs.Prelude.{◌⊎◌, All, flat_map, if◌then◌else◌, map}
use Rattle.std.proofs.lemmas.List.{append-nil, append_assoc}
use Rattle.std.specs.Str.{is_utf8, chars}
use Rattle.std.specs.Char.{encode_utf8}
use Rattle.std.proofs.lemmas.List.Elements.{All-nil}
use Rattle.amqp_session_frames.specs.Table.{after_send_close}
use Rattle.amqp_session_frames.specs.declared.state.ConnectionState.TheVariants.{HeaderExchange, OpenSent}
use Rattle.amqp_session_frames.proofs.CuttingLaws.{reads-append}
use Rattle.amqp_session_frames.specs.Cutting.{ReadsAs}
use Rattle.amqp_session_frames.specs.declared.error.Error.{Error as FrameError}
use Rattle.amqp_session_frames.specs.declared.error.Error.TheVariants.{DecodeError}
use Rattle.amqp_session_frames.specs.declared.frame.Frame.{Frame}
use Rattle.amqp_session_frames.specs.declared.frame.FrameBody.{FrameBody}
use Rattle.amqp_session_frames.specs.declared.frame.FrameBody.TheVariants.{Empty, Open, Close}
use Rattle.amqp_session_performatives.specs.declared.session_frame.SessionFrame.{SessionFrame}
use Rattle.amqp_session_types.specs.declared.error.Error.{Error}
use Rattle.amqp_session_types.specs.declared.refusals.ConnectionError.{ConnectionError}
use Rattle.amqp_session_types.specs.declared.refusals.ConnectionError.TheVariants.{IllegalState as OutOfOrder, NotFound}
use Rattle.amqp_endpoint_model.specs.declared.call.Call.{Call}
use Rattle.amqp_endpoint_model.specs.declared.call.Call.TheVariants.{Connect, Feed, Pull, Queued, IsIdle, Heartbeat}
use Rattle.amqp_endpoint_model.specs.declared.call.Call.TheVariants.{BreakOff, Close as CloseCall, IsClosed, TryClose}
use Rattle.amqp_endpoint_model.specs.declared.call.Call.TheVariants.{Begin, AcceptBegin, End, IsEnded, TryEnd}
use Rattle.amqp_endpoint_model.specs.declared.call.Call.TheVariants.{AttachSender, AttachReceiver, Detach, CloseLink}
use Rattle.amqp_endpoint_model.specs.declared.call.Call.TheVariants.{Grant, Drain, Credit, HeldBack}
use Rattle.amqp_endpoint_model.specs.declared.call.Call.TheVariants.{Waiting as WaitingCall}
use Rattle.amqp_endpoint_model.specs.declared.call.Call.TheVariants.{Resume, Send, Dispose, DisposeAll}
use Rattle.amqp_endpoint_model.specs.declared.error.EndpointError.{EndpointError}
use Rattle.amqp_endpoint_model.specs.declared.error.EndpointError.TheVariants.{AlreadyConnected, Connection, Memory}
use Rattle.amqp_endpoint_model.specs.declared.error.EndpointError.TheVariants.{IllegalState, NotConnected}
use Rattle.amqp_endpoint_model.specs.declared.error.EndpointError.TheVariants.{NumbersUsedUp, PeerLimitUnder512}
use Rattle.amqp_endpoint_model.specs.declared.error.EndpointError.TheVariants.{Frame as FrameFault, SizeOverLimit}
use Rattle.amqp_endpoint_model.specs.declared.error.EndpointError.TheVariants.{SizeUnder8}
use Rattle.amqp_endpoint_model.specs.declared.error.EndpointError.TheVariants.{Session}
use Rattle.amqp_endpoint_model.specs.declared.event.Event.{Event}
use Rattle.amqp_endpoint_model.specs.declared.phase.Phase.{Phase}
use Rattle.amqp_endpoint_model.specs.declared.phase.Phase.TheVariants.{Unconnected, Greeting, Running, Over}
use Rattle.amqp_endpoint_model.specs.declared.settings.Settings.{Settings}
use Rattle.amqp_endpoint_model.specs.Relay.{IsOfSession, IsSessionFault, Relations}
use Rattle.amqp_endpoint_model.specs.Said.{Said, done, refused, fed, pulled, count, truth, tried_close, session_begun}
use Rattle.amqp_endpoint_model.specs.Said.{tried_end, attaching, link_closed, credit_is, waiting, message_sent, Told}
use Rattle.amqp_endpoint_model.specs.State.{State, Waiting, fits, frame_of, has_opened, is_running, is_unconnected}
use Rattle.amqp_endpoint_model.specs.State.{limit_of, own_close_with, own_open}
use Rattle.amqp_endpoint_model.specs.State.{error_of, fresh, heartbeat, protocol_header, text_of, the_frame, the_header}
use Rattle.amqp_endpoint_model.specs.State.{waiting_of}
use Rattle.amqp_endpoint_model.specs.Step.{Admits, AfterFault, Breaks, BreaksGreeting, ClosesBoth, ClosesBy, ClosesOwn}
use Rattle.amqp_endpoint_model.specs.Step.{Ends, EndsRunning, FeedsIn, FrontBarred, FrontRefused, Greets, MovesBy}
use Rattle.amqp_endpoint_model.specs.Step.{ReadsOn, RefusesBody, SendsClose, SessionsAnswer, SessionsDo, Step}
use Rattle.amqp_endpoint_model.specs.Step.{TakesAll, TakesBody, anew, at_state, condition_of, condition_of_connection}
use Rattle.amqp_endpoint_model.specs.Step.{condition_of_frame, connected, opened}
use Rattle.amqp_endpoint_model.specs.Step.{with_close}
use Rattle.amqp_endpoint_model.specs.History.{BodyTells, Run, is_close}
use Rattle.amqp_endpoint_model.proofs.Keeping.{step-settings}
use Rattle.amqp_endpoint_laws.specs.Deeds.{AreDone, AreRead, Closes, Deed, Does, Finishes, Hears, IsDeed, IsDone}
use Rattle.amqp_endpoint_laws.specs.Deeds.{IsInOrder, IsOwnFrame, KeepToFrames, MayClose, MayOpen, MayPass, Moves}
use Rattle.amqp_endpoint_laws.specs.Deeds.{MovesByFrame, NoneRenews}
use Rattle.amqp_endpoint_laws.specs.Deeds.{Tell, Throughout, closed_behind, come_to, is_up, opened_behind}
use Rattle.amqp_endpoint_laws.specs.Deeds.{opened_with, up_behind}
use Rattle.amqp_endpoint_laws.specs.Deeds.{Queues, Refuses, Renews, Takes, done_by, done_in, done_since, fed_by}
use Rattle.amqp_endpoint_laws.specs.Deeds.{fed_since, given_by, note, pulled_since, queued_by, queued_in, taken_by}
use Rattle.amqp_endpoint_laws.specs.Deeds.{taken_in, told_by, told_in, told_since}
use Rattle.amqp_endpoint_laws.specs.CallsDone.{call_done, calls_done, events_of, events_told}

-- what is read off deeds, one list behind the other
flat-append : {X A : Type 0} (f : X → List A) (these more : List X)
    → flat_map f (these ++ more) ≡ flat_map f these ++ flat_map f more
flat-append f [] more = refl
flat-append f (x ∷ these) more =
    ap (λ (ys : List _). f x ++ ys) (flat-append f these more)
    ∙ sym (append_assoc (f x) (flat_map f these) (flat_map f more))

-- where the first say none of it
flat-behind : {X A : Type 0} (f : X → List A) (these more : List X) → flat_map f these ≡ []
    → flat_map f (these ++ more) ≡ flat_map f more
flat-behind f these more none = flat-append f these more ∙ ap (λ (ys : List _). ys ++ flat_map f more) none

tell-both : (deeds more : List Deed) (events others : List Event) (did later : List (Call × Said))
    → Tell deeds events did → Tell more others later → Tell (deeds ++ more) (events ++ others) (did ++ later)
tell-both deeds more events others did later t u =
    record {
      told =
          flat-append told_in deeds more ∙ ap (λ (es : List Event). es ++ told_by more) t.told
          ∙ ap (λ (es : List Event). events ++ es) u.told;
      calls =
          flat-append done_in deeds more ∙ ap (λ (cs : List (Call × Said)). cs ++ done_by more) t.calls
          ∙ ap (λ (cs : List (Call × Said)). did ++ cs) u.calls;
    }

tell-nothing : Tell [] [] []
tell-nothing = record { told = refl; calls = refl }

texts-append : (these more : List Waiting) → map text_of (these ++ more) ≡ map text_of these ++ map text_of more
texts-append [] more = refl
texts-append (it ∷ these) more = ap (λ (ts : List (List ℕ)). text_of it ∷ ts) (texts-append these more)

-- what is so throughout deeds, one list behind the other
throughout-append : {A : Type 0} (behind : A → Deed → A) (P : A → Deed → Type 0) (deeds more : List Deed) (from : A)
    → Throughout behind P from deeds → Throughout behind P (come_to behind from deeds) more
    → Throughout behind P from (deeds ++ more)
throughout-append behind P [] more from t u = u
throughout-append behind P (deed ∷ deeds) more from (first, others) u =
    (first, throughout-append behind P deeds more (behind from deed) others u)

come-append : {A : Type 0} (behind : A → Deed → A) (deeds more : List Deed) (from : A)
    → come_to behind from (deeds ++ more) ≡ come_to behind (come_to behind from deeds) more
come-append behind [] more from = refl
come-append behind (deed ∷ deeds) more from = come-append behind deeds more (behind from deed)

-- it is so, and deeds come to this
record Along {A : Type 0} (behind : A → Deed → A) (P : A → Deed → Type 0) (from : A) (deeds : List Deed) (to : A)
    : Type 0 where
  holds : Throughout behind P from deeds
  comes : come_to behind from deeds ≡ to

along-both : {A : Type 0} (behind : A → Deed → A) (P : A → Deed → Type 0) (from mid to : A) (deeds more : List Deed)
    → Along behind P from deeds mid → Along behind P mid more to → Along behind P from (deeds ++ more) to
along-both behind P from mid to deeds more a b =
    record {
      holds =
          throughout-append behind P deeds more from a.holds
          (subst (λ (m : _). Throughout behind P m more) (sym a.comes) b.holds);
      comes = come-append behind deeds more from ∙ ap (λ (m : _). come_to behind m more) a.comes ∙ b.comes;
    }

-- the own Close goes once in deeds, where it had gone before or hadn't, and it has gone behind them or hasn't
abbrev Closing : Bool → List Deed → Bool → Type 0
Closing before deeds behind = Along closed_behind MayClose before deeds behind

closing-both : (before mid behind : Bool) (deeds more : List Deed) → Closing before deeds mid → Closing mid more behind
    → Closing before (deeds ++ more) behind
closing-both before mid behind deeds more a b = along-both closed_behind MayClose before mid behind deeds more a b

closing-none : (own : Bool) → Closing own [] own
closing-none own = record { holds = tt; comes = refl }

-- deeds are in order behind an Open that allows this, and behind them that is this
abbrev Writing : Option ℕ → List Deed → Option ℕ → Type 0
Writing before deeds behind = Along opened_behind IsInOrder before deeds behind

writing-both : (before mid behind : Option ℕ) (deeds more : List Deed) → Writing before deeds mid
    → Writing mid more behind → Writing before (deeds ++ more) behind
writing-both before mid behind deeds more a b = along-both opened_behind IsInOrder before mid behind deeds more a b

writing-none : (peer : Option ℕ) → Writing peer [] peer
writing-none peer = record { holds = tt; comes = refl }

none-append : (deeds more : List Deed) → NoneRenews deeds → NoneRenews more → NoneRenews (deeds ++ more)
none-append [] more n m = m
none-append (Queues it ∷ deeds) more n m = none-append deeds more n m
none-append (Hears frame events ∷ deeds) more n m = none-append deeds more n m
none-append (Takes limit frame frames events ∷ deeds) more n m = none-append deeds more n m
none-append (Refuses limit frame error own_close ∷ deeds) more n m = none-append deeds more n m
none-append (Does limit call answer frames ∷ deeds) more n m = none-append deeds more n m
none-append (Moves connection ∷ deeds) more n m = none-append deeds more n m
none-append (Renews ∷ deeds) more n m = absurd n
none-append (Closes ∷ deeds) more n m = none-append deeds more n m
none-append (Finishes ∷ deeds) more n m = none-append deeds more n m

go-append : (settings : Settings) (deeds more : List Deed) → KeepToFrames settings deeds → KeepToFrames settings more
    → KeepToFrames settings (deeds ++ more)
go-append settings [] more g h = h
go-append settings (Queues the_header ∷ deeds) more g h = absurd g
go-append settings (Queues (the_frame frame) ∷ deeds) more (own, g) h = (own, go-append settings deeds more g h)
go-append settings (Hears frame events ∷ deeds) more g h = go-append settings deeds more g h
go-append settings (Takes limit frame frames events ∷ deeds) more g h = go-append settings deeds more g h
go-append settings (Refuses limit frame error own_close ∷ deeds) more g h = go-append settings deeds more g h
go-append settings (Does limit call answer frames ∷ deeds) more g h = go-append settings deeds more g h
go-append settings (Moves connection ∷ deeds) more g h = go-append settings deeds more g h
go-append settings (Renews ∷ deeds) more g h = absurd g
go-append settings (Closes ∷ deeds) more g h = go-append settings deeds more g h
go-append settings (Finishes ∷ deeds) more g h = go-append settings deeds more g h

go-none : (settings : Settings) (deeds : List Deed) → KeepToFrames settings deeds → NoneRenews deeds
go-none settings [] g = tt
go-none settings (Queues the_header ∷ deeds) g = absurd g
go-none settings (Queues (the_frame frame) ∷ deeds) (own, g) = go-none settings deeds g
go-none settings (Hears frame events ∷ deeds) g = go-none settings deeds g
go-none settings (Takes limit frame frames events ∷ deeds) g = go-none settings deeds g
go-none settings (Refuses limit frame error own_close ∷ deeds) g = go-none settings deeds g
go-none settings (Does limit call answer frames ∷ deeds) g = go-none settings deeds g
go-none settings (Moves connection ∷ deeds) g = go-none settings deeds g
go-none settings (Renews ∷ deeds) g = absurd g
go-none settings (Closes ∷ deeds) g = go-none settings deeds g
go-none settings (Finishes ∷ deeds) g = go-none settings deeds g

-- the own Close of a fault fits every peer's limit
abbrev Tells : Option (List ℕ) → Type 0
Tells None = Unit {0}
Tells (Some condition) = fits 512 (own_close_with (Some (error_of condition))) ≡ true

frame-tells : (e : FrameError) → Tells (Some (condition_of_frame e))
unfolding is_utf8 chars encode_utf8
frame-tells DecodeError = refl
frame-tells e = refl

connection-tells : (e : ConnectionError) → Tells (Some (condition_of_connection e))
unfolding is_utf8 chars encode_utf8
connection-tells NotFound = refl
connection-tells e = refl

fault-tells : (e : EndpointError) → Tells (condition_of e)
unfolding is_utf8 chars encode_utf8
fault-tells SizeUnder8 = refl
fault-tells SizeOverLimit = refl
fault-tells PeerLimitUnder512 = refl
fault-tells (FrameFault e) = frame-tells e
fault-tells (Connection e) = connection-tells e
fault-tells (Session e) = refl
fault-tells e = tt

plain-close : fits 512 (own_close_with None) ≡ true
unfolding is_utf8 chars encode_utf8
plain-close = refl

-- a connection stays as it is, or is over
abbrev still : Bool → Bool
still up = up

abbrev ended : Bool → Bool
ended up = false

not-up : (phase : Phase) → (if is_unconnected phase then None else Some AlreadyConnected) ≡ None
    → is_up phase ≡ false
not-up Unconnected none = refl
not-up Greeting none = absurd cc
not-up Running none = absurd cc
not-up Over none = absurd cc

not-running : (phase : Phase) → is_up phase ≡ false → is_running phase ≡ false
not-running Unconnected down = refl
not-running Greeting down = absurd cc
not-running Running down = absurd cc
not-running Over down = refl

not-so : {A : Type 0} → false ≡ true → A
not-so clash = absurd cc

-- close is refused where it has gone
may-close : (opened own : Bool)
    → (if opened then (if own then Some IllegalState else None) else Some NotConnected) ≡ None → own ≡ false
may-close true true clash = absurd cc
may-close true false e = refl
may-close false own clash = absurd cc

-- the own Close is queued, where it wasn't
abbrev close-deeds : Bool → Frame → List Deed
close-deeds true close = []
close-deeds false close = Queues (the_frame close) ∷ []

close-takes-none : (own : Bool) (close : Frame) → taken_by (close-deeds own close) ≡ []
close-takes-none true close = refl
close-takes-none false close = refl

close-tells : (own : Bool) (close : Frame) → Tell (close-deeds own close) [] []
close-tells true close = tell-nothing
close-tells false close = record { told = refl; calls = refl }

close-closes : (own : Bool) (close : Frame) → is_close close.body ≡ true → Closing own (close-deeds own close) true
close-closes true close is = record { holds = tt; comes = refl }
close-closes false close is = record { holds = (λ e. refl, tt); comes = ap (λ (c : Bool). c || false) is }

close-writes : (own : Bool) (error : Option Error) (peer : Option ℕ)
    → Writing peer (close-deeds own (own_close_with error)) peer
close-writes true error peer = writing-none peer
close-writes false error peer = record { holds = (λ theirs. theirs, tt); comes = refl }

close-queues : {S : Type 0} (s : State S) (own : Bool) (close : Frame) → s.own_close ≡ own
    → with_close s close ≡ s.queue ++ queued_by (close-deeds own close)
close-queues s true close is =
    ap (λ (own : Bool). with_close (record s { own_close = own }) close) is ∙ sym (append-nil s.queue)
close-queues s false close is = ap (λ (own : Bool). with_close (record s { own_close = own }) close) is

-- what was read goes on so, as these bytes come behind what was left
abbrev ReadNow : Phase → ℕ → List ℕ → List Frame → List ℕ → Type 0
ReadNow Running limit all frames rest = ReadsAs (Admits limit) all frames rest
ReadNow Over limit all frames rest = (left : List ℕ) × ReadsAs (Admits limit) all frames left
ReadNow phase limit all frames rest = ⊥

first-read : (phase : Phase) (limit : ℕ) (bytes body : List ℕ) (frames : List Frame) (rest : List ℕ)
    → bytes ≡ protocol_header ++ body → ReadNow phase limit body frames rest → AreRead phase limit bytes frames rest
first-read Unconnected limit bytes body frames rest header r = tt
first-read Greeting limit bytes body frames rest header r = absurd r
first-read Running limit bytes body frames rest header r = (body, header, r)
first-read Over limit bytes body frames rest header (left, r) = (body, left, header, r)

read-behind : (phase : Phase) (limit : ℕ) (body bytes : List ℕ) (frames more : List Frame) (rest rest_new : List ℕ)
    → ReadsAs (Admits limit) body frames rest → ReadNow phase limit (rest ++ bytes) more rest_new
    → ReadNow phase limit (body ++ bytes) (frames ++ more) rest_new
read-behind Unconnected limit body bytes frames more rest rest_new read r = absurd r
read-behind Greeting limit body bytes frames more rest rest_new read r = absurd r
read-behind Running limit body bytes frames more rest rest_new read r =
    reads-append (Admits limit) body frames more rest rest_new bytes read r
read-behind Over limit body bytes frames more rest rest_new read (left, r) =
    (left, reads-append (Admits limit) body frames more rest left bytes read r)

more-read : (phase : Phase) (limit : ℕ) (bytes more_bytes : List ℕ) (frames more : List Frame) (rest rest_new : List ℕ)
    → AreRead Running limit bytes frames rest → ReadNow phase limit (rest ++ more_bytes) more rest_new
    → AreRead phase limit (bytes ++ more_bytes) (frames ++ more) rest_new
more-read phase limit bytes more_bytes frames more rest rest_new (body, header, read) r =
    first-read phase limit (bytes ++ more_bytes) (body ++ more_bytes) (frames ++ more) rest_new
    (ap (λ (b : List ℕ). b ++ more_bytes) header ∙ append_assoc protocol_header body more_bytes)
    (read-behind phase limit body more_bytes frames more rest rest_new read r)

-- behind the end nothing more is read
over-read : (limit : ℕ) (bytes more_bytes : List ℕ) (frames : List Frame) (rest : List ℕ)
    → AreRead Over limit bytes frames rest → AreRead Over limit (bytes ++ more_bytes) (frames ++ []) rest
over-read limit bytes more_bytes frames rest (body, left, header, read) = (
  body ++ more_bytes,
  left ++ more_bytes,
  ap (λ (b : List ℕ). b ++ more_bytes) header ∙ append_assoc protocol_header body more_bytes,
  reads-append (Admits limit) body frames [] left (left ++ more_bytes) more_bytes read refl,
)

-- nothing was fed, and nothing taken
same-read : (phase : Phase) (limit : ℕ) (bytes : List ℕ) (frames more : List Frame) (rest : List ℕ) → more ≡ []
    → AreRead phase limit bytes frames rest → AreRead phase limit (bytes ++ []) (frames ++ more) rest
same-read phase limit bytes frames more rest none r =
    subst (λ (b : List ℕ). AreRead phase limit b (frames ++ more) rest) (sym (append-nil bytes))
    (subst (λ (fs : List Frame). AreRead phase limit bytes fs rest)
    (sym (ap (λ (fs : List Frame). frames ++ fs) none ∙ append-nil frames)) r)

module _ {S : Type 0} (does : Relations S) (settings : Settings) where
  -- deeds of a connection that was up or wasn't, by which it doesn't begin anew, and behind them it is up or isn't
  record Going (before : Bool) (deeds : List Deed) (behind : Bool) : Type 0 where
    along : Along up_behind MayPass before deeds behind
    go_on : KeepToFrames settings deeds

  going-both : (before mid behind : Bool) (deeds more : List Deed) → Going before deeds mid → Going mid more behind
      → Going before (deeds ++ more) behind
  going-both before mid behind deeds more a b =
      record {
        along = along-both up_behind MayPass before mid behind deeds more a.along b.along;
        go_on = go-append settings deeds more a.go_on b.go_on;
      }

  going-none : (up : Bool) → Going up [] up
  going-none up = record { along = record { holds = tt; comes = refl }; go_on = tt }

  -- by one deed
  going-by : (deed : Deed) (before behind : Bool) → MayPass before deed → up_behind before deed ≡ behind
      → KeepToFrames settings (deed ∷ []) → Going before (deed ∷ []) behind
  going-by deed before behind may is go =
      record { along = record { holds = (may, tt); comes = is }; go_on = go }

  close-goes : (own : Bool) (close : Frame) (up : Bool) → IsOwnFrame settings close
      → Going up (close-deeds own close) up
  close-goes true close up is = going-none up
  close-goes false close up is = going-by (Queues (the_frame close)) up up tt refl (is, tt)

  done-append : (old mid new : S) (deeds more : List Deed) → AreDone does old deeds mid → AreDone does mid more new
      → AreDone does old (deeds ++ more) new
  done-append old mid new [] more same d = subst (λ (s : S). AreDone does s more new) same d
  done-append old mid new (deed ∷ deeds) more (next, one, others) d =
      (next, one, done-append next mid new deeds more others d)

  -- sessions go on without anything that passes, is told or called, and their connection is up behind that or isn't
  record Went (over : Bool → Bool) (old new : S) : Type 0 where
    deeds : List Deed
    are_done : AreDone does old deeds new
    silent : queued_by deeds ≡ []
    untaken : taken_by deeds ≡ []
    tell : Tell deeds [] []
    closing : (own : Bool) → Closing own deeds own
    writing : (peer : Option ℕ) → Writing peer deeds peer
    going : (up : Bool) → Going up deeds (over up)

  stood : (old new : S) → new ≡ old → Went still old new
  stood old new same =
      record {
        deeds = [];
        are_done = same;
        silent = refl;
        untaken = refl;
        tell = tell-nothing;
        closing = closing-none;
        writing = writing-none;
        going = going-none;
      }

  went-on : (over end : Bool → Bool) (old mid new : S) → Went over old mid → Went end mid new
      → Went (λ up. end (over up)) old new
  went-on over end old mid new w v =
      record {
        deeds = w.deeds ++ v.deeds;
        are_done = done-append old mid new w.deeds v.deeds w.are_done v.are_done;
        silent = flat-behind queued_in w.deeds v.deeds w.silent ∙ v.silent;
        untaken = flat-behind taken_in w.deeds v.deeds w.untaken ∙ v.untaken;
        tell = tell-both w.deeds v.deeds [] [] [] [] w.tell v.tell;
        closing = λ own. closing-both own own own w.deeds v.deeds (w.closing own) (v.closing own);
        writing = λ peer. writing-both peer peer peer w.deeds v.deeds (w.writing peer) (v.writing peer);
        going = λ up. going-both up (over up) (end (over up)) w.deeds v.deeds (w.going up) (v.going (over up));
      }

  -- by one deed, by which nothing passes
  went-by : (deed : Deed) (over : Bool → Bool) (old new : S) → IsDeed does old deed new → queued_in deed ≡ []
      → taken_in deed ≡ [] → Tell (deed ∷ []) [] [] → ((own : Bool) → Closing own (deed ∷ []) own)
      → ((peer : Option ℕ) → Writing peer (deed ∷ []) peer) → ((up : Bool) → Going up (deed ∷ []) (over up))
      → Went over old new
  went-by deed over old new d silent untaken tell closing writing going =
      record {
        deeds = deed ∷ [];
        are_done = (new, d, refl);
        silent = append-nil (queued_in deed) ∙ silent;
        untaken = append-nil (taken_in deed) ∙ untaken;
        tell = tell;
        closing = closing;
        writing = writing;
        going = going;
      }

  finished : (old new : S) → does.finishes old new → Went ended old new
  finished old new over =
      went-by Finishes ended old new over refl refl (record { told = refl; calls = refl })
      (λ own. record { holds = (tt, tt); comes = refl }) (λ peer. record { holds = (tt, tt); comes = refl })
      (λ up. going-by Finishes up false tt refl tt)

  sends-it : (error : Bool) (old new : S) → MovesBy does (after_send_close error) old new → Went still old new
  sends-it error old new m =
      let moves : Deed = Moves (record (does.connection old) { local_state = (does.connection new).local_state }) in
      went-by moves still old new (inr (error, m.to, refl), m.is) refl refl (record { told = refl; calls = refl })
      (λ own. record { holds = (tt, tt); comes = refl }) (λ peer. record { holds = (tt, tt); comes = refl })
      (λ up. going-by moves up up tt refl tt)

  sends-close : (own error : Bool) (old new : S) → SendsClose does own error old new → Went still old new
  sends-close true error old new same = stood old new same
  sends-close false error old new m = sends-it error old new m

  -- the peer's Close is answered
  closes-both : (own : Bool) (old new : S) (c : ClosesBoth does own old new) → Went ended c.taken new
  closes-both own old new c =
      went-on still ended c.taken c.answered new (sends-close own false c.taken c.answered c.answers)
      (finished c.answered new c.over)

  closes-by : (own : Bool) (old new : S) → ClosesBy does own old new → Went ended old new
  closes-by own old new c =
      went-on still ended old c.told new (sends-close own true old c.told c.tells) (finished c.told new c.over)

  closes-own : (old new : S) → ClosesOwn does old new → Went still old new
  closes-own old new c =
      went-on still still old c.sent new (sends-it false old c.sent c.sends)
      (went-by Closes still c.sent new c.left refl refl (record { told = refl; calls = refl })
      (λ own. record { holds = (tt, tt); comes = refl }) (λ peer. record { holds = (tt, tt); comes = refl })
      (λ up. going-by Closes up up tt refl tt))

  -- the frame in front is refused by the sessions, or not by them
  data Fronted (limit : ℕ) (old new : S) : Type 0 where
    stays-so : new ≡ old → Fronted limit old new
    bars : (f : Frame) (e : EndpointError) → IsOfSession f.body → IsSessionFault e
        → does.refuses old limit f.channel f.body e new → Fronted limit old new

  refuses-body : (e : EndpointError) (f : Frame) (body : FrameBody) → f.body ≡ body → (s : State S) (sessions : S)
      → RefusesBody does s e f.channel body sessions → Fronted (limit_of s.peer_limit) s.sessions sessions
  refuses-body PeerLimitUnder512 f (Open o) is s sessions (none, least, same) = stays-so same
  refuses-body (Connection OutOfOrder) f (Open o) is s sessions (some, same) = stays-so same
  refuses-body e f body is s sessions r =
      bars f e (subst (λ (b : FrameBody). IsOfSession b) (sym is) r.theirs) r.ends
      (subst (λ (b : FrameBody). does.refuses s.sessions (limit_of s.peer_limit) f.channel b e sessions) (sym is)
      r.refuses)

  barred : (e : EndpointError) (s : State S) (left : List ℕ) (sessions : S) → FrontBarred does s left e sessions
      → Fronted (limit_of s.peer_limit) s.sessions sessions
  barred e s left sessions b = refuses-body e b.frame b.frame.body refl s sessions b.refuses

  unread : (s : State S) (left : List ℕ) (sessions : S)
      → (sessions ≡ s.sessions) ⊎ ((e : EndpointError) × FrontBarred does s left e sessions)
      → Fronted (limit_of s.peer_limit) s.sessions sessions
  unread s left sessions (inl same) = stays-so same
  unread s left sessions (inr (e, b)) = barred e s left sessions b

  front-refused : (e : EndpointError) (s : State S) (left : List ℕ) (sessions : S)
      → FrontRefused does s left e sessions → Fronted (limit_of s.peer_limit) s.sessions sessions
  front-refused PeerLimitUnder512 s left sessions r = barred PeerLimitUnder512 s left sessions r
  front-refused (Connection e) s left sessions r = barred (Connection e) s left sessions r
  front-refused (Session e) s left sessions r = barred (Session e) s left sessions r
  front-refused NumbersUsedUp s left sessions r = barred NumbersUsedUp s left sessions r
  front-refused Memory s left sessions r = unread s left sessions r
  front-refused e s left sessions r = stays-so r.1

  -- frames are taken and these events told, and what is queued is behind what was
  record Adds (old : State S) (frames : List Frame) (events : List Event) (new : State S) : Type 0 where
    deeds : List Deed
    are_done : AreDone does old.sessions deeds new.sessions
    queued : new.queue ≡ old.queue ++ queued_by deeds
    taken : taken_by deeds ≡ frames
    tell : Tell deeds events []
    closing : Closing old.own_close deeds new.own_close
    writing : Writing old.peer_limit deeds new.peer_limit
    going : Going (is_up old.phase) deeds (is_up new.phase)

  abbrev AddsTo : State S → List Frame → List Event → State S → Type 0
  AddsTo old frames events new = Adds old frames events new

  adds-on : (old mid new : State S) (frames more : List Frame) (events others : List Event)
      → Adds old frames events mid → Adds mid more others new → Adds old (frames ++ more) (events ++ others) new
  adds-on old mid new frames more events others a b =
      record {
        deeds = a.deeds ++ b.deeds;
        are_done = done-append old.sessions mid.sessions new.sessions a.deeds b.deeds a.are_done b.are_done;
        queued =
            b.queued ∙ ap (λ (ws : List Waiting). ws ++ queued_by b.deeds) a.queued
            ∙ append_assoc old.queue (queued_by a.deeds) (queued_by b.deeds)
            ∙ ap (λ (ws : List Waiting). old.queue ++ ws) (sym (flat-append queued_in a.deeds b.deeds));
        taken =
            flat-append taken_in a.deeds b.deeds ∙ ap (λ (fs : List Frame). fs ++ taken_by b.deeds) a.taken
            ∙ ap (λ (fs : List Frame). frames ++ fs) b.taken;
        tell = tell-both a.deeds b.deeds events others [] [] a.tell b.tell;
        closing = closing-both old.own_close mid.own_close new.own_close a.deeds b.deeds a.closing b.closing;
        writing = writing-both old.peer_limit mid.peer_limit new.peer_limit a.deeds b.deeds a.writing b.writing;
        going =
            going-both (is_up old.phase) (is_up mid.phase) (is_up new.phase) a.deeds b.deeds a.going b.going;
      }

  close-done : (own : Bool) (close : Frame) (s : S) → AreDone does s (close-deeds own close) s
  close-done true close s = refl
  close-done false close s = (s, refl, refl)

  -- a frame of the connection's own is heard
  heard : (f : Frame) (body : FrameBody) (events : List Event) (old new : S) → f.body ≡ body
      → MovesByFrame does body old new → BodyTells does body f events → IsDeed does old (Hears f events) new
  heard f body events old new is moves tells = (
    subst (λ (b : FrameBody). MovesByFrame does b old new) (sym is) moves,
    subst (λ (b : FrameBody). BodyTells does b f events) (sym is) tells,
  )

  heard-writes : (f : Frame) (body : FrameBody) (events : List Event) (peer : Option ℕ) → f.body ≡ body
      → MayOpen peer body → Writing peer (Hears f events ∷ []) (opened_with peer body)
  heard-writes f body events peer is may =
      record {
        holds = (subst (λ (b : FrameBody). MayOpen peer b) (sym is) may, tt);
        comes = ap (λ (b : FrameBody). opened_with peer b) is;
      }

  takes-body : (f : Frame) (body : FrameBody) → f.body ≡ body → (old : State S) (events : List Event) (new : State S)
      → is_up old.phase ≡ true → TakesBody does old f.channel body events new → Adds old (f ∷ []) events new
  takes-body f Empty is old events new up (told, same) =
      subst (AddsTo old (f ∷ []) events) (sym same)
      (record {
        deeds = Hears f events ∷ [];
        are_done = (old.sessions, heard f Empty events old.sessions old.sessions is refl told, refl);
        queued = sym (append-nil old.queue);
        taken = refl;
        tell = record { told = append-nil events; calls = refl };
        closing = record { holds = (tt, tt); comes = refl };
        writing = heard-writes f Empty events old.peer_limit is tt;
        going = going-by (Hears f events) (is_up old.phase) (is_up old.phase) up refl tt;
      })
  takes-body f (Open o) is old events new up (none, least, told, moves, after) =
      subst (AddsTo old (f ∷ []) events) (sym after)
      (record {
        deeds = Hears f events ∷ [];
        are_done = (new.sessions, heard f (Open o) events old.sessions new.sessions is moves told, refl);
        queued = sym (append-nil old.queue);
        taken = refl;
        tell = record { told = append-nil events; calls = refl };
        closing = record { holds = (tt, tt); comes = refl };
        writing = heard-writes f (Open o) events old.peer_limit is (none, least);
        going = going-by (Hears f events) (is_up old.phase) (is_up old.phase) up refl tt;
      })
  takes-body f (Close c) is old events new up (told, closes, after) =
      let w = closes-both old.own_close old.sessions new.sessions closes in
      let frame : Frame = own_close_with None in
      let close : List Deed = close-deeds old.own_close frame in
      let both : Tell (w.deeds ++ close) [] [] =
      tell-both w.deeds close [] [] [] [] w.tell (close-tells old.own_close frame) in
      let closing : Closing old.own_close (w.deeds ++ close) true =
      closing-both old.own_close old.own_close true w.deeds close (w.closing old.own_close)
      (close-closes old.own_close frame refl) in
      subst (AddsTo old (f ∷ []) events) (sym after)
      (record {
        deeds = Hears f events ∷ (w.deeds ++ close);
        are_done = (
          closes.taken,
          heard f (Close c) events old.sessions closes.taken is closes.takes told,
          done-append closes.taken new.sessions new.sessions w.deeds close w.are_done
              (close-done old.own_close frame new.sessions),
        );
        queued =
            close-queues old old.own_close frame refl
            ∙ ap (λ (ws : List Waiting). old.queue ++ ws) (sym (flat-behind queued_in w.deeds close w.silent));
        taken =
            ap (λ (fs : List Frame). f ∷ fs)
            (flat-behind taken_in w.deeds close w.untaken ∙ close-takes-none old.own_close frame);
        tell = record {
          told = ap (λ (es : List Event). events ++ es) both.told ∙ append-nil events;
          calls = both.calls;
        };
        closing = record { holds = (tt, closing.holds); comes = closing.comes };
        writing =
            writing-both old.peer_limit old.peer_limit old.peer_limit (Hears f events ∷ []) (w.deeds ++ close)
            (heard-writes f (Close c) events old.peer_limit is tt)
            (writing-both old.peer_limit old.peer_limit old.peer_limit w.deeds close (w.writing old.peer_limit)
            (close-writes old.own_close None old.peer_limit));
        going =
            going-both (is_up old.phase) (is_up old.phase) false (Hears f events ∷ []) (w.deeds ++ close)
            (going-by (Hears f events) (is_up old.phase) (is_up old.phase) up refl tt)
            (going-both (is_up old.phase) false false w.deeds close (w.going (is_up old.phase))
            (close-goes old.own_close frame false (inr (inr (None, refl, plain-close)))));
      })
  takes-body f body is old events new up t =
      subst (AddsTo old (f ∷ []) events) (sym t.queued)
      (record {
        deeds = Takes (limit_of old.peer_limit) f t.frames events ∷ [];
        are_done = (
          new.sessions,
          subst
              (λ (b : FrameBody).
              does.takes old.sessions (limit_of old.peer_limit) f.channel b t.frames events new.sessions)
              (sym is) t.takes,
          refl,
        );
        queued = ap (λ (ws : List Waiting). old.queue ++ ws) (sym (append-nil (map waiting_of t.frames)));
        taken = refl;
        tell = record { told = append-nil events; calls = refl };
        closing = record { holds = (tt, tt); comes = refl };
        writing = record {
          holds = ((subst (λ (b : FrameBody). IsOfSession b) (sym is) t.theirs, (refl, t.fit)), tt);
          comes = refl;
        };
        going =
            going-by (Takes (limit_of old.peer_limit) f t.frames events) (is_up old.phase) (is_up old.phase) up refl
            tt;
      })

  takes-all : (old : State S) (frames : List Frame) (events : List Event) (new : State S)
      → TakesAll does old frames events new → Adds old frames events new
  takes-all old [] events new (none, same) =
      subst (λ (es : List Event). Adds old [] es new) (sym none)
      (subst (AddsTo old [] []) (sym same)
      (record {
        deeds = [];
        are_done = refl;
        queued = sym (append-nil old.queue);
        taken = refl;
        tell = tell-nothing;
        closing = closing-none old.own_close;
        writing = writing-none old.peer_limit;
        going = going-none (is_up old.phase);
      }))
  takes-all old (f ∷ fs) events new (mid, first, others, one, all, split) =
      subst (λ (es : List Event). Adds old (f ∷ fs) es new) (sym split)
      (adds-on old mid new (f ∷ []) fs first others (takes-body f f.body refl old first mid (ap is_up one.0) one.1)
      (takes-all mid fs others new all))

  -- the connection may be cut off; where it isn't, what is queued is behind what was
  record MayCut (old new : State S) : Type 0 where
    deeds : List Deed
    are_done : AreDone does old.sessions deeds new.sessions
    untaken : taken_by deeds ≡ []
    tell : Tell deeds [] []
    over : is_unconnected new.phase ≡ false → (new.queue ≡ old.queue ++ queued_by deeds) × (new.phase ≡ Over)
    closing : is_unconnected new.phase ≡ false → Closing old.own_close deeds new.own_close
    writing : Writing old.peer_limit deeds new.peer_limit
    going : Going (is_up old.phase) deeds (is_up new.phase)

  never : {A : Type 0} (phase : Phase) → phase ≡ Unconnected → is_unconnected phase ≡ false → A
  never phase is up = let clash : true ≡ false = sym (ap is_unconnected is) ∙ up in absurd cc

  breaks : (old new : State S) → Breaks does old new → MayCut old new
  breaks old new (finishes, after) =
      record {
        deeds = Finishes ∷ [];
        are_done = (new.sessions, finishes, refl);
        untaken = refl;
        tell = record { told = refl; calls = refl };
        over = λ up. never new.phase (ap (λ (s : State S). s.phase) after) up;
        closing = λ up. never new.phase (ap (λ (s : State S). s.phase) after) up;
        writing = record { holds = (tt, tt); comes = sym (ap (λ (s : State S). s.peer_limit) after) };
        going =
            going-by Finishes (is_up old.phase) (is_up new.phase) tt
            (sym (ap (λ (s : State S). is_up s.phase) after)) tt;
      }

  after-fault : (condition : Option (List ℕ)) (s new : State S) → Tells condition → AfterFault does condition s new
      → MayCut s new
  after-fault None s new tells b = breaks s new b
  after-fault (Some condition) s new tells (closes, is) =
      let w = closes-by s.own_close s.sessions new.sessions closes in
      let frame : Frame = own_close_with (Some (error_of condition)) in
      let close : List Deed = close-deeds s.own_close frame in
      record {
        deeds = w.deeds ++ close;
        are_done =
            done-append s.sessions new.sessions new.sessions w.deeds close w.are_done
            (close-done s.own_close frame new.sessions);
        untaken = flat-behind taken_in w.deeds close w.untaken ∙ close-takes-none s.own_close frame;
        tell = tell-both w.deeds close [] [] [] [] w.tell (close-tells s.own_close frame);
        over = λ up. (
          ap (λ (t : State S). t.queue) is ∙ close-queues s s.own_close frame refl
              ∙ ap (λ (ws : List Waiting). s.queue ++ ws) (sym (flat-behind queued_in w.deeds close w.silent)),
          ap (λ (t : State S). t.phase) is,
        );
        closing = λ up.
            subst (λ (own : Bool). Closing s.own_close (w.deeds ++ close) own)
            (sym (ap (λ (t : State S). t.own_close) is))
            (closing-both s.own_close s.own_close true w.deeds close (w.closing s.own_close)
            (close-closes s.own_close frame refl));
        writing =
            subst (λ (peer : Option ℕ). Writing s.peer_limit (w.deeds ++ close) peer)
            (sym (ap (λ (t : State S). t.peer_limit) is))
            (writing-both s.peer_limit s.peer_limit s.peer_limit w.deeds close (w.writing s.peer_limit)
            (close-writes s.own_close (Some (error_of condition)) s.peer_limit));
        going =
            subst (λ (up : Bool). Going (is_up s.phase) (w.deeds ++ close) up)
            (sym (ap (λ (t : State S). is_up t.phase) is))
            (going-both (is_up s.phase) false false w.deeds close (w.going (is_up s.phase))
            (close-goes s.own_close frame false (inr (inr (Some (error_of condition), refl, tells)))));
      }

  after-front : (condition : Option (List ℕ)) (s : State S) (sessions : S) (new : State S) → Tells condition
      → is_up s.phase ≡ true → Fronted (limit_of s.peer_limit) s.sessions sessions
      → AfterFault does condition (record s { sessions = sessions }) new → MayCut s new
  after-front condition s sessions new tells running (stays-so same) a =
      let c = after-fault condition (record s { sessions = sessions }) new tells a in
      record {
        deeds = c.deeds;
        are_done = subst (λ (x : S). AreDone does x c.deeds new.sessions) same c.are_done;
        untaken = c.untaken;
        tell = c.tell;
        over = c.over;
        closing = c.closing;
        writing = c.writing;
        going = c.going;
      }
  after-front None s sessions new tells running (bars f e theirs ends r) (finishes, after) =
      record {
        deeds = Refuses (limit_of s.peer_limit) f e true ∷ [];
        are_done = (
          new.sessions,
          record {
            refused = sessions;
            refuses = r;
            closes = record { told = sessions; tells = refl; over = finishes };
          },
          refl,
        );
        untaken = refl;
        tell = record { told = refl; calls = refl };
        over = λ up. never new.phase (ap (λ (t : State S). t.phase) after) up;
        closing = λ up. never new.phase (ap (λ (t : State S). t.phase) after) up;
        writing = record {
          holds = ((theirs, ends, refl), tt);
          comes = sym (ap (λ (t : State S). t.peer_limit) after);
        };
        going =
            going-by (Refuses (limit_of s.peer_limit) f e true) (is_up s.phase) (is_up new.phase) running
            (sym (ap (λ (t : State S). is_up t.phase) after)) tt;
      }
  after-front (Some condition) s sessions new tells running (bars f e theirs ends r) (closes, is) =
      let frame : Frame = own_close_with (Some (error_of condition)) in
      let close = close-writes s.own_close (Some (error_of condition)) s.peer_limit in
      record {
        deeds = Refuses (limit_of s.peer_limit) f e s.own_close ∷ close-deeds s.own_close frame;
        are_done = (
          new.sessions,
          record { refused = sessions; refuses = r; closes = closes },
          close-done s.own_close frame new.sessions,
        );
        untaken = close-takes-none s.own_close frame;
        tell = record {
          told = (close-tells s.own_close frame).told;
          calls = (close-tells s.own_close frame).calls;
        };
        over = λ up. (
          ap (λ (t : State S). t.queue) is ∙ close-queues s s.own_close frame refl,
          ap (λ (t : State S). t.phase) is,
        );
        closing = λ up. record {
          holds = (refl, (close-closes s.own_close frame refl).holds);
          comes = (close-closes s.own_close frame refl).comes ∙ sym (ap (λ (t : State S). t.own_close) is);
        };
        writing = record {
          holds = ((theirs, ends, refl), close.holds);
          comes = close.comes ∙ sym (ap (λ (t : State S). t.peer_limit) is);
        };
        going =
            let refuses : Deed = Refuses (limit_of s.peer_limit) f e s.own_close in
            subst (λ (up : Bool). Going (is_up s.phase) (refuses ∷ close-deeds s.own_close frame) up)
            (sym (ap (λ (t : State S). is_up t.phase) is))
            (going-both (is_up s.phase) false false (refuses ∷ []) (close-deeds s.own_close frame)
            (going-by refuses (is_up s.phase) false running refl tt)
            (close-goes s.own_close frame false (inr (inr (Some (error_of condition), refl, tells)))));
      }

  -- these bytes were read and these events told, and so much was taken
  record ReadsThem (old : State S) (all : List ℕ) (events : List Event) (new : State S) : Type 0 where
    deeds : List Deed
    are_done : AreDone does old.sessions deeds new.sessions
    queued : is_unconnected new.phase ≡ false → new.queue ≡ old.queue ++ queued_by deeds
    read :
        is_unconnected new.phase ≡ false
        → ReadNow new.phase old.settings.max_frame_size all (taken_by deeds) new.rest
    tell : Tell deeds events []
    closing : is_unconnected new.phase ≡ false → Closing old.own_close deeds new.own_close
    writing : Writing old.peer_limit deeds new.peer_limit
    going : Going (is_up old.phase) deeds (is_up new.phase)

  -- all was taken that comes
  read-all : (old mid : State S) (all left : List ℕ) (frames : List Frame) (events : List Event) (new : State S)
      → ReadsAs (Admits old.settings.max_frame_size) all frames left → (a : Adds old frames events mid)
      → new.sessions ≡ mid.sessions → new.queue ≡ mid.queue → new.own_close ≡ mid.own_close
      → new.peer_limit ≡ mid.peer_limit → new.phase ≡ mid.phase
      → ReadNow new.phase old.settings.max_frame_size all frames new.rest → ReadsThem old all events new
  read-all old mid all left frames events new read a sessions queue own peer phase now =
      record {
        deeds = a.deeds;
        are_done = subst (λ (s : S). AreDone does old.sessions a.deeds s) (sym sessions) a.are_done;
        queued = λ up. queue ∙ a.queued;
        read = λ up.
            subst (λ (fs : List Frame). ReadNow new.phase old.settings.max_frame_size all fs new.rest) (sym a.taken)
            now;
        tell = a.tell;
        closing = λ up. subst (λ (c : Bool). Closing old.own_close a.deeds c) (sym own) a.closing;
        writing = subst (λ (p : Option ℕ). Writing old.peer_limit a.deeds p) (sym peer) a.writing;
        going = subst (λ (p : Phase). Going (is_up old.phase) a.deeds (is_up p)) (sym phase) a.going;
      }

  -- a fault stands in front of what is left
  read-faulted : (old mid : State S) (all left : List ℕ) (frames : List Frame) (events : List Event)
      (e : EndpointError) (new : State S) → mid.phase ≡ Running
      → ReadsAs (Admits old.settings.max_frame_size) all frames left → Adds old frames events mid
      → EndsRunning does mid left (Some e) new → ReadsThem old all events new
  read-faulted old mid all left frames events e new running read a r =
      let c =
      after-front (condition_of e) mid r.sessions new (fault-tells e) (ap is_up running)
      (front-refused e mid left r.sessions r.refused) r.after in
      let taken : taken_by (a.deeds ++ c.deeds) ≡ frames =
      flat-append taken_in a.deeds c.deeds ∙ ap (λ (fs : List Frame). taken_by a.deeds ++ fs) c.untaken
      ∙ append-nil (taken_by a.deeds) ∙ a.taken in
      record {
        deeds = a.deeds ++ c.deeds;
        are_done =
            done-append old.sessions mid.sessions new.sessions a.deeds c.deeds a.are_done c.are_done;
        queued = λ up.
            (c.over up).0 ∙ ap (λ (ws : List Waiting). ws ++ queued_by c.deeds) a.queued
            ∙ append_assoc old.queue (queued_by a.deeds) (queued_by c.deeds)
            ∙ ap (λ (ws : List Waiting). old.queue ++ ws) (sym (flat-append queued_in a.deeds c.deeds));
        read = λ up.
            subst (λ (p : Phase). ReadNow p old.settings.max_frame_size all (taken_by (a.deeds ++ c.deeds)) new.rest)
            (sym (c.over up).1) (
              left,
              subst (λ (fs : List Frame). ReadsAs (Admits old.settings.max_frame_size) all fs left) (sym taken)
                  read,
            );
        tell =
            subst (λ (es : List Event). Tell (a.deeds ++ c.deeds) es []) (append-nil events)
            (tell-both a.deeds c.deeds events [] [] [] a.tell c.tell);
        closing = λ up.
            closing-both old.own_close mid.own_close new.own_close a.deeds c.deeds a.closing (c.closing up);
        writing = writing-both old.peer_limit mid.peer_limit new.peer_limit a.deeds c.deeds a.writing c.writing;
        going =
            going-both (is_up old.phase) (is_up mid.phase) (is_up new.phase) a.deeds c.deeds a.going c.going;
      }

  read-ends : (phase : Phase) (old mid : State S) (all left : List ℕ) (frames : List Frame) (events : List Event)
      (fault : Option EndpointError) (new : State S) → mid.phase ≡ phase
      → ReadsAs (Admits old.settings.max_frame_size) all frames left → Adds old frames events mid
      → Ends does mid phase left fault new → ReadsThem old all events new
  read-ends Running old mid all left frames events None new is read a (waits, after) =
      subst (λ (s : State S). ReadsThem old all events s) (sym after)
      (read-all old mid all left frames events (record mid { rest = left }) read a refl refl refl refl refl
      (subst (λ (p : Phase). ReadNow p old.settings.max_frame_size all frames left) (sym is) read))
  read-ends Running old mid all left frames events (Some e) new is read a r =
      read-faulted old mid all left frames events e new is read a r
  read-ends Over old mid all left frames events None new is read a same =
      subst (λ (s : State S). ReadsThem old all events s) (sym same)
      (read-all old mid all left frames events mid read a refl refl refl refl refl
      (subst (λ (p : Phase). ReadNow p old.settings.max_frame_size all frames mid.rest) (sym is) (left, read)))
  read-ends Over old mid all left frames events (Some e) new is read a r = absurd r
  read-ends phase old mid all left frames events fault new is read a r = absurd r

  reads-on : (old : State S) (all : List ℕ) (events : List Event) (fault : Option EndpointError) (new : State S)
      → ReadsOn does old all events fault new → ReadsThem old all events new
  reads-on old all events fault new r =
      let a = takes-all (record old { rest = [] }) r.frames events r.mid r.taken in
      read-ends r.mid.phase old r.mid all r.left r.frames events fault new refl r.read
      (record {
        deeds = a.deeds;
        are_done = a.are_done;
        queued = a.queued;
        taken = a.taken;
        tell = a.tell;
        closing = a.closing;
        writing = a.writing;
        going = a.going;
      }) r.ends

  -- what passes in a call: so much is given of what was queued, and these bytes are fed
  record PassesOn (old : State S) (gone : List Waiting) (bytes : List ℕ) (deeds : List Deed) (new : State S) : Type 0
    where
      was : is_unconnected old.phase ≡ false
      queued : old.queue ++ queued_by deeds ≡ gone ++ new.queue
      read :
          (all : List ℕ) (frames : List Frame) → AreRead old.phase old.settings.max_frame_size all frames old.rest
          → AreRead new.phase old.settings.max_frame_size (all ++ bytes) (frames ++ taken_by deeds) new.rest
      closing : Closing old.own_close deeds new.own_close

  -- what is done in a call: these events are told by it, and these calls done
  record Did (old : State S) (gone : List Waiting) (bytes : List ℕ) (events : List Event) (did : List (Call × Said))
      (new : State S) : Type 0 where
    deeds : List Deed
    are_done : AreDone does old.sessions deeds new.sessions
    on : is_unconnected new.phase ≡ false → PassesOn old gone bytes deeds new
    tell : Tell deeds events did
    writing : Writing old.peer_limit deeds new.peer_limit
    going : Going (is_up old.phase) deeds (is_up new.phase)

  -- nothing is read by it, and the phase stays
  plainly : (old : State S) (gone : List Waiting) (deeds : List Deed) (events : List Event)
      (did : List (Call × Said)) (new : State S) → AreDone does old.sessions deeds new.sessions
      → new.phase ≡ old.phase → new.rest ≡ old.rest → old.queue ++ queued_by deeds ≡ gone ++ new.queue
      → taken_by deeds ≡ [] → Tell deeds events did → Closing old.own_close deeds new.own_close
      → Writing old.peer_limit deeds new.peer_limit → Going (is_up old.phase) deeds (is_up old.phase)
      → Did old gone [] events did new
  plainly old gone deeds events did new are_done phase rest queued untaken tell closing writing going =
      record {
        deeds = deeds;
        are_done = are_done;
        on = λ up. record {
          was = sym (ap is_unconnected phase) ∙ up;
          queued = queued;
          read = λ all frames r.
              subst
              (λ (p : Phase). AreRead p old.settings.max_frame_size (all ++ []) (frames ++ taken_by deeds) new.rest)
              (sym phase)
              (subst
              (λ (b : List ℕ).
              AreRead old.phase old.settings.max_frame_size (all ++ []) (frames ++ taken_by deeds) b)
              (sym rest)
              (same-read old.phase old.settings.max_frame_size all frames (taken_by deeds) old.rest untaken r));
          closing = closing;
        };
        tell = tell;
        writing = writing;
        going = subst (λ (p : Phase). Going (is_up old.phase) deeds (is_up p)) (sym phase) going;
      }

  -- nothing is told, and the sessions do no call
  quietly : (old : State S) (gone : List Waiting) (deeds : List Deed) (new : State S)
      → AreDone does old.sessions deeds new.sessions → new.phase ≡ old.phase → new.rest ≡ old.rest
      → old.queue ++ queued_by deeds ≡ gone ++ new.queue → taken_by deeds ≡ [] → Tell deeds [] []
      → Closing old.own_close deeds new.own_close → Writing old.peer_limit deeds new.peer_limit
      → Going (is_up old.phase) deeds (is_up old.phase) → Did old gone [] [] [] new
  quietly old gone deeds new are_done phase rest queued untaken tell closing writing going =
      plainly old gone deeds [] [] new are_done phase rest queued untaken tell closing writing going

  stays : (old new : State S) → new ≡ old → Did old [] [] [] [] new
  stays old new same =
      subst (λ (s : State S). Did old [] [] [] [] s) (sym same)
      (quietly old [] [] old refl refl refl (append-nil old.queue) refl tell-nothing (closing-none old.own_close)
      (writing-none old.peer_limit) (going-none (is_up old.phase)))

  cuts : (old : State S) (bytes : List ℕ) (deeds : List Deed) (new : State S)
      → AreDone does old.sessions deeds new.sessions → new.phase ≡ Unconnected → Tell deeds [] []
      → Writing old.peer_limit deeds new.peer_limit → Going (is_up old.phase) deeds false
      → Did old [] bytes [] [] new
  cuts old bytes deeds new are_done is tell writing going =
      record {
        deeds = deeds;
        are_done = are_done;
        on = λ up. never new.phase is up;
        tell = tell;
        writing = writing;
        going = subst (λ (up : Bool). Going (is_up old.phase) deeds up) (sym (ap is_up is)) going;
      }

  broken : (old : State S) (bytes : List ℕ) (new : State S) → Breaks does old new → Did old [] bytes [] [] new
  broken old bytes new (finishes, after) =
      cuts old bytes (Finishes ∷ []) new (new.sessions, finishes, refl) (ap (λ (s : State S). s.phase) after)
      (record { told = refl; calls = refl })
      (record { holds = (tt, tt); comes = sym (ap (λ (s : State S). s.peer_limit) after) })
      (going-by Finishes (is_up old.phase) false tt refl tt)

  broken-greeting : (old : State S) (bytes : List ℕ) (new : State S) → BreaksGreeting does old new
      → Did old [] bytes [] [] new
  broken-greeting old bytes new (inl b) = broken old bytes new b
  broken-greeting old bytes new (inr (finishes, after)) =
      let greeted : S = at_state does old.sessions HeaderExchange in
      let moves : Deed = Moves (record (does.connection old.sessions) { local_state = HeaderExchange }) in
      cuts old bytes (moves ∷ Finishes ∷ []) new
      (greeted, (inl (inr refl), refl), (new.sessions, finishes, refl)) (ap (λ (s : State S). s.phase) after)
      (record { told = refl; calls = refl })
      (record { holds = (tt, (tt, tt)); comes = sym (ap (λ (s : State S). s.peer_limit) after) })
      (record { along = record { holds = (tt, (tt, tt)); comes = refl }; go_on = tt })

  -- bytes are fed while frames are read
  runs : (old : State S) (bytes : List ℕ) (events : List Event) (fault : Option EndpointError) (new : State S)
      → old.phase ≡ Running → ReadsOn does old (old.rest ++ bytes) events fault new → Did old [] bytes events [] new
  runs old bytes events fault new is r =
      let t = reads-on old (old.rest ++ bytes) events fault new r in
      record {
        deeds = t.deeds;
        are_done = t.are_done;
        on = λ up. record {
          was = ap is_unconnected is;
          queued = sym (t.queued up);
          read = λ all frames before.
              more-read new.phase old.settings.max_frame_size all bytes frames (taken_by t.deeds) old.rest new.rest
              (subst (λ (p : Phase). AreRead p old.settings.max_frame_size all frames old.rest) is before)
              (t.read up);
          closing = t.closing up;
        };
        tell = t.tell;
        writing = t.writing;
        going = t.going;
      }

  -- the peer's header is whole with them
  greeted : (old : State S) (bytes : List ℕ) (events : List Event) (fault : Option EndpointError) (new : State S)
      → old.settings ≡ settings → old.phase ≡ Greeting → take 8 (old.rest ++ bytes) ≡ protocol_header
      → ReadsOn does (opened does old) (drop 8 (old.rest ++ bytes)) events fault new → Did old [] bytes events [] new
  greeted old bytes events fault new kept is header r =
      let t = reads-on (opened does old) (drop 8 (old.rest ++ bytes)) events fault new r in
      let first : Waiting = the_frame (own_open old.settings) in
      let begun : S = at_state does old.sessions OpenSent in
      let moves : Deed = Moves (record (does.connection old.sessions) { local_state = OpenSent }) in
      record {
        deeds = moves ∷ Queues first ∷ t.deeds;
        are_done = (begun, (inl (inl refl), refl), (begun, refl, t.are_done));
        on = λ up. record {
          was = ap is_unconnected is;
          queued = sym (t.queued up ∙ append_assoc old.queue (first ∷ []) (queued_by t.deeds));
          read = λ all frames before.
              let (none, same) =
              subst (λ (p : Phase). AreRead p old.settings.max_frame_size all frames old.rest) is before in
              subst
              (λ (fs : List Frame).
              AreRead new.phase old.settings.max_frame_size (all ++ bytes) (fs ++ taken_by t.deeds) new.rest)
              (sym none)
              (first-read new.phase old.settings.max_frame_size (all ++ bytes) (drop 8 (old.rest ++ bytes))
              (taken_by t.deeds) new.rest
              (ap (λ (b : List ℕ). b ++ bytes) same ∙ sym (take-append-drop 8 (old.rest ++ bytes))
              ∙ ap (λ (b : List ℕ). b ++ drop 8 (old.rest ++ bytes)) header)
              (t.read up));
          closing = record { holds = (tt, (not-so, (t.closing up).holds)); comes = (t.closing up).comes };
        };
        tell = record { told = t.tell.told; calls = t.tell.calls };
        writing = record { holds = (tt, (λ theirs. theirs, t.writing.holds)); comes = t.writing.comes };
        going =
            subst (λ (up : Bool). Going up (moves ∷ Queues first ∷ t.deeds) (is_up new.phase)) (sym (ap is_up is))
            (record {
              along = record { holds = (tt, (tt, t.going.along.holds)); comes = t.going.along.comes };
              go_on = (inl (ap own_open kept), t.going.go_on);
            });
      }

  untold : (old : State S) (bytes : List ℕ) (events : List Event) (new : State S) → events ≡ []
      → Did old [] bytes [] [] new → Did old [] bytes events [] new
  untold old bytes events new none d = subst (λ (es : List Event). Did old [] bytes es [] new) (sym none) d

  greets : (old : State S) (bytes : List ℕ) (events : List Event) (fault : Option EndpointError) (new : State S)
      → old.settings ≡ settings → old.phase ≡ Greeting → Greets does old (old.rest ++ bytes) events fault new
      → Did old [] bytes events [] new
  greets old bytes events fault new kept is (inl (short, none, clean, after)) =
      untold old bytes events new none
      (subst (λ (s : State S). Did old [] bytes [] [] s) (sym after)
      (record {
        deeds = [];
        are_done = refl;
        on = λ up. record {
          was = up;
          queued = append-nil old.queue;
          read = λ all frames before.
              let (nothing, same) =
              subst (λ (p : Phase). AreRead p old.settings.max_frame_size all frames old.rest) is before in
              subst
              (λ (p : Phase).
              AreRead p old.settings.max_frame_size (all ++ bytes) (frames ++ []) (old.rest ++ bytes))
              (sym is) (append-nil frames ∙ nothing, ap (λ (b : List ℕ). b ++ bytes) same);
          closing = closing-none old.own_close;
        };
        tell = tell-nothing;
        writing = writing-none old.peer_limit;
        going = going-none (is_up old.phase);
      }))
  greets old bytes events fault new kept is (inr (inl (long, other, none, why, b))) =
      untold old bytes events new none (broken old bytes new b)
  greets old bytes events fault new kept is (inr (inr (inl (header, r)))) =
      greeted old bytes events fault new kept is header r
  greets old bytes events fault new kept is (inr (inr (inr (none, memory, b)))) =
      untold old bytes events new none (broken-greeting old bytes new b)

  feeds-in : (phase : Phase) (old : State S) (bytes : List ℕ) (events : List Event) (fault : Option EndpointError)
      (new : State S) → old.settings ≡ settings → old.phase ≡ phase → FeedsIn does phase old bytes events fault new
      → Did old [] bytes events [] new
  feeds-in Unconnected old bytes events fault new kept is (none, why, same) =
      untold old bytes events new none
      (cuts old bytes [] new (ap (λ (s : State S). s.sessions) same) (ap (λ (s : State S). s.phase) same ∙ is)
      tell-nothing (record { holds = tt; comes = sym (ap (λ (s : State S). s.peer_limit) same) })
      (record { along = record { holds = tt; comes = ap is_up is }; go_on = tt }))
  feeds-in Greeting old bytes events fault new kept is g = greets old bytes events fault new kept is g
  feeds-in Running old bytes events fault new kept is r = runs old bytes events fault new is r
  feeds-in Over old bytes events fault new kept is (none, why, same) =
      untold old bytes events new none
      (subst (λ (s : State S). Did old [] bytes [] [] s) (sym same)
      (record {
        deeds = [];
        are_done = refl;
        on = λ up. record {
          was = up;
          queued = append-nil old.queue;
          read = λ all frames before.
              subst (λ (p : Phase). AreRead p old.settings.max_frame_size (all ++ bytes) (frames ++ []) old.rest)
              (sym is)
              (over-read old.settings.max_frame_size all bytes frames old.rest
              (subst (λ (p : Phase). AreRead p old.settings.max_frame_size all frames old.rest) is before));
          closing = closing-none old.own_close;
        };
        tell = tell-nothing;
        writing = writing-none old.peer_limit;
        going = going-none (is_up old.phase);
      }))

  -- the sessions do a call
  called : (old : State S) (call : Call) (answer : Said) (frames : List SessionFrame) (new : State S)
      → does.calls old.sessions (limit_of old.peer_limit) call answer frames new.sessions
      → All (λ (f : SessionFrame). fits (limit_of old.peer_limit) (frame_of f) ≡ true) frames
      → new ≡ record old { sessions = new.sessions; queue = old.queue ++ map waiting_of frames }
      → (is_up old.phase ≡ false → frames ≡ []) → Did old [] [] (events_of answer) ((call, answer) ∷ []) new
  called old call answer frames new c fit queued quiet =
      let did : List (Call × Said) = (call, answer) ∷ [] in
      subst (λ (t : State S). Did old [] [] (events_of answer) did t) (sym queued)
      (plainly old [] (Does (limit_of old.peer_limit) call answer frames ∷ []) (events_of answer) did
      (record old { sessions = new.sessions; queue = old.queue ++ map waiting_of frames }) (new.sessions, c, refl)
      refl refl (ap (λ (ws : List Waiting). old.queue ++ ws) (append-nil (map waiting_of frames))) refl
      (record { told = append-nil (events_of answer); calls = refl }) (record { holds = (tt, tt); comes = refl })
      (record { holds = ((refl, fit), tt); comes = refl })
      (going-by (Does (limit_of old.peer_limit) call answer frames) (is_up old.phase) (is_up old.phase) quiet refl
      tt))

  does-call : (old : State S) (call : Call) (answer : Said) (new : State S) → SessionsDo does old call answer new
      → Did old [] [] (events_of answer) ((call, answer) ∷ []) new
  does-call old call answer new s =
      called old call answer s.frames new s.calls s.fit s.queued (λ down. s.quiet (not-running old.phase down))

  -- they answer one, and nothing changes
  answers-call : (old : State S) (call : Call) (answer : Said) (new : State S) → SessionsAnswer does old call answer new
      → Did old [] [] (events_of answer) ((call, answer) ∷ []) new
  answers-call old call answer new s =
      let did : List (Call × Said) = (call, answer) ∷ [] in
      subst (λ (t : State S). Did old [] [] (events_of answer) did t) (sym s.same)
      (called old call answer [] old s.calls
      (All-nil (λ (f : SessionFrame). fits (limit_of old.peer_limit) (frame_of f) ≡ true))
      (ap (λ (ws : List Waiting). record old { queue = ws }) (sym (append-nil old.queue))) (λ down. refl))

  beats : (old new : State S) → new ≡ record old { queue = old.queue ++ the_frame heartbeat ∷ [] }
      → Did old [] [] [] [] new
  beats old new after =
      subst (λ (t : State S). Did old [] [] [] [] t) (sym after)
      (quietly old [] (Queues (the_frame heartbeat) ∷ []) (record old { queue = old.queue ++ the_frame heartbeat ∷ [] })
      (old.sessions, refl, refl) refl refl refl refl (record { told = refl; calls = refl })
      (record { holds = (not-so, tt); comes = refl }) (record { holds = (λ theirs. theirs, tt); comes = refl })
      (going-by (Queues (the_frame heartbeat)) (is_up old.phase) (is_up old.phase) tt refl (inr (inl refl), tt)))

  pulls : (old : State S) (first : Waiting) (others : List Waiting) (new : State S) → old.queue ≡ first ∷ others
      → new ≡ record old { queue = others } → Did old (first ∷ []) [] [] [] new
  pulls old first others new is after =
      subst (λ (t : State S). Did old (first ∷ []) [] [] [] t) (sym after)
      (quietly old (first ∷ []) [] (record old { queue = others }) refl refl refl (append-nil old.queue ∙ is) refl
      tell-nothing (closing-none old.own_close) (writing-none old.peer_limit) (going-none (is_up old.phase)))

  sends-own-close : (old new : State S) → old.own_close ≡ false → ClosesOwn does old.sessions new.sessions
      → new ≡ record old {
        own_close = true;
        queue = old.queue ++ the_frame (own_close_with None) ∷ [];
        sessions = new.sessions;
      } → Did old [] [] [] [] new
  sends-own-close old new unsent closes after =
      let w = closes-own old.sessions new.sessions closes in
      let close : List Deed = Queues (the_frame (own_close_with None)) ∷ [] in
      subst (λ (t : State S). Did old [] [] [] [] t) (sym after)
      (quietly old [] (w.deeds ++ close)
      (record old {
        own_close = true;
        queue = old.queue ++ the_frame (own_close_with None) ∷ [];
        sessions = new.sessions;
      })
      (done-append old.sessions new.sessions new.sessions w.deeds close w.are_done (new.sessions, refl, refl)) refl refl
      (ap (λ (ws : List Waiting). old.queue ++ ws) (flat-behind queued_in w.deeds close w.silent))
      (flat-behind taken_in w.deeds close w.untaken)
      (tell-both w.deeds close [] [] [] [] w.tell (record { told = refl; calls = refl }))
      (closing-both old.own_close old.own_close true w.deeds close (w.closing old.own_close)
      (record { holds = (λ e. unsent, tt); comes = refl }))
      (writing-both old.peer_limit old.peer_limit old.peer_limit w.deeds close (w.writing old.peer_limit)
      (record { holds = (λ theirs. theirs, tt); comes = refl }))
      (going-both (is_up old.phase) (is_up old.phase) (is_up old.phase) w.deeds close (w.going (is_up old.phase))
      (going-by (Queues (the_frame (own_close_with None))) (is_up old.phase) (is_up old.phase) tt refl
      (inr (inr (None, refl, plain-close)), tt))))

  abbrev Done : ℕ → S → List (List ℕ) → List ℕ → List Event → List (Call × Said) → List Event → List (Call × Said)
      → State S → Type 0
  Done limit start given bytes events did all_events all_did s =
      IsDone does limit start given bytes events did all_events all_did s

  -- more is told behind all that was
  tell-more : (before since deeds : List Deed) (events others : List Event) (did later : List (Call × Said))
      → Tell (before ++ since) events did → Tell deeds others later
      → Tell (before ++ (since ++ deeds)) (events ++ others) (did ++ later)
  tell-more before since deeds events others did later t u =
      subst (λ (ds : List Deed). Tell ds (events ++ others) (did ++ later)) (append_assoc before since deeds)
      (tell-both (before ++ since) deeds events others did later t u)

  module _ (start : S) (given : List (List ℕ)) (bytes : List ℕ) (events : List Event) (did : List (Call × Said))
      (all_events : List Event) (all_did : List (Call × Said)) (old : State S) (was : old.settings ≡ settings) where
    abbrev Was : Type 0
    Was = Done old.settings.max_frame_size start given bytes events did all_events all_did old

    abbrev Is : Call → Said → State S → Type 0
    Is call answer new =
        Done old.settings.max_frame_size start (note given_by given call answer) (note fed_by bytes call answer)
        (note (λ (c : Call). events_of) events call answer) (note call_done did call answer)
        (all_events ++ events_of answer) (all_did ++ call_done call answer) new

    -- so a run goes on
    further : (gone : List Waiting) (more : List ℕ) (others : List Event) (later : List (Call × Said)) (new : State S)
        → new.settings ≡ settings → Did old gone more others later new → Was
        → Done old.settings.max_frame_size start (given ++ map text_of gone) (bytes ++ more) (events ++ others)
        (did ++ later) (all_events ++ others) (all_did ++ later) new
    further gone more others later new kept d i =
        let writing : Writing None (i.before ++ (i.since ++ d.deeds)) new.peer_limit =
        subst (λ (ds : List Deed). Writing None ds new.peer_limit) (append_assoc i.before i.since d.deeds)
        (writing-both None old.peer_limit new.peer_limit (i.before ++ i.since) d.deeds
        (record { holds = i.in_order; comes = i.peer }) d.writing) in
        let passing : Along up_behind MayPass false (i.before ++ (i.since ++ d.deeds)) (is_up new.phase) =
        subst (λ (ds : List Deed). Along up_behind MayPass false ds (is_up new.phase))
        (append_assoc i.before i.since d.deeds)
        (along-both up_behind MayPass false (is_up old.phase) (is_up new.phase) (i.before ++ i.since) d.deeds
        (record { holds = i.up_in_order; comes = i.up }) d.going.along) in
        record {
          before = i.before;
          since = i.since ++ d.deeds;
          are_done =
              subst (λ (ds : List Deed). AreDone does start ds new.sessions)
              (append_assoc i.before i.since d.deeds)
              (done-append start old.sessions new.sessions (i.before ++ i.since) d.deeds i.are_done d.are_done);
          passes = λ up.
              let on = d.on up in
              let p = i.passes on.was in
              let closing : Closing false (i.since ++ d.deeds) new.own_close =
              closing-both false old.own_close new.own_close i.since d.deeds
              (record { holds = p.once; comes = p.closed }) on.closing in
              record {
                queued =
                    ap (λ (ws : List Waiting). map text_of ws) (flat-append queued_in i.since d.deeds)
                    ∙ texts-append (queued_by i.since) (queued_by d.deeds)
                    ∙ ap (λ (ts : List (List ℕ)). ts ++ map text_of (queued_by d.deeds)) p.queued
                    ∙ append_assoc given (map text_of old.queue) (map text_of (queued_by d.deeds))
                    ∙ ap (λ (ts : List (List ℕ)). given ++ ts)
                    (sym (texts-append old.queue (queued_by d.deeds))
                    ∙ ap (λ (ws : List Waiting). map text_of ws) on.queued
                    ∙ texts-append gone new.queue)
                    ∙ sym (append_assoc given (map text_of gone) (map text_of new.queue));
                read =
                    subst
                    (λ (fs : List Frame).
                    AreRead new.phase old.settings.max_frame_size (bytes ++ more) fs new.rest)
                    (sym (flat-append taken_in i.since d.deeds)) (on.read bytes (taken_by i.since) p.read);
                once = closing.holds;
                closed = closing.comes;
              };
          latest = tell-both i.since d.deeds events others did later i.latest d.tell;
          all = tell-more i.before i.since d.deeds all_events others all_did later i.all d.tell;
          in_order = writing.holds;
          peer = writing.comes;
          up_in_order = passing.holds;
          up = passing.comes;
          of_one = λ up.
              let one = i.of_one (d.on up).was in
              record {
                later = one.later ++ d.deeds;
                is = ap (λ (ds : List Deed). ds ++ d.deeds) one.is;
                none = none-append one.later d.deeds one.none (go-none settings d.deeds d.going.go_on);
                behind = one.behind ++ d.deeds;
                header = ap (λ (ds : List Deed). ds ++ d.deeds) one.header;
                frames =
                    subst (λ (x : Settings). KeepToFrames x (one.behind ++ d.deeds)) (sym kept)
                    (go-append settings one.behind d.deeds
                    (subst (λ (x : Settings). KeepToFrames x one.behind) was one.frames) d.going.go_on);
              };
        }

    -- the connection begins anew, where it isn't up
    connects : (new : State S) → is_up old.phase ≡ false → new ≡ connected does old → Was → Is Connect done new
    connects new down after i =
        let anew_deeds : List Deed = Renews ∷ Queues the_header ∷ [] in
        let writing : Writing None ((i.before ++ i.since) ++ anew_deeds) None =
        writing-both None old.peer_limit None (i.before ++ i.since) anew_deeds
        (record { holds = i.in_order; comes = i.peer }) (record { holds = (tt, (tt, tt)); comes = refl }) in
        let passing : Along up_behind MayPass false ((i.before ++ i.since) ++ anew_deeds) true =
        along-both up_behind MayPass false (is_up old.phase) true (i.before ++ i.since) anew_deeds
        (record { holds = i.up_in_order; comes = i.up }) (record { holds = (down, (tt, tt)); comes = refl }) in
        subst (λ (s : State S). Is Connect done s) (sym after)
        (record {
          before = i.before ++ i.since;
          since = anew_deeds;
          are_done =
              done-append start old.sessions (anew does old.sessions) (i.before ++ i.since) anew_deeds i.are_done
              (anew does old.sessions, refl, (anew does old.sessions, refl, refl));
          passes = λ up. record {
            queued = refl;
            read = (refl, refl);
            once = (tt, (λ e. refl, tt));
            closed = refl;
          };
          latest = record { told = refl; calls = refl };
          all =
              tell-both (i.before ++ i.since) anew_deeds all_events [] all_did [] i.all
              (record { told = refl; calls = refl });
          in_order = writing.holds;
          peer = writing.comes;
          up_in_order = passing.holds;
          up = passing.comes;
          of_one = λ up. record {
            later = Queues the_header ∷ [];
            is = refl;
            none = tt;
            behind = [];
            header = refl;
            frames = tt;
          };
        })

    quiet : (new : State S) → new.settings ≡ settings → Did old [] [] [] [] new → Was
        → Done old.settings.max_frame_size start (given ++ []) (bytes ++ []) (events ++ []) (did ++ [])
        (all_events ++ []) (all_did ++ []) new
    quiet new kept d i = further [] [] [] [] new kept d i

    unchanged : (new : State S) → new.settings ≡ settings → new ≡ old → Was
        → Done old.settings.max_frame_size start (given ++ []) (bytes ++ []) (events ++ []) (did ++ [])
        (all_events ++ []) (all_did ++ []) new
    unchanged new kept same i = quiet new kept (stays old new same) i

    by-sessions : (call : Call) (answer : Said) (new : State S) → new.settings ≡ settings
        → Did old [] [] (events_of answer) ((call, answer) ∷ []) new → Was
        → Done old.settings.max_frame_size start (given ++ []) (bytes ++ []) (events ++ events_of answer)
        (did ++ (call, answer) ∷ []) (all_events ++ events_of answer) (all_did ++ (call, answer) ∷ []) new
    by-sessions call answer new kept d i =
        further [] [] (events_of answer) ((call, answer) ∷ []) new kept d i

    refusing : (call : Call) (e : EndpointError) (new : State S) → new.settings ≡ settings → new ≡ old → Was
        → Is call (refused e) new
    refusing Connect e new kept same i = unchanged new kept same i
    refusing (Feed more) e new kept same i = unchanged new kept same i
    refusing call e new kept same i = unchanged new kept same i

    does-it : (call : Call) (answer : Said) (new : State S) → new.settings ≡ settings
        → SessionsDo does old call answer new → Was
        → Done old.settings.max_frame_size start (given ++ []) (bytes ++ []) (events ++ events_of answer)
        (did ++ (call, answer) ∷ []) (all_events ++ events_of answer) (all_did ++ (call, answer) ∷ []) new
    does-it call answer new kept s i = by-sessions call answer new kept (does-call old call answer new s) i

    answers-it : (call : Call) (answer : Said) (new : State S) → new.settings ≡ settings
        → SessionsAnswer does old call answer new → Was
        → Done old.settings.max_frame_size start (given ++ []) (bytes ++ []) (events ++ events_of answer)
        (did ++ (call, answer) ∷ []) (all_events ++ events_of answer) (all_did ++ (call, answer) ∷ []) new
    answers-it call answer new kept s i = by-sessions call answer new kept (answers-call old call answer new s) i

    step : (call : Call) (answer : Said) (new : State S) → new.settings ≡ settings → Step does old call answer new → Was
        → Is call answer new
    step call (refused e) new kept (may, same) i = refusing call e new kept same i
    step (Feed more) (fed told fault) new kept s i =
        further [] more told [] new kept (feeds-in old.phase old more told fault new was refl s) i
    step Connect done new kept (may, after) i = connects new (not-up old.phase may) after i
    step Pull (pulled None) new kept (empty, same) i = unchanged new kept same i
    step Pull (pulled (Some text)) new kept (first, others, is, said_so, after) i =
        subst
        (λ (t : List ℕ).
        Done old.settings.max_frame_size start (given ++ t ∷ []) (bytes ++ []) (events ++ []) (did ++ [])
        (all_events ++ []) (all_did ++ []) new)
        (sym said_so) (further (first ∷ []) [] [] [] new kept (pulls old first others new is after) i)
    step Queued (count n) new kept (is, same) i = unchanged new kept same i
    step IsIdle (truth b) new kept (is, same) i = unchanged new kept same i
    step Heartbeat done new kept (none, after) i = quiet new kept (beats old new after) i
    step BreakOff done new kept b i = quiet new kept (broken old [] new b) i
    step CloseCall done new kept (none, closes, after) i =
        quiet new kept (sends-own-close old new (may-close (has_opened old.phase) old.own_close none) closes after) i
    step IsClosed (truth b) new kept (is, same) i = unchanged new kept same i
    step TryClose (tried_close o) new kept (is, after) i =
        quiet new kept
        (subst (λ (t : State S). Did old [] [] [] [] t) (sym after)
        (quietly old [] [] _ refl refl refl (append-nil old.queue) refl tell-nothing
        (closing-none old.own_close) (writing-none old.peer_limit) (going-none (is_up old.phase)))) i
    step Begin (session_begun n) new kept s i = does-it _ _ new kept s i
    step (AcceptBegin c) (session_begun n) new kept s i = does-it _ _ new kept s i
    step (End n) done new kept s i = does-it _ _ new kept s i
    step (TryEnd n) (tried_end o) new kept s i = does-it _ _ new kept s i
    step (AttachSender n asked) (attaching link told) new kept s i = does-it _ _ new kept s i
    step (AttachReceiver n asked) (attaching link told) new kept s i = does-it _ _ new kept s i
    step (Resume link n) (attaching number told) new kept s i = does-it _ _ new kept s i
    step (Detach link) done new kept s i = does-it _ _ new kept s i
    step (CloseLink link) (link_closed told) new kept s i = does-it _ _ new kept s i
    step (Grant link n) (credit_is left) new kept s i = does-it _ _ new kept s i
    step (Drain link) done new kept s i = does-it _ _ new kept s i
    step (Send link message) (message_sent tag outcome) new kept s i = does-it _ _ new kept s i
    step (Dispose link message disposal) done new kept s i = does-it _ _ new kept s i
    step (DisposeAll link messages disposal) done new kept s i = does-it _ _ new kept s i
    step (IsEnded n) (truth b) new kept s i = answers-it _ _ new kept s i
    step (Credit link) (credit_is left) new kept s i = answers-it _ _ new kept s i
    step (HeldBack n) (count m) new kept s i = answers-it _ _ new kept s i
    step (WaitingCall n) (waiting turn) new kept s i = answers-it _ _ new kept s i
    step call answer new kept s i = absurd s

  run-done : (start : S) (given : List (List ℕ)) (bytes : List ℕ) (events : List Event) (did : List (Call × Said))
      (all_events : List Event) (all_did : List (Call × Said)) (limit : ℕ) (old end : State S) (calls : List Call)
      (told : List Told) → old.settings ≡ settings → settings.max_frame_size ≡ limit → Run does old calls told end
      → Done limit start given bytes events did all_events all_did old
      → Done limit start (pulled_since given calls told) (fed_since bytes calls told) (told_since events calls told)
      (done_since did calls told) (all_events ++ events_told told) (all_did ++ calls_done calls told) end
  run-done start given bytes events did all_events all_did limit old end [] [] was is same i =
      subst (λ (es : List Event). Done limit start given bytes events did es (all_did ++ []) end)
      (sym (append-nil all_events))
      (subst (λ (cs : List (Call × Said)). Done limit start given bytes events did all_events cs end)
      (sym (append-nil all_did))
      (subst (λ (s : State S). Done limit start given bytes events did all_events all_did s) (sym same) i))
  run-done start given bytes events did all_events all_did limit old end [] (t ∷ ts) was is run i = absurd run
  run-done start given bytes events did all_events all_did limit old end (call ∷ calls) [] was is run i = absurd run
  run-done start given bytes events did all_events all_did limit old end (call ∷ calls) (t ∷ ts) was is
      (mid, one, queued, rest) i =
      let kept : mid.settings ≡ settings = step-settings does old call t.answer mid one ∙ was in
      let least : old.settings.max_frame_size ≡ limit = ap (λ (x : Settings). x.max_frame_size) was ∙ is in
      let given_now : List (List ℕ) = note given_by given call t.answer in
      let bytes_now : List ℕ = note fed_by bytes call t.answer in
      let events_now : List Event = note (λ (c : Call). events_of) events call t.answer in
      let did_now : List (Call × Said) = note call_done did call t.answer in
      let seen : List Event = all_events ++ events_of t.answer in
      let gone : List (Call × Said) = all_did ++ call_done call t.answer in
      let first : Done limit start given_now bytes_now events_now did_now seen gone mid =
      subst (λ (n : ℕ). Done n start given_now bytes_now events_now did_now seen gone mid) least
      (step start given bytes events did all_events all_did old was call t.answer mid kept one
      (subst (λ (n : ℕ). Done n start given bytes events did all_events all_did old) (sym least) i)) in
      let all = run-done start given_now bytes_now events_now did_now seen gone limit mid end calls ts
      kept is rest first in
      subst
      (λ (es : List Event).
      Done limit start (pulled_since given_now calls ts) (fed_since bytes_now calls ts)
      (told_since events_now calls ts) (done_since did_now calls ts) es
      (all_did ++ (call_done call t.answer ++ calls_done calls ts)) end)
      (append_assoc all_events (events_of t.answer) (events_told ts))
      (subst
      (λ (cs : List (Call × Said)).
      Done limit start (pulled_since given_now calls ts) (fed_since bytes_now calls ts)
      (told_since events_now calls ts) (done_since did_now calls ts) (seen ++ events_told ts) cs end)
      (append_assoc all_did (call_done call t.answer) (calls_done calls ts)) all)

  done-so : (sessions : S) (calls : List Call) (told : List Told) (end : State S)
      → Run does (fresh settings sessions) calls told end
      → Done settings.max_frame_size sessions (pulled_since [] calls told) (fed_since [] calls told)
      (told_since [] calls told) (done_since [] calls told) (events_told told) (calls_done calls told) end
  done-so sessions calls told end run =
      run-done sessions [] [] [] [] [] [] settings.max_frame_size (fresh settings sessions) end calls told refl refl run
      (record {
        before = [];
        since = [];
        are_done = refl;
        passes = λ up. never Unconnected refl up;
        latest = tell-nothing;
        all = tell-nothing;
        in_order = tt;
        peer = refl;
        up_in_order = tt;
        up = refl;
        of_one = λ up. never Unconnected refl up;
      })

pub is-done : {S : Type 0} (does : Relations S) (sessions : S) (settings : Settings) (calls : List Call)
    (told : List Told) (end : State S) → Run does (fresh settings sessions) calls told end
    → IsDone does settings.max_frame_size sessions (pulled_since [] calls told) (fed_since [] calls told)
    (told_since [] calls told) (done_since [] calls told) (events_told told) (calls_done calls told) end
is-done does sessions settings calls told end run = done-so does settings sessions calls told end run
