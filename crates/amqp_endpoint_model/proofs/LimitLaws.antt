-- What is pulled is within the limit of a judge of the wire.
use Rattle.std.proofs.Common.{◌≡◌, ℕ, ◌≤◌, Bool, true, false, List, [], ◌∷◌, ◌++◌, length, refl, sym, ◌∙◌, ap, arith, subst, Option, Some, None, inl, inr}
use Rattle.std.specs.Prelude.{if◌then◌else◌, ◌==◌, ◌||◌, is_none, nat_lt, nat_le, ◌^◌, map, All}
use Rattle.std.proofs.lemmas.Bool.Decides.{nat_tests}
use Rattle.std.proofs.lemmas.List.Elements.{All-head, All-tail}
use Rattle.amqp_session_types.specs.declared.refusals.ConnectionError.{ConnectionError}
use Rattle.amqp_session_types.specs.declared.refusals.ConnectionError.TheVariants.{NotFound}
use Rattle.amqp_session_performatives.specs.declared.session_frame.SessionFrame.{SessionFrame}
use Rattle.amqp_session_frames.specs.declared.error.Error.{Error as FrameError}
use Rattle.amqp_session_frames.specs.declared.error.Error.TheVariants.{DecodeError}
use Rattle.amqp_session_frames.specs.declared.frame.Frame.{Frame}
use Rattle.amqp_session_frames.specs.declared.frame.FrameBody.{FrameBody}
use Rattle.amqp_session_frames.specs.declared.frame.FrameBody.TheVariants.{Empty, Open, Close}
use Rattle.amqp_session_frames.specs.Text.{frame_text}
use Rattle.amqp_endpoint_model.specs.declared.error.EndpointError.{EndpointError}
use Rattle.amqp_endpoint_model.specs.declared.error.EndpointError.TheVariants.{LimitUnder512, WindowOutOfRange, FrameTooLarge, SizeUnder8, SizeOverLimit, PeerLimitUnder512, Frame as FrameFault, Connection, Session}
use Rattle.amqp_endpoint_model.specs.declared.event.Event.{Event}
use Rattle.amqp_endpoint_model.specs.declared.phase.Phase.{Phase}
use Rattle.amqp_endpoint_model.specs.declared.phase.Phase.TheVariants.{Unconnected, Greeting, Running, Over}
use Rattle.amqp_endpoint_model.specs.declared.settings.Settings.{Settings}
use Rattle.amqp_endpoint_model.specs.declared.call.Call.{Call}
use Rattle.amqp_endpoint_model.specs.declared.call.Call.TheVariants.{Connect, Feed, Pull, Queued, IsIdle, Heartbeat}
use Rattle.amqp_endpoint_model.specs.declared.call.Call.TheVariants.{BreakOff, Close as CloseCall, IsClosed, TryClose}
use Rattle.amqp_endpoint_model.specs.declared.call.Call.TheVariants.{Begin, AcceptBegin, End, IsEnded, TryEnd}
use Rattle.amqp_endpoint_model.specs.declared.call.Call.TheVariants.{AttachSender, AttachReceiver, Detach, CloseLink}
use Rattle.amqp_endpoint_model.specs.declared.call.Call.TheVariants.{Grant, Drain, Credit, HeldBack}
use Rattle.amqp_endpoint_model.specs.declared.call.Call.TheVariants.{Waiting as WaitingCall}
use Rattle.amqp_endpoint_model.specs.declared.call.Call.TheVariants.{Resume, Send, Dispose, DisposeAll}
use Rattle.amqp_endpoint_model.specs.Relay.{Relations}
use Rattle.amqp_endpoint_model.specs.Said.{Said, done, refused, fed, pulled, count, truth, tried_close, session_begun}
use Rattle.amqp_endpoint_model.specs.Said.{tried_end, attaching, link_closed, credit_is, waiting, message_sent, Told}
use Rattle.amqp_endpoint_model.specs.State.{State, Waiting, the_frame, text_of, fresh, written, text_or_nothing, text_fits, fits, frame_of, waiting_of, own_open, own_close_with, heartbeat, error_of, limit_of}
use Rattle.amqp_endpoint_model.specs.Step.{TakesBody, TakesAll, AfterFault, EndsRunning, Ends, ReadsOn, Greets, FeedsIn, opened, cut_off, faulted, condition_of, condition_of_frame, condition_of_connection, framing_error, decode_error, not_allowed, not_found, refusal_of_settings, Step}
use Rattle.amqp_endpoint_model.specs.History.{Run, Summary, nothing, note, IsWithin, KeepsLimit}
use Rattle.amqp_endpoint_model.proofs.Keeping.{fresh-stands, step-settings}
use Rattle.amqp_endpoint_model.proofs.PieceLaws.{Judged, StandsAt, greeting_broken, stands-judged, step-stands}
use Rattle.amqp_endpoint_model.proofs.StandardFacts.{heartbeat_text, close_text, framing_error_text, decode_error_text, not_allowed_text, not_found_text}

-- a text is no longer than this
pub record Fits (limit : ℕ) (text : List ℕ) : Type 0 where
  pub short : length text ≤ limit

abbrev pub AllFit : ℕ → List Waiting → Type 0
AllFit limit [] = Unit {0}
AllFit limit (w ∷ ws) = Fits limit (text_of w) × AllFit limit ws

fits-more : (small large : ℕ) (text : List ℕ) → small ≤ large → Fits small text → Fits large text
fits-more small large text le f = record { short = omega (arith, le, f.short) }

all-more : (small large : ℕ) (ws : List Waiting) → small ≤ large → AllFit small ws → AllFit large ws
all-more small large [] le h = tt
all-more small large (w ∷ ws) le h = (fits-more small large (text_of w) le h.0, all-more small large ws le h.1)

all-append : (limit : ℕ) (ws vs : List Waiting) → AllFit limit ws → AllFit limit vs → AllFit limit (ws ++ vs)
all-append limit [] vs h k = k
all-append limit (w ∷ ws) vs h k = (h.0, all-append limit ws vs h.1 k)

-- a short text behind the others
all-push : (limit : ℕ) (ws : List Waiting) (w : Waiting) → 512 ≤ limit → AllFit limit ws → Fits 512 (text_of w)
    → AllFit limit (ws ++ w ∷ [])
all-push limit ws w least h s = all-append limit ws (w ∷ []) h (fits-more 512 limit (text_of w) least s, tt)

heartbeat-short : Fits 512 (written heartbeat)
heartbeat-short = record { short = omega (arith, ap length heartbeat_text) }

close-short : Fits 512 (written (own_close_with None))
close-short = record { short = omega (arith, ap length close_text) }

framing_error-short : Fits 512 (written (own_close_with (Some (error_of framing_error))))
framing_error-short = record { short = omega (arith, ap length framing_error_text) }

decode_error-short : Fits 512 (written (own_close_with (Some (error_of decode_error))))
decode_error-short = record { short = omega (arith, ap length decode_error_text) }

not_allowed-short : Fits 512 (written (own_close_with (Some (error_of not_allowed))))
not_allowed-short = record { short = omega (arith, ap length not_allowed_text) }

not_found-short : Fits 512 (written (own_close_with (Some (error_of not_found))))
not_found-short = record { short = omega (arith, ap length not_found_text) }

condition-short : (e : FrameError) → Fits 512 (written (own_close_with (Some (error_of (condition_of_frame e)))))
condition-short DecodeError = decode_error-short
condition-short e = not_allowed-short

connection-short : (e : ConnectionError)
    → Fits 512 (written (own_close_with (Some (error_of (condition_of_connection e)))))
connection-short NotFound = not_found-short
connection-short e = not_allowed-short

-- what a frame that fits is written as
text-fits : (limit : ℕ) (text : Option (List ℕ)) → text_fits limit text ≡ true → length (text_or_nothing text) ≤ limit
text-fits limit None fit = cc
text-fits limit (Some text) fit = grind (arith, nat_tests)

written-fits : (limit : ℕ) (f : Frame) → fits limit f ≡ true → Fits limit (written f)
unfolding written
written-fits limit f fit = record { short = text-fits limit (frame_text f) fit }

-- what the sessions send
frames-fit : (limit : ℕ) (fs : List SessionFrame) → All (λ f. fits limit (frame_of f) ≡ true) fs
    → AllFit limit (map waiting_of fs)
frames-fit limit [] h = tt
frames-fit limit (f ∷ fs) h = (
  written-fits limit (frame_of f) (All-head (λ (g : SessionFrame). fits limit (frame_of g) ≡ true) f fs h),
  frames-fit limit fs (All-tail (λ (g : SessionFrame). fits limit (frame_of g) ≡ true) f fs h),
)

-- what the settings promise
open-fits : (b : Bool) → (if b then None else Some FrameTooLarge) ≡ None → b ≡ true
open-fits true e = refl
open-fits false e = cc

past : (b : Bool) (x : EndpointError) (o : Option EndpointError) → (if b then Some x else o) ≡ None → o ≡ None
past true x o e = cc
past false x o e = e

pub open-short : (s : Settings) → refusal_of_settings s ≡ None → Fits 512 (written (own_open s))
open-short s ok =
    let a = past (nat_lt s.max_frame_size 512) LimitUnder512 _ ok in
    let b = past (s.incoming_window == 0) WindowOutOfRange _ a in
    let c = past (nat_le (2 ^ 31) s.incoming_window) WindowOutOfRange _ b in
    written-fits 512 (own_open s) (open-fits (fits 512 (own_open s)) c)

with_close-fits : (limit : ℕ) (own_close : Bool) (queue : List Waiting) (close : Frame) → 512 ≤ limit
    → AllFit limit queue → Fits 512 (written close)
    → AllFit limit (if own_close then queue else queue ++ the_frame close ∷ [])
with_close-fits limit true queue close least h s = h
with_close-fits limit false queue close least h s = all-push limit queue (the_frame close) least h s

tail-fits : (limit : ℕ) (queue : List Waiting) (first : Waiting) (others : List Waiting) → queue ≡ first ∷ others
    → AllFit limit queue → Fits limit (text_of first) × AllFit limit others
tail-fits limit queue first others is h = let P : List Waiting → Type 0 = λ x. AllFit limit x in subst P is h

-- what waits fits the limit of written frames
pub record QueueFits {S : Type 0} (s : State S) : Type 0 where
  pub all : AllFit (limit_of s.peer_limit) s.queue
  pub least : 512 ≤ limit_of s.peer_limit

module _ {S : Type 0} where
  to : (s t : State S) → t ≡ s → QueueFits s → QueueFits t
  to s t same h = let P : State S → Type 0 = λ x. QueueFits x in subst P (sym same) h

  cut_off-fits : (s new : State S) → QueueFits s → new ≡ cut_off s new.sessions → QueueFits new
  cut_off-fits s new h after = to (cut_off s new.sessions) new after (record { all = tt; least = h.least })

  faulted-fits : (condition : List ℕ) (s new : State S) → QueueFits s
      → Fits 512 (written (own_close_with (Some (error_of condition)))) → new ≡ faulted condition s new.sessions
      → QueueFits new
  faulted-fits condition s new h short after =
      let close : Frame = own_close_with (Some (error_of condition)) in
      to (faulted condition s new.sessions) new after (record {
        all = with_close-fits (limit_of s.peer_limit) s.own_close s.queue close h.least h.all short;
        least = h.least;
      })

  -- a frame without an error is queued
  pushed-fits : (s t : State S) (w : Waiting) → QueueFits s → Fits 512 (text_of w) → t.peer_limit ≡ s.peer_limit
      → t.queue ≡ s.queue ++ w ∷ [] → QueueFits t
  pushed-fits s t w h short same queued =
      let P : Option ℕ → Type 0 = λ o. 512 ≤ limit_of o in
      let Q : Option ℕ → Type 0 = λ o. AllFit (limit_of o) (s.queue ++ w ∷ []) in
      let R : List Waiting → Type 0 = λ x. AllFit (limit_of t.peer_limit) x in
      let all : AllFit (limit_of s.peer_limit) (s.queue ++ w ∷ [])
      = all-push (limit_of s.peer_limit) s.queue w h.least h.all short in
      record { all = subst R (sym queued) (subst Q (sym same) all); least = subst P (sym same) h.least }

  -- what the sessions send is queued
  sent-fits : (s t : State S) (frames : List SessionFrame) → QueueFits s
      → All (λ f. fits (limit_of s.peer_limit) (frame_of f) ≡ true) frames
      → t ≡ record s { sessions = t.sessions; queue = s.queue ++ map waiting_of frames } → QueueFits t
  sent-fits s t frames h fit queued =
      let limit : ℕ = limit_of s.peer_limit in
      to _ t queued (record {
        all = all-append limit s.queue (map waiting_of frames) h.all (frames-fit limit frames fit);
        least = h.least;
      })

  -- the text of what was queued first
  given-fits : (s : State S) (bytes : List ℕ) (first : Waiting) (others : List Waiting) → s.queue ≡ first ∷ others
      → bytes ≡ text_of first → QueueFits s → Fits (limit_of s.peer_limit) bytes
  given-fits s bytes first others is text h =
      let P : List ℕ → Type 0 = λ x. Fits (limit_of s.peer_limit) x in
      subst P (sym text) (tail-fits (limit_of s.peer_limit) s.queue first others is h.all).0

module _ {S : Type 0} (does : Relations S) where
  open-taken-fits : (old : State S) (n : ℕ) (new : State S) → old.peer_limit ≡ None → 512 ≤ n → QueueFits old
      → new ≡ record old { peer_limit = Some n; sessions = new.sessions } → QueueFits new
  open-taken-fits old n new none least h after =
      let P : Option ℕ → Type 0 = λ o. AllFit (limit_of o) old.queue in
      let all : AllFit 512 old.queue = subst P none h.all in
      to (record old { peer_limit = Some n; sessions = new.sessions }) new after
      (record { all = all-more 512 n old.queue least all; least = least })

  body-fits : (body : FrameBody) (old : State S) (channel : ℕ) (es : List Event) (new : State S) → QueueFits old
      → TakesBody does old channel body es new → QueueFits new
  body-fits Empty old channel es new h (told, same) = to old new same h
  body-fits (Open o) old channel es new h (none, least, told, moves, after) =
      open-taken-fits old o.max_frame_size new none least h after
  body-fits (Close c) old channel es new h (told, both, after) = to _ new after (record {
    all = with_close-fits (limit_of old.peer_limit) old.own_close old.queue (own_close_with None) h.least h.all
        close-short;
    least = h.least;
  })
  body-fits body old channel es new h t = sent-fits old new t.frames h t.fit t.queued

  all-fit : (old : State S) (fs : List Frame) (es : List Event) (new : State S) → QueueFits old
      → TakesAll does old fs es new → QueueFits new
  all-fit old [] es new h (none, same) = to old new same h
  all-fit old (f ∷ fs) es new h (mid, first, others, one, all, split) =
      all-fit mid fs others new (body-fits f.body old f.channel first mid h one.1) all

  fault-fits : (e : EndpointError) (s new : State S) → QueueFits s → AfterFault does (condition_of e) s new
      → QueueFits new
  fault-fits SizeUnder8 s new h (closes, after) = faulted-fits framing_error s new h framing_error-short after
  fault-fits SizeOverLimit s new h (closes, after) = faulted-fits framing_error s new h framing_error-short after
  fault-fits PeerLimitUnder512 s new h (closes, after) = faulted-fits framing_error s new h framing_error-short after
  fault-fits (FrameFault e) s new h (closes, after) =
      faulted-fits (condition_of_frame e) s new h (condition-short e) after
  fault-fits (Connection e) s new h (closes, after) =
      faulted-fits (condition_of_connection e) s new h (connection-short e) after
  fault-fits (Session e) s new h (closes, after) = faulted-fits not_allowed s new h not_allowed-short after
  fault-fits e s new h (finishes, after) = cut_off-fits s new h after

  running-fits : (mid : State S) (left : List ℕ) (fault : Option EndpointError) (new : State S) → QueueFits mid
      → EndsRunning does mid left fault new → QueueFits new
  running-fits mid left None new h (waits, after) =
      to (record mid { rest = left }) new after (record { all = h.all; least = h.least })
  running-fits mid left (Some e) new h r =
      fault-fits e (record mid { sessions = r.sessions }) new (record { all = h.all; least = h.least }) r.after

  ends-fit : (p : Phase) (mid : State S) (left : List ℕ) (fault : Option EndpointError) (new : State S) → QueueFits mid
      → Ends does mid p left fault new → QueueFits new
  ends-fit Running mid left fault new h e = running-fits mid left fault new h e
  ends-fit Over mid left None new h e = to mid new e h
  ends-fit Over mid left (Some f) new h e = absurd e
  ends-fit p mid left fault new h e = absurd e

  reads_on-fits : (old : State S) (bytes : List ℕ) (es : List Event) (fault : Option EndpointError) (new : State S)
      → QueueFits old → ReadsOn does old bytes es fault new → QueueFits new
  reads_on-fits old bytes es fault new h r =
      let start : State S = record old { rest = [] } in
      let mid : QueueFits r.mid = all-fit start r.frames es r.mid (record { all = h.all; least = h.least }) r.taken in
      ends-fit r.mid.phase r.mid r.left fault new mid r.ends

  greets-fit : (old : State S) (bytes : List ℕ) (es : List Event) (fault : Option EndpointError) (new : State S)
      → Fits 512 (written (own_open old.settings)) → QueueFits old → Greets does old bytes es fault new → QueueFits new
  greets-fit old bytes es fault new o h (inl (short, none, clean, after)) =
      to (record old { rest = bytes }) new after (record { all = h.all; least = h.least })
  greets-fit old bytes es fault new o h (inr (inl (long, other, none, is, breaks))) = cut_off-fits old new h breaks.1
  greets-fit old bytes es fault new o h (inr (inr (inl (header, r)))) =
      let own : Waiting = the_frame (own_open old.settings) in
      let start : QueueFits (opened does old) = pushed-fits old (opened does old) own h o refl refl in
      reads_on-fits (opened does old) _ es fault new start r
  greets-fit old bytes es fault new o h (inr (inr (inr (none, memory, breaks)))) =
      cut_off-fits old new h (greeting_broken does old new breaks)

  feed-fits : (p : Phase) (old : State S) (bytes : List ℕ) (es : List Event) (fault : Option EndpointError)
      (new : State S) → Fits 512 (written (own_open old.settings)) → QueueFits old
      → FeedsIn does p old bytes es fault new → QueueFits new
  feed-fits Unconnected old bytes es fault new o h (none, is, after) = to old new after h
  feed-fits Greeting old bytes es fault new o h g = greets-fit old (old.rest ++ bytes) es fault new o h g
  feed-fits Running old bytes es fault new o h r = reads_on-fits old _ es fault new h r
  feed-fits Over old bytes es fault new o h (none, is, after) = to old new after h

  step-fits : (old : State S) (call : Call) (answer : Said) (new : State S) → Fits 512 (written (own_open old.settings))
      → QueueFits old → Step does old call answer new → QueueFits new
  step-fits old call (refused e) new o h (may, same) = to old new same h
  step-fits old (Feed bytes) (fed es fault) new o h step = feed-fits old.phase old bytes es fault new o h step
  step-fits old Connect done new o h (none, after) =
      to _ new after (record { all = (record { short = omega arith }, tt); least = omega arith })
  step-fits old Pull (pulled None) new o h (empty, same) = to old new same h
  step-fits old Pull (pulled (Some bytes)) new o h (first, others, is, text, after) =
      to (record old { queue = others }) new after (record {
        all = (tail-fits (limit_of old.peer_limit) old.queue first others is h.all).1;
        least = h.least;
      })
  step-fits old Queued (count n) new o h (is, same) = to old new same h
  step-fits old IsIdle (truth b) new o h (is, same) = to old new same h
  step-fits old Heartbeat done new o h (none, after) =
      pushed-fits old new (the_frame heartbeat) h heartbeat-short (ap (λ s. s.peer_limit) after)
      (ap (λ s. s.queue) after)
  step-fits old BreakOff done new o h breaks = cut_off-fits old new h breaks.1
  step-fits old CloseCall done new o h (none, closes, after) =
      pushed-fits old new (the_frame (own_close_with None)) h close-short (ap (λ s. s.peer_limit) after)
      (ap (λ s. s.queue) after)
  step-fits old IsClosed (truth b) new o h (is, same) = to old new same h
  step-fits old TryClose (tried_close x) new o h (is, after) =
      to (record old { close_told = old.close_told || is_none x }) new after (record { all = h.all; least = h.least })
  step-fits old Begin (session_begun number) new o h step = sent-fits old new step.frames h step.fit step.queued
  step-fits old (AcceptBegin channel) (session_begun number) new o h step =
      sent-fits old new step.frames h step.fit step.queued
  step-fits old (End number) done new o h step = sent-fits old new step.frames h step.fit step.queued
  step-fits old (IsEnded number) (truth b) new o h step = to old new step.same h
  step-fits old (TryEnd number) (tried_end x) new o h step = sent-fits old new step.frames h step.fit step.queued
  step-fits old (AttachSender session settings) (attaching link events) new o h step =
      sent-fits old new step.frames h step.fit step.queued
  step-fits old (AttachReceiver session settings) (attaching link events) new o h step =
      sent-fits old new step.frames h step.fit step.queued
  step-fits old (Resume link session) (attaching number events) new o h step =
      sent-fits old new step.frames h step.fit step.queued
  step-fits old (Detach link) done new o h step =
      sent-fits old new step.frames h step.fit step.queued
  step-fits old (CloseLink link) (link_closed events) new o h step =
      sent-fits old new step.frames h step.fit step.queued
  step-fits old (Grant link credit) (credit_is left) new o h step =
      sent-fits old new step.frames h step.fit step.queued
  step-fits old (Drain link) done new o h step =
      sent-fits old new step.frames h step.fit step.queued
  step-fits old (Send link message) (message_sent tag outcome) new o h step =
      sent-fits old new step.frames h step.fit step.queued
  step-fits old (Dispose link message disposal) done new o h step =
      sent-fits old new step.frames h step.fit step.queued
  step-fits old (DisposeAll link messages disposal) done new o h step =
      sent-fits old new step.frames h step.fit step.queued
  step-fits old (Credit link) (credit_is left) new o h step = to old new step.same h
  step-fits old (HeldBack session) (count n) new o h step = to old new step.same h
  step-fits old (WaitingCall session) (waiting turn) new o h step = to old new step.same h
  step-fits old call answer new o h step = absurd step

  pull-within : (most : ℕ) (σ : Summary) (s : State S) (bytes : List ℕ) (first : Waiting) (others : List Waiting)
      → StandsAt does most σ s → QueueFits s → s.queue ≡ first ∷ others → bytes ≡ text_of first
      → IsWithin σ.fed (pulled (Some bytes))
  pull-within most σ s bytes first others stands h is text limit j =
      let judged : Judged s.peer_limit σ = stands-judged does s.phase most s.rest s.peer_limit σ stands in
      let fit : Fits (limit_of s.peer_limit) bytes = given-fits s bytes first others is text h in
      omega (arith, fit.short, judged.no_more limit j)

  step-within : (most : ℕ) (σ : Summary) (old : State S) (call : Call) (answer : Said) (new : State S)
      → StandsAt does most σ old → QueueFits old → Step does old call answer new → IsWithin σ.fed answer
  step-within most σ old Pull (pulled (Some bytes)) new stands h (first, others, is, text, after) =
      pull-within most σ old bytes first others stands h is text
  step-within most σ old call (pulled (Some text)) new stands h step = absurd step
  step-within most σ old call answer new stands h step = tt

  run-within : (most : ℕ) (σ : Summary) (old : State S) (calls : List Call) (ts : List Told) (new : State S)
      → old.settings.max_frame_size ≡ most → Fits 512 (written (own_open old.settings)) → StandsAt does most σ old
      → QueueFits old → Run does old calls ts new → KeepsLimit σ calls ts
  run-within most σ old [] [] new l o stands h run = tt
  run-within most σ old [] (t ∷ ts) new l o stands h run = tt
  run-within most σ old (call ∷ calls) [] new l o stands h run = absurd run
  run-within most σ old (call ∷ calls) (t ∷ ts) new l o stands h (mid, one, queued, rest) =
      let P : Settings → Type 0 = λ x. Fits 512 (written (own_open x)) in
      let kept : mid.settings ≡ old.settings = step-settings does old call t.answer mid one in (
        step-within most σ old call t.answer mid stands h one,
        run-within most (note σ call t.answer) mid calls ts new (ap (λ s. s.max_frame_size) kept ∙ l)
            (subst P (sym kept) o) (step-stands does most σ old call t.answer mid l stands one)
            (step-fits old call t.answer mid o h one) rest,
      )

  -- each answer of bytes is within the judge's limit
  pub limit_kept : (sessions : S) (s : Settings) (calls : List Call) (ts : List Told) (end : State S)
      → refusal_of_settings s ≡ None → Run does (fresh s sessions) calls ts end → KeepsLimit nothing calls ts
  limit_kept sessions s calls ts end ok run =
      let start : QueueFits (fresh s sessions) = record { all = tt; least = omega arith } in
      run-within s.max_frame_size nothing (fresh s sessions) calls ts end refl (open-short s ok)
      (fresh-stands does s sessions) start run
