-- Each end of a world has a run of its own.
use Rattle.std.proofs.Common.{◌≡◌, ℕ, Bool, true, false, List, [], ◌∷◌, ◌++◌, length, take, refl, sym, ◌∙◌, ap, subst, arith, if◌then◌else◌}
use Rattle.amqp_session_frames.specs.Cutting.{joined}
use Rattle.amqp_endpoint_model.specs.declared.call.Call.{Call}
use Rattle.amqp_endpoint_model.specs.Relay.{Relations}
use Rattle.amqp_endpoint_model.specs.Said.{Said, refused, fed, Told}
use Rattle.amqp_endpoint_model.specs.State.{State}
use Rattle.amqp_endpoint_model.specs.Step.{Breaks}
use Rattle.amqp_endpoint_model.specs.History.{Run}
use Rattle.amqp_endpoint_core.specs.declared.step.End.{End}
use Rattle.amqp_endpoint_core.specs.declared.step.End.TheVariants.{A, B}
use Rattle.amqp_endpoint_core.specs.declared.step.Step.{Step}
use Rattle.amqp_endpoint_core.specs.declared.step.Step.TheVariants.{Call as CallAt, Move, Break}
use Rattle.amqp_endpoint_core.specs.WorldState.{WorldState, Way, state_at, stream_to, way_from}
use Rattle.amqp_endpoint_core.specs.WorldSaid.{WorldSaid, called, moved, broken, WorldTold}
use Rattle.amqp_endpoint_core.specs.WorldStep.{BreaksBehind, CallsAs, Carries, Drains, Feeds, WorldStep, WorldRun}
use Rattle.amqp_endpoint_core.specs.WorldStep.{has_broken_off, is_the_worlds, left_by}
use Rattle.amqp_endpoint_core.specs.EndHistory.{break_call, break_told, calls_at, calls_in, feed_call, feed_told}
use Rattle.amqp_endpoint_core.specs.EndHistory.{pull_calls, pulls_told, queued_at, stream_behind, told_at, told_in}
use Rattle.amqp_endpoint_core.proofs.Pullings.{Drains-length}
use Rattle.amqp_endpoint_core.proofs.Breakings.{none_queued, all_pulled, none_left}

module _ {S : Type 0} (does : Relations S) where
  -- one end breaks off, where the world does
  abbrev pub BreaksOne : Bool → State S → State S → Type 0
  BreaksOne true old new = Breaks does old new
  BreaksOne false old new = new ≡ old

  Run-append : (old : State S) (calls : List Call) (ts : List Told) (mid : State S) (more : List Call) (us : List Told)
      (new : State S) → Run does old calls ts mid → Run does mid more us new
      → Run does old (calls ++ more) (ts ++ us) new
  Run-append old [] [] mid more us new same r = let P : State S → Type 0 = λ s. Run does s more us new in subst P same r
  Run-append old [] (t ∷ ts) mid more us new run r = absurd run
  Run-append old (call ∷ calls) [] mid more us new run r = absurd run
  Run-append old (call ∷ calls) (t ∷ ts) mid more us new (next, one, queued, rest) r =
      (next, one, queued, Run-append next calls ts mid more us new rest r)

  pulls_run : (old : State S) (pulled : List (List ℕ)) (new : State S) (n : ℕ) → Drains old pulled new
      → n ≡ length new.queue → Run does old (pull_calls pulled) (pulls_told pulled n) new
  pulls_run old [] new n same is = same
  pulls_run old (bytes ∷ others) new n (mid, one, rest) is =
      (mid, one, omega (arith, is, Drains-length mid others new rest), pulls_run mid others new n rest is)

  feed_run : (said : Said) (piece : List ℕ) (from old new : State S) (n : ℕ) → Feeds does said piece from old new
      → n ≡ length new.queue → Run does old (feed_call piece said) (feed_told said n) new
  feed_run (fed events fault) piece from old new n (all, feeds) is = (new, feeds, is, refl)
  feed_run (refused e) piece from old new n (memory, same) is = same
  feed_run said piece from old new n feeds is = absurd feeds

  break_run : (b : Bool) (old new : State S) (n : ℕ) → BreaksOne b old new → n ≡ length new.queue
      → Run does old (break_call b) (break_told b n) new
  break_run true old new n breaks is = (new, breaks, is, refl)
  break_run false old new n same is = same

  -- how much is queued before a break and behind it
  before_break : (b : Bool) (mid new : State S) (n : ℕ) → (b ≡ true → length mid.queue ≡ 0) → BreaksOne b mid new
      → n ≡ length new.queue → n ≡ length mid.queue
  before_break true mid new n none breaks is = is ∙ none_queued does mid new breaks ∙ sym (none refl)
  before_break false mid new n none same is = is ∙ ap (λ s. length s.queue) same

  call_run : (b : Bool) (old : State S) (call : Call) (said : Said) (new : State S) (n : ℕ)
      → CallsAs does b old call said new → n ≡ length new.queue
      → Run does old (if b then [] else call ∷ []) (if b then [] else record { answer = said; queued = n } ∷ []) new
  call_run true old call said new n (why, same) is = same
  call_run false old call said new n step is = (new, step, is, refl)

  -- a Move is at the sending end its pulls
  sends : (count : ℕ) (pulled : List (List ℕ)) (said : Said) (old mid : Way S) (new : State S) (n : ℕ)
      → Carries does count pulled said old mid → BreaksOne (has_broken_off said) mid.from new → n ≡ length new.queue
      → Run does old.from (pull_calls pulled ++ break_call (has_broken_off said))
      (pulls_told pulled n ++ break_told (has_broken_off said) n) new
  sends count pulled said old mid new n c breaks is =
      Run-append old.from (pull_calls pulled) (pulls_told pulled n) mid.from (break_call (has_broken_off said))
      (break_told (has_broken_off said) n) new
      (pulls_run old.from pulled mid.from n c.pulls
      (before_break (has_broken_off said) mid.from new n
      (λ b. all_pulled does said (take count (old.stream ++ joined pulled)) mid.from old.to mid.to b c.feeds) breaks
      is))
      (break_run (has_broken_off said) mid.from new n breaks is)

  -- and at the other one a feed
  receives : (count : ℕ) (pulled : List (List ℕ)) (said : Said) (old mid : Way S) (new : State S) (n : ℕ)
      → Carries does count pulled said old mid → BreaksOne (has_broken_off said) mid.to new → n ≡ length new.queue
      → Run does old.to
      (feed_call (take count (old.stream ++ joined pulled)) said ++ break_call (has_broken_off said))
      (feed_told said n ++ break_told (has_broken_off said) n) new
  receives count pulled said old mid new n c breaks is =
      let piece = take count (old.stream ++ joined pulled) in
      Run-append old.to (feed_call piece said) (feed_told said n) mid.to (break_call (has_broken_off said))
      (break_told (has_broken_off said) n) new
      (feed_run said piece mid.from old.to mid.to n c.feeds
      (before_break (has_broken_off said) mid.to new n
      (λ b. none_left does said piece mid.from old.to mid.to b c.feeds) breaks is))
      (break_run (has_broken_off said) mid.to new n breaks is)

  -- a break of the world is one of each end
  pub one_breaks : (end : End) (b : Bool) (old new : WorldState S) → BreaksBehind does b old new
      → BreaksOne b (state_at end old) (state_at end new)
  one_breaks A true old new r = r.a
  one_breaks B true old new r = r.b
  one_breaks A false old new same = ap (λ w. w.a) same
  one_breaks B false old new same = ap (λ w. w.b) same

  -- each end's share in a step
  step_run : (end : End) (old : WorldState S) (step : Step) (did : WorldSaid) (n : ℕ) (new : WorldState S)
      → WorldStep does old step did new → n ≡ length (state_at end new).queue
      → Run does (state_at end old) (calls_in end (stream_to end old) step did) (told_in end step did n)
      (state_at end new)
  step_run A old (CallAt A call) (called said) n new (one, rest) is =
      call_run (is_the_worlds call) old.a call said new.a n one is
  step_run A old (CallAt B call) (called said) n new (one, rest) is = ap (λ w. w.a) rest
  step_run B old (CallAt A call) (called said) n new (one, rest) is = ap (λ w. w.b) rest
  step_run B old (CallAt B call) (called said) n new (one, rest) is =
      call_run (is_the_worlds call) old.b call said new.b n one is
  step_run A old (Move A count) (moved bytes said) n new m is =
      sends count bytes said (way_from A old) (way_from A m.mid) new.a n m.carries
      (one_breaks A (has_broken_off said) m.mid new m.behind) is
  step_run A old (Move B count) (moved bytes said) n new m is =
      receives count bytes said (way_from B old) (way_from B m.mid) new.a n m.carries
      (one_breaks A (has_broken_off said) m.mid new m.behind) is
  step_run B old (Move A count) (moved bytes said) n new m is =
      receives count bytes said (way_from A old) (way_from A m.mid) new.b n m.carries
      (one_breaks B (has_broken_off said) m.mid new m.behind) is
  step_run B old (Move B count) (moved bytes said) n new m is =
      sends count bytes said (way_from B old) (way_from B m.mid) new.b n m.carries
      (one_breaks B (has_broken_off said) m.mid new m.behind) is
  step_run A old Break broken n new r is = (new.a, r.a, is, refl)
  step_run B old Break broken n new r is = (new.b, r.b, is, refl)
  step_run end old step did n new s is = absurd s

  stream-behind : (b : Bool) (end : End) (mid new : WorldState S) (xs : List ℕ) → BreaksBehind does b mid new
      → stream_to end mid ≡ xs → stream_to end new ≡ (if b then [] else xs)
  stream-behind true A mid new xs r is = r.to_a
  stream-behind true B mid new xs r is = r.to_b
  stream-behind false end mid new xs same is = ap (λ w. stream_to end w) same ∙ is

  -- what is on its way to an end behind a step
  pub stream-step : (end : End) (old : WorldState S) (step : Step) (did : WorldSaid) (new : WorldState S)
      → WorldStep does old step did new → stream_to end new ≡ stream_behind end (stream_to end old) step did
  stream-step A old (CallAt A call) (called said) new (one, rest) = ap (λ w. w.to_a) rest
  stream-step A old (CallAt B call) (called said) new (one, rest) = ap (λ w. w.to_a) rest
  stream-step B old (CallAt A call) (called said) new (one, rest) = ap (λ w. w.to_b) rest
  stream-step B old (CallAt B call) (called said) new (one, rest) = ap (λ w. w.to_b) rest
  stream-step A old (Move A count) (moved bytes said) new m =
      stream-behind (has_broken_off said) A m.mid new old.to_a m.behind m.back
  stream-step A old (Move B count) (moved bytes said) new m =
      stream-behind (has_broken_off said) A m.mid new (left_by said count (old.to_a ++ joined bytes)) m.behind
      m.carries.leaves
  stream-step B old (Move A count) (moved bytes said) new m =
      stream-behind (has_broken_off said) B m.mid new (left_by said count (old.to_b ++ joined bytes)) m.behind
      m.carries.leaves
  stream-step B old (Move B count) (moved bytes said) new m =
      stream-behind (has_broken_off said) B m.mid new old.to_b m.behind m.back
  stream-step A old Break broken new r = r.to_a
  stream-step B old Break broken new r = r.to_b
  stream-step end old step did new s = absurd s

  queued_is : (end : End) (t : WorldTold) (w : WorldState S) → t.queued_a ≡ length w.a.queue
      → t.queued_b ≡ length w.b.queue → queued_at end t ≡ length (state_at end w).queue
  queued_is A t w a b = a
  queued_is B t w a b = b

  -- each end's run
  pub end_run : (end : End) (old : WorldState S) (steps : List Step) (ts : List WorldTold) (new : WorldState S)
      → WorldRun does old steps ts new
      → Run does (state_at end old) (calls_at end (stream_to end old) steps ts) (told_at end steps ts)
      (state_at end new)
  end_run end old [] [] new same = ap (λ w. state_at end w) same
  end_run end old [] (t ∷ ts) new run = absurd run
  end_run end old (step ∷ steps) [] new run = absurd run
  end_run end old (step ∷ steps) (t ∷ ts) new (mid, one, a, b, rest) =
      let stream = stream_behind end (stream_to end old) step t.did in
      let P : List ℕ → Type 0 = λ xs.
      Run does (state_at end mid) (calls_at end xs steps ts) (told_at end steps ts) (state_at end new) in
      Run-append (state_at end old) (calls_in end (stream_to end old) step t.did)
      (told_in end step t.did (queued_at end t)) (state_at end mid) (calls_at end stream steps ts)
      (told_at end steps ts) (state_at end new)
      (step_run end old step t.did (queued_at end t) mid one (queued_is end t mid a b))
      (subst P (stream-step end old step t.did mid one) (end_run end mid steps ts new rest))
