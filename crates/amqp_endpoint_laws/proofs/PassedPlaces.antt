-- What passes in a session as it goes on, and what all that it does keeps.
use Rattle.std.proofs.Common.{◌≡◌, ◌≢◌, ◌==◌, ◌⊎◌, inl, inr, ℕ, Bool}
use Rattle.std.proofs.Common.{true, false, List, [], ◌∷◌, ◌++◌, Option, Some, None}
use Rattle.std.proofs.Common.{Ok, Err, ap, refl, sym, subst, ◌∙◌}
use Rattle.std.specs.FinMap as map
use Rattle.std.specs.Prelude.{Result, if◌then◌else◌}
use Rattle.std.specs.Global.{Box}
use Rattle.std.proofs.lemmas.Bool.Decides.{eqb_tells}
use Rattle.amqp_session_types.specs.declared.channels.IncomingChannel.{IncomingChannel}
use Rattle.amqp_session_types.specs.declared.channels.OutgoingChannel.{OutgoingChannel}
use Rattle.amqp_session_types.specs.declared.refusals.SessionError.{SessionError}
use Rattle.amqp_session_types.specs.declared.refusals.SessionError.TheVariants.{Memory}
use Rattle.amqp_session_performatives.specs.declared.begin.Begin.{Begin}
use Rattle.amqp_session_performatives.specs.declared.session_frame.SessionFrame.{SessionFrame}
use Rattle.amqp_session_frames.specs.declared.frame.FrameBody.{FrameBody}
use Rattle.amqp_session_frames.specs.declared.frame.FrameBody.TheVariants as body
use Rattle.amqp_session_core.specs.Frames.{Left}
use Rattle.amqp_session_core.specs.State.{State}
use Rattle.amqp_session_core.specs.Steps.{Step, TakesBegin}
use Rattle.amqp_link_base.specs.declared.detached.Detached.{Detached}
use Rattle.amqp_link.specs.declared.relay.AttachTold.{AttachTold}
use Rattle.amqp_link_receiver.specs.declared.answer.Told.{Told}
use Rattle.amqp_endpoint_links.specs.Asked.{Asked as AskedLinks}
use Rattle.amqp_endpoint_links.specs.AskedSession.{asked_by}
use Rattle.amqp_endpoint_links.specs.declared.links.AskedLink.{AskedLink}
use Rattle.amqp_endpoint_links.specs.declared.session.AskedSession.{AskedSession}
use Rattle.amqp_endpoint_attached.specs.Linked.{Linked, gives}
use Rattle.amqp_endpoint_conversation.specs.Beginning.{with_links}
use Rattle.amqp_endpoint_links.specs.Beginning.{Accepted, Begun}
use Rattle.amqp_endpoint_links.specs.Hearing.{Hears, HearsAsked}
use Rattle.amqp_endpoint_links.specs.declared.hearing.LinkPerformative.{LinkPerformative}
use Rattle.amqp_endpoint_links.specs.declared.hearing.PerformativeTaken.{PerformativeTaken}
use Rattle.amqp_endpoint_linking.specs.Linking.{Link, Session, Stood, Talk}
use Rattle.amqp_endpoint_tables.specs.Own.{is_about}
use Rattle.amqp_endpoint_tables.specs.State.{asked_of, live_of, place_at, with_asked, with_live}
use Rattle.amqp_endpoint_tables.specs.Steps.{ChangesAsked, ChangesLive, Step as SessionsStep}
use Rattle.amqp_endpoint_tables.specs.declared.place.Place.TheVariants.{Asked, Live, Ending, Over}
use Rattle.amqp_endpoint_tables.proofs.Owning.{at, same_number}
use Rattle.amqp_endpoint_conversation.specs.Inside.{AcceptsInside, Batches, said_in}
use Rattle.amqp_endpoint_conversation.specs.Windows.{Came, Passing, body_said, went}
use Rattle.amqp_endpoint_laws.specs.Conversing.{SessionsAct}
use Rattle.amqp_endpoint_laws.specs.Passed.{came_in, is_it, sent_in}
use Rattle.amqp_endpoint_laws.specs.Handed.{pieces_come}
use Rattle.amqp_endpoint_laws.specs.Taken.{NoneAttaches}
use Rattle.amqp_endpoint_laws.proofs.GivenUp.{GiveUp}

-- a session that is ending, or over
abbrev pub IsGone : Option Stood → Type 0
IsGone (Some (Ending channel own_end)) = Unit {0}
IsGone (Some (Over peer_end complete)) = Unit {0}
IsGone o = ⊥

-- a session that has begun goes on, accepts these transfers, and this passes: by steps of its own, by what it hears, or
-- by the peer's Begin
pub data GoesBy (accepted : Batches) (old new : State Link) (ps : List Passing) : Type 0 where
  by-steps : (frames : List SessionFrame) → AcceptsInside gives accepted old frames new → ps ≡ went frames
      → GoesBy accepted old new ps
  hears : accepted ≡ [] → (it : LinkPerformative)
      (told : Result (PerformativeTaken AttachTold Told Detached) SessionError)
      (frames : List SessionFrame) (before after : Linked) → told ≢ Err Memory
      → Hears gives before [] it told after frames → before.session ≡ old → after.session ≡ new
      → ps ≡ Came (body_said it) ∷ went frames → GoesBy accepted old new ps
  opens : accepted ≡ [] → (channel : IncomingChannel) (begin : Begin) (base : ℕ) (left : Left)
      (frames : List SessionFrame)
      → Step gives old (TakesBegin channel begin base left frames) new
      → ps ≡ Came (body.Begin begin) ∷ went frames → GoesBy accepted old new ps

-- a link that is asked for by a handle was so before, by the same Attach
pub record WasAsked (asked : AskedLinks) (theirs : ℕ) (link : AskedLink) : Type 0 where
  pub was : AskedLink
  pub there : map.get asked theirs ≡ Some was
  pub same : was.attach ≡ link.attach

-- so it is with each, and its handle leads to no link where it led to none
pub record KeepsAsked (old new : Linked) : Type 0 where
  pub asked : (theirs : ℕ) (link : AskedLink) → map.get new.asked theirs ≡ Some link → WasAsked old.asked theirs link
  pub unled :
      (theirs : ℕ) (link : AskedLink) → map.get new.asked theirs ≡ Some link
      → map.get old.session.routes theirs ≡ None → map.get new.session.routes theirs ≡ None

-- by none of these frames a link attaches by this handle, and none is a transfer on it
abbrev pub AreBeside : ℕ → List FrameBody → Type 0
AreBeside theirs came = NoneAttaches theirs came × (pieces_come theirs came ≡ [])

-- what becomes of the links that are asked for in a session: they stay, and what comes is beside them, or it takes what
-- its peer says
pub data AskedBy (old new : Linked) (ps : List Passing) : Type 0 where
  stays-asked : KeepsAsked old new → ((theirs : ℕ) → AreBeside theirs (came_in ps)) → AskedBy old new ps
  takes-said : (it : LinkPerformative) (told : PerformativeTaken AttachTold Told Detached)
      (frames : List SessionFrame) → Hears gives old [] it (Ok told) new frames
      → ps ≡ Came (body_said it) ∷ went frames → AskedBy old new ps

-- nothing comes as frames are handed out
pub none-came : (frames : List SessionFrame) → came_in (went frames) ≡ []
none-came [] = refl
none-came (frame ∷ frames) = none-came frames

pub stays-by : (old new : Linked) (frames : List SessionFrame) → KeepsAsked old new → AskedBy old new (went frames)
stays-by old new frames keeps =
    stays-asked keeps
    (λ theirs. subst (λ (came : List FrameBody). AreBeside theirs came) (sym (none-came frames)) (tt, refl))

-- a relation of where a session stands, of what passes in it, and of where it stands then, which all that it does keeps
-- by which it accepts such transfers, those that give deliveries up among them
pub record Keeping (Allows : Batches → Type 0) (J : ℕ → Option Stood → List Passing → Option Stood → Type 0)
    : Type 0 where
  pub quiet : (accepted : Batches) → GiveUp accepted → Allows accepted
  pub still : (first : ℕ) (old new : Option Stood) → new ≡ old → J first old [] new
  pub on : (first : ℕ) (a b d : Option Stood) (ps qs : List Passing) → J first a ps b → J first b qs d
      → J first a (ps ++ qs) d
  -- its own side is over, and no link says anything any more
  pub gone : (first : ℕ) (old new : Option Stood) (ps : List Passing) → IsGone new → said_in (sent_in ps) ≡ []
      → J first old ps new
  -- frames of no link pass, by which nothing changes
  pub free : (first : ℕ) (stood : Option Stood) (frames : List SessionFrame) → said_in frames ≡ []
      → J first stood (went frames) stood
  pub live : (first : ℕ) (stood : Stood) (accepted : Batches) (before after : Session) (ps : List Passing)
      → Allows accepted → live_of (Some stood) ≡ Some before
      → GoesBy accepted before.value.session after.value.session ps → AskedBy before.value after.value ps
      → J first (Some stood) ps (Some (with_live stood after))
  -- it refuses what its peer says, and its own side ends by that
  pub fails : (first : ℕ) (stood : Stood) (before after : Session) (ps qs : List Passing) (over : Option Stood)
      → live_of (Some stood) ≡ Some before → GoesBy [] before.value.session after.value.session ps
      → said_in (sent_in qs) ≡ [] → IsGone over → J first (Some stood) (ps ++ qs) over
  pub told : (first : ℕ) (stood : Stood) (before after : Box AskedSession) (it : LinkPerformative)
      → asked_of (Some stood) ≡ Some before → HearsAsked before.value it (Ok tt) after.value
      → J first (Some stood) (Came (body_said it) ∷ []) (Some (with_asked stood after))
  pub asks : (first : ℕ) (channel : IncomingChannel) (asked : Box AskedSession) (begin : Begin)
      → asked.value ≡ asked_by begin → J first None (Came (body.Begin begin) ∷ []) (Some (Asked channel asked))
  pub begins : (first window : ℕ) (channel : OutgoingChannel) (session : Session) (frame : SessionFrame)
      → Begun gives channel first window frame session.value
      → J first None (went (frame ∷ [])) (Some (Live channel session))
  pub accepts : (first window : ℕ) (incoming channel : IncomingChannel) (asked : Box AskedSession)
      (outgoing : OutgoingChannel) (session : Session) (frame : SessionFrame)
      → Accepted gives asked.value outgoing channel first window frame session.value
      → J first (Some (Asked incoming asked)) (went (frame ∷ []))
      (Some (Live outgoing (with_links session asked.value.links)))

pub eq-same : (n : ℕ) → (n == n) ≡ true
eq-same n = by (eqb_tells n n)
  where
    by : (((n == n) ≡ true) × (n ≡ n)) ⊎ (((n == n) ≡ false) × (n ≢ n)) → (n == n) ≡ true
    by (inl p) = p.0
    by (inr p) = absurd (p.1 refl)

module _ {Allows : Batches → Type 0} (J : ℕ → Option Stood → List Passing → Option Stood → Type 0)
    (k : Keeping Allows J) where
  -- in the session with this number this passes, and all others stay
  pub record Passed (m : ℕ) (ps : List Passing) (old new : Talk) : Type 0 where
    pub here :
        J old.first_transfer_number (place_at old.sessions m) ps (place_at new.sessions m)
    pub others :
        (n : ℕ) → (n == m) ≡ false
        → J old.first_transfer_number (place_at old.sessions n) [] (place_at new.sessions n)
    pub first : new.first_transfer_number ≡ old.first_transfer_number

  pub passed-on : (m : ℕ) (ps qs : List Passing) (old mid new : Talk) → Passed m ps old mid → Passed m qs mid new
      → Passed m (ps ++ qs) old new
  passed-on m ps qs old mid new p q =
      let first : ℕ = old.first_transfer_number in
      record {
        here =
            k.on first (place_at old.sessions m) (place_at mid.sessions m) (place_at new.sessions m) ps qs p.here
            (subst (λ (f : ℕ). J f (place_at mid.sessions m) qs (place_at new.sessions m)) p.first q.here);
        others = λ n e.
            k.on first (place_at old.sessions n) (place_at mid.sessions n) (place_at new.sessions n) [] []
            (p.others n e)
            (subst (λ (f : ℕ). J f (place_at mid.sessions n) [] (place_at new.sessions n)) p.first (q.others n e));
        first = q.first ∙ p.first;
      }

  pub none-passed : (m : ℕ) (old new : Talk) → new ≡ old → Passed m [] old new
  none-passed m old new same =
      record {
        here = k.still _ _ _ (ap (λ (t : Talk). place_at t.sessions m) same);
        others = λ n e. k.still _ _ _ (ap (λ (t : Talk). place_at t.sessions n) same);
        first = ap (λ (t : Talk). t.first_transfer_number) same;
      }

  -- frames of no link pass, by which nothing changes
  pub free-passed : (m : ℕ) (frames : List SessionFrame) (talk : Talk) → said_in frames ≡ []
      → Passed m (went frames) talk talk
  free-passed m frames talk free =
      record { here = k.free _ _ frames free; others = λ n e. k.still _ _ _ refl; first = refl }

  -- a step of the sessions that is about no other
  module _ (m : ℕ) (step : SessionsAct) (old new : Talk) (ps : List Passing) where
    pub by-step : ((n : ℕ) → (n == m) ≡ false → is_about n step ≡ false) → SessionsStep old.sessions step new.sessions
        → new ≡ record old { sessions = new.sessions }
        → J old.first_transfer_number (place_at old.sessions m) ps (place_at new.sessions m) → Passed m ps old new
    by-step not-about s rest j =
        record {
          here = j;
          others = λ n e. k.still _ _ _ ((at n old.sessions step new.sessions s).other (not-about n e));
          first = ap (λ (t : Talk). t.first_transfer_number) rest;
        }

  -- from one place to another
  pub judged-at : (first : ℕ) (was is old new : Option Stood) (ps : List Passing) → old ≡ was → new ≡ is
      → J first was ps is → J first old ps new
  judged-at first was is old new ps e f j =
      subst (λ (o : Option Stood). J first o ps new) (sym e)
      (subst (λ (o : Option Stood). J first was ps o) (sym f) j)

  pub going-passed : (m : ℕ) (accepted : Batches) (before after : Session) (old new : Talk) (ps : List Passing)
      → Allows accepted → SessionsStep old.sessions (ChangesLive m before after) new.sessions
      → new ≡ record old { sessions = new.sessions }
      → GoesBy accepted before.value.session after.value.session ps → AskedBy before.value after.value ps
      → Passed m ps old new
  going-passed m accepted before after old new ps allowed s rest g asked =
      let (stood, was, lives, becomes) =
      (at m old.sessions (ChangesLive m before after) new.sessions s).about (eq-same m) in
      by-step m (ChangesLive m before after) old new ps (λ n e. e) s rest
      (judged-at old.first_transfer_number (Some stood) (Some (with_live stood after)) _ _ ps was becomes
      (k.live old.first_transfer_number stood accepted before after ps allowed lives g asked))

  -- it accepts no transfers
  pub live-passed : (m : ℕ) (before after : Session) (old new : Talk) (ps : List Passing)
      → SessionsStep old.sessions (ChangesLive m before after) new.sessions
      → new ≡ record old { sessions = new.sessions }
      → GoesBy [] before.value.session after.value.session ps → AskedBy before.value after.value ps
      → Passed m ps old new
  live-passed m before after old new ps s rest g asked =
      going-passed m [] before after old new ps (k.quiet [] tt) s rest g asked

  pub asked-passed : (m : ℕ) (before after : Box AskedSession) (it : LinkPerformative) (old new : Talk)
      → SessionsStep old.sessions (ChangesAsked m before after) new.sessions
      → new ≡ record old { sessions = new.sessions }
      → HearsAsked before.value it (Ok tt) after.value → Passed m (Came (body_said it) ∷ []) old new
  asked-passed m before after it old new s rest h =
      let (stood, was, lives, becomes) =
      (at m old.sessions (ChangesAsked m before after) new.sessions s).about (eq-same m) in
      by-step m (ChangesAsked m before after) old new (Came (body_said it) ∷ []) (λ n e. e) s rest
      (judged-at old.first_transfer_number (Some stood) (Some (with_asked stood after)) _ _ (Came (body_said it) ∷ [])
      was becomes (k.told old.first_transfer_number stood before after it lives h))

  -- in each session what belongs to it passes
  pub record AllPassed (o : Option ℕ) (ps : List Passing) (old new : Talk) : Type 0 where
    pub all :
        (n : ℕ)
        → J old.first_transfer_number (place_at old.sessions n) (if is_it o n then ps else [])
        (place_at new.sessions n)
    pub first : new.first_transfer_number ≡ old.first_transfer_number

  pub all-passed : (m : ℕ) (ps : List Passing) (old new : Talk) → Passed m ps old new → AllPassed (Some m) ps old new
  all-passed m ps old new p = record { all = λ n. by n (n == m) refl; first = p.first }
    where
      by : (n : ℕ) (b : Bool) → (n == m) ≡ b
          → J old.first_transfer_number (place_at old.sessions n) (if b then ps else []) (place_at new.sessions n)
      by n true e =
          subst
          (λ (k : ℕ). J old.first_transfer_number (place_at old.sessions k) ps (place_at new.sessions k))
          (sym (same_number n m e)) p.here
      by n false e = p.others n e

  -- nothing belongs to any
  pub none-at-all : (o : Option ℕ) (old new : Talk) → ((n : ℕ) → J old.first_transfer_number
      (place_at old.sessions n) [] (place_at new.sessions n))
      → new.first_transfer_number ≡ old.first_transfer_number → AllPassed o [] old new
  none-at-all o old new each first = record { all = λ n. by n (is_it o n); first = first }
    where
      by : (n : ℕ) (b : Bool)
          → J old.first_transfer_number (place_at old.sessions n) (if b then [] else []) (place_at new.sessions n)
      by n true = each n
      by n false = each n

  pub same-at-all : (o : Option ℕ) (ps : List Passing) (old new : Talk) → new ≡ old → ps ≡ [] → AllPassed o ps old new
  same-at-all o ps old new same none =
      subst (λ (qs : List Passing). AllPassed o qs old new) (sym none)
      (none-at-all o old new (λ n. k.still _ _ _ (ap (λ (t : Talk). place_at t.sessions n) same))
      (ap (λ (t : Talk). t.first_transfer_number) same))
