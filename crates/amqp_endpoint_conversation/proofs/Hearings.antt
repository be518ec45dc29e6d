-- What the peer says in sessions: by which of them it is heard, and the Flow that one tells.
use Rattle.std.proofs.Common.{◌≡◌, inl, inr, ℕ, ◌*◌, ◌≤◌, ◌<◌, List, [], ◌∷◌, ◌++◌, Bool, true, false, Option, Some, None, Result, Err, refl, sym, ap, subst, ◌∙◌}
use Rattle.std.specs.Prelude.{◌≢◌, ◌⊎◌, is_some, option_copied}
use Rattle.std.specs.Borrow.{Bor}
use Rattle.std.specs.Box.{with_value}
use Rattle.std.specs.Global.{Box}
use Rattle.std.proofs.lemmas.Bool.{le-leb, lt-leb}
use Rattle.std.proofs.lemmas.Option.{same_Some}
use Rattle.amqp_session_types.specs.declared.channels.IncomingChannel.{IncomingChannel}
use Rattle.amqp_session_types.specs.declared.error.Error.{Error}
use Rattle.amqp_session_types.specs.declared.refusals.SessionError.{SessionError}
use Rattle.amqp_session_types.specs.declared.refusals.SessionError.TheVariants.{Memory as NoMemory}
use Rattle.amqp_session_performatives.specs.declared.session_frame.SessionFrame.{SessionFrame}
use Rattle.amqp_session_core.specs.Relay.{Relations}
use Rattle.amqp_session_core.specs.State as session
use Rattle.amqp_session_core.specs.Steps as session_steps
use Rattle.amqp_endpoint_links.specs.declared.session.AskedSession.{AskedSession}
use Rattle.amqp_endpoint_links.specs.declared.asking.AskingSession.{AskingSession}
use Rattle.amqp_endpoint_links.specs.declared.hearing.LinkPerformative.{LinkPerformative}
use Rattle.amqp_endpoint_links.specs.declared.hearing.PerformativeTaken.{PerformativeTaken}
use Rattle.amqp_endpoint_links.specs.Hearing.{Hears, HearsAsked}
use Rattle.amqp_endpoint_tables.specs.declared.place.Place.{Place}
use Rattle.amqp_endpoint_tables.specs.Lends.{set_asked, set_live}
use Rattle.amqp_endpoint_tables.specs.State.{asked_at, live_at, live_of, reached}
use Rattle.amqp_endpoint_conversation.specs.declared.conversation.Conversation.{Conversation}
use Rattle.amqp_endpoint_conversation.specs.declared.hearing.Heard.{Heard}
use Rattle.amqp_endpoint_conversation.specs.declared.hearing.HearRefusal.{HearRefusal}
use Rattle.amqp_endpoint_conversation.specs.declared.hearing.HearRefusal.TheVariants.{Memory, NotFound, Asked, Session}
use Rattle.amqp_endpoint_conversation.specs.Beginning.{Sessions}
use Rattle.amqp_endpoint_conversation.specs.Ending.{EndsHere}
use Rattle.amqp_endpoint_conversation.specs.Faults.{fault_error}
use Rattle.amqp_endpoint_conversation.specs.Hearing.{Answered, AnsweredAt, AnsweredIn, AskedAnswered, AskedStays, FlowTold, LiveAnswered, LiveHears, LiveRefuses, Refuses, TellsAt, TellsIf, is_due}
use Rattle.amqp_endpoint_conversation.proofs.Answering.{lives, unasked, unlent}
use Rattle.amqp_endpoint_conversation.proofs.Conditions.{is_for_memory}

module _ {R A T D : Type 0} (gives : Relations R A T D) (old : Sessions R) (out : List SessionFrame) (number : ℕ)
    (before : Box (AskingSession R)) (said : LinkPerformative) (told : Result (PerformativeTaken A T D) SessionError)
    (after : Box (AskingSession R)) (new : Sessions R) (out_new : List SessionFrame)
    (live : live_at old number ≡ Some before)
    (hears : LiveHears gives old out number before said told after new out_new) where
  -- it stands there as it came out of that
  stands : live_at new number ≡ Some after
  stands = ap (λ (s : Sessions R). live_at s number) (hears.stepped).1 ∙ lives old number after before live

  -- where nothing changed it heard so
  pub unchanged : new ≡ old → out_new ≡ out → Hears gives before.value out said told before.value out
  unchanged same queued =
      let is : after ≡ before = same_Some _ _ (sym stands ∙ ap (λ (s : Sessions R). live_at s number) same ∙ live) in
      subst (λ (o : List SessionFrame). Hears gives before.value out said told before.value o) queued
      (subst (λ (b : Box (AskingSession R)). Hears gives before.value out said told b.value out_new) is hears.heard)

  -- where it ends then it is what is handed out
  pub handed_out : (mid : Conversation R) → mid.sessions ≡ new
      → (error : Option Error) (session : Box (AskingSession R))
      (end : Conversation R) (out_end : List SessionFrame) → EndsHere mid out_new number error session end out_end
      → LiveHears gives old out number before said told session mid.sessions out_new
  handed_out mid at error session end out_end ends =
      let is : after ≡ session =
      same_Some _ _
      (sym stands ∙ ap (λ (s : Sessions R). live_at s number) (sym at)
      ∙ ap (λ (o : Option (Place (Box AskedSession) (Box (AskingSession R)))). live_of o) (ends.stepped).0) in
      subst (λ (s : Sessions R). LiveHears gives old out number before said told session s out_new) (sym at)
      (subst (λ (b : Box (AskingSession R)). LiveHears gives old out number before said told b new out_new) is hears)

-- it refuses what it heard
module _ {R A T D : Type 0} (gives : Relations R A T D) (old : Conversation R) (out : List SessionFrame) (number : ℕ)
    (before : Box (AskingSession R)) (said : LinkPerformative) (live : live_at old.sessions number ≡ Some before)
    (e : SessionError) (after : Box (AskingSession R)) (mid : Conversation R) (out_mid : List SessionFrame)
    (hears : LiveHears gives old.sessions out number before said (Err e) after mid.sessions out_mid)
    (rest : mid ≡ record old { sessions = mid.sessions })
    (memory : e ≡ NoMemory → (mid ≡ old) × (out_mid ≡ out)) where
  without-memory : (new : Conversation R) (out_new : List SessionFrame) → new ≡ mid → out_new ≡ out_mid
      → (e ≡ NoMemory) ⊎ (e ≢ NoMemory) → LiveAnswered gives old out number before said (Err Memory) new out_new
  without-memory new out_new same queued (inl is) =
      let kept = memory is in
      inl (
        subst (λ (w : SessionError). Hears gives before.value out said (Err w) before.value out) is
            (unchanged gives old.sessions out number before said (Err e) after mid.sessions out_mid live hears
            (ap (λ (c : Conversation R). c.sessions) kept.0) kept.1),
        same ∙ kept.0,
        queued ∙ kept.1,
      )
  without-memory new out_new same queued (inr fault) =
      inr (record {
        fault = e;
        after = after;
        refuses =
            subst (λ (c : Conversation R). LiveRefuses gives old out number before said e after c out_new) (sym same)
            (subst (λ (o : List SessionFrame). LiveRefuses gives old out number before said e after mid o) (sym queued)
            (record { hears = hears; is_fault = fault; rest = rest }));
      })

  pub refused : (refusal : HearRefusal R) (new : Conversation R) (out_new : List SessionFrame)
      → Refuses mid out_mid number e refusal new out_new
      → LiveAnswered gives old out number before said (Err refusal) new out_new
  refused Memory new out_new r = without-memory new out_new r.0 r.1 (is_for_memory e)
  refused NotFound new out_new r = absurd r
  refused (Asked n why) new out_new r = absurd r
  refused (Session n fault session) new out_new r = (
    r.0,
    record {
      mid = mid;
      out_mid = out_mid;
      refuses =
          record {
            hears =
                subst (λ (w : SessionError). LiveHears gives old.sessions out number before said (Err w) session
                mid.sessions out_mid)
                (sym r.1)
                (handed_out gives old.sessions out number before said (Err e) after mid.sessions out_mid live hears
                mid refl
                (Some (fault_error fault)) session new out_new r.3);
            is_fault = r.2;
            rest = rest;
          };
      ends = r.3;
    },
  )

-- one that the peer asks for refuses it, and stays as it is
module _ {R : Type 0} (old : Conversation R) (number : ℕ) (lent asked : Box AskedSession)
    (there : Some lent ≡ asked_at old.sessions number) (at : asked_at old.sessions number ≡ Some asked) where
  pub asked_stays : (said : LinkPerformative) (e : SessionError) (after : AskedSession) → after ≡ lent.value
      → HearsAsked lent.value said (Err e) after
      → AskedStays old asked said e (record old { sessions = set_asked old.sessions number (with_value lent after) })
  asked_stays said e after kept hears =
      let same : lent ≡ asked = same_Some _ _ (there ∙ at) in (
        subst (λ (b : Box AskedSession). HearsAsked b.value said (Err e) b.value) same
            (subst (λ (s : AskedSession). HearsAsked lent.value said (Err e) s) kept hears),
        ap (λ (s : AskedSession). record old { sessions = set_asked old.sessions number (with_value lent s) }) kept
            ∙ ap (λ (ss : Sessions R). record old { sessions = ss }) (unasked old.sessions number lent (sym there)),
      )

-- whether there is one to be lent
found : {X : Type 0} (r : Option (Bor X)) → is_some (option_copied r) ≡ is_some r
found None = refl
found (Some x) = refl

pub is_there : {X : Type 0} (r : Option (Bor X)) (o : Option X) (b : Bool) → option_copied r ≡ o → b ≡ is_some r
    → is_some o ≡ b
is_there {X = X} r o b e is = ap (λ (x : Option X). is_some x) (sym e) ∙ found r ∙ sym is

-- the session that is reached answers
module _ {R A T D : Type 0} (gives : Relations R A T D) (old : Conversation R) (out : List SessionFrame)
    (channel : IncomingChannel) (said : LinkPerformative) (result : Result (Heard A T D) (HearRefusal R))
    (new : Conversation R) (out_new : List SessionFrame) (number : ℕ)
    (here : reached old.sessions channel.0 ≡ Some number) where
  abbrev At : Option (Box AskedSession) → Option (Box (AskingSession R)) → Type 0
  At asked live = AnsweredAt gives asked live old out number said result new out_new

  in-place : At (asked_at old.sessions number) (live_at old.sessions number)
      → Answered gives old out channel said result new out_new
  in-place at = subst (λ (n : Option ℕ). AnsweredIn gives n old out said result new out_new) (sym here) at

  pub in_asked : is_some (asked_at old.sessions number) ≡ true
      → ((asked : Box AskedSession) → asked_at old.sessions number ≡ Some asked
      → AskedAnswered old number asked said result new)
      → out_new ≡ out → Answered gives old out channel said result new out_new
  in_asked there answers same = in-place (by (asked_at old.sessions number) refl there)
    where
      by : (o : Option (Box AskedSession)) → asked_at old.sessions number ≡ o → is_some o ≡ true
          → At (asked_at old.sessions number) (live_at old.sessions number)
      by None e is = absurd cc
      by (Some asked) e is =
          subst (λ (o : Option (Box AskedSession)). At o (live_at old.sessions number)) (sym e) (answers asked e, same)

  pub in_live : is_some (asked_at old.sessions number) ≡ false → is_some (live_at old.sessions number) ≡ true
      → ((live : Box (AskingSession R)) → live_at old.sessions number ≡ Some live
      → LiveAnswered gives old out number live said result new out_new)
      → Answered gives old out channel said result new out_new
  in_live none there answers = in-place
      (by (asked_at old.sessions number) refl none (live_at old.sessions number) refl there)
    where
      by : (o : Option (Box AskedSession)) → asked_at old.sessions number ≡ o → is_some o ≡ false
          → (p : Option (Box (AskingSession R))) → live_at old.sessions number ≡ p → is_some p ≡ true
          → At (asked_at old.sessions number) (live_at old.sessions number)
      by (Some asked) e is p f has = absurd cc
      by None e is None f has = absurd cc
      by None e is (Some live) f has =
          subst (λ (o : Option (Box AskedSession)). At o (live_at old.sessions number)) (sym e)
          (subst (λ (p : Option (Box (AskingSession R))). At None p) (sym f) (answers live f))

-- whether the Flow of a session is due is told by its window and what was taken
module _ {R A T D : Type 0} (gives : Relations R A T D) (old : Conversation R) (out : List SessionFrame) (number : ℕ)
    (lent : Box (AskingSession R)) (live : live_at old.sessions number ≡ Some lent) (after : session.State R)
    (out_new : List SessionFrame) where
  -- the sessions where it is changed so
  abbrev changed : AskingSession R → Conversation R
  changed s =
      record old { sessions = set_live old.sessions number (with_value lent (record s { session = after })) }

  tells-if : (due : Bool) → is_due gives lent.value ≡ due
      → TellsIf gives due old out number lent (changed lent.value) out_new
      → FlowTold gives old out number (changed lent.value) out_new
  tells-if due e told =
      subst (λ (o : Option (Box (AskingSession R))). TellsAt gives o old out number (changed lent.value) out_new)
      (sym live)
      (subst (λ (b : Bool). TellsIf gives b old out number lent (changed lent.value) out_new) (sym e) told)

  pub tells_due : (s : AskingSession R) → s ≡ lent.value → (frame : SessionFrame)
      → ((s.session).fields).incoming_window ≤ 2 * (s.session).taken
      → session_steps.Step gives s.session (session_steps.TellsFlow frame) after
      → out_new ≡ out ++ frame ∷ [] → FlowTold gives old out number (changed s) out_new
  tells_due s same frame due tells queued =
      (subst (λ (s : AskingSession R). ((s.session).fields).incoming_window ≤ 2 * (s.session).taken
      → session_steps.Step gives s.session (session_steps.TellsFlow frame) after
      → FlowTold gives old out number (changed s) out_new) (sym same)
      (λ due tells. tells-if true (le-leb _ _ due)
      (record {
        after = with_value lent (record lent.value { session = after });
        frame = frame;
        tells = tells;
        links = refl;
        stepped = (live, refl);
        rest = refl;
        queued = queued;
      }))) due tells

  pub tells_none : (s : AskingSession R) → s ≡ lent.value
      → 2 * (s.session).taken < ((s.session).fields).incoming_window → after ≡ s.session
      → out_new ≡ out → FlowTold gives old out number (changed s) out_new
  tells_none s same early kept queued =
      (subst (λ (s : AskingSession R). 2 * (s.session).taken < ((s.session).fields).incoming_window → after ≡ s.session
      → FlowTold gives old out number (changed s) out_new) (sym same)
      (λ early kept. tells-if false (lt-leb _ _ early) (
        ap (λ (t : session.State R). record old {
          sessions = set_live old.sessions number (with_value lent (record lent.value { session = t }));
        }) kept ∙ ap (λ (ss : Sessions R). record old { sessions = ss }) (unlent old.sessions number lent live),
        queued,
      ))) early kept
