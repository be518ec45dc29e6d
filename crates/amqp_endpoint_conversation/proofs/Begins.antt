-- What an own Begin, an own End and a refusal hand out.
use Rattle.std.proofs.Common.{◌≡◌, ℕ, List, [], ◌∷◌, Option, Some, None, Result, Ok, Err, sym, ap, subst}
use Rattle.std.specs.Prelude.{IfOk, OnErr}
use Rattle.std.specs.Global.{Box}
use Rattle.std.proofs.lemmas.List.Elements.{All-head, All-nil}
use Rattle.amqp_session_types.specs.declared.channels.IncomingChannel.{IncomingChannel}
use Rattle.amqp_session_types.specs.declared.channels.OutgoingChannel.{OutgoingChannel}
use Rattle.amqp_session_types.specs.declared.error.Error.{Error}
use Rattle.amqp_session_types.specs.declared.refusals.BeginError.{BeginError}
use Rattle.amqp_session_types.specs.declared.refusals.SessionError.{SessionError}
use Rattle.amqp_session_performatives.specs.declared.begin.Begin.{Begin}
use Rattle.amqp_session_performatives.specs.declared.session_frame.SessionFrame.{SessionFrame}
use Rattle.amqp_session_core.specs.Relay.{Relations}
use Rattle.amqp_session_core.specs.State.{State}
use Rattle.amqp_endpoint_links.specs.declared.session.SessionFlow.{SessionFlow}
use Rattle.amqp_endpoint_links.specs.declared.asking.AskingSession.{AskingSession}
use Rattle.amqp_endpoint_links.specs.Beginning.{accepted_with}
use Rattle.amqp_endpoint_links.proofs.Standing.{accepted-stands, begun-stands}
use Rattle.amqp_endpoint_conversation.specs.declared.beginning.AcceptRefusal.{AcceptRefusal}
use Rattle.amqp_endpoint_conversation.specs.declared.conversation.Conversation.{Conversation}
use Rattle.amqp_endpoint_conversation.specs.Beginning.{AcceptsHere, BeginsHere, with_links}
use Rattle.amqp_endpoint_conversation.specs.Ending.{EndsHere, end_frame}
use Rattle.amqp_endpoint_fitting.specs.Fits.{QueueFits, QueuesFit}
use Rattle.amqp_endpoint_fitting.specs.Read.{IsRead}
use Rattle.amqp_endpoint_conversation.specs.Going.{FitsIn}
use Rattle.amqp_endpoint_conversation.proofs.Ends.{FitsAbove, begin-above}
use Rattle.amqp_endpoint_conversation.proofs.Handing.{Hands, Holds, end-handed, none-handed, one}
use Rattle.amqp_endpoint_conversation.proofs.Places.{accepts, begins, changes_live, on, stays}

-- where nothing waits, all that waits fits
none-waits : {R : Type 0} (limit : ℕ) (s : State R) → (s.outgoing).queues ≡ [] → FitsIn limit s
none-waits limit s none =
    subst (QueuesFit ((s.fields).channel).0 limit) (sym none)
    (record { each = All-nil (QueueFits ((s.fields).channel).0 limit) })

-- nothing waits in a session that was just accepted
accepted-idle : {R : Type 0} (outgoing : OutgoingChannel) (incoming : IncomingChannel) (begin : Begin)
    (flow : Option SessionFlow) (first window : ℕ) (s : State R)
    → s ≡ accepted_with outgoing incoming begin flow first window → (s.outgoing).queues ≡ []
accepted-idle {R} outgoing incoming begin None first window s is = ap (λ (x : State R). (x.outgoing).queues) is
accepted-idle {R} outgoing incoming begin (Some flow) first window s is =
    ap (λ (x : State R). (x.outgoing).queues) is

module _ {R : Type 0} (P : State R → Type 0) (F : SessionFrame → Type 0) (old new : Conversation R)
    (out out_new : List SessionFrame) where
  pub kept-handed : (new ≡ old) × (out_new ≡ out) → Hands P F old.sessions new.sessions out out_new
  kept-handed kept =
      none-handed P F old.sessions new.sessions out out_new
      (stays (Holds P) old.sessions new.sessions (ap (λ (c : Conversation R). c.sessions) kept.0)) kept.1

  -- an own End, or none
  pub ended-handed : (number : ℕ) (error : Option Error)
      → ((s : State R) (channel : OutgoingChannel) → P s → F (end_frame channel error))
      → (result : Result (Box (AskingSession R)) SessionError)
      → IfOk result (λ session. EndsHere old out number error session new out_new)
      → OnErr result ((new ≡ old) × (out_new ≡ out)) → Hands P F old.sessions new.sessions out out_new
  ended-handed number error says (Ok session) ok kept =
      end-handed P F old new number error session out out_new (λ channel. says (session.value).session channel) ok
  ended-handed number error says (Err e) ok kept = kept-handed kept

module _ {R A T D : Type 0} (gives : Relations R A T D) (limit : ℕ) (old new : Conversation R)
    (out out_new : List SessionFrame) where
  abbrev Handed : Type 0
  Handed = Hands (FitsIn limit) (FitsAbove limit) old.sessions new.sessions out out_new

  begun : (number : ℕ) → BeginsHere gives old out number new out_new → Handed
  begun number b =
      let stands =
      begun-stands gives b.channel old.first_transfer_number old.incoming_window b.frame (b.session).value b.begun in
      record {
        keeps =
            begins (Holds (FitsIn limit)) old.sessions new.sessions number b.channel b.session
            (none-waits limit ((b.session).value).session (ap (λ (s : State R). (s.outgoing).queues) stands.0))
            b.stepped;
        frames = b.frame ∷ [];
        queued = b.queued;
        suit = λ all reads.
            one (FitsAbove limit) b.frame
            (begin-above limit b.channel None old.first_transfer_number old.incoming_window b.frame stands.1
            (All-head IsRead b.frame [] reads));
      }

  accepted : (channel : IncomingChannel) (number : ℕ) → AcceptsHere gives old out channel number new out_new → Handed
  accepted channel number a =
      let wanted = (a.wanted).value in
      let after = with_links a.session wanted.links in
      let stands =
      accepted-stands gives wanted a.outgoing channel old.first_transfer_number old.incoming_window a.frame
      (a.session).value a.accepted in
      let fits : FitsIn limit ((a.session).value).session =
      none-waits limit ((a.session).value).session
      (accepted-idle a.outgoing channel wanted.begin wanted.flow old.first_transfer_number old.incoming_window
      ((a.session).value).session stands.0) in
      record {
        keeps =
            on (Holds (FitsIn limit)) old.sessions a.mid new.sessions
            (accepts (Holds (FitsIn limit)) old.sessions a.mid number a.incoming a.wanted a.outgoing a.session fits
            a.stepped)
            (changes_live (Holds (FitsIn limit)) a.mid new.sessions number a.session after a.taken_over
            (λ holds. holds));
        frames = a.frame ∷ [];
        queued = a.queued;
        suit = λ all reads.
            one (FitsAbove limit) a.frame
            (begin-above limit a.outgoing (Some channel.0) old.first_transfer_number old.incoming_window a.frame
            stands.1 (All-head IsRead a.frame [] reads));
      }

  pub begun-handed : (result : Result ℕ BeginError)
      → IfOk result (λ number. BeginsHere gives old out number new out_new)
      → OnErr result ((new ≡ old) × (out_new ≡ out)) → Handed
  begun-handed (Ok number) ok kept = begun number ok
  begun-handed (Err e) ok kept = kept-handed (FitsIn limit) (FitsAbove limit) old new out out_new kept

  pub accepted-handed : (channel : IncomingChannel) (result : Result ℕ AcceptRefusal)
      → IfOk result (λ number. AcceptsHere gives old out channel number new out_new)
      → OnErr result ((new ≡ old) × (out_new ≡ out)) → Handed
  accepted-handed channel (Ok number) ok kept = accepted channel number ok
  accepted-handed channel (Err e) ok kept = kept-handed (FitsIn limit) (FitsAbove limit) old new out out_new kept
