-- Steps of the sessions that hand frames out: what holds in each session that has begun goes on to hold, and something
-- holds of each frame.
use Rattle.std.proofs.Common.{◌≡◌, ℕ, List, [], ◌∷◌, ◌++◌, sym, ap, ◌∙◌, append-nil, append_assoc, true}
use Rattle.std.specs.Prelude.{All, Option}
use Rattle.std.specs.Global.{Box}
use Rattle.std.proofs.lemmas.List.Elements.{All-append, All-cons, All-head, All-nil, All-tail}
use Rattle.amqp_session_types.specs.declared.channels.OutgoingChannel.{OutgoingChannel}
use Rattle.amqp_session_types.specs.declared.error.Error.{Error}
use Rattle.amqp_session_performatives.specs.declared.session_frame.SessionFrame.{SessionFrame}
use Rattle.amqp_session_core.specs.State.{State}
use Rattle.amqp_endpoint_links.specs.declared.asking.AskingSession.{AskingSession}
use Rattle.amqp_endpoint_tables.specs.State.{live_of}
use Rattle.amqp_endpoint_conversation.specs.declared.conversation.Conversation.{Conversation}
use Rattle.amqp_endpoint_conversation.specs.Beginning.{Sessions}
use Rattle.amqp_endpoint_conversation.specs.Ending.{EndsHere, end_frame}
use Rattle.amqp_endpoint_fitting.specs.Read.{IsRead}
use Rattle.amqp_endpoint_conversation.proofs.Places.{HoldsIn, Keeps, ends, on}

module _ {X : Type 0} (Q : X → Type 0) where
  -- the parts of a list
  pub in-front : (xs ys : List X) → All Q (xs ++ ys) → All Q xs
  in-front [] ys all = All-nil Q
  in-front (x ∷ xs) ys all =
      All-cons Q x xs (All-head Q x (xs ++ ys) all) (in-front xs ys (All-tail Q x (xs ++ ys) all))

  pub in-back : (xs ys : List X) → All Q (xs ++ ys) → All Q ys
  in-back [] ys all = all
  in-back (x ∷ xs) ys all = in-back xs ys (All-tail Q x (xs ++ ys) all)

  pub one : (x : X) → Q x → All Q (x ∷ [])
  one x holds = All-cons Q x [] holds (All-nil Q)

-- it holds of the session itself
abbrev pub Holds : {R : Type 0} → (State R → Type 0) → Box (AskingSession R) → Type 0
Holds P session = P (session.value).session

module _ {R : Type 0} (P : State R → Type 0) (F : SessionFrame → Type 0) where
  -- what held in each session goes on to hold, the connection stands, and where it held, this holds of the frames
  pub record Hands (old new : Sessions R) (out out_new : List SessionFrame) : Type 0 where
    pub keeps : Keeps (Holds P) old new
    pub frames : List SessionFrame
    pub queued : out_new ≡ out ++ frames
    pub suit : HoldsIn (Holds P) old.places → All IsRead frames → All F frames

  pub none-handed : (old new : Sessions R) (out out_new : List SessionFrame) → Keeps (Holds P) old new → out_new ≡ out
      → Hands old new out out_new
  none-handed old new out out_new keeps same =
      record {
        keeps = keeps;
        frames = [];
        queued = same ∙ sym (append-nil out);
        suit = λ all reads. All-nil F;
      }

  pub then-handed : (old mid new : Sessions R) (out out_mid out_new : List SessionFrame) → Hands old mid out out_mid
      → Hands mid new out_mid out_new → Hands old new out out_new
  then-handed old mid new out out_mid out_new a b =
      record {
        keeps = on (Holds P) old mid new a.keeps b.keeps;
        frames = a.frames ++ b.frames;
        queued =
            b.queued ∙ ap (λ (o : List SessionFrame). o ++ b.frames) a.queued ∙ append_assoc out a.frames b.frames;
        suit = λ all reads.
            All-append F a.frames b.frames (a.suit all (in-front IsRead a.frames b.frames reads))
            (b.suit (a.keeps.holds all) (in-back IsRead a.frames b.frames reads));
      }

  -- a session ends
  pub end-handed : (old new : Conversation R) (number : ℕ) (error : Option Error) (session : Box (AskingSession R))
      (out out_new : List SessionFrame)
      → ((channel : OutgoingChannel) → P (session.value).session → F (end_frame channel error))
      → EndsHere old out number error session new out_new → Hands old.sessions new.sessions out out_new
  end-handed old new number error session out out_new says e =
      record {
        keeps = ends (Holds P) old.sessions new.sessions number e.channel session true e.stepped;
        frames = end_frame e.channel error ∷ [];
        queued = e.queued;
        suit = λ all reads.
            one F (end_frame e.channel error) (says e.channel (all number session (ap live_of (e.stepped).0)));
      }
