-- What is known of a session that its owner changed, of an End that is told of, and of what waits.
use Rattle.std.proofs.Common.{◌≡◌, ◌≤◌, ℕ, true, List, [], ◌++◌, Result, refl, sym, ◌∙◌, append-nil}
use Rattle.std.specs.Prelude.{All, ⊤}
use Rattle.std.specs.Global.{Box}
use Rattle.std.proofs.lemmas.List.Elements.{All-nil}
use Rattle.std.proofs.lemmas.Option.{none-some}
use Rattle.amqp_session_types.specs.declared.refusals.TryEndError.{TryEndError}
use Rattle.amqp_session_performatives.specs.declared.session_frame.SessionFrame.{SessionFrame}
use Rattle.amqp_session_core.specs.Relay.{Relations}
use Rattle.amqp_endpoint_links.specs.declared.asking.AskingSession.{AskingSession}
use Rattle.amqp_endpoint_links.specs.History.{AskingHistory, AskingAct}
use Rattle.amqp_endpoint_tables.specs.Steps.{ChangesLive, EndTold, Step}
use Rattle.amqp_endpoint_conversation.specs.declared.conversation.Conversation.{Conversation}
use Rattle.amqp_endpoint_model.specs.State.{fits, frame_of}
use Rattle.amqp_endpoint_fitting.specs.Handed.{AllAskingEndFit, AllAskingHand, AllAskingSendFit}
use Rattle.amqp_endpoint_fitting.specs.Read.{IsRead}
use Rattle.amqp_endpoint_conversation.specs.Going.{AnswersPlain, FitsIn, Goes, NoneLive, Rests, Within}
use Rattle.amqp_endpoint_conversation.proofs.Fitting.{change-leaves, change-waits, wider-fits}
use Rattle.amqp_endpoint_conversation.proofs.Goings.{Never, resting}
use Rattle.amqp_endpoint_conversation.proofs.Handing.{Holds}
use Rattle.amqp_endpoint_conversation.proofs.Places.{changes_live, tells_end}

module _ {R A T D : Type 0} (gives : Relations R A T D) where
  pub changed-goes : (limit number : ℕ) (old new : Conversation R) (before after : Box (AskingSession R))
      (steps : List (AskingAct R A T D)) (frames out : List SessionFrame)
      → Step old.sessions (ChangesLive number before after) new.sessions
      → AskingHistory gives before.value steps after.value → AnswersPlain gives
      → AllAskingSendFit ((((before.value).session).fields).channel).0 limit steps → AllAskingEndFit limit steps
      → AllAskingHand steps frames → All IsRead frames → Goes limit old new out (out ++ frames)
  changed-goes limit number old new before after steps frames out stepped history plain sends ends hand reads =
      let keeps =
      changes_live (Holds (FitsIn limit)) old.sessions new.sessions number before after stepped
      (λ fits. change-waits gives limit before.value after.value steps history plain sends fits) in
      record {
        waits = keeps.holds;
        still = keeps.still;
        frames = frames;
        queued = refl;
        fit = λ least within k d below.
            change-leaves gives limit before.value after.value steps frames history plain sends ends
            (within number before stepped.0) hand reads k d below least;
      }

module _ {R : Type 0} where
  pub changed-rests : (number : ℕ) (old new : Conversation R) (before after : Box (AskingSession R))
      (out out_new : List SessionFrame) → Step old.sessions (ChangesLive number before after) new.sessions
      → Rests old new out out_new
  changed-rests number old new before after out out_new stepped =
      record {
        silent = λ none. absurd (none-some before (sym (none number) ∙ stepped.0));
        idle = λ none. absurd (none-some before (sym (none number) ∙ stepped.0));
      }

  pub told-goes : (limit number : ℕ) (old new : Conversation R) (told : Result ⊤ TryEndError) (out : List SessionFrame)
      → EndTold old.sessions number told new.sessions → Goes limit old new out out
  told-goes limit number old new told out stepped =
      let keeps = tells_end (Holds (FitsIn limit)) old.sessions new.sessions number told stepped in
      record {
        waits = keeps.holds;
        still = keeps.still;
        frames = [];
        queued = sym (append-nil out);
        fit = λ least within. All-nil (λ (f : SessionFrame). fits limit (frame_of f) ≡ true);
      }

  pub told-rests : (number : ℕ) (old new : Conversation R) (told : Result ⊤ TryEndError) (out : List SessionFrame)
      → EndTold old.sessions number told new.sessions → Rests old new out out
  told-rests number old new told out stepped =
      resting old new out out (tells_end (Holds Never) old.sessions new.sessions number told stepped) (λ none. refl)

  pub wider-within : (limit wider : ℕ) (talk : Conversation R) → Within limit talk → limit ≤ wider → Within wider talk
  wider-within limit wider talk within more number session live =
      wider-fits limit wider (session.value).session (within number session live) more

  pub none-within : (limit : ℕ) (talk : Conversation R) → NoneLive talk → Within limit talk
  none-within limit talk none number session live = absurd (none-some session (sym (none number) ∙ live))
