-- The Flow of a session that is due.
use Rattle.std.proofs.Common.{◌≡◌, ℕ, List, [], ◌∷◌, Bool, true, false, Option, Some, None, ap}
use Rattle.std.specs.Global.{Box}
use Rattle.std.proofs.lemmas.List.Elements.{All-head}
use Rattle.amqp_session_performatives.specs.declared.session_frame.SessionFrame.{SessionFrame}
use Rattle.amqp_session_core.specs.Relay.{Relations}
use Rattle.amqp_session_core.specs.State.{State}
use Rattle.amqp_session_core.specs.Steps.{Step, TellsFlow}
use Rattle.amqp_endpoint_links.specs.declared.asking.AskingSession.{AskingSession}
use Rattle.amqp_endpoint_tables.specs.State.{live_at}
use Rattle.amqp_endpoint_conversation.specs.declared.conversation.Conversation.{Conversation}
use Rattle.amqp_endpoint_conversation.specs.Hearing.{FlowTold, TellsAt, TellsIf, is_due}
use Rattle.amqp_endpoint_fitting.specs.Read.{IsRead}
use Rattle.amqp_endpoint_conversation.proofs.Handing.{Hands, Holds, none-handed, one}
use Rattle.amqp_endpoint_conversation.proofs.Places.{changes_live, stays}

module _ {R A T D : Type 0} (gives : Relations R A T D) (P : State R → Type 0) (F : SessionFrame → Type 0) where
  -- a session that tells its state keeps it, and so it is of its Flow
  abbrev pub TellsSo : Type 0
  TellsSo =
      (before after : State R) (frame : SessionFrame) → Step gives before (TellsFlow frame) after → P before
      → P after × (IsRead frame → F frame)

  module _ (old new : Conversation R) (number : ℕ) (out out_new : List SessionFrame) (tells : TellsSo) where
    abbrev Handed : Type 0
    Handed = Hands P F old.sessions new.sessions out out_new

    kept : new ≡ old → out_new ≡ out → Handed
    kept is same =
        none-handed P F old.sessions new.sessions out out_new
        (stays (Holds P) old.sessions new.sessions (ap (λ (c : Conversation R). c.sessions) is)) same

    told-if : (due : Bool) (before : Box (AskingSession R)) → TellsIf gives due old out number before new out_new
        → Handed
    told-if true before t =
        let so = tells (before.value).session ((t.after).value).session t.frame t.tells in
        record {
          keeps =
              changes_live (Holds P) old.sessions new.sessions number before t.after t.stepped
              (λ holds. (so holds).0);
          frames = t.frame ∷ [];
          queued = t.queued;
          suit = λ all reads.
              one F t.frame ((so (all number before (t.stepped).0)).1 (All-head IsRead t.frame [] reads));
        }
    told-if false before t = kept t.0 t.1

    told-at : (live : Option (Box (AskingSession R))) → TellsAt gives live old out number new out_new → Handed
    told-at None t = kept t.0 t.1
    told-at (Some session) t = told-if (is_due gives session.value) session t

    pub flow-handed : FlowTold gives old out number new out_new → Handed
    flow-handed t = told-at (live_at old.sessions number) t
