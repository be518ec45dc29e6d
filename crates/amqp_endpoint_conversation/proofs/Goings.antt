-- From what the sessions hand out to what is known of a conversation's calls.
use Rattle.std.proofs.Common.{◌≡◌, ℕ, true, List, [], ◌∷◌, ◌++◌, Option, Some, None, refl, sym, ap, subst, ◌∙◌, append-nil, append_assoc, length, drop}
use Rattle.std.specs.Prelude.{All}
use Rattle.std.specs.Global.{Box}
use Rattle.std.proofs.lemmas.List.{drop_at}
use Rattle.std.proofs.lemmas.List.Elements.{All-append, All-head}
use Rattle.std.proofs.lemmas.Option.{none-some}
use Rattle.amqp_session_performatives.specs.declared.session_frame.SessionFrame.{SessionFrame}
use Rattle.amqp_session_core.specs.State.{State}
use Rattle.amqp_endpoint_links.specs.declared.asking.AskingSession.{AskingSession}
use Rattle.amqp_endpoint_tables.specs.State.{live_at}
use Rattle.amqp_endpoint_conversation.specs.declared.conversation.Conversation.{Conversation}
use Rattle.amqp_endpoint_model.specs.State.{fits, frame_of}
use Rattle.amqp_endpoint_fitting.specs.Read.{IsRead}
use Rattle.amqp_endpoint_conversation.specs.Going.{FitsIn, Goes, NoneLive, Rests}
use Rattle.amqp_endpoint_conversation.proofs.Ends.{FitsAbove}
use Rattle.amqp_endpoint_conversation.proofs.Handing.{Hands, Holds}
use Rattle.amqp_endpoint_conversation.proofs.Places.{HoldsIn, Keeps, still-on}

-- the frames behind those that were there are read
pub read-behind : (out out_new frames : List SessionFrame) (from : ℕ) → from ≡ length out → out_new ≡ out ++ frames
    → All IsRead (drop from out_new) → All IsRead frames
read-behind out out_new frames from is queued reads =
    subst (All IsRead) (ap (drop from) queued ∙ drop_at out frames from (sym is)) reads

none-of : (frames : List SessionFrame) → All (λ (f : SessionFrame). ⊥) frames → frames ≡ []
none-of [] all = refl
none-of (f ∷ fs) all = absurd (All-head (λ (f : SessionFrame). ⊥) f fs all)

-- it holds of no session, and of no frame
abbrev pub Never : {R : Type 0} → State R → Type 0
Never s = ⊥

abbrev pub Nothing : SessionFrame → Type 0
Nothing frame = ⊥

module _ {R : Type 0} where
  pub goes : (limit : ℕ) (old new : Conversation R) (out out_new : List SessionFrame) (from : ℕ)
      → from ≡ length out → All IsRead (drop from out_new)
      → Hands (FitsIn limit) (FitsAbove limit) old.sessions new.sessions out out_new → Goes limit old new out out_new
  goes limit old new out out_new from is reads h =
      record {
        waits = (h.keeps).holds;
        still = (h.keeps).still;
        frames = h.frames;
        queued = h.queued;
        fit = λ least within k d below.
            h.suit within (read-behind out out_new h.frames from is h.queued reads) k d below least;
      }

  none-lives : (new : Conversation R) (number : ℕ) → HoldsIn (Holds Never) (new.sessions).places
      → (live : Option (Box (AskingSession R))) → live_at new.sessions number ≡ live
      → live_at new.sessions number ≡ None
  none-lives new number none None is = is
  none-lives new number none (Some session) is = absurd (none number session is)

  none-holds : (old : Conversation R) → NoneLive old → HoldsIn (Holds Never) (old.sessions).places
  none-holds old none number session live = absurd (none-some session (sym (none number) ∙ live))

  pub resting : (old new : Conversation R) (out out_new : List SessionFrame)
      → Keeps (Holds Never) old.sessions new.sessions → (NoneLive old → out_new ≡ out) → Rests old new out out_new
  resting old new out out_new keeps silent =
      record {
        silent = silent;
        idle = λ none number.
            none-lives new number (keeps.holds (none-holds old none)) (live_at new.sessions number) refl;
      }

  pub rests : (old new : Conversation R) (out out_new : List SessionFrame) (from : ℕ)
      → from ≡ length out → All IsRead (drop from out_new)
      → Hands Never Nothing old.sessions new.sessions out out_new → Rests old new out out_new
  rests old new out out_new from is reads h =
      resting old new out out_new h.keeps
      (λ none.
      h.queued
      ∙ ap (λ (fs : List SessionFrame). out ++ fs)
      (none-of h.frames
      (h.suit (none-holds old none) (read-behind out out_new h.frames from is h.queued reads)))
      ∙ append-nil out)

  -- one call after another
  pub goes-on : (limit : ℕ) (old mid new : Conversation R) (out out_mid out_new : List SessionFrame)
      → Goes limit old mid out out_mid → Goes limit mid new out_mid out_new → Goes limit old new out out_new
  goes-on limit old mid new out out_mid out_new a b =
      record {
        waits = λ within. b.waits (a.waits within);
        still =
            still-on (old.sessions).connection (mid.sessions).connection (new.sessions).connection a.still b.still;
        frames = a.frames ++ b.frames;
        queued =
            b.queued ∙ ap (λ (o : List SessionFrame). o ++ b.frames) a.queued ∙ append_assoc out a.frames b.frames;
        fit = λ least within.
            All-append (λ (f : SessionFrame). fits limit (frame_of f) ≡ true) a.frames b.frames (a.fit least within)
            (b.fit least (a.waits within));
      }

  pub rests-on : (old mid new : Conversation R) (out out_mid out_new : List SessionFrame)
      → Rests old mid out out_mid → Rests mid new out_mid out_new → Rests old new out out_new
  rests-on old mid new out out_mid out_new a b =
      record {
        silent = λ none. b.silent (a.idle none) ∙ a.silent none;
        idle = λ none. b.idle (a.idle none);
      }
