-- What is done inside of a session, one step after another.
use Rattle.std.proofs.Common.{◌≡◌, ℕ, Bool, true, false, List, [], ◌∷◌, ◌++◌, Option, Some, None, refl, sym, ap}
use Rattle.std.proofs.Common.{subst, ◌∙◌}
use Rattle.std.proofs.Common.{append-nil, append_assoc}
use Rattle.std.specs.Prelude.{if◌then◌else◌, is_some, map, option_to_list}
use Rattle.amqp_session_types.specs.declared.channels.OutgoingChannel.{OutgoingChannel}
use Rattle.amqp_session_types.specs.declared.handles.OutputHandle.{OutputHandle}
use Rattle.amqp_session_performatives.specs.declared.session_frame.SessionFrame.{SessionFrame}
use Rattle.amqp_session_performatives.specs.declared.session_frame.SessionFrameBody.{SessionFrameBody}
use Rattle.amqp_session_performatives.specs.declared.session_frame.SessionFrameBody.TheVariants.{Attach, Begin, Detach}
use Rattle.amqp_session_performatives.specs.declared.session_frame.SessionFrameBody.TheVariants.{Disposition, End, Flow}
use Rattle.amqp_session_performatives.specs.declared.session_frame.SessionFrameBody.TheVariants.{Transfer}
use Rattle.amqp_session_core.specs.Frames.{Left, behind_frame, frames_behind, frames_left}
use Rattle.amqp_session_core.specs.History.{History}
use Rattle.amqp_session_core.specs.Relay.{Relations}
use Rattle.amqp_session_core.specs.State.{State}
use Rattle.amqp_session_core.specs.Steps.{Changes, SendsBehind, Act, Step, at_once}
use Rattle.amqp_session_core.specs.declared.batch.BehindFrame.{BehindFrame}
use Rattle.amqp_session_core.specs.declared.batch.BehindFrame.TheVariants as behind
use Rattle.amqp_session_core.specs.declared.fields.SessionFields.{SessionFields}
use Rattle.amqp_endpoint_fitting.specs.Handed.{handed, handed_of}
use Rattle.amqp_endpoint_fitting.proofs.Handing.{history-channel, step-channel}
use Rattle.amqp_endpoint_conversation.specs.Inside.{AcceptsInside, AreOn, Batches, DoneInside, IsPlain, SetNoWindow}
use Rattle.amqp_endpoint_conversation.specs.Inside.{SetsNoWindow, accepted_in, accepted_of, is_of_link, is_transfer}
use Rattle.amqp_endpoint_conversation.specs.Inside.{said_in}
use Rattle.amqp_endpoint_conversation.specs.Inside.{transfers_in}

-- a frame before others is one before those to which others are added
one-more : (counts : Bool) (frame : SessionFrame) (all first later : List SessionFrame) → all ≡ first ++ later
    → (if counts then frame ∷ all else all) ≡ (if counts then frame ∷ first else first) ++ later
one-more true frame all first later is = ap (λ (fs : List SessionFrame). frame ∷ fs) is
one-more false frame all first later is = is

-- what links say among two lists of frames
pub said-both : (first later : List SessionFrame) → said_in (first ++ later) ≡ said_in first ++ said_in later
said-both [] later = refl
said-both (frame ∷ first) later =
    one-more (is_of_link frame.body) frame (said_in (first ++ later)) (said_in first) (said_in later)
    (said-both first later)

-- nothing among frames that are of no link
pub none-said : {X : Type 0} (said : X → SessionFrame) → ((x : X) → is_of_link (said x).body ≡ false)
    → (xs : List X) → said_in (map said xs) ≡ []
none-said said none [] = refl
none-said said none (x ∷ xs) =
    ap (λ (counts : Bool). if counts then said x ∷ said_in (map said xs) else said_in (map said xs)) (none x)
    ∙ none-said said none xs

-- all transfers are among what links say
one-said : (b : SessionFrameBody) (frame : SessionFrame) → frame.body ≡ b → (said all : List SessionFrame)
    → transfers_in said ≡ all
    → transfers_in (if is_of_link b then frame ∷ said else said) ≡ (if is_transfer b then frame ∷ all else all)
one-said (Transfer transfer payload) frame is said all rest =
    ap (λ (c : SessionFrameBody). if is_transfer c then frame ∷ transfers_in said else transfers_in said) is
    ∙ ap (λ (fs : List SessionFrame). frame ∷ fs) rest
one-said (Detach detach) frame is said all rest =
    ap (λ (c : SessionFrameBody). if is_transfer c then frame ∷ transfers_in said else transfers_in said) is ∙ rest
one-said (Flow flow) frame is said all rest = by (is_some flow.handle)
  where
    by : (named : Bool) → transfers_in (if named then frame ∷ said else said) ≡ all
    by true =
        ap (λ (c : SessionFrameBody). if is_transfer c then frame ∷ transfers_in said else transfers_in said) is
        ∙ rest
    by false = rest
one-said (Begin begin) frame is said all rest = rest
one-said (Attach attach) frame is said all rest = rest
one-said (Disposition disposition) frame is said all rest = rest
one-said (End end) frame is said all rest = rest

transfers-said : (frames : List SessionFrame) → transfers_in (said_in frames) ≡ transfers_in frames
transfers-said [] = refl
transfers-said (frame ∷ frames) =
    one-said frame.body frame refl (said_in frames) (transfers_in frames) (transfers-said frames)

pub same-transfers : (frames others : List SessionFrame) → said_in frames ≡ said_in others
    → transfers_in frames ≡ transfers_in others
same-transfers frames others same = sym (transfers-said frames) ∙ ap transfers_in same ∙ transfers-said others

pub both-on : (channel : ℕ) (first later : List SessionFrame) → AreOn channel first → AreOn channel later
    → AreOn channel (first ++ later)
both-on channel [] later are more = more
both-on channel (frame ∷ first) later (on, plain, are) more = (on, plain, both-on channel first later are more)

pub all-on : {X : Type 0} (channel : ℕ) (said : X → SessionFrame)
    → ((x : X) → ((said x).channel ≡ channel) × IsPlain (said x).body) → (xs : List X)
    → AreOn channel (map said xs)
all-on channel said on [] = tt
all-on channel said on (x ∷ xs) = ((on x).0, (on x).1, all-on channel said on xs)

-- a frame that stood behind transfers, and all that left, are on the channel of their session
module _ (f : SessionFields) where
  behind-on : (number : ℕ) (frames : List SessionFrame) (it : BehindFrame) → AreOn (f.channel).0 frames
      → AreOn (f.channel).0 (behind_frame f number it ∷ frames)
  behind-on number frames (behind.Flow link) are = (refl, tt, are)
  behind-on number frames (behind.Detach detach) are = (refl, tt, are)

  all-behind-on : (number : ℕ) (its : List BehindFrame) → AreOn (f.channel).0 (frames_behind f number its)
  all-behind-on number [] = tt
  all-behind-on number (it ∷ its) = behind-on number (frames_behind f number its) it (all-behind-on number its)

  pub left-on : (left : Left) → AreOn (f.channel).0 (frames_left f left)
  left-on [] = tt
  left-on (s ∷ left) = (refl, tt, both-on _ _ (frames_left f left) (all-behind-on _ s.behind) (left-on left))

  pub at-once-on : (number : ℕ) (left : Option BehindFrame)
      → AreOn (f.channel).0 (option_to_list (at_once f number left))
  at-once-on number None = tt
  at-once-on number (Some it) = behind-on number [] it tt

module _ {R A T D : Type 0} where
  -- what is handed out by two lists of steps
  pub handed-both : (first later : List (Act R A T D))
      → handed_of (first ++ later) ≡ handed_of first ++ handed_of later
  handed-both [] later = refl
  handed-both (step ∷ first) later =
      ap (λ (fs : List SessionFrame). handed step ++ fs) (handed-both first later)
      ∙ sym (append_assoc (handed step) (handed_of first) (handed_of later))

  still-both : (first later : List (Act R A T D)) → SetNoWindow first → SetNoWindow later
      → SetNoWindow (first ++ later)
  still-both [] later none still = still
  still-both (step ∷ first) later (one, others) still = (one, still-both first later others still)

  pub accepted-both : (first later : List (Act R A T D))
      → accepted_of (first ++ later) ≡ accepted_of first ++ accepted_of later
  accepted-both [] later = refl
  accepted-both (step ∷ first) later =
      ap (λ (bs : Batches). accepted_in step ++ bs) (accepted-both first later)
      ∙ sym (append_assoc (accepted_in step) (accepted_of first) (accepted_of later))

module _ {R A T D : Type 0} (gives : Relations R A T D) where
  abbrev channel_of : State R → ℕ
  channel_of s = ((s.fields).channel).0

  pub history-both : (first later : List (Act R A T D)) (old mid new : State R) → History gives old first mid
      → History gives mid later new → History gives old (first ++ later) new
  history-both [] later old mid new same others = subst (λ (s : State R). History gives s later new) same others
  history-both (step ∷ first) later old mid new (s, stepped, before) others =
      (s, stepped, history-both first later s mid new before others)

  -- nothing is done
  pub none-inside : (old new : State R) → new ≡ old → DoneInside gives old [] new
  none-inside old new is = record { steps = []; history = is; still = tt; accepts = refl; says = refl; on = tt }

  -- a step, and what is done behind it
  pub step-inside : {accepted : Batches} (old mid new : State R) (step : Act R A T D) (frames : List SessionFrame)
      → Step gives old step mid → SetsNoWindow step → AreOn (channel_of old) (handed step)
      → AcceptsInside gives accepted mid frames new
      → AcceptsInside gives (accepted_in step ++ accepted) old (handed step ++ frames) new
  step-inside old mid new step frames stepped still on d =
      record {
        steps = step ∷ d.steps;
        history = (mid, stepped, d.history);
        still = (still, d.still);
        accepts = ap (λ (bs : Batches). accepted_in step ++ bs) d.accepts;
        says =
            said-both (handed step) frames
            ∙ ap (λ (fs : List SessionFrame). said_in (handed step) ++ fs) d.says
            ∙ sym (said-both (handed step) (handed_of d.steps));
        on =
            both-on (channel_of old) (handed step) frames on
            (subst (λ (c : OutgoingChannel). AreOn c.0 frames) (step-channel gives step old mid stepped) d.on);
      }

  -- one step alone
  pub one-inside : (old new : State R) (step : Act R A T D) → Step gives old step new → SetsNoWindow step
      → AreOn (channel_of old) (handed step) → AcceptsInside gives (accepted_in step) old (handed step) new
  one-inside old new step stepped still on =
      record {
        steps = step ∷ [];
        history = (new, stepped, refl);
        still = (still, tt);
        accepts = append-nil (accepted_in step);
        says = ap said_in (sym (append-nil (handed step)));
        on = on;
      }

  -- one after another
  pub both-inside : (old mid new : State R) (first later : List SessionFrame) → DoneInside gives old first mid
      → DoneInside gives mid later new → DoneInside gives old (first ++ later) new
  both-inside old mid new first later d e =
      record {
        steps = d.steps ++ e.steps;
        history = history-both d.steps e.steps old mid new d.history e.history;
        still = still-both d.steps e.steps d.still e.still;
        accepts =
            accepted-both d.steps e.steps ∙ ap (λ (bs : Batches). bs ++ accepted_of e.steps) d.accepts ∙ e.accepts;
        says =
            said-both first later
            ∙ ap (λ (fs : List SessionFrame). fs ++ said_in later) d.says
            ∙ ap (λ (fs : List SessionFrame). said_in (handed_of d.steps) ++ fs) e.says
            ∙ sym (said-both (handed_of d.steps) (handed_of e.steps))
            ∙ ap said_in (sym (handed-both d.steps e.steps));
        on =
            both-on (channel_of old) first later d.on
            (subst (λ (c : OutgoingChannel). AreOn c.0 later) (history-channel gives d.steps old mid d.history) e.on);
      }

  -- other frames are handed out, among which links say the same
  pub alike-inside : {accepted : Batches} (old new : State R) (frames others : List SessionFrame)
      → said_in others ≡ said_in frames → AreOn (channel_of old) others → AcceptsInside gives accepted old frames new
      → AcceptsInside gives accepted old others new
  alike-inside old new frames others same on d =
      record {
        steps = d.steps;
        history = d.history;
        still = d.still;
        accepts = d.accepts;
        says = same ∙ d.says;
        on = on;
      }

  pub same-inside : {accepted : Batches} (old new : State R) (frames others : List SessionFrame) → others ≡ frames
      → AcceptsInside gives accepted old frames new → AcceptsInside gives accepted old others new
  same-inside old new frames others is d =
      alike-inside old new frames others (ap said_in is) (subst (AreOn (channel_of old)) (sym is) d.on) d

  -- nothing is handed out behind
  pub silent-behind : (old mid new : State R) (frames : List SessionFrame) → DoneInside gives old frames mid
      → DoneInside gives mid [] new → DoneInside gives old frames new
  silent-behind old mid new frames d e =
      same-inside old new (frames ++ []) frames (sym (append-nil frames)) (both-inside old mid new frames [] d e)

  -- a Flow or a Detach of a link leaves at once, or waits
  pub said-inside : (old new : State R) (handle : OutputHandle) (frame : BehindFrame) (left : Option BehindFrame)
      (answer : Option SessionFrame) (frames : List SessionFrame)
      → Step gives old (SendsBehind handle frame left answer) new → frames ≡ option_to_list answer
      → DoneInside gives old frames new
  said-inside old new handle frame left answer frames sent are =
      same-inside old new (option_to_list answer) frames are
      (one-inside old new (SendsBehind handle frame left answer) sent tt
      (subst (λ (a : Option SessionFrame). AreOn (channel_of old) (option_to_list a)) (sym sent.1)
      (at-once-on old.fields _ left)))

  -- a link is changed before
  pub changed-inside : {accepted : Batches} (old mid new : State R) (handle : ℕ) (stood stands : R)
      (frames : List SessionFrame) → Step gives old (Changes handle stood stands) mid
      → AcceptsInside gives accepted mid frames new → AcceptsInside gives accepted old frames new
  changed-inside old mid new handle stood stands frames changed d =
      step-inside old mid new (Changes handle stood stands) frames changed tt tt d
