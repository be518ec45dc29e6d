-- A session that takes a transfer at once answers it as any, and what waits in the sessions goes on to fit.
use Rattle.std.proofs.Common.{◌≡◌, ℕ, zero, suc, Bool, true, false, List, [], ◌∷◌, Option, Some, None, Ok, is_some, refl, sym, ap, subst, ◌∙◌, slice_get, slice_set, slice_index_or, append-nil}
use Rattle.std.specs.Box.{with_value}
use Rattle.std.specs.Global.{Box}
use Rattle.std.proofs.lemmas.List.Elements.{All-nil}
use Rattle.std.proofs.lemmas.Option.{none-some, same_Some, get_or_from_slice_get}
use Rattle.amqp_session_types.specs.declared.channels.IncomingChannel.{IncomingChannel}
use Rattle.amqp_session_types.specs.declared.channels.OutgoingChannel.{OutgoingChannel}
use Rattle.amqp_session_performatives.specs.declared.session_frame.SessionFrame.{SessionFrame}
use Rattle.amqp_session_performatives.specs.declared.transfer.Transfer.{Transfer}
use Rattle.amqp_session_core.specs.AtOnce.{is_settled}
use Rattle.amqp_session_core.specs.Relay.{Relations}
use Rattle.amqp_session_core.specs.State.{State as SessionState}
use Rattle.amqp_session_core.specs.ToldAtOnce as told
use Rattle.amqp_session_core.specs.declared.at_once.TakenAtOnce.{TakenAtOnce}
use Rattle.amqp_endpoint_links.specs.declared.asking.AskingSession.{AskingSession}
use Rattle.amqp_endpoint_links.specs.declared.hearing.LinkPerformative.TheVariants as said
use Rattle.amqp_endpoint_links.specs.declared.hearing.PerformativeTaken.TheVariants as performed
use Rattle.amqp_endpoint_tables.specs.declared.place.PeerEnd.TheVariants.{Missing}
use Rattle.amqp_endpoint_tables.specs.declared.place.Place.{Place}
use Rattle.amqp_endpoint_tables.specs.declared.place.Place.TheVariants.{Asked, Live, Ending, Over}
use Rattle.amqp_endpoint_tables.specs.Lends.{set_live}
use Rattle.amqp_endpoint_tables.specs.State.{State, asked_at, asked_of, live_at, live_of, reached, with_live}
use Rattle.amqp_endpoint_tables.specs.Steps.{Step, ChangesLive}
use Rattle.amqp_endpoint_fitting.specs.Fits.{QueuesFit}
use Rattle.amqp_endpoint_model.specs.State.{fits, frame_of}
use Rattle.amqp_endpoint_conversation.specs.AtOnce.{LiveTakes, LiveTakesAtOnce, NamesUnless, TakesWhole}
use Rattle.amqp_endpoint_conversation.specs.declared.conversation.Conversation.{Conversation}
use Rattle.amqp_endpoint_conversation.specs.declared.hearing.Heard.TheVariants as heard
use Rattle.amqp_endpoint_conversation.specs.Going.{FitsIn, Goes, Rests}
use Rattle.amqp_endpoint_conversation.specs.Hearing.{LiveAnswered}
use Rattle.amqp_endpoint_conversation.proofs.Answering.{lives}
use Rattle.amqp_endpoint_conversation.proofs.Goings.{Never, resting}
use Rattle.amqp_endpoint_conversation.proofs.Handing.{Holds}
use Rattle.amqp_endpoint_conversation.proofs.Hearings.{in_live}
use Rattle.amqp_endpoint_conversation.proofs.Places.{Keeps, changes_live, stays}

set-over : {X : Type 0} (xs : List X) (i : ℕ) (a b : X) → slice_set (slice_set xs i a) i b ≡ slice_set xs i b
set-over [] i a b = refl
set-over (x ∷ xs) zero a b = refl
set-over (x ∷ xs) (suc i) a b = ap (λ (l : List _). x ∷ l) (set-over xs i a b)

index-same : {X : Type 0} (xs : List X) (i : ℕ) (x v d : X) → slice_get xs i ≡ Some x
    → slice_index_or (slice_set xs i v) i d ≡ v
index-same [] i x v d e = absurd (none-some _ e)
index-same (y ∷ ys) zero x v d e = refl
index-same (y ∷ ys) (suc i) x v d e = index-same ys i x v d e

module _ {A S : Type 0} (s : State A S) (n : ℕ) where
  -- a session that is lent twice
  relent : (x y z : S) → live_at s n ≡ Some y → set_live (set_live s n x) n z ≡ set_live s n z
  relent x y z live = by (slice_get s.places n) refl live
    where
      by : (o : Option (Place A S)) → slice_get s.places n ≡ o → live_of o ≡ Some y
          → set_live (set_live s n x) n z ≡ set_live s n z
      by None e q = absurd (none-some _ q)
      by (Some (Asked c a)) e q = absurd (none-some _ q)
      by (Some (Live c w)) e q =
          let none : Place A S = Over Missing false in
          let here = get_or_from_slice_get s.places n (Live c w) none e in
          ap (λ (ps : List (Place A S)). record s { places = ps })
          (ap (λ (p : Place A S). slice_set (slice_set s.places n (with_live p x)) n
          (with_live (slice_index_or (slice_set s.places n (with_live p x)) n none) z)) here
          ∙ ap (λ (p : Place A S). slice_set (slice_set s.places n (Live c x)) n (with_live p z))
          (index-same s.places n (Live c w) (Live c x) none e)
          ∙ set-over s.places n (Live c x) (Live c z)
          ∙ ap (λ (p : Place A S). slice_set s.places n (with_live p z)) (sym here))
      by (Some (Ending c own_end)) e q = absurd (none-some _ q)
      by (Some (Over p c)) e q = absurd (none-some _ q)

  -- one that has begun isn't asked for
  pub unasked : (y : S) → live_at s n ≡ Some y → is_some (asked_at s n) ≡ false
  unasked y live = by (slice_get s.places n) live
    where
      by : (o : Option (Place A S)) → live_of o ≡ Some y → is_some (asked_of o) ≡ false
      by None q = refl
      by (Some (Asked c a)) q = absurd (none-some _ q)
      by (Some (Live c w)) q = refl
      by (Some (Ending c own_end)) q = refl
      by (Some (Over p c)) q = refl

module _ {R : Type 0} (old new : Conversation R) where
  -- nothing changes, or a session does in which what waits stays
  pub stays-goes : (limit : ℕ) (out : List SessionFrame) → Keeps (Holds (FitsIn limit)) old.sessions new.sessions
      → Goes limit old new out out
  stays-goes limit out keeps =
      record {
        waits = keeps.holds;
        still = keeps.still;
        frames = [];
        queued = sym (append-nil out);
        fit = λ least within. All-nil (λ (f : SessionFrame). fits limit (frame_of f) ≡ true);
      }

module _ {R A T D : Type 0} (gives : Relations R A T D) (tells : Transfer → List ℕ → T) (names : R → Transfer → ℕ → R)
    (old new : Conversation R) (number : ℕ) (t : Transfer) (payload : List ℕ) (message : ℕ) where
  -- a session that took it stands there as it was changed
  module _ (taken : TakenAtOnce) (l : LiveTakes gives tells names old number t payload message taken new) where
    abbrev lent : SessionState R → Box (AskingSession R)
    lent s = with_value l.before (record (l.before).value { session = s })

    stepped : Step old.sessions (ChangesLive number l.before (lent l.after)) new.sessions
    stepped = (l.live, ap (λ (c : Conversation R). c.sessions) l.becomes)

    waits-on : (limit : ℕ) → FitsIn limit ((l.before).value).session → FitsIn limit l.after
    waits-on limit fit =
        let was = ((l.before).value).session in
        subst (λ (c : OutgoingChannel). QueuesFit c.0 limit ((l.after).outgoing).queues) (sym (l.took).channel)
        (subst (λ (s : SessionState R). QueuesFit ((was.fields).channel).0 limit (s.outgoing).queues)
        (ap (λ o. record was { outgoing = o }) (sym (l.took).waits)) fit)

  pub goes : (taken : Option TakenAtOnce) → LiveTakesAtOnce gives tells names old number t payload message taken new
      → (limit : ℕ) (out : List SessionFrame) → Goes limit old new out out
  goes None is limit out =
      stays-goes old new limit out
      (stays (Holds (FitsIn limit)) old.sessions new.sessions (ap (λ (c : Conversation R). c.sessions) is))
  goes (Some taken) l limit out =
      stays-goes old new limit out
      (changes_live (Holds (FitsIn limit)) old.sessions new.sessions number l.before (lent taken l l.after)
      (stepped taken l) (waits-on taken l limit))

  pub rests : (taken : Option TakenAtOnce) → LiveTakesAtOnce gives tells names old number t payload message taken new
      → (out : List SessionFrame) → Rests old new out out
  rests None is out =
      resting old new out out
      (stays (Holds Never) old.sessions new.sessions (ap (λ (c : Conversation R). c.sessions) is)) (λ none. refl)
  rests (Some taken) l out =
      resting old new out out
      (changes_live (Holds Never) old.sessions new.sessions number l.before (lent taken l l.after)
      (stepped taken l) (λ never. never)) (λ none. refl)

  named-in : (b : Bool) (handle : ℕ) (link : R) (before : Box (AskingSession R)) (mid after : SessionState R)
      → live_at old.sessions number ≡ Some before
      → told.NamesUnless gives tells names b handle link t message mid after
      → new ≡ record old {
        sessions = set_live old.sessions number (with_value before (record before.value { session = after }));
      }
      → NamesUnless gives tells names b (record old {
        sessions = set_live old.sessions number (with_value before (record before.value { session = mid }));
      }) number handle link t message new
  named-in true handle link before mid after live same is =
      is
      ∙ ap (λ (s : SessionState R). record old {
        sessions = set_live old.sessions number (with_value before (record before.value { session = s }));
      }) same
  named-in false handle link before mid after live changed is =
      let one : Box (AskingSession R) = with_value before (record before.value { session = mid }) in
      let two : Box (AskingSession R) = with_value before (record before.value { session = after }) in
      let at : new.sessions ≡ set_live old.sessions number two = ap (λ (c : Conversation R). c.sessions) is in
      record {
        before = one;
        after = two;
        changed = changed;
        alone = refl;
        stepped =
            (lives old.sessions number one before live, at ∙ sym (relent old.sessions number one before two live));
        rest = is ∙ ap (λ ss. record old { sessions = ss }) (sym at);
      }

  pub taken_on_channel : (channel : IncomingChannel) (taken : TakenAtOnce)
      → reached old.sessions channel.0 ≡ Some number
      → LiveTakes gives tells names old number t payload message taken new
      → TakesWhole gives tells names old channel t payload message number taken new
  taken_on_channel channel taken here l =
      let took = l.took in
      let between : Box (AskingSession R) = lent taken l took.mid in
      let mid : Conversation R = record old { sessions = set_live old.sessions number between } in
      let answer = performed.Transfer (record { told = tells t payload; flow = told.due_flow l.after taken.is_due }) in
      record {
        delivery = took.number;
        tag = took.tag;
        stood = l.before;
        live = l.live;
        reaches = took.reaches;
        mid = mid;
        between = between;
        going = lives old.sessions number between l.before l.live;
        link = took.link;
        there = took.there;
        after = lent taken l l.after;
        goes_on =
            ap (λ (c : Conversation R). live_at c.sessions number) l.becomes
            ∙ lives old.sessions number (lent taken l l.after) l.before l.live;
        answered =
            in_live gives old [] channel (said.Transfer t payload) (Ok (heard.Live number answer)) mid [] number here
            (unasked old.sessions number l.before l.live) (ap (λ (o : Option (Box (AskingSession R))). is_some o) l.live)
            (λ session live.
            subst (λ (s : Box (AskingSession R)). LiveAnswered gives old [] number s (said.Transfer t payload)
            (Ok (heard.Live number answer)) mid []) (same_Some _ _ (sym l.live ∙ live)) (
              refl,
              record {
                after = between;
                hears = record { heard = ((took.answered, refl), refl); stepped = (l.live, refl) };
                rest = refl;
              },
            ));
        stands = took.stands;
        named =
            named-in (is_settled t) (taken.handle).0 took.link l.before took.mid l.after l.live took.named l.becomes;
      }
