-- What comes of the peer's Attach once it is heard.
use Rattle.std.proofs.Common.{◌≡◌, ℕ, List, [], ◌++◌, Option, Some, None}
use Rattle.std.proofs.Common.{refl, sym, subst, append-nil}
use Rattle.amqp_session_types.specs.declared.handles.OutputHandle.{OutputHandle}
use Rattle.amqp_session_performatives.specs.declared.attach.Attach.{Attach}
use Rattle.amqp_session_performatives.specs.declared.session_frame.SessionFrame.{SessionFrame}
use Rattle.amqp_link.specs.declared.relay.AttachTold.{AttachTold}
use Rattle.amqp_endpoint_links.specs.declared.asking.NamedLink.{NamedLink}
use Rattle.amqp_endpoint_links.specs.declared.asking.NamedLink.TheVariants.{Absent, Attached, Waiting}
use Rattle.amqp_endpoint_messages.specs.MadeReady.{HasRoomToTell}
use Rattle.amqp_endpoint_messages.specs.declared.going_on.AttachReady.{AttachReady}
use Rattle.amqp_endpoint_model.specs.declared.event.Event.{Event}
use Rattle.amqp_endpoint_linking.specs.Linking.{Talk}
use Rattle.amqp_endpoint_linking.specs.Handed.{Tells}
use Rattle.amqp_endpoint_link_hearing.specs.Attaching.{BecomesBy, ByLink, asked_told}
use Rattle.amqp_endpoint_link_hearing.specs.Readied.{IsToBeDone, IsToBeDoneBy, Serves, ServesFor, ServesItsOwn}
use Rattle.amqp_endpoint_link_hearing.specs.Readied.{count_of}
use Rattle.amqp_endpoint_link_hearing.specs.declared.hearing.Took.{Took}
use Rattle.amqp_endpoint_link_hearing.specs.declared.hearing.Took.TheVariants as took

-- nothing is handed out, and this is told
pub told-alone : (IsSo : List SessionFrame → List Event → Type 0) (told : List Event) → IsSo [] told
    → (out : List SessionFrame) (events events_new : List Event) → events_new ≡ events ++ told
    → Tells IsSo out events out events_new
told-alone IsSo told is out events events_new are =
    record { frames = []; events = told; is_so = is; queued = sym (append-nil out); are_told = are }

-- the link that waited took it, and what was made ready serves
module _ (talk : Talk) (it : Took) (named : NamedLink) (len capacity : ℕ) (ready : Option AttachReady) (session : ℕ)
    (answer : AttachTold) (handle : OutputHandle) (is : it ≡ took.ByLink session answer)
    (waits : named ≡ Waiting handle) (serves : Serves talk it named len capacity ready) where
  serves-here : Serves talk (took.ByLink session answer) (Waiting handle) len capacity ready
  serves-here =
      subst (λ (k : Took). Serves talk k (Waiting handle) len capacity ready) is
      (subst (λ (n : NamedLink). Serves talk it n len capacity ready) waits serves)

  pub unready : ready ≡ None → ⊥
  unready none =
      subst
      (λ (o : Option AttachReady). Serves talk (took.ByLink session answer) (Waiting handle) len capacity o) none
      serves-here

  module _ (made : AttachReady) (some : ready ≡ Some made) where
    serves-made : ServesFor talk session handle len capacity made
    serves-made =
        subst
        (λ (o : Option AttachReady). Serves talk (took.ByLink session answer) (Waiting handle) len capacity o) some
        serves-here

    pub can-go-on : ServesItsOwn talk len capacity made
    can-go-on =
        subst (λ (n : ℕ). ServesFor talk n made.closing.handle len capacity made) (sym serves-made.session)
        (subst (λ (h : OutputHandle). ServesFor talk session h len capacity made) (sym serves-made.handle) serves-made)

    pub can-be-told : (told room : ℕ) → HasRoomToTell (count_of ready) told room
        → HasRoomToTell made.closing.count told room
    can-be-told told room tells =
        subst (λ (o : Option AttachReady). HasRoomToTell (count_of o) told room) some tells

    module _ (limit : ℕ) (left : IsToBeDoneBy limit it named ready) where
      pub to-be-done : IsToBeDone limit answer made
      to-be-done =
          subst
          (λ (o : Option AttachReady). IsToBeDoneBy limit (took.ByLink session answer) (Waiting handle) o) some
          (subst (λ (k : Took). IsToBeDoneBy limit k (Waiting handle) ready) is
          (subst (λ (n : NamedLink). IsToBeDoneBy limit it n ready) waits left))

      -- it took it, of whose messages so many were open
      pub by-link : (attach : Attach) (new : Talk) (out out_new : List SessionFrame) (events events_new : List Event)
          → Tells (λ (frames : List SessionFrame) (told : List Event).
          ByLink limit made.closing.count talk made.closing.session made.closing.handle answer frames told new) out
          events out_new events_new
          → Tells (λ (frames : List SessionFrame) (told : List Event).
          BecomesBy limit (count_of ready) it named talk attach frames told new) out events out_new events_new
      by-link attach new out out_new events events_new t =
          let at_session : ByLink limit made.closing.count talk session made.closing.handle answer t.frames t.events
          new =
          subst
          (λ (n : ℕ). ByLink limit made.closing.count talk n made.closing.handle answer t.frames t.events new)
          serves-made.session t.is_so in
          let at_handle : ByLink limit made.closing.count talk session handle answer t.frames t.events new =
          subst (λ (h : OutputHandle). ByLink limit made.closing.count talk session h answer t.frames t.events new)
          serves-made.handle at_session in
          let so : ByLink limit (count_of ready) talk session handle answer t.frames t.events new =
          subst (λ (o : Option AttachReady). ByLink limit (count_of o) talk session handle answer t.frames t.events new)
          (sym some) at_handle in
          record {
            frames = t.frames;
            events = t.events;
            is_so =
                subst (λ (k : Took). BecomesBy limit (count_of ready) k named talk attach t.frames t.events new)
                (sym is)
                (subst
                (λ (n : NamedLink).
                BecomesBy limit (count_of ready) (took.ByLink session answer) n talk attach t.frames t.events new)
                (sym waits) so);
            queued = t.queued;
            are_told = t.are_told;
          }

-- nothing more comes of it than what is told
module _ (limit count : ℕ) (talk : Talk) (it : Took) (named : NamedLink) (attach : Attach) (out : List SessionFrame)
    (events : List Event) where
  abbrev Only : List Event → Type 0
  Only events_new =
      Tells (λ (frames : List SessionFrame) (told_now : List Event).
      BecomesBy limit count it named talk attach frames told_now talk) out events out events_new

  only-so : (k : Took) (n : NamedLink) (told : List Event) (events_new : List Event) → it ≡ k → named ≡ n
      → BecomesBy limit count k n talk attach [] told talk → events_new ≡ events ++ told → Only events_new
  only-so k n told events_new is so becomes are =
      told-alone
      (λ (frames : List SessionFrame) (told_now : List Event).
      BecomesBy limit count it named talk attach frames told_now talk)
      told
      (subst (λ (i : Took). BecomesBy limit count i named talk attach [] told talk) (sym is)
      (subst (λ (m : NamedLink). BecomesBy limit count k m talk attach [] told talk) (sym so) becomes))
      out events events_new are

  pub asked-only : (session : ℕ) (events_new : List Event) → it ≡ took.Asked session
      → events_new ≡ events ++ asked_told session attach → Only events_new
  asked-only session events_new is are =
      only-so (took.Asked session) named (asked_told session attach) events_new is refl (refl, refl, refl) are

  pub nothing-only : it ≡ took.Nothing → Only events
  nothing-only is = only-so took.Nothing named [] events is refl (refl, refl, refl) (sym (append-nil events))

  pub absent-only : (session : ℕ) (answer : AttachTold) → it ≡ took.ByLink session answer → named ≡ Absent → Only events
  absent-only session answer is so =
      only-so (took.ByLink session answer) Absent [] events is so (refl, refl, refl) (sym (append-nil events))

  pub attached-only : (session : ℕ) (answer : AttachTold) → it ≡ took.ByLink session answer → named ≡ Attached
      → Only events
  attached-only session answer is so =
      only-so (took.ByLink session answer) Attached [] events is so (refl, refl, refl) (sym (append-nil events))
