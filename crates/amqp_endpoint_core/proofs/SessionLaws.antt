-- Laws of frames that sessions take.
use Rattle.std.proofs.Common.{◌≡◌, ℕ, Some, List, [], ◌∷◌, ◌++◌, Bool, true, false, if◌then◌else◌, refl, sym, ◌∙◌, ap, subst, append_assoc}
use Rattle.std.specs.List.{All}
use Rattle.amqp_session_performatives.specs.declared.session_frame.SessionFrame.{SessionFrame}
use Rattle.amqp_session_types.specs.declared.error.Error.{Error}
use Rattle.amqp_session_frames.specs.declared.frame.Frame.{Frame}
use Rattle.amqp_session_frames.specs.declared.frame.FrameBody.{FrameBody}
use Rattle.amqp_session_frames.specs.declared.frame.FrameBody.TheVariants.{Empty, Open, Close}
use Rattle.amqp_endpoint_model.specs.declared.event.Event.{Event}
use Rattle.amqp_endpoint_model.specs.Relay.{IsOfSession, Relations, Taken}
use Rattle.amqp_endpoint_model.specs.State.{State, Waiting, fits, frame_of, limit_of, own_close_with, the_frame}
use Rattle.amqp_endpoint_model.specs.Step.{MovesBy, SendsClose, SessionsTake, TakesBody, with_close}
use Rattle.amqp_session_frames.specs.Table.{after_send_close}
use Rattle.amqp_endpoint_core.specs.Queue.{frames_waiting}
use Rattle.amqp_endpoint_core.specs.Reading.{BodyTaken}
use Rattle.amqp_endpoint_core.proofs.QueueLaws.{frames_waiting-append}

-- frames fit a limit
pub fit_at : (limit other : ℕ) (frames : List SessionFrame) → limit ≡ other
    → All (λ f. fits limit (frame_of f) ≡ true) frames
    → All (λ f. fits other (frame_of f) ≡ true) frames
fit_at limit other frames is h =
    let P : ℕ → Type 0 = λ n. All (λ f. fits n (frame_of f) ≡ true) frames in
    subst P is h

module _ {S : Type 0} (does : Relations S) (old : State S) (channel : ℕ) where
  takes_body : (body : FrameBody) (events : List Event) (new : State S) → SessionsTake does old channel body events new
      → TakesBody does old channel body events new
  takes_body Empty events new t = absurd t.theirs
  takes_body (Open o) events new t = absurd t.theirs
  takes_body (Close c) events new t = absurd t.theirs
  takes_body body events new t = t

  -- sessions take a frame, and what they send waits behind what waited
  pub session_taken : (limit : ℕ) (body : FrameBody) (queue : List Waiting) (out out_new : List SessionFrame)
      (told told_new : List Event)
      (s new : S) (behind : State S) → IsOfSession body → s ≡ old.sessions → limit ≡ limit_of old.peer_limit
      → queue ++ frames_waiting out ≡ old.queue → Taken does s limit channel body out told new out_new told_new
      → behind ≡ record old { sessions = new; queue = queue ++ frames_waiting out_new }
      → BodyTaken does old channel body told told_new behind
  session_taken limit body queue out out_new told told_new s new behind theirs s_is limit_is queue_is t is =
      let P : State S → Type 0 = λ x. BodyTaken does old channel body told told_new x in
      let T : S → Type 0 = λ x. does.takes x limit channel body t.frames t.events new in
      let L : ℕ → Type 0 = λ n. does.takes old.sessions n channel body t.frames t.events new in
      let whole : queue ++ frames_waiting out_new ≡ old.queue ++ frames_waiting t.frames =
      ap (λ (o : List SessionFrame). queue ++ frames_waiting o) t.queued
      ∙ ap (λ (ws : List Waiting). queue ++ ws) (frames_waiting-append out t.frames)
      ∙ sym (append_assoc queue (frames_waiting out) (frames_waiting t.frames))
      ∙ ap (λ (ws : List Waiting). ws ++ frames_waiting t.frames) queue_is in
      let takes : SessionsTake does old channel body t.events
      (record old { sessions = new; queue = queue ++ frames_waiting out_new }) =
      record {
        theirs = theirs;
        frames = t.frames;
        takes = subst L limit_is (subst T s_is t.takes);
        fit = fit_at limit (limit_of old.peer_limit) t.frames limit_is t.fit;
        queued = ap (λ (ws : List Waiting). record old { sessions = new; queue = ws }) whole;
      } in
      subst P (sym is)
      (record { events = t.events; told = t.are_told; takes = takes_body body t.events _ takes })

chosen_other : (b : Bool) (x y : List Waiting) → b ≡ false → (if b then x else y) ≡ y
chosen_other false x y e = refl
chosen_other true x y e = absurd (cc)

-- the own Close is sent, where it wasn't
pub closed_with : {S : Type 0} (does : Relations S) (old new : State S) (frame : Frame) → old.own_close ≡ false
    → MovesBy does (after_send_close true) old.sessions new.sessions
    → new ≡ record old { own_close = true; queue = old.queue ++ the_frame frame ∷ []; sessions = new.sessions }
    → SendsClose does old.own_close true old.sessions new.sessions
    × (new ≡ record old { own_close = true; queue = with_close old frame; sessions = new.sessions })
closed_with does old new frame first moves is =
    let P : Bool → Type 0 = λ b. SendsClose does b true old.sessions new.sessions in (
      subst P (sym first) moves,
      is
          ∙ ap (λ (ws : List Waiting). record old { own_close = true; queue = ws; sessions = new.sessions })
          (sym (chosen_other old.own_close old.queue (old.queue ++ the_frame frame ∷ []) first)),
    )

-- with this error
pub closed_with_error : {S : Type 0} (does : Relations S) (old new : State S) (error told : Error)
    → old.own_close ≡ false → MovesBy does (after_send_close true) old.sessions new.sessions
    → new ≡ record old {
      own_close = true;
      queue = old.queue ++ the_frame (own_close_with (Some error)) ∷ [];
      sessions = new.sessions;
    }
    → error ≡ told
    → SendsClose does old.own_close true old.sessions new.sessions
    × (new ≡ record old {
      own_close = true;
      queue = with_close old (own_close_with (Some told));
      sessions = new.sessions;
    })
closed_with_error does old new error told first moves is same =
    closed_with does old new (own_close_with (Some told)) first moves
    (is ∙ ap (λ (e : Error). record old {
      own_close = true;
      queue = old.queue ++ the_frame (own_close_with (Some e)) ∷ [];
      sessions = new.sessions;
    }) same)
