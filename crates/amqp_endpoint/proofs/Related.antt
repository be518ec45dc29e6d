-- What the calls of the sessions do is what they are related by, and what they hand out fits the limit.
use Rattle.std.proofs.Common.{◌≡◌, ◌≤◌, ℕ, Bool, true, false, List, [], Result, Ok, Err, Some, None, refl, sym}
use Rattle.std.proofs.Common.{subst, ◌∙◌, append-nil}
use Rattle.std.specs.Global.{Vec}
use Rattle.std.specs.Prelude.{⊤, IfOk, OnOk}
use Rattle.std.proofs.lemmas.List.{append_cancel_left}
use Rattle.amqp_session_types.specs.declared.handles.OutputHandle.{OutputHandle}
use Rattle.amqp_session_types.specs.declared.refusals.TryEndError.{TryEndError}
use Rattle.amqp_session_performatives.specs.declared.session_frame.SessionFrame.{SessionFrame}
use Rattle.amqp_endpoint_tables.specs.declared.link_place.LinkPlace.TheVariants.{AtRest, Held}
use Rattle.amqp_endpoint_tables.specs.Steps.{EndTold}
use Rattle.amqp_endpoint_model.specs.declared.call.Call.{Call}
use Rattle.amqp_endpoint_model.specs.declared.error.EndpointError.{EndpointError}
use Rattle.amqp_endpoint_model.specs.declared.event.Event.{Event}
use Rattle.amqp_endpoint_model.specs.Relay.{Called}
use Rattle.amqp_endpoint_model.specs.Said.{Said, refusal_in}
use Rattle.amqp_endpoint_conversation.specs.Going.{AllFit, Goes, Within}
use Rattle.amqp_endpoint_linking.specs.Handed.{Hands}
use Rattle.amqp_endpoint_linking.specs.Linking.{Links, Sessions, Talk}
use Rattle.amqp_endpoint_link_calls.specs.Calling.{Does, DoneAt}
use Rattle.amqp_endpoint_link_calls.specs.Closing.{ClosedAt, ClosedHeld, parted_at}
use Rattle.amqp_endpoint_link_calls.specs.Places.{Where}
use Rattle.amqp_endpoint.specs.declared.linked.LinkedSessions.{LinkedSessions}
use Rattle.amqp_endpoint.specs.Calling.{Calls, EndIsTold, answer_of}
use Rattle.amqp_endpoint.specs.Counting.{Counted, CountsStay}
use Rattle.amqp_endpoint.specs.Does.{linked}

-- a call that hands these frames out is done so
module _ (old new : LinkedSessions) (limit : ℕ) (call : Call) (out out_new : List SessionFrame) (least : 512 ≤ limit)
    (within : Within limit old.talk) (goes : Goes limit old.talk new.talk out out_new) (counted : Counted call old new)
  where
    pub called : (answer : Said) (IsSo : List SessionFrame → Type 0)
        → ((frames : List SessionFrame) → IsSo frames → Calls old limit call answer frames new)
        → Hands IsSo out out_new → Called linked old limit call answer out new out_new
    called answer IsSo by h =
        let same : goes.frames ≡ h.frames =
        append_cancel_left out goes.frames h.frames (sym goes.queued ∙ h.queued) in
        record {
          frames = h.frames;
          calls = (by h.frames h.is_so, counted);
          fit = subst (AllFit limit) same (goes.fit least within);
          queued = h.queued;
        }

    -- whichever it answers
    pub called-if : {A : Type 0} (answer : A → Said) (IsSo : A → List SessionFrame → Type 0)
        → ((a : A) (frames : List SessionFrame) → IsSo a frames → Calls old limit call (answer a) frames new)
        → (r : Result A EndpointError) → IfOk r (λ a. Hands (IsSo a) out out_new)
        → IfOk r (λ a. Called linked old limit call (answer a) out new out_new)
    called-if answer IsSo by (Ok a) h = called (answer a) (IsSo a) (by a) h
    called-if answer IsSo by (Err e) h = tt

    pub called-on : (answer : Said) (IsSo : List SessionFrame → Type 0)
        → ((frames : List SessionFrame) → IsSo frames → Calls old limit call answer frames new)
        → (r : Result ⊤ EndpointError) → OnOk r (Hands IsSo out out_new)
        → OnOk r (Called linked old limit call answer out new out_new)
    called-on answer IsSo by (Ok u) h = called answer IsSo by h
    called-on answer IsSo by (Err e) h = tt

-- what is done to a link, with its own frames
module _ (does : Does) (old new : Talk) (out out_new : List SessionFrame) where
  pub done-hands : (place : Where) → DoneAt does place old out new out_new
      → Hands (λ (frames : List SessionFrame). DoneAt does place old [] new frames) out out_new
  done-hands None d = absurd d
  done-hands (Some (AtRest end)) d = absurd d
  done-hands (Some (Held session handle)) d =
      record {
        frames = d.frames;
        is_so =
            record {
              before = d.before;
              after = d.after;
              frames = d.frames;
              did = d.did;
              stepped = d.stepped;
              rest = d.rest;
              queued = refl;
            };
        queued = d.queued;
      }

  pub done-hands-on : (place : Where) (r : Result ⊤ EndpointError) → OnOk r (DoneAt does place old out new out_new)
      → OnOk r (Hands (λ (frames : List SessionFrame). DoneAt does place old [] new frames) out out_new)
  done-hands-on place (Ok u) d = done-hands place d
  done-hands-on place (Err e) d = tt

-- credit that is given, whatever was left
pub left-hands : (does : ℕ → Does) (old new : Talk) (out out_new : List SessionFrame) (place : Where)
    (r : Result ℕ EndpointError) → IfOk r (λ left. DoneAt (does left) place old out new out_new)
    → IfOk r (λ left. Hands (λ (frames : List SessionFrame). DoneAt (does left) place old [] new frames) out out_new)
left-hands does old new out out_new place (Ok left) d = done-hands (does left) old new out out_new place d
left-hands does old new out out_new place (Err e) d = tt

-- a link that is closed, with its own frames
module _ (old new : Talk) (links links_new : Links) (link : ℕ) (out out_new : List SessionFrame) where
  held-hands : (parted : Bool) (session : ℕ) (handle : OutputHandle) (events : List Event)
      → ClosedHeld parted session handle old links link out events new links_new out_new
      → Hands (λ (frames : List SessionFrame).
      ClosedHeld parted session handle old links link [] events new links_new frames) out out_new
  held-hands true session handle events c =
      record {
        frames = c.done.frames;
        is_so =
            record {
              done =
                  record {
                    before = c.done.before;
                    after = c.done.after;
                    frames = c.done.frames;
                    did = c.done.did;
                    stepped = c.done.stepped;
                    rest = c.done.rest;
                    queued = refl;
                  };
              forgotten = c.forgotten;
            };
        queued = c.done.queued;
      }
  held-hands false session handle events c =
      record {
        frames = c.done.frames;
        is_so =
            record {
              done =
                  record {
                    before = c.done.before;
                    after = c.done.after;
                    frames = c.done.frames;
                    did = c.done.did;
                    stepped = c.done.stepped;
                    rest = c.done.rest;
                    queued = refl;
                  };
              kept = c.kept;
            };
        queued = c.done.queued;
      }

  pub closed-hands : (place : Where) (events : List Event)
      → ClosedAt place old links link out events new links_new out_new
      → Hands (λ (frames : List SessionFrame). ClosedAt place old links link [] events new links_new frames) out out_new
  closed-hands None events c = absurd c
  closed-hands (Some (AtRest end)) events c =
      record {
        frames = [];
        is_so = record { forgets = c.forgets; same = c.same; silent = refl };
        queued = c.silent ∙ sym (append-nil out);
      }
  closed-hands (Some (Held session handle)) events c =
      held-hands (parted_at old session handle) session handle events c

  pub closed-hands-if : (place : Where) (r : Result (Vec Event) EndpointError)
      → IfOk r (λ events. ClosedAt place old links link out events.items new links_new out_new)
      → IfOk r (λ events. Hands (λ (frames : List SessionFrame).
      ClosedAt place old links link [] events.items new links_new frames) out out_new)
  closed-hands-if place (Ok events) c = closed-hands place events.items c
  closed-hands-if place (Err e) c = tt

-- no message more was counted
pub counts-stay : (old new : LinkedSessions) → new.sent ≡ old.sent → new.given ≡ old.given → CountsStay old new
counts-stay old new sent given = record { sent = sent; given = given }

-- that the peer's End came is told
pub end-told : (old : LinkedSessions) (number : ℕ) (sessions : Sessions) (r : Result ⊤ TryEndError)
    → EndTold old.talk.sessions number r sessions
    → EndIsTold old number (answer_of (refusal_in r)) [] (record old { talk = record old.talk { sessions = sessions } })
end-told old number sessions (Ok u) told = record { tells = told; rest = refl; silent = refl }
end-told old number sessions (Err e) told = record { tells = told; rest = refl; silent = refl }
