-- What a link that attaches hands out fits the limit for which it is made, and what waits goes on to fit.
use Rattle.std.proofs.Common.{◌≡◌, ◌<◌, ◌≤◌, ◌^◌, ℕ, true, List, [], ◌∷◌, ◌++◌, Option, Some, None, Result, Ok, Err}
use Rattle.std.proofs.Common.{refl}
use Rattle.std.proofs.Common.{sym, ap, subst, ◌∙◌, append-nil, append_assoc, length, drop}
use Rattle.std.specs.Prelude.{All, IfOk, OnErr}
use Rattle.std.specs.Global.{Box}
use Rattle.std.proofs.lemmas.List.Elements.{All-nil, All-cons, All-tail}
use Rattle.amqp_session_types.specs.declared.handles.InputHandle.{InputHandle}
use Rattle.amqp_session_performatives.specs.declared.attach.Attach.{Attach}
use Rattle.amqp_session_performatives.specs.declared.session_frame.SessionFrame.{SessionFrame}
use Rattle.amqp_session_core.specs.Steps.{Allocates, Reserves}
use Rattle.amqp_link.specs.declared.end.End.{End}
use Rattle.amqp_link.specs.declared.standing.Standing.{Standing}
use Rattle.amqp_link.specs.declared.standing.Standing.TheVariants.{Attached, Detaching, Apart}
use Rattle.amqp_link.specs.Ends.{flow_answer, state_of}
use Rattle.amqp_link.specs.Gives.{flows_at}
use Rattle.amqp_link.specs.Standing.{standing_of}
use Rattle.amqp_link_unsettled.specs.Listing.{FitsFrame}
use Rattle.amqp_endpoint_links.specs.History.{AnswersLink, InSession}
use Rattle.amqp_endpoint_tables.specs.Steps.{ChangesLive, Step}
use Rattle.amqp_endpoint_model.specs.State.{error_of, fits, frame_of}
use Rattle.amqp_endpoint_model.specs.Step.{not_allowed}
use Rattle.amqp_endpoint_fitting.proofs.AttachFrames.{attach-fits}
use Rattle.amqp_endpoint_fitting.specs.Read.{IsRead}
use Rattle.amqp_endpoint_conversation.specs.Going.{AnswersPlain, Goes, NoneLive, Rests, Within}
use Rattle.amqp_endpoint_conversation.proofs.Calls.{changed-goes, changed-rests}
use Rattle.amqp_endpoint_conversation.proofs.Goings.{goes-on, read-behind}
use Rattle.amqp_endpoint_attached.specs.Linked.{Linked, LinksIn, gives}
use Rattle.amqp_endpoint_attached.specs.Links.{attach_frame, with_number}
use Rattle.amqp_endpoint_attached.specs.declared.refusal.Unattached.{Unattached}
use Rattle.amqp_endpoint_attached.proofs.Fitting.{announced_fits, reply_plain}
use Rattle.amqp_endpoint_messages.specs.All.{open_count}
use Rattle.amqp_endpoint_messages.specs.GoingOn.{on_answered}
use Rattle.amqp_endpoint_messages.proofs.AttachDone.{Done, Stepped, both, not-allowed-fits}
use Rattle.amqp_endpoint_messages.proofs.GoingDone.{attached-at}
use Rattle.amqp_endpoint_link_calls.specs.Attaching.{AttachedBy, AttachesIn}
use Rattle.amqp_endpoint_link_calls.specs.Places.{LinkTalk}
use Rattle.amqp_endpoint_link_calls.specs.declared.placed.Placed.{Placed}
use Rattle.amqp_endpoint_link_calls.proofs.Own.{own}

-- a link answers a Flow without properties
answers-plain : AnswersPlain gives
answers-plain before after flow answer flows = at (standing_of (state_of before.link)) flows.0
  where
    at : (stands : Standing) → flows_at stands before.link flow (Ok (Some answer)) after.link
        → answer.properties ≡ None
    at Attached f =
        let is : flow_answer before.link flow ≡ Some answer = cc in reply_plain before.link flow answer is
    at Detaching f = absurd cc
    at Apart f = absurd cc

-- an Attach that fits the limit, and what its session does behind it
record First (limit : ℕ) (before after : Linked) (frames : List SessionFrame) : Type 0 where
  pub attach : Attach
  pub fit : FitsFrame limit attach
  pub later : List SessionFrame
  pub are : frames ≡ attach_frame before.session attach ∷ later
  pub done : Done limit before later after

module _ (before after : Linked) (limit : ℕ) (link : End) (placed : Placed) (frames : List SessionFrame) where
  -- a link that attaches of itself
  attached-first : AttachedBy None before [] limit link placed after frames → First limit before after frames
  attached-first (a, told) =
      record {
        attach = a.attach;
        fit = announced_fits limit link placed.handle a.attach (a.sends).announces;
        later = [];
        are = a.handed;
        done =
            record {
              steps =
                  InSession (Allocates (placed.handle).0 (with_number placed.link a.attaching) None) ∷ [];
              history = (after, (a.allocates, a.rest), refl);
              sends = (tt, tt);
              ends = (tt, tt);
              hand = ([], [], refl, refl, refl);
            };
      }

  -- a link that answers one of the peer's: room is made, it answers, and it goes on
  module _ (input : InputHandle) (a : AttachedBy (Some input) before [] limit link placed after frames) where
    room : Stepped limit before [] a.ready
    room =
        let m = (a.makes_room).made in
        record {
          done =
              record {
                steps = InSession (Reserves m.count) ∷ [];
                history = (a.ready, (m.reserves, (a.makes_room).rest), refl);
                sends = (tt, tt);
                ends = (tt, tt);
                hand = ([], [], refl, refl, refl);
              };
          fields = ap (λ (s : LinksIn). s.fields) (m.reserves).1;
        }

    answering : Stepped limit a.ready [] a.mid
    answering =
        let s = a.answers in
        record {
          done =
              record {
                steps =
                    AnswersLink ((a.answered).handle).0 (with_number placed.link s.becomes) input.0 ∷ [];
                history = (a.mid, (s.allocates, s.rest), refl);
                sends = (tt, tt);
                ends = (tt, tt);
                hand = ([], [], refl, refl, refl);
              };
          fields = ap (λ (t : LinksIn). t.fields) (s.allocates).5;
        }

    answered-first : (placed.handle).0 < 2 ^ 32 → 512 ≤ limit → First limit before after frames
    answered-first short least =
        let s = a.answers in
        let behind : Stepped limit a.mid a.frames after =
        attached-at limit placed.session (open_count (Some link)) placed.handle (error_of not_allowed)
        (a.answered).aborts (a.answered).kept (on_answered link s.asked.attach (a.answered).kept) a.frames a.behind a.mid
        after
        (not-allowed-fits limit a.mid placed.handle short least) a.goes in
        let all : Stepped limit before a.frames after =
        both limit before a.ready after [] a.frames room (both limit a.ready a.mid after [] a.frames answering behind)
        in
        record {
          attach = s.attach;
          fit = announced_fits limit link (a.answered).handle s.attach (s.exchanges).announces;
          later = a.frames;
          are =
              a.queued
              ∙ ap (λ (fs : List SessionFrame). fs ++ a.frames) s.handed
              ∙ ap (λ (t : LinksIn). attach_frame t s.attach ∷ a.frames) (((a.makes_room).made).reserves).1;
          done = all.done;
        }

  first-by : (input : Option InputHandle) → AttachedBy input before [] limit link placed after frames
      → (placed.handle).0 < 2 ^ 32 → 512 ≤ limit → First limit before after frames
  first-by None a short least = attached-first a
  first-by (Some input) a short least = answered-first input a short least

-- an Attach that fits is handed out, and nothing else happens
attach-goes : (limit : ℕ) (talk : LinkTalk) (out : List SessionFrame) (frame : SessionFrame)
    → fits limit (frame_of frame) ≡ true → Goes limit talk talk out (out ++ frame ∷ [])
attach-goes limit talk out frame fit =
    record {
      waits = λ within. within;
      still = record { state = refl; opening = refl };
      frames = frame ∷ [];
      queued = refl;
      fit = λ least within.
          All-cons (λ (f : SessionFrame). fits limit (frame_of f) ≡ true) frame [] fit
          (All-nil (λ (f : SessionFrame). fits limit (frame_of f) ≡ true));
    }

module _ (old new : LinkTalk) (before after : Box Linked) (session : ℕ)
    (stepped : Step old.sessions (ChangesLive session before after) new.sessions) where
  first-goes : (limit : ℕ) (out frames : List SessionFrame) → limit < 2 ^ 32
      → (f : First limit before.value after.value frames) → All IsRead frames → Goes limit old new out (out ++ frames)
  first-goes limit out frames short f reads =
      let frame = attach_frame (before.value).session f.attach in
      let d = f.done in
      subst (λ (fs : List SessionFrame). Goes limit old new out fs)
      (append_assoc out (frame ∷ []) f.later ∙ ap (λ (fs : List SessionFrame). out ++ fs) (sym f.are))
      (goes-on limit old old new out (out ++ frame ∷ []) ((out ++ frame ∷ []) ++ f.later)
      (attach-goes limit old out frame
      (attach-fits limit ((((before.value).session).fields).channel).0 f.attach short f.fit))
      (changed-goes gives limit session old new before after d.steps f.later (out ++ frame ∷ []) stepped d.history
      answers-plain d.sends d.ends d.hand (All-tail IsRead frame f.later (subst (All IsRead) f.are reads))))

module _ (old new : LinkTalk) (out out_new : List SessionFrame) (limit session : ℕ) (link : End) (placed : Placed)
    (from : ℕ) (is : from ≡ length out) (reads : All IsRead (drop from out_new))
    (attaches : AttachesIn old out limit session link placed new out_new) where
  pub placed-goes : 512 ≤ limit → limit < 2 ^ 32 → (placed.handle).0 < 2 ^ 32 → Goes limit old new out out_new
  placed-goes least short small =
      let o = own old new out out_new limit session link placed attaches in
      let a = o.attaches in
      let one = a.attached in
      subst (λ (fs : List SessionFrame). Goes limit old new out fs) (sym o.queued)
      (first-goes old new a.before a.after session a.stepped limit out o.frames short
      (first-by (a.before).value (a.after).value limit link placed o.frames one.input one.attached small least)
      (read-behind out out_new o.frames from is o.queued reads))

pub placed-rests : (old new : LinkTalk) (out out_new : List SessionFrame) (limit session : ℕ) (link : End)
    (placed : Placed) → AttachesIn old out limit session link placed new out_new → Rests old new out out_new
placed-rests old new out out_new limit session link placed a =
    changed-rests session old new a.before a.after out out_new a.stepped

module _ (old new : LinkTalk) (out out_new : List SessionFrame) (is : new ≡ old) (silent : out_new ≡ out) where
  -- where nothing changes
  pub same-goes : (limit : ℕ) → Goes limit old new out out_new
  same-goes limit =
      record {
        waits = λ within. subst (λ (t : LinkTalk). Within limit t) (sym is) within;
        still =
            record {
              state = ap (λ (t : LinkTalk). ((t.sessions).connection).local_state) is;
              opening = ap (λ (t : LinkTalk). ((t.sessions).connection).local_open) is;
            };
        frames = [];
        queued = silent ∙ sym (append-nil out);
        fit = λ least within. All-nil (λ (f : SessionFrame). fits limit (frame_of f) ≡ true);
      }

  pub same-rests : Rests old new out out_new
  same-rests =
      record {
        silent = λ none. silent;
        idle = λ none. subst (λ (t : LinkTalk). NoneLive t) (sym is) none;
      }

-- what comes of a session's answer, whichever it is
module _ (old new : LinkTalk) (out out_new : List SessionFrame) (limit session : ℕ) (link : End)
    (from : ℕ) (is : from ≡ length out) (reads : All IsRead (drop from out_new)) where
  pub live-goes : (r : Result Placed Unattached) → 512 ≤ limit → limit < 2 ^ 32
      → IfOk r (λ placed. AttachesIn old out limit session link placed new out_new)
      → IfOk r (λ placed. (placed.handle).0 < 2 ^ 32)
      → OnErr r ((new ≡ old) × (out_new ≡ out)) → Goes limit old new out out_new
  live-goes (Ok placed) least short attaches small kept =
      placed-goes old new out out_new limit session link placed from is reads attaches least short small
  live-goes (Err e) least short attaches small kept = same-goes old new out out_new kept.0 kept.1 limit
