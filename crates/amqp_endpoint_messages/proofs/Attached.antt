-- What a link that took the peer's Attach does: it tells, gives deliveries up, and is closed where it can't.
use Rattle.std.proofs.Common.{◌≡◌, ℕ, Bool, true, false, List, [], ◌++◌, Option, Some, None, refl, sym, ap, subst, ◌∙◌}
use Rattle.std.proofs.Common.{append-nil, append_assoc}
use Rattle.std.specs.Prelude.{IsSome, option_to_list}
use Rattle.std.proofs.lemmas.List.Elements.{All-nil}
use Rattle.amqp_session_types.specs.declared.error.Error.{Error}
use Rattle.amqp_session_types.specs.declared.handles.OutputHandle.{OutputHandle}
use Rattle.amqp_session_performatives.specs.declared.link_flow.LinkFlow.{LinkFlow}
use Rattle.amqp_session_performatives.specs.declared.session_frame.SessionFrame.{SessionFrame}
use Rattle.amqp_session_core.specs.Batch.{Transfers}
use Rattle.amqp_session_core.specs.State.{link_at}
use Rattle.amqp_link.specs.declared.end.End.{End}
use Rattle.amqp_link_sender.specs.declared.sending_on.PreparedSendOn.{PreparedSendOn}
use Rattle.amqp_link_unsettled.specs.declared.exchanging.Abort.{Abort}
use Rattle.amqp_endpoint_links.specs.declared.numbered.Numbered.{Numbered}
use Rattle.amqp_endpoint_model.specs.declared.error.EndpointError.{EndpointError}
use Rattle.amqp_endpoint_model.specs.declared.event.Event.{Event}
use Rattle.amqp_endpoint_attached.specs.Detaching.{DetachGiven, is_there}
use Rattle.amqp_endpoint_attached.specs.Kept.{Replies, TakesFlow, TakesKept}
use Rattle.amqp_endpoint_attached.specs.Linked.{Linked, LinksIn, end_at, end_in, gives}
use Rattle.amqp_endpoint_messages.specs.All.{AreCopies, TellsFirst, first_told}
use Rattle.amqp_endpoint_messages.specs.GivingUp.{ClosesIf, DoesClosedFor, GivesUp, HandsEach}
use Rattle.amqp_endpoint_messages.specs.GivingUp.{refused_told, stuck_by}
use Rattle.amqp_endpoint_messages.specs.GoingOn.{DoesAttached}
use Rattle.amqp_endpoint_messages.specs.MadeReady.{ArePlanned, ClosesOut}
use Rattle.amqp_endpoint_messages.specs.SendingOn.{DoesCredited}
use Rattle.amqp_endpoint_messages.proofs.Handed.{Behind, behind}

-- without an error of the peer's no copies are needed
pub no-copies : (count : ℕ) (copies : List Error) → copies ≡ [] → AreCopies None count copies
no-copies count copies is =
    subst (λ (l : List Error). AreCopies None count l) (sym is)
    (record { each = All-nil (λ (copy : Error). None ≡ Some copy); enough = tt })

-- the link is there as long as the links stay
pub still-there : (old new : LinksIn) (handle : OutputHandle) → new.links ≡ old.links → IsSome (end_in old handle)
    → IsSome (end_in new handle)
still-there old new handle same there =
    subst (λ (links : List (Option (Numbered End))). IsSome (end_in (record old { links = links }) handle)) (sym same)
    there

-- it is closed, where it is attached
pub closes-there : (handle : OutputHandle) (why : Error) (old new : Linked) (out out_new : List SessionFrame)
    → is_there (end_at old handle) ≡ true → DetachGiven old handle true (Some why) out new out_new
    → ClosesOut handle why old out new out_new
closes-there handle why old new out out_new there given =
    let closing : DetachGiven old handle true (Some why) [] new given.frames =
    record {
      number = given.number;
      before = given.before;
      after = given.after;
      frames = given.frames;
      moved = given.moved;
      sent = given.sent;
      added = refl;
    } in
    record {
      frames = given.frames;
      closes = subst (λ (b : Bool). ClosesIf b (Some why) old handle given.frames new) (sym there) closing;
      queued = given.added;
    }

pub closes-none : (handle : OutputHandle) (why : Error) (old : Linked) (out : List SessionFrame)
    → is_there (end_at old handle) ≡ false → ClosesOut handle why old out old out
closes-none handle why old out none =
    record {
      frames = [];
      closes = subst (λ (b : Bool). ClosesIf b (Some why) old handle [] old) (sym none) (refl, refl);
      queued = sym (append-nil out);
    }

-- and that is told
pub closed-for : (session : ℕ) (error : EndpointError) (count : ℕ) (handle : OutputHandle) (why : Error)
    (link : Numbered End) (old mid new : Linked) (out out_new : List SessionFrame) (events failed told : List Event)
    → Some link ≡ link_at old.session handle.0 → ClosesOut handle why old out mid out_new
    → failed ≡ events ++ refused_told session link.number error
    → TellsFirst count handle (link_at mid.session handle.0) mid new
    → told ≡ failed ++ first_told count None (link_at mid.session handle.0)
    → DoesClosedFor session error count handle why old out events new out_new told
closed-for session error count handle why link old mid new out out_new events failed told there closes pushed tells is =
    let rest : List Event = first_told count None (link_at mid.session handle.0) in
    record {
      frames = closes.frames;
      events = refused_told session link.number error ++ rest;
      does =
          record {
            link = link;
            there = sym there;
            mid = mid;
            closes = closes.closes;
            tells = tells;
            told = refl;
          };
      queued = closes.queued;
      are_told =
          is
          ∙ ap (λ (l : List Event). l ++ rest) pushed
          ∙ append_assoc events (refused_told session link.number error) rest;
    }

-- a reply, behind frames that were handed out before it
record OwnReply (handle : OutputHandle) (reply : Option LinkFlow) (mid : LinksIn) (out : List SessionFrame)
    (new : LinksIn) (out_new : List SessionFrame) : Type 0 where
  frames : List SessionFrame
  queued : out_new ≡ out ++ frames
  replies : Replies gives handle reply mid [] new frames

own-reply : (handle : OutputHandle) (reply : Option LinkFlow) (mid new : LinksIn) (out out_new : List SessionFrame)
    → Replies gives handle reply mid out new out_new → OwnReply handle reply mid out new out_new
own-reply handle None mid new out out_new (same, silent) =
    record { frames = []; queued = silent ∙ sym (append-nil out); replies = (same, refl) }
own-reply handle (Some flow) mid new out out_new r =
    record {
      frames = option_to_list r.frame;
      queued = r.handed;
      replies = record { frame = r.frame; sent = r.sent; handed = refl };
    }

-- so it is with what was kept of a Flow
record OwnKept (handle : OutputHandle) (kept : Option LinkFlow) (old : Linked) (out : List SessionFrame)
    (new : Linked) (out_new : List SessionFrame) : Type 0 where
  frames : List SessionFrame
  queued : out_new ≡ out ++ frames
  takes : TakesKept handle kept old [] new frames

own-kept : (handle : OutputHandle) (kept : Option LinkFlow) (old new : Linked) (out out_new : List SessionFrame)
    → TakesKept handle kept old out new out_new → OwnKept handle kept old out new out_new
own-kept handle None old new out out_new t =
    record {
      frames = [];
      queued = t.takes.1 ∙ sym (append-nil out);
      takes = record { takes = (t.takes.0, refl); rest = t.rest };
    }
own-kept handle (Some flow) old new out out_new t =
    let f : TakesFlow handle flow old.session out new.session out_new = t.takes in
    let r : OwnReply handle f.reply f.mid out new.session out_new =
    own-reply handle f.reply f.mid new.session out out_new f.replies in
    record {
      frames = r.frames;
      queued = r.queued;
      takes =
          record {
            takes = record { reply = f.reply; mid = f.mid; takes = f.takes; replies = r.replies };
            rest = t.rest;
          };
    }

module _ (limit session count : ℕ) (handle : OutputHandle) (why : Error) (aborts : List Abort)
    (kept : Option LinkFlow) (batches : List Transfers) (fit : Bool) (planned : ArePlanned limit handle aborts batches fit)
    (old told given : Linked) (out out_up : List SessionFrame) (events events_told : List Event) (stopped : Bool)
    (tells : TellsFirst count handle (link_at old.session handle.0) old told)
    (told_is : events_told ≡ events ++ first_told count None (link_at old.session handle.0))
    (hands : HandsEach handle batches told.session out stopped given.session out_up)
    (rest : given ≡ record told { session = given.session }) (stuck : Option EndpointError)
    (stuck_is : stuck ≡ stuck_by stopped fit) where
  abbrev outcomes : List Event
  outcomes = first_told count None (link_at old.session handle.0)

  pub ups : Behind handle batches out [] told.session stopped given.session out_up
  ups = behind handle batches out told.session given.session stopped out_up hands

  pub gives-up : GivesUp limit handle aborts told [] stuck given ups.up
  gives-up =
      record {
        stopped = stopped;
        hands =
            subst (λ (l : List Transfers). HandsEach handle l told.session [] stopped given.session ups.up)
            planned.these ups.hands;
        is = stuck_is ∙ ap (λ (b : Bool). stuck_by stopped b) planned.whether;
        rest = rest;
        fit = planned.fit;
      }

  -- all deliveries are given up, what was kept of a Flow is taken, and these messages are sent on
  pub attached : stuck ≡ None → (ons : List PreparedSendOn) (mid new : Linked) (out_mid out_new : List SessionFrame)
      (events_new : List Event) → TakesKept handle kept given out_up mid out_mid
      → DoesCredited limit session count handle why ons mid out_mid events_told new out_new events_new
      → DoesAttached limit session count handle why aborts kept ons old out events new out_new events_new
  attached none ons mid new out_mid out_new events_new flows on =
      let f : OwnKept handle kept given out_up mid out_mid = own-kept handle kept given mid out_up out_mid flows in
      let down : List SessionFrame = f.frames ++ on.frames in
      record {
        frames = ups.up ++ down;
        events = outcomes ++ on.events;
        does =
            record {
              told = told;
              tells = tells;
              stuck = None;
              up = ups.up;
              given = given;
              gives_up =
                  subst (λ (o : Option EndpointError). GivesUp limit handle aborts told [] o given ups.up) none
                  gives-up;
              down = down;
              failed = on.events;
              ends =
                  record {
                    reply = f.frames;
                    mid = mid;
                    takes = f.takes;
                    on = on.frames;
                    credited = on.does;
                    frames_are = refl;
                  };
              frames_are = refl;
              events_are = refl;
            };
        queued =
            on.queued
            ∙ ap (λ (l : List SessionFrame). l ++ on.frames) f.queued
            ∙ append_assoc out_up f.frames on.frames
            ∙ ap (λ (l : List SessionFrame). l ++ down) ups.queued
            ∙ append_assoc out ups.up down;
        are_told =
            on.are_told
            ∙ ap (λ (l : List Event). l ++ on.events) told_is
            ∙ append_assoc events outcomes on.events;
      }

  -- or it is closed
  pub attached-not : (error : EndpointError) (ons : List PreparedSendOn) (new : Linked) (out_new : List SessionFrame)
      (events_new : List Event) → stuck ≡ Some error
      → DoesClosedFor session error count handle why given out_up events_told new out_new events_new
      → DoesAttached limit session count handle why aborts kept ons old out events new out_new events_new
  attached-not error ons new out_new events_new some closed =
      record {
        frames = ups.up ++ closed.frames;
        events = outcomes ++ closed.events;
        does =
            record {
              told = told;
              tells = tells;
              stuck = Some error;
              up = ups.up;
              given = given;
              gives_up =
                  subst (λ (o : Option EndpointError). GivesUp limit handle aborts told [] o given ups.up) some
                  gives-up;
              down = closed.frames;
              failed = closed.events;
              ends = closed.does;
              frames_are = refl;
              events_are = refl;
            };
        queued =
            closed.queued
            ∙ ap (λ (l : List SessionFrame). l ++ closed.frames) ups.queued
            ∙ append_assoc out ups.up closed.frames;
        are_told =
            closed.are_told
            ∙ ap (λ (l : List Event). l ++ closed.events) told_is
            ∙ append_assoc events outcomes closed.events;
      }
