-- What a link does with the credit of a Flow: it sends messages on, and is closed where it can't.
use Rattle.std.proofs.Common.{◌≡◌, ℕ, Bool, true, false, List, [], ◌++◌, Option, Some, None, refl, sym, ap, subst, ◌∙◌}
use Rattle.std.proofs.Common.{append-nil, append_assoc}
use Rattle.amqp_session_types.specs.declared.error.Error.{Error}
use Rattle.amqp_session_types.specs.declared.handles.OutputHandle.{OutputHandle}
use Rattle.amqp_session_performatives.specs.declared.session_frame.SessionFrame.{SessionFrame}
use Rattle.amqp_link_sender.specs.declared.sending_on.PreparedSendOn.{PreparedSendOn}
use Rattle.amqp_endpoint_model.specs.declared.error.EndpointError.{EndpointError}
use Rattle.amqp_endpoint_model.specs.declared.event.Event.{Event}
use Rattle.amqp_endpoint_attached.specs.Linked.{Linked}
use Rattle.amqp_endpoint_messages.specs.GivingUp.{DoesClosedFor, stuck_by}
use Rattle.amqp_endpoint_messages.specs.SendingOn.{AreReadyOn, AreSentOn, DoesCredited, SendsOn}
use Rattle.amqp_endpoint_messages.specs.declared.sending_on.SendingOn.{SendingOn}
use Rattle.amqp_endpoint_messages.proofs.SentOn.{OnBehind, on-behind}

module _ (limit session count : ℕ) (handle : OutputHandle) (why : Error) (ons : List PreparedSendOn)
    (sending : SendingOn) (ready : AreReadyOn limit handle ons sending) (old gone : Linked)
    (out out_on : List SessionFrame) (events : List Event) (stopped : Bool)
    (sent : AreSentOn handle sending.batches.items old.session out stopped gone.session out_on)
    (rest : gone ≡ record old { session = gone.session }) (stuck : Option EndpointError)
    (stuck_is : stuck ≡ stuck_by stopped sending.all_fit) where
  pub ons-behind : OnBehind handle sending.batches.items out [] old.session stopped gone.session out_on
  ons-behind = on-behind handle sending.batches.items out old.session gone.session stopped out_on sent

  pub sends-on : SendsOn limit handle ons old [] stuck gone ons-behind.on
  sends-on =
      record {
        batches = sending.batches.items;
        all = sending.all_fit;
        cut = ready.cut;
        stopped = stopped;
        sent = ons-behind.sent;
        is = stuck_is;
        rest = rest;
      }

  -- all are sent on
  pub credited : stuck ≡ None
      → DoesCredited limit session count handle why ons old out events gone out_on events
  credited none =
      record {
        frames = ons-behind.on;
        events = [];
        does =
            record {
              stuck = None;
              on = ons-behind.on;
              gone = gone;
              sends_on =
                  subst (λ (o : Option EndpointError). SendsOn limit handle ons old [] o gone ons-behind.on) none
                  sends-on;
              down = [];
              closes = (refl, refl, refl);
              frames_are = sym (append-nil ons-behind.on);
            };
        queued = ons-behind.queued;
        are_told = sym (append-nil events);
      }

  -- or it is closed
  pub credited-not : (error : EndpointError) (new : Linked) (out_new : List SessionFrame) (events_new : List Event)
      → stuck ≡ Some error
      → DoesClosedFor session error count handle why gone out_on events new out_new events_new
      → DoesCredited limit session count handle why ons old out events new out_new events_new
  credited-not error new out_new events_new some closed =
      record {
        frames = ons-behind.on ++ closed.frames;
        events = closed.events;
        does =
            record {
              stuck = Some error;
              on = ons-behind.on;
              gone = gone;
              sends_on =
                  subst (λ (o : Option EndpointError). SendsOn limit handle ons old [] o gone ons-behind.on) some
                  sends-on;
              down = closed.frames;
              closes = closed.does;
              frames_are = refl;
            };
        queued =
            closed.queued
            ∙ ap (λ (l : List SessionFrame). l ++ closed.frames) ons-behind.queued
            ∙ append_assoc out ons-behind.on closed.frames;
        are_told = closed.are_told;
      }

-- of no messages nothing goes on
pub credited-none : (limit session count : ℕ) (handle : OutputHandle) (why : Error) (s : Linked)
    (out : List SessionFrame) (events : List Event)
    → DoesCredited limit session count handle why [] s out events s out events
credited-none limit session count handle why s out events =
    record {
      frames = [];
      events = [];
      does =
          record {
            stuck = None;
            on = [];
            gone = s;
            sends_on =
                record {
                  batches = [];
                  all = true;
                  cut = (refl, refl);
                  stopped = false;
                  sent = (refl, refl, refl);
                  is = refl;
                  rest = refl;
                };
            down = [];
            closes = (refl, refl, refl);
            frames_are = refl;
          };
      queued = sym (append-nil out);
      are_told = sym (append-nil events);
    }
