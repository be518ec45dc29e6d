-- What a link does behind an Attach of the peer's that it answers, one step of its session after the other: it gives
-- deliveries up, and by what was kept of a Flow it sends messages on (part 2, 2.6.3, 2.6.7, 2.6.13).
use Rattle.std.proofs.Common.{◌≡◌, ◌⊎◌, inl, inr, ℕ, Bool, true, List, [], ◌∷◌, ◌++◌, Option, Some, None, ap}
use Rattle.std.proofs.Common.{append-nil, append_assoc, refl, sym, take, ◌∙◌}
use Rattle.amqp_session_types.specs.declared.error.Error.{Error}
use Rattle.amqp_session_types.specs.declared.handles.OutputHandle.{OutputHandle}
use Rattle.amqp_session_performatives.specs.declared.link_flow.LinkFlow.{LinkFlow}
use Rattle.amqp_session_performatives.specs.declared.session_frame.SessionFrame.{SessionFrame}
use Rattle.amqp_session_core.specs.Batch.{Transfers}
use Rattle.amqp_session_core.specs.Steps.{Changes, Reserves, SendsBehind, SendsTransfers}
use Rattle.amqp_link_sender.specs.declared.sending_on.PreparedSendOn.{PreparedSendOn}
use Rattle.amqp_link_unsettled.specs.declared.exchanging.Abort.{Abort}
use Rattle.amqp_endpoint_attached.specs.Linked.{Linked}
use Rattle.amqp_endpoint_conversation.specs.Inside.{Batches, accepted_of}
use Rattle.amqp_endpoint_conversation.proofs.Inside.{accepted-both}
use Rattle.amqp_endpoint_messages.specs.GoingOn.{AttachedAt, EndsIf}
use Rattle.amqp_endpoint_messages.specs.SendingOn.{AreCutOn}
use Rattle.amqp_endpoint_model.specs.declared.error.EndpointError.{EndpointError}
use Rattle.amqp_endpoint_model.specs.declared.event.Event.{Event}
use Rattle.amqp_endpoint_laws.proofs.Behind.{AreBehind, BehindBy, IsBehind, LinkAct, behind-on, closed-behind, done-on}
use Rattle.amqp_endpoint_laws.proofs.Behind.{none-done, same-rest}
use Rattle.amqp_endpoint_laws.proofs.BehindAttach.{Behind, GivesUpOnly, behind-gives-up, kept-behind, up-behind}
use Rattle.amqp_endpoint_laws.proofs.BehindFlow.{Any, CreditedBehind, by_link, credited-behind}
use Rattle.amqp_endpoint_laws.proofs.GivenUp.{GiveUp}

-- transfers that give deliveries up are transfers too
any-step : (step : LinkAct) → IsBehind GivesUpOnly step → IsBehind Any step
any-step (Reserves count) is = tt
any-step (Changes handle before after) is = is
any-step (SendsTransfers handle batch left frames) is = tt
any-step (SendsBehind handle frame left answer) is = tt
any-step step is = absurd is

any-steps : (steps : List LinkAct) → AreBehind GivesUpOnly steps → AreBehind Any steps
any-steps [] are = tt
any-steps (step ∷ steps) (one, others) = (any-step step one, any-steps steps others)

-- nothing goes on
none-credited : (limit : ℕ) (handle : OutputHandle) (s : Linked) → CreditedBehind limit handle [] [] s s
unfolding none-done
none-credited limit handle s =
    record {
      batches = [];
      all = true;
      cut = (refl, refl);
      behind = record { done = none-done s.session s.session [] refl refl; rest = same-rest s s refl };
      count = 0;
      accepted = refl;
    }

-- once it gave deliveries up it takes what was kept of a Flow, and sends these messages on; or it is closed, and sends
-- none on
record EndsBehind (limit : ℕ) (handle : OutputHandle) (ons : List PreparedSendOn) (frames : List SessionFrame)
    (old new : Linked) : Type 0 where
  first : List SessionFrame
  later : List SessionFrame
  mid : Linked
  up : Behind first old mid
  gone : List PreparedSendOn
  are : (gone ≡ []) ⊎ (gone ≡ ons)
  on : CreditedBehind limit handle gone later mid new
  frames_are : frames ≡ first ++ later

ends-so : (stuck : Option EndpointError) (limit session count : ℕ) (handle : OutputHandle) (why : Error)
    (kept : Option LinkFlow) (ons : List PreparedSendOn) (frames : List SessionFrame) (events : List Event)
    (old new : Linked) → EndsIf stuck limit session count handle why kept ons frames events old new
    → EndsBehind limit handle ons frames old new
ends-so None limit session count handle why kept ons frames events old new c =
    record {
      first = c.reply;
      later = c.on;
      mid = c.mid;
      up = kept-behind handle kept c.reply old c.mid c.takes;
      gone = ons;
      are = inr refl;
      on = credited-behind limit session count handle why ons c.on events c.mid new c.credited;
      frames_are = c.frames_are;
    }
ends-so (Some error) limit session count handle why kept ons frames events old new c =
    record {
      first = frames;
      later = [];
      mid = new;
      up = closed-behind session error count handle why frames events old new c;
      gone = [];
      are = inl refl;
      on = none-credited limit handle new;
      frames_are = sym (append-nil frames);
    }

-- what it accepts to be sent are the transfers by which it gives deliveries up, and those of the first so many of these
-- messages
pub record AnsweredBehind (limit : ℕ) (handle : OutputHandle) (ons : List PreparedSendOn) (frames : List SessionFrame)
    (old new : Linked) : Type 0 where
  pub gone : List PreparedSendOn
  pub are : (gone ≡ []) ⊎ (gone ≡ ons)
  pub batches : List Transfers
  pub all : Bool
  pub cut : AreCutOn limit handle gone batches all
  pub behind : BehindBy Any frames old new
  pub given_up : Batches
  pub up : GiveUp given_up
  pub count : ℕ
  pub accepted : accepted_of behind.done.steps ≡ given_up ++ by_link handle (take count batches)

pub answered-behind : (limit session count : ℕ) (handle : OutputHandle) (why : Error) (aborts : List Abort)
    (kept : Option LinkFlow) (ons : List PreparedSendOn) (frames : List SessionFrame) (events : List Event)
    (old new : Linked) → AttachedAt limit session count handle why aborts kept ons frames events old new
    → AnsweredBehind limit handle ons frames old new
unfolding behind-on done-on
answered-behind limit session count handle why aborts kept ons frames events old new a =
    let e = ends-so a.stuck limit session count handle why kept ons a.down a.failed a.given new a.ends in
    let b : Behind (a.up ++ e.first) old e.mid =
    behind-on old a.given e.mid a.up e.first (a.up ++ e.first) refl
    (up-behind limit session count handle why aborts kept ons frames events old new a) e.up in
    let first : BehindBy Any (a.up ++ e.first) old e.mid =
    record {
      done = record {
        steps = b.done.steps;
        history = b.done.history;
        are = any-steps b.done.steps b.done.are;
        says = b.done.says;
      };
      rest = b.rest;
    } in
    let on = e.on in
    record {
      gone = e.gone;
      are = e.are;
      batches = on.batches;
      all = on.all;
      cut = on.cut;
      behind =
          behind-on old e.mid new (a.up ++ e.first) e.later frames
          (a.frames_are ∙ ap (λ (fs : List SessionFrame). a.up ++ fs) e.frames_are
          ∙ sym (append_assoc a.up e.first e.later))
          first on.behind;
      given_up = accepted_of b.done.steps;
      up = behind-gives-up old.session (a.up ++ e.first) e.mid.session b.done;
      count = on.count;
      accepted =
          accepted-both b.done.steps on.behind.done.steps
          ∙ ap (λ (bs : Batches). accepted_of b.done.steps ++ bs) on.accepted;
    }
