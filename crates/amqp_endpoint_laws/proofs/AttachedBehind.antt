-- A link attaches by a call: what its session does, one step after the other (part 2, 2.6.3, 2.6.7, 2.6.13).
use Rattle.std.proofs.Common.{◌≡◌, ◌⊎◌, inl, inr, ℕ, Bool, true, List, [], ◌∷◌, ◌++◌, Option, Some, None, ap, refl}
use Rattle.std.proofs.Common.{subst, sym, take, ◌∙◌}
use Rattle.std.specs.Prelude.{option_map}
use Rattle.std.specs.FinMap as map
use Rattle.amqp_session_types.specs.declared.handles.InputHandle.{InputHandle}
use Rattle.amqp_session_types.specs.declared.handles.OutputHandle.{OutputHandle}
use Rattle.amqp_session_performatives.specs.declared.attach.Attach.{Attach}
use Rattle.amqp_session_performatives.specs.declared.link_flow.LinkFlow.{LinkFlow}
use Rattle.amqp_session_performatives.specs.declared.session_frame.SessionFrame.{SessionFrame}
use Rattle.amqp_session_core.specs.Batch.{Transfers}
use Rattle.amqp_session_core.specs.Steps.{Allocates, Reserves, Step}
use Rattle.amqp_link.specs.declared.end.End.{End}
use Rattle.amqp_link_sender.specs.declared.sending_on.PreparedSendOn.{PreparedSendOn}
use Rattle.amqp_endpoint_conversation.specs.Inside.{AcceptsInside, Batches, accepted_of}
use Rattle.amqp_endpoint_conversation.proofs.Inside.{one-inside, step-inside}
use Rattle.amqp_endpoint_links.specs.Asked.{Asked}
use Rattle.amqp_endpoint_links.specs.declared.links.AskedLink.{AskedLink}
use Rattle.amqp_endpoint_attached.specs.Answering.{plain}
use Rattle.amqp_endpoint_attached.specs.Linked.{Linked, LinksIn, gives}
use Rattle.amqp_endpoint_attached.specs.Links.{Announces, attach_frame, with_number}
use Rattle.amqp_endpoint_link_calls.specs.Attaching.{AttachedBy, AttachesIn}
use Rattle.amqp_endpoint_link_calls.specs.Naming.{Meets}
use Rattle.amqp_endpoint_link_calls.specs.Places.{LinkTalk}
use Rattle.amqp_endpoint_link_calls.specs.declared.placed.Placed.{Placed}
use Rattle.amqp_endpoint_messages.specs.All.{open_count}
use Rattle.amqp_endpoint_messages.specs.GoingOn.{on_answered}
use Rattle.amqp_endpoint_messages.specs.SendingOn.{AreCutOn}
use Rattle.amqp_endpoint_model.specs.State.{error_of}
use Rattle.amqp_endpoint_model.specs.Step.{not_allowed}
use Rattle.amqp_endpoint_laws.proofs.Behind.{BehindBy, behind-inside}
use Rattle.amqp_endpoint_laws.proofs.BehindAnswer.{AnsweredBehind, answered-behind}
use Rattle.amqp_endpoint_laws.proofs.BehindFlow.{Any, by_link}
use Rattle.amqp_endpoint_laws.proofs.GivenUp.{GiveUp}

-- these messages go on as it answers the one that the peer asks for, by what was kept of a Flow
pub record AnswersOn (before : Linked) (link : End) (ons : List PreparedSendOn) : Type 0 where
  pub input : InputHandle
  pub meets : Meets before.asked link (Some input)
  pub asked : AskedLink
  pub is_asked : map.get before.asked input.0 ≡ Some asked
  pub are : ons ≡ on_answered link asked.attach (option_map plain asked.flow)

-- its Attach is handed out first, under its handle there, and behind it what is done inside of its session, by which
-- nothing is accepted to be sent but what gives deliveries up, and the first so many of the messages that go on
pub record AttachesInside (before after : Linked) (limit : ℕ) (link : End) (placed : Placed)
    (frames : List SessionFrame) : Type 0 where
  pub attach : Attach
  pub later : List SessionFrame
  pub are : frames ≡ attach_frame before.session attach ∷ later
  pub announces : Announces limit link placed.handle attach
  pub ons : List PreparedSendOn
  pub go_on : (ons ≡ []) ⊎ AnswersOn before link ons
  pub batches : List Transfers
  pub all : Bool
  pub cut : AreCutOn limit placed.handle ons batches all
  pub given_up : Batches
  pub up : GiveUp given_up
  pub count : ℕ
  pub accepted : Batches
  pub accepts : accepted ≡ given_up ++ by_link placed.handle (take count batches)
  pub inside : AcceptsInside gives accepted before.session later after.session

module _ (before after : Linked) (limit : ℕ) (link : End) (placed : Placed) (frames : List SessionFrame) where
  -- a link that answers one of the peer's: room is made in its session, it gets its handle there, and goes on
  module _ (input : InputHandle) (a : AttachedBy (Some input) before [] limit link placed after frames) where
    pub roomed : (a.ready).session ≡ record before.session { outgoing = (a.ready).session.outgoing }
    roomed = ((a.makes_room).made).reserves.1

    pub allocates : Step gives (a.ready).session
        (Allocates placed.handle.0 (with_number placed.link (a.answers).becomes) (Some input.0)) (a.mid).session
    allocates =
        subst
        (λ (h : OutputHandle).
        Step gives (a.ready).session (Allocates h.0 (with_number placed.link (a.answers).becomes) (Some input.0))
        (a.mid).session)
        a.handled (a.answers).allocates

    abbrev its_ons : List PreparedSendOn
    its_ons = on_answered link (a.answers).asked.attach (a.answered).kept

    does-so : AnsweredBehind limit placed.handle its_ons a.frames a.mid after
    does-so =
        answered-behind limit placed.session (open_count (Some link)) placed.handle (error_of not_allowed)
        (a.answered).aborts (a.answered).kept its_ons a.frames a.behind a.mid after a.goes

    pub goes : BehindBy Any a.frames a.mid after
    goes = does-so.behind

    -- it is asked for no longer
    pub asked-is : after.asked ≡ map.remove before.asked input.0
    asked-is =
        ap (λ (x : Linked). x.asked) goes.rest
        ∙ ap (λ (x : Linked). x.asked) (a.answers).rest
        ∙ ap (λ (x : Linked). let s : Asked = x.asked in map.remove s input.0) (a.makes_room).rest

    -- what goes on is what was kept of a Flow lets go on, or nothing
    on-so : (ons : List PreparedSendOn) → Meets before.asked link (Some input) → (ons ≡ []) ⊎ (ons ≡ its_ons)
        → (ons ≡ []) ⊎ AnswersOn before link ons
    on-so ons met (inl none) = inl none
    on-so ons met (inr same) =
        inr (record {
          input = input;
          meets = met;
          asked = (a.answers).asked;
          is_asked =
              ap (λ (x : Linked). let s : Asked = x.asked in map.get s input.0) (sym (a.makes_room).rest)
              ∙ (a.answers).is_asked;
          are =
              same
              ∙ ap (λ (o : Option LinkFlow). on_answered link (a.answers).asked.attach o) (a.answers).kept;
        })

    answered-inside : Meets before.asked link (Some input) → AttachesInside before after limit link placed frames
    answered-inside met =
        let s = a.answers in
        let b = does-so in
        let d = b.behind.done in
        record {
          attach = s.attach;
          later = a.frames;
          are =
              a.queued
              ∙ ap (λ (fs : List SessionFrame). fs ++ a.frames) s.handed
              ∙ ap (λ (t : LinksIn). attach_frame t s.attach ∷ a.frames) roomed;
          announces =
              subst (λ (h : OutputHandle). Announces limit link h s.attach) a.handled (s.exchanges).announces;
          ons = b.gone;
          go_on = on-so b.gone met b.are;
          batches = b.batches;
          all = b.all;
          cut = b.cut;
          given_up = b.given_up;
          up = b.up;
          count = b.count;
          accepted = accepted_of d.steps;
          accepts = b.accepted;
          inside =
              step-inside gives before.session (a.ready).session after.session (Reserves ((a.makes_room).made).count)
              a.frames ((a.makes_room).made).reserves tt tt
              (step-inside gives (a.ready).session (a.mid).session after.session
              (Allocates placed.handle.0 (with_number placed.link s.becomes) (Some input.0)) a.frames allocates tt tt
              (behind-inside (a.mid).session a.frames after.session d));
        }

  attached-inside : (input : Option InputHandle) → Meets before.asked link input
      → AttachedBy input before [] limit link placed after frames
      → AttachesInside before after limit link placed frames
  attached-inside None met (a, told) =
      record {
        attach = a.attach;
        later = [];
        are = a.handed;
        announces = a.sends.announces;
        ons = [];
        go_on = inl refl;
        batches = [];
        all = true;
        cut = (refl, refl);
        given_up = [];
        up = tt;
        count = 0;
        accepted = [];
        accepts = refl;
        inside =
            one-inside gives before.session after.session
            (Allocates placed.handle.0 (with_number placed.link a.attaching) None) a.allocates tt tt;
      }
  attached-inside (Some input) met a = answered-inside input a met

-- a link attaches in a session
pub attaches-inside : (old new : LinkTalk) (limit session : ℕ) (link : End) (placed : Placed)
    (frames : List SessionFrame) (a : AttachesIn old [] limit session link placed new frames)
    → AttachesInside (a.before).value (a.after).value limit link placed frames
attaches-inside old new limit session link placed frames a =
    let one = a.attached in
    attached-inside (a.before).value (a.after).value limit link placed frames one.input one.meets one.attached
