-- A frame of a link that is sent fits the limit where all that waits does, and so does what waits then.
use Rattle.std.proofs.Common.{◌≡◌, ℕ, true, List, [], ◌∷◌, ◌++◌, Some, None, Ok, refl, sym, ap, subst, ◌∙◌, append-nil}
use Rattle.std.specs.Prelude.{All, option_to_list}
use Rattle.std.specs.Global.{Box}
use Rattle.std.proofs.lemmas.List.Elements.{All-nil}
use Rattle.amqp_session_types.specs.declared.handles.OutputHandle.{OutputHandle}
use Rattle.amqp_session_performatives.specs.declared.session_frame.SessionFrame.{SessionFrame}
use Rattle.amqp_session_core.specs.declared.batch.BehindFrame.{BehindFrame}
use Rattle.amqp_session_core.specs.Steps.{Changes, SendsBehind}
use Rattle.amqp_link_base.specs.declared.detached.Detached.{Detached}
use Rattle.amqp_link_receiver.specs.declared.answer.Told.{Told}
use Rattle.amqp_link.specs.declared.end.End.{End}
use Rattle.amqp_link.specs.declared.relay.AttachTold.{AttachTold}
use Rattle.amqp_link.specs.declared.standing.Standing.{Standing}
use Rattle.amqp_link.specs.declared.standing.Standing.TheVariants.{Attached, Detaching, Apart}
use Rattle.amqp_link.specs.Ends.{flow_answer, state_of}
use Rattle.amqp_link.specs.Gives.{flows_at}
use Rattle.amqp_link.specs.Standing.{standing_of}
use Rattle.amqp_endpoint_links.specs.declared.numbered.Numbered.{Numbered}
use Rattle.amqp_endpoint_links.specs.History.{AskingHistory, AskingAct, InSession}
use Rattle.amqp_endpoint_tables.specs.Steps.{ChangesLive, Step}
use Rattle.amqp_endpoint_model.specs.State.{fits, frame_of}
use Rattle.amqp_endpoint_fitting.specs.Fits.{BehindFits}
use Rattle.amqp_endpoint_fitting.specs.Handed.{AllAskingHand}
use Rattle.amqp_endpoint_fitting.specs.Read.{IsRead}
use Rattle.amqp_endpoint_conversation.specs.Going.{AnswersPlain, Goes, Within}
use Rattle.amqp_endpoint_conversation.proofs.Calls.{changed-goes}
use Rattle.amqp_endpoint_attached.specs.Linked.{Linked, gives}
use Rattle.amqp_endpoint_attached.specs.Sent.{Sends}
use Rattle.amqp_endpoint_attached.proofs.Fitting.{reply_plain}
use Rattle.amqp_endpoint_link_calls.specs.Places.{LinkTalk}

-- a link answers a Flow without properties
pub answers-plain : AnswersPlain gives
answers-plain before after flow answer flows = at (standing_of (state_of before.link)) flows.0
  where
    at : (stands : Standing) → flows_at stands before.link flow (Ok (Some answer)) after.link
        → answer.properties ≡ None
    at Attached f =
        let is : flow_answer before.link flow ≡ Some answer = cc in reply_plain before.link flow answer is
    at Detaching f = absurd cc
    at Apart f = absurd cc

abbrev LinkAct : Type 0
LinkAct = AskingAct (Numbered End) AttachTold Told Detached

-- the steps of its session by which a link is changed, and sends a frame
module _ (before after : Linked) (handle : OutputHandle) (stood stands : Numbered End) (frame : BehindFrame)
    (frames : List SessionFrame) (sends : Sends before handle stood stands frame frames after) where
  abbrev steps : List LinkAct
  steps =
      InSession (Changes handle.0 stood stands) ∷ InSession (SendsBehind handle frame sends.left sends.answer) ∷ []

  history : AskingHistory gives before steps after
  history = (record before { session = sends.mid }, (sends.changed, refl), (after, (sends.sent, sends.rest), refl))

  hands : AllAskingHand steps frames
  hands = (
    [],
    frames,
    refl,
    (
      option_to_list sends.answer,
      [],
      refl,
      refl,
      sends.frames_are ∙ sym (append-nil (option_to_list sends.answer)),
    ),
    refl,
  )

module _ (limit number : ℕ) (old new : LinkTalk) (before after : Box Linked) (handle : OutputHandle)
    (stood stands : Numbered End) (frame : BehindFrame) (frames out out_new : List SessionFrame) where
  pub sent-goes : Step old.sessions (ChangesLive number before after) new.sessions
      → Sends before.value handle stood stands frame frames after.value
      → BehindFits ((((before.value).session).fields).channel).0 limit frame → out_new ≡ out ++ frames
      → All IsRead frames → Goes limit old new out out_new
  sent-goes stepped sends fits queued reads =
      subst (λ (o : List SessionFrame). Goes limit old new out o) (sym queued)
      (changed-goes gives limit number old new before after
      (steps before.value after.value handle stood stands frame frames sends) frames out stepped
      (history before.value after.value handle stood stands frame frames sends) answers-plain (tt, (fits, tt))
      (tt, (tt, tt)) (hands before.value after.value handle stood stands frame frames sends) reads)

module _ (old new : LinkTalk) (out out_new : List SessionFrame) (is : new ≡ old) (silent : out_new ≡ out) where
  -- where nothing changes
  pub same-goes : (limit : ℕ) → Goes limit old new out out_new
  same-goes limit =
      record {
        waits = λ within. subst (λ (t : LinkTalk). Within limit t) (sym is) within;
        still =
            record {
              state = ap (λ (t : LinkTalk). ((t.sessions).connection).local_state) is;
              opening = ap (λ (t : LinkTalk). ((t.sessions).connection).local_open) is;
            };
        frames = [];
        queued = silent ∙ sym (append-nil out);
        fit = λ least within. All-nil (λ (f : SessionFrame). fits limit (frame_of f) ≡ true);
      }
