-- What is done for a link in its session hands out frames that fit.
use Rattle.std.proofs.Common.{◌≡◌, ◌≤◌, ◌<◌, ℕ, Bool, true, false, List, [], ◌∷◌, Option, Some, None, refl, sym}
use Rattle.std.proofs.Common.{subst, ◌∙◌, append-nil, length, drop}
use Rattle.std.specs.Prelude.{◌^◌, All}
use Rattle.amqp_session_types.specs.declared.error.Error.{Error}
use Rattle.amqp_session_types.specs.declared.handles.OutputHandle.{OutputHandle}
use Rattle.amqp_session_performatives.specs.declared.session_frame.SessionFrame.{SessionFrame}
use Rattle.amqp_session_core.specs.declared.batch.BehindFrame.TheVariants as behind
use Rattle.amqp_session_core.specs.Steps.{Deallocates, SendsBehind}
use Rattle.amqp_endpoint_links.specs.History.{AskingHistory, InSession}
use Rattle.amqp_endpoint_model.specs.State.{error_of}
use Rattle.amqp_session_outgoing.specs.Queues.{room_behind}
use Rattle.amqp_endpoint_fitting.specs.Plain.{SaysConditionAlone}
use Rattle.amqp_endpoint_fitting.proofs.Frames.{detach_fits, message_size_exceeded-short, not_allowed-short}
use Rattle.amqp_endpoint_fitting.proofs.Frames.{transfer_limit_exceeded-short}
use Rattle.amqp_endpoint_fitting.specs.Handed.{AllAskingEndFit, AllAskingHand, AllAskingSendFit}
use Rattle.amqp_endpoint_fitting.specs.Read.{IsRead}
use Rattle.amqp_endpoint_conversation.specs.Going.{Goes, Rests}
use Rattle.amqp_endpoint_conversation.proofs.Calls.{changed-goes, changed-rests}
use Rattle.amqp_endpoint_conversation.proofs.Goings.{read-behind}
use Rattle.amqp_endpoint_attached.specs.Detaching.{is_there, own_detach}
use Rattle.amqp_endpoint_attached.specs.Linked.{Linked, end_at, gives}
use Rattle.amqp_endpoint_attached.specs.TakenOut.{TakenOut}
use Rattle.amqp_endpoint_linking.specs.Linking.{Link, Talk}
use Rattle.amqp_endpoint_linking.specs.Handed.{Hands}
use Rattle.amqp_endpoint_link_hearing.specs.InSession.{AnswersIf, Closes, ClosesIf, GoesOn, Parts, name_of}
use Rattle.amqp_endpoint_link_hearing.specs.Leaving.{HasPlace, detach_frame}
use Rattle.amqp_endpoint_link_hearing.specs.declared.closing.Condition.{Condition}
use Rattle.amqp_endpoint_link_hearing.specs.declared.closing.Condition.TheVariants as condition
use Rattle.amqp_endpoint_messages.proofs.AttachDone.{Done, Fits, LinkAct, given, unchanged}
use Rattle.amqp_endpoint_link_hearing.proofs.Plain.{answers-plain}

-- a link leaves its session, or not
abbrev out-steps : OutputHandle → Option Link → List LinkAct
out-steps handle None = []
out-steps handle (Some link) = InSession (Deallocates handle.0) ∷ []

out-history : (old : Linked) (handle : OutputHandle) (left : Option Link) (new : Linked) → TakenOut old handle left new
    → AskingHistory gives old (out-steps handle left) new
out-history old handle None new (why, same) = same
out-history old handle (Some link) new (there, stepped, rest) = (new, (stepped, rest), refl)

out-sends : (channel limit : ℕ) (handle : OutputHandle) (left : Option Link)
    → AllAskingSendFit channel limit (out-steps handle left)
out-sends channel limit handle None = tt
out-sends channel limit handle (Some link) = (tt, tt)

out-ends : (limit : ℕ) (handle : OutputHandle) (left : Option Link) → AllAskingEndFit limit (out-steps handle left)
out-ends limit handle None = tt
out-ends limit handle (Some link) = (tt, tt)

out-hand : (handle : OutputHandle) (left : Option Link) → AllAskingHand (out-steps handle left) []
out-hand handle None = refl
out-hand handle (Some link) = ([], [], refl, refl, refl)

-- it is answered before, or not
parted : (limit : ℕ) (old : Linked) (handle : OutputHandle) (answers closed : Bool) (error : Option Error)
    (left : Option Link) (frames : List SessionFrame) (mid new : Linked) → Fits limit old handle closed error
    → AnswersIf answers old handle closed error frames mid → TakenOut mid handle left new → Done limit old frames new
parted limit old handle true closed error left frames mid new fit r t =
    let s = r.said in
    record {
      steps =
          InSession (SendsBehind handle (behind.Detach (own_detach handle closed error)) s.left s.answer)
          ∷ out-steps handle left;
      history = (mid, (s.sent, s.rest), out-history mid handle left new t);
      sends = (fit, out-sends old.session.fields.channel.0 limit handle left);
      ends = (tt, out-ends limit handle left);
      hand =
          (r.frames, [], s.frames_are, out-hand handle left, r.added ∙ sym (append-nil r.frames));
    }
parted limit old handle false closed error left frames mid new fit r t =
    record {
      steps = out-steps handle left;
      history =
          subst (λ (s : Linked). AskingHistory gives s (out-steps handle left) new) r.0
          (out-history mid handle left new t);
      sends = out-sends old.session.fields.channel.0 limit handle left;
      ends = out-ends limit handle left;
      hand = subst (λ (fs : List SessionFrame). AllAskingHand (out-steps handle left) fs) (sym r.1)
          (out-hand handle left);
    }

pub parts-done : (limit : ℕ) (old : Linked) (handle : OutputHandle) (answers closed : Bool) (error : Option Error)
    (left : Option Link) (frames : List SessionFrame) (new : Linked) → Fits limit old handle closed error
    → Parts handle answers closed error left frames old new → Done limit old frames new
parts-done limit old handle answers closed error left frames new fit p =
    parted limit old handle answers closed error left frames p.mid new fit p.answered p.out

-- each condition that a link is closed with is short
condition-short : (condition : Condition) → SaysConditionAlone (error_of (name_of condition))
condition-short condition.NotAllowed = not_allowed-short
condition-short condition.TransferLimitExceeded = transfer_limit_exceeded-short
condition-short condition.MessageSizeExceeded = message_size_exceeded-short

-- so there is a place for the closing Detach, which fits
pub closing-placed : (s : Linked) (handle : OutputHandle) (condition : Condition) (name : List ℕ) (place : ℕ)
    → name ≡ name_of condition → handle.0 < 2 ^ 32 → room_behind handle.0 1 s.session.outgoing.queues ≤ place
    → HasPlace s handle true (Some (error_of name)) place
closing-placed s handle condition name place is small room =
    record {
      room = room;
      fit =
          detach_fits s.session.fields.channel.0 (own_detach handle true (Some (error_of name)))
          (record {
            handle = small;
            error = subst (λ (n : List ℕ). SaysConditionAlone (error_of n)) (sym is) (condition-short condition);
          });
    }

closed-if : (there : Bool) (limit : ℕ) (why : Option Error) (old : Linked) (handle : OutputHandle)
    (frames : List SessionFrame) (new : Linked) → Fits limit old handle true why
    → ClosesIf there why old handle frames new → Done limit old frames new
closed-if true limit why old handle frames new fit g = given limit old handle true why frames new fit g
closed-if false limit why old handle frames new fit g = unchanged limit old frames new g.0 g.1

pub closes-done : (limit : ℕ) (why : Option Error) (old : Linked) (handle : OutputHandle) (frames : List SessionFrame)
    (new : Linked) → Fits limit old handle true why → Closes why handle frames old new → Done limit old frames new
closes-done limit why old handle frames new fit c =
    closed-if (is_there (end_at old handle)) limit why old handle frames new fit c

-- so it goes on
module _ (Does : List SessionFrame → Linked → Linked → Type 0) (old : Talk) (session : ℕ) (new : Talk)
    (out out_new : List SessionFrame)
    (h : Hands (λ (frames : List SessionFrame). GoesOn (Does frames) old session new) out out_new) where
  pub done-goes : (limit from : ℕ) → from ≡ length out → All IsRead (drop from out_new)
      → Done limit ((h.is_so).before).value h.frames ((h.is_so).after).value → Goes limit old new out out_new
  done-goes limit from is reads d =
      let g = h.is_so in
      subst (λ (fs : List SessionFrame). Goes limit old new out fs) (sym h.queued)
      (changed-goes gives limit session old new g.before g.after d.steps h.frames out g.stepped d.history answers-plain
      d.sends d.ends d.hand (read-behind out out_new h.frames from is h.queued reads))

  pub done-rests : Rests old new out out_new
  done-rests = let g = h.is_so in changed-rests session old new g.before g.after out out_new g.stepped
