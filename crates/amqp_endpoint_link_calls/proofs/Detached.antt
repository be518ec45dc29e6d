-- How a link is detached in the session that holds it, or isn't.
use Rattle.std.proofs.Common.{◌≡◌, ℕ, ◌≤◌, ◌<◌, Bool, List, ◌++◌, Some, None, Result, Ok, Err, refl, ap, subst, ◌∙◌}
use Rattle.std.proofs.Common.{length}
use Rattle.std.specs.Prelude.{◌^◌, All, OnErr, OnOk, drop, ⊤}
use Rattle.std.specs.Global.{Box}
use Rattle.amqp_session_types.specs.declared.handles.OutputHandle.{OutputHandle}
use Rattle.amqp_session_performatives.specs.declared.session_frame.SessionFrame.{SessionFrame}
use Rattle.amqp_session_performatives.specs.declared.session_frame.SessionFrameBody.TheVariants as body
use Rattle.amqp_session_core.specs.declared.batch.BehindFrame.TheVariants as behind
use Rattle.amqp_endpoint_fitting.proofs.Frames.{detach_fits, larger_fits}
use Rattle.amqp_endpoint_fitting.specs.Plain.{IsPlainDetach}
use Rattle.amqp_endpoint_tables.specs.State.{live_at}
use Rattle.amqp_endpoint_model.specs.declared.error.EndpointError.{EndpointError}
use Rattle.amqp_endpoint_model.specs.State.{frame_of}
use Rattle.amqp_endpoint_fitting.specs.Read.{IsRead}
use Rattle.amqp_endpoint_conversation.specs.Going.{Goes}
use Rattle.amqp_endpoint_conversation.proofs.Goings.{read-behind}
use Rattle.amqp_endpoint_attached.specs.Detaching.{DetachAnswered, DetachGiven, own_detach}
use Rattle.amqp_endpoint_attached.specs.Linked.{Linked}
use Rattle.amqp_endpoint_link_calls.specs.Calling.{DoneIn, detaches}
use Rattle.amqp_endpoint_link_calls.specs.Places.{LinkTalk}
use Rattle.amqp_endpoint_link_calls.proofs.Done.{changed, done-in}
use Rattle.amqp_endpoint_link_calls.proofs.Going.{same-goes, sent-goes}

-- the session is lent
module _ (old : LinkTalk) (number : ℕ) (handle : OutputHandle) (closed : Bool) (lent : Box Linked)
    (live : live_at old.sessions number ≡ Some lent) (before after : Linked) (out out_new : List SessionFrame) where
  pub detached-ok : before ≡ lent.value → (result : Result ⊤ EndpointError)
      → DetachAnswered before handle closed None result out after out_new
      → OnOk result (DoneIn (detaches closed) number handle old out (changed old number lent live after) out_new)
  detached-ok same (Ok done) answered =
      let d = subst (λ (s : Linked). DetachGiven s handle closed None out after out_new) same answered in
      done-in old number lent live (detaches closed) handle after d.frames out out_new
      (record {
        number = d.number;
        before = d.before;
        after = d.after;
        frames = d.frames;
        moved = d.moved;
        sent = d.sent;
        added = refl;
      })
      d.added
  detached-ok same (Err e) answered = tt

-- its Detach fits each limit that a peer may set
module _ (old new : LinkTalk) (number : ℕ) (handle : OutputHandle) (closed : Bool) (out out_new : List SessionFrame)
    (from : ℕ) (is : from ≡ length out) (short : handle.0 < 2 ^ 32) (reads : All IsRead (drop from out_new)) where
  plain : IsPlainDetach (own_detach handle closed None)
  plain = record { handle = short; error = tt }

  pub detached-goes : (limit : ℕ) → 512 ≤ limit → (result : Result ⊤ EndpointError)
      → OnOk result (DoneIn (detaches closed) number handle old out new out_new)
      → OnErr result ((new ≡ old) × (out_new ≡ out)) → Goes limit old new out out_new
  detached-goes limit least (Ok done) d kept =
      sent-goes limit number old new d.before d.after handle
      (record { number = (d.did).number; link = (d.did).before })
      (record { number = (d.did).number; link = (d.did).after })
      (behind.Detach (own_detach handle closed None)) (d.did).frames out out_new d.stepped (d.did).sent
      (larger_fits limit (frame_of (record {
        channel = ((((d.before).value).session).fields).channel.0;
        body = body.Detach (own_detach handle closed None);
      })) least
      (detach_fits ((((d.before).value).session).fields).channel.0 (own_detach handle closed None) plain))
      (d.queued ∙ ap (λ (fs : List SessionFrame). out ++ fs) (d.did).added)
      (subst (All IsRead) (d.did).added (read-behind out out_new d.frames from is d.queued reads))
  detached-goes limit least (Err e) d kept = same-goes old new out out_new kept.0 kept.1 limit
