-- How a Flow is answered, and what that leaves of the sending side.
use Rattle.std.proofs.Common.{◌≡◌, ℕ, ◌+◌, ◌==◌, List, [], ◌∷◌, ◌++◌, Bool, true, false, length, Option, Some, None, Result, Ok, Err, ◌≤◌, refl, sym, ◌∙◌, ap, subst, arith, if◌then◌else◌}
use Rattle.std.proofs.lemmas.List.{append-nil}
use Rattle.std.specs.FinMap as map
use Rattle.serde_amqp_item.specs.Canon.{◌>>=◌}
use Rattle.amqp_session_types.specs.declared.handles.Handle.{Handle}
use Rattle.amqp_session_types.specs.declared.handles.OutputHandle.{OutputHandle}
use Rattle.amqp_session_types.specs.declared.refusals.SessionError.{SessionError}
use Rattle.amqp_session_performatives.specs.declared.flow.Flow.{Flow}
use Rattle.amqp_session_performatives.specs.LinkFlow.{link_flow}
use Rattle.amqp_session_performatives.specs.declared.link_flow.LinkFlow.{LinkFlow}
use Rattle.amqp_session_performatives.specs.declared.session_frame.SessionFrame.{SessionFrame}
use Rattle.amqp_session_outgoing.specs.Queues.{Queues, held_in, FollowsIn, followed, trailed}
use Rattle.amqp_session_outgoing.specs.History as sending_history
use Rattle.amqp_session_outgoing.specs.declared.frames.Outbound.{Outbound}
use Rattle.amqp_session_core.specs.declared.batch.TransferFrame.{TransferFrame}
use Rattle.amqp_session_core.specs.declared.batch.BehindFrame.{BehindFrame}
use Rattle.amqp_session_core.specs.declared.batch.BehindFrame.TheVariants as behind
use Rattle.amqp_session_core.specs.declared.fields.SessionFields.{SessionFields}
use Rattle.amqp_session_core.specs.declared.flows.Answer.{Answer}
use Rattle.amqp_session_core.specs.declared.flows.Answer.TheVariants as answer
use Rattle.amqp_session_core.specs.Frames.{behind_frame, has_flow}
use Rattle.amqp_session_core.specs.Flowing.{Sending, FlowsTo, LinkFlowed, FlowedAt, IsAnsweredBy, Replied, IsReplyOf, answer_count}
use Rattle.amqp_session_core.specs.Relay.{Relations}
use Rattle.amqp_session_core.specs.State.{live_in}
use Rattle.amqp_session_core.specs.Steps.{OfLink, told_to_link}
use Rattle.amqp_session_core.specs.Tables.{RouteTable}

length-trailed : (frame : BehindFrame) (us : List (Outbound TransferFrame BehindFrame)) → length (trailed frame us) ≡ length us
length-trailed frame [] = refl
length-trailed frame (u ∷ []) = refl
length-trailed frame (u ∷ v ∷ us) = omega (arith, length-trailed frame (v ∷ us))

held-followed : (handle : ℕ) (frame : BehindFrame) (qs : Queues TransferFrame BehindFrame) → held_in (followed handle frame qs) ≡ held_in qs
held-followed handle frame [] = refl
held-followed handle frame (q ∷ qs) = by (q.0 == handle) (length-trailed frame q.1) (held-followed handle frame qs)
  where
    by : (b : Bool) → length (trailed frame q.1) ≡ length q.1 → held_in (followed handle frame qs) ≡ held_in qs
        → held_in (if b then (q.0, trailed frame q.1) ∷ qs else q ∷ followed handle frame qs) ≡ length q.1 + held_in qs
    by true here later = omega (arith, here)
    by false here later = omega (arith, later)

-- a frame behind transfers leaves their number
pub follows-held : (handle : ℕ) (frame : BehindFrame) (left : Option BehindFrame) (old new : Queues TransferFrame BehindFrame) → FollowsIn handle frame left old new → held_in new ≡ held_in old
follows-held handle frame None old new x = ap (λ (qs : Queues TransferFrame BehindFrame). held_in qs) x.1 ∙ held-followed handle frame old
follows-held handle frame (Some left) old new x = ap (λ (qs : Queues TransferFrame BehindFrame). held_in qs) x.2

module _ (fields : SessionFields) (old new : Sending) (out out_new : List SessionFrame) (result : Result Answer SessionError) (handle : OutputHandle) (flow : LinkFlow) (is : result ≡ Ok (answer.OfLink handle flow)) where
  of-link : (left : Option BehindFrame) → IsReplyOf result (OfLink handle flow left)
  of-link left = subst (λ r. IsReplyOf r (OfLink handle flow left)) (sym is) (refl, refl)

  -- a link's answer leaves at once
  pub replied-at-once : (frame : BehindFrame) (said : SessionFrame)
      → sending_history.Step old (sending_history.Follows handle (behind.Flow flow) (Some frame)) new
      → said ≡ behind_frame fields old.next_outgoing_id frame → out_new ≡ out ++ said ∷ [] → Replied fields old out result true new out_new
  replied-at-once frame said step says added =
      record {
        reply = OfLink handle flow (Some frame);
        is = of-link (Some frame);
        replied = step;
        added = added ∙ ap (λ (f : SessionFrame). out ++ f ∷ []) says;
        flows_is = subst (λ (f : BehindFrame). true ≡ has_flow (behind_frame fields old.next_outgoing_id f ∷ [])) (sym step.0.1) refl;
      }

  -- a link's answer waits
  pub replied-later : sending_history.Step old (sending_history.Follows handle (behind.Flow flow) None) new
      → out_new ≡ out → Replied fields old out result false new out_new
  replied-later step same =
      record {
        reply = OfLink handle flow None;
        is = of-link None;
        replied = step;
        added = same ∙ sym (append-nil out);
        flows_is = refl;
      }

module _ {R A T D : Type 0} (gives : Relations R A T D)
    (out : Sending) (routes : RouteTable) (old new : List (Option R)) (result : Result Answer SessionError) where
  at-found : (flow : Flow) (handle : Handle) (found : Option ℕ) → flow.handle ≡ Some handle → live_in old (map.get routes handle.0) ≡ found → FlowedAt gives.flows out (told_to_link flow handle) found old result new
      → LinkFlowed gives out routes flow old result new
  at-found flow handle None has is at =
      record {
        told = None;
        link = subst (λ h. FlowsTo gives old routes flow h None new) (sym has) (is, at.1);
        answered = subst (λ h. IsAnsweredBy out flow h None result) (sym has) at.0;
      }
  at-found flow handle (Some h) has is at =
      record {
        told = Some (h, at.0);
        link = subst (λ x. FlowsTo gives old routes flow x (Some (h, at.0)) new) (sym has) (is, at.1);
        answered = subst (λ x. IsAnsweredBy out flow x (Some (h, at.0)) result) (sym has) at.2;
      }

  -- a Flow that has a handle
  pub link-flowed : (flow : Flow) (told : LinkFlow) → link_flow flow ≡ Some told → FlowedAt gives.flows out told (live_in old (map.get routes (told.handle).0)) old result new
      → LinkFlowed gives out routes flow old result new
  link-flowed flow told is at = by flow.handle refl is
    where
      by : (h : Option Handle) → flow.handle ≡ h → (h >>= λ x. Some (told_to_link flow x)) ≡ Some told → LinkFlowed gives out routes flow old result new
      by None e same = absurd cc
      by (Some x) e same =
          let t : told_to_link flow x ≡ told = cc in
          at-found flow x (live_in old (map.get routes x.0)) e refl (subst (λ (f : LinkFlow). FlowedAt gives.flows out f (live_in old (map.get routes (f.handle).0)) old result new) (sym t) at)

-- an answer is one frame at most
pub count-most : (result : Result Answer SessionError) → answer_count result ≤ 1
count-most (Err e) = omega arith
count-most (Ok answer.Nothing) = omega arith
count-most (Ok answer.OfSession) = omega arith
count-most (Ok (answer.OfLink handle flow)) = omega arith
