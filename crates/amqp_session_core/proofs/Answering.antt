-- A Flow that was taken, put together from its parts.
use Rattle.std.proofs.Common.{◌≡◌, ℕ, List, ◌++◌, Bool, true, false, ◌||◌, Option, Some, None, Result, Ok, Err, refl, sym, ◌∙◌, ap, subst, if◌then◌else◌}
use Rattle.std.specs.Prelude.{⊤, is_some}
use Rattle.std.proofs.lemmas.List.{append_assoc}
use Rattle.amqp_session_types.specs.declared.handles.Handle.{Handle}
use Rattle.amqp_session_types.specs.declared.refusals.SessionError.{SessionError}
use Rattle.amqp_session_performatives.specs.declared.flow.Flow.{Flow}
use Rattle.amqp_session_performatives.specs.declared.session_frame.SessionFrame.{SessionFrame}
use Rattle.amqp_session_outgoing.specs.State as sending
use Rattle.amqp_session_core.specs.declared.flows.Answer.{Answer}
use Rattle.amqp_session_core.specs.declared.flows.Answer.TheVariants as answer
use Rattle.amqp_session_core.specs.Frames.{has_flow, frames_left}
use Rattle.amqp_session_core.specs.Flowing.{Sending, Told, FlowsTo, LinkFlowed, IsAnsweredBy, Replied, IsReplyOf, OpensWindow, SameRefusal}
use Rattle.amqp_session_core.specs.Relay.{Relations}
use Rattle.amqp_session_core.specs.State.{State, leads, leads_in}
use Rattle.amqp_session_core.specs.Steps.{Reply, NoReply, OfSession, OfLink, IsReply, Replies, FlowAt, reply_frames}
use Rattle.amqp_session_core.specs.Tables.{RouteTable}
use Rattle.amqp_session_core.specs.Told.{FlowTaken, flow_answer}
use Rattle.amqp_session_core.proofs.Handing.{has_flow-append}

-- the refusal of a Flow
refused-as : (out : Sending) (flow : Flow) (handle : Option Handle) (told : Told) (answer : Result Answer SessionError) (result : Result ⊤ SessionError)
    → ((h : Handle) → handle ≡ Some h → told ≡ None → ⊥) → IsAnsweredBy out flow handle told answer → SameRefusal answer result → flow_answer handle told result
refused-as out flow None told answer result live is same = subst (λ a. SameRefusal a result) is same
refused-as out flow (Some handle) None answer result live is same = absurd (live handle refl refl)
refused-as out flow (Some handle) (Some (h, Err e)) answer result live is same = (is.0, subst (λ a. SameRefusal a result) is.1 same)
refused-as out flow (Some handle) (Some (h, Ok None)) answer result live is same = subst (λ a. SameRefusal a result) is same
refused-as out flow (Some handle) (Some (h, Ok (Some f))) answer result live is same = subst (λ a. SameRefusal a result) is same

session-reply : (flow : Flow) (echo : Bool) (reply : Reply) → flow.echo ≡ echo → flow.handle ≡ None → IsReplyOf (Ok (if echo then answer.OfSession else answer.Nothing)) reply → IsReply flow None reply
session-reply flow true reply e has is = subst (λ r. IsReply flow None r) (sym is) (has, e)
session-reply flow false reply e has is = subst (λ r. IsReply flow None r) (sym is) e

-- the reply to a Flow
reply-to : (out : Sending) (flow : Flow) (handle : Option Handle) (told : Told) (answer : Result Answer SessionError) (reply : Reply)
    → flow.handle ≡ handle → (handle ≡ None → told ≡ None) → ((h : Handle) → handle ≡ Some h → told ≡ None → ⊥) → IsAnsweredBy out flow handle told answer → IsReplyOf answer reply → IsReply flow told reply
reply-to out flow None None answer reply has only live is of = session-reply flow flow.echo reply refl has (subst (λ a. IsReplyOf a reply) is of)
reply-to out flow None (Some told) answer reply has only live is of = absurd (let e = only refl in cc)
reply-to out flow (Some handle) None answer reply has only live is of =
    absurd (live handle refl refl)
reply-to out flow (Some handle) (Some (h, Err e)) answer reply has only live is of = subst (λ a. IsReplyOf a reply) is.1 of
reply-to out flow (Some handle) (Some (h, Ok None)) answer reply has only live is of = subst (λ a. IsReplyOf a reply) is of
reply-to out flow (Some handle) (Some (h, Ok (Some f))) answer NoReply has only live is of = subst (λ a. IsReplyOf a NoReply) is of
reply-to out flow (Some handle) (Some (h, Ok (Some f))) answer OfSession has only live is of = subst (λ a. IsReplyOf a OfSession) is of
reply-to out flow (Some handle) (Some (h, Ok (Some f))) answer (OfLink k g left) has only live is of = subst (λ a. IsReplyOf a (OfLink k g left)) is of

-- the number of the first transfer stays
initial-kept : (reply : Reply) (old new : Sending) → Replies old reply new → new.initial_outgoing_id ≡ old.initial_outgoing_id
initial-kept NoReply old new is = ap (λ (s : Sending). s.initial_outgoing_id) is
initial-kept OfSession old new is = ap (λ (s : Sending). s.initial_outgoing_id) is
initial-kept (OfLink handle flow left) old new step = ap (λ (s : Sending). s.initial_outgoing_id) step.1

base-kept : (base : Option ℕ) (old new : Sending) → new.initial_outgoing_id ≡ old.initial_outgoing_id → sending.base_of new base ≡ sending.base_of old base
base-kept None old new e = e
base-kept (Some n) old new e = refl

module _ {R A T D : Type 0} (gives : Relations R A T D) where
  -- where there is no handle, no link is told
  none-told : (old new : List (Option R)) (routes : RouteTable) (flow : Flow) (handle : Option Handle) (told : Told) → FlowAt gives old routes flow handle told new → handle ≡ None → told ≡ None
  none-told old new routes flow None None at e = refl
  none-told old new routes flow None (Some told) at e = absurd at
  none-told old new routes flow (Some handle) told at e = absurd cc

  -- a link that is named is told
  link-told : (old new : List (Option R)) (routes : RouteTable) (flow : Flow) (handle : Option Handle) (told : Told)
      → FlowAt gives old routes flow handle told new → (h : Handle) → handle ≡ Some h → told ≡ None → ⊥
  link-told old new routes flow None told at h e n = absurd cc
  link-told old new routes flow (Some x) None at h e n = at
  link-told old new routes flow (Some x) (Some told) at h e n = absurd cc

  -- where a Flow leads to a link or has no handle
  at-link : (old new : List (Option R)) (routes : RouteTable) (flow : Flow) (handle : Option Handle) (told : Told)
      → leads_in old routes handle ≡ true → FlowsTo gives old routes flow handle told new
      → FlowAt gives old routes flow handle told new
  at-link old new routes flow None told led to = to
  at-link old new routes flow (Some handle) None led to =
      absurd (let e : true ≡ false = sym led ∙ ap (λ (o : Option ℕ). is_some o) to.0 in cc)
  at-link old new routes flow (Some handle) (Some (h, said)) led to = to

  pub flow-taken : (s n : State R) (flow : Flow) (out mid_out out_new : List SessionFrame) (answer : Result Answer SessionError) (result : Result ⊤ SessionError) (mid : Sending) (flowed left : Bool)
      → leads s flow.handle ≡ true
      → LinkFlowed gives s.outgoing s.routes flow s.links answer n.links
      → SameRefusal answer result
      → Replied n.fields s.outgoing out answer flowed mid mid_out
      → OpensWindow n.fields mid mid_out flow.next_incoming_id flow.incoming_window left n.outgoing out_new
      → n ≡ record s { fields = record s.fields { next_incoming_id = Some flow.next_outgoing_id }; taken = (if flowed || left then 0 else s.taken); links = n.links; outgoing = n.outgoing }
      → FlowTaken gives s out flow result n out_new
  flow-taken s n flow out mid_out out_new answer result mid flowed left led linked same replied opened becomes =
      let at = at-link s.links n.links s.routes flow flow.handle linked.told led linked.link in
      let live = link-told s.links n.links s.routes flow flow.handle linked.told at in
      let first : List SessionFrame = reply_frames n.fields (s.outgoing).next_outgoing_id replied.reply in
      let later : List SessionFrame = frames_left n.fields opened.left in
      let flows : has_flow (first ++ later) ≡ (flowed || left) = has_flow-append first later ∙ ap (λ b. b || has_flow later) (sym replied.flows_is) ∙ ap (λ b. flowed || b) (sym opened.flows_is) in
      record {
        told = linked.told;
        reply = replied.reply;
        base = sending.base_of mid flow.next_incoming_id;
        left = opened.left;
        frames = first ++ later;
        added = opened.added ∙ ap (λ (l : List SessionFrame). l ++ later) replied.added ∙ append_assoc out first later;
        answered = refused-as s.outgoing flow flow.handle linked.told answer result live linked.answered same;
        stepped =
            record {
              link = at;
              is_reply = reply-to s.outgoing flow flow.handle linked.told answer replied.reply refl (none-told s.links n.links s.routes flow flow.handle linked.told at) live linked.answered replied.is;
              mid = mid;
              replied = replied.replied;
              base_is = base-kept flow.next_incoming_id s.outgoing mid (initial-kept replied.reply s.outgoing mid replied.replied);
              window = opened.window;
              frames_are = refl;
              becomes = becomes ∙ ap (λ (b : Bool). record s { fields = record s.fields { next_incoming_id = Some flow.next_outgoing_id }; taken = (if b then 0 else s.taken); links = n.links; outgoing = n.outgoing }) (sym flows);
            };
      }
