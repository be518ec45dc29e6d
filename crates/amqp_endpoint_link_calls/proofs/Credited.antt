-- How credit is given by a link in the session that holds it, and how it is to be used up there.
use Rattle.std.proofs.Common.{◌≡◌, ℕ, List, ◌++◌, Some, Result, Ok, Err, refl, ap, subst, ◌∙◌, length}
use Rattle.std.specs.Prelude.{All, IfOk, OnErr, OnOk, drop, ⊤}
use Rattle.std.specs.Global.{Box}
use Rattle.amqp_session_types.specs.declared.handles.OutputHandle.{OutputHandle}
use Rattle.amqp_session_performatives.specs.declared.session_frame.SessionFrame.{SessionFrame}
use Rattle.amqp_session_core.specs.declared.batch.BehindFrame.TheVariants.{Flow}
use Rattle.amqp_link_receiver.specs.Flowing.{credited}
use Rattle.amqp_endpoint_tables.specs.State.{live_at}
use Rattle.amqp_endpoint_model.specs.declared.error.EndpointError.{EndpointError}
use Rattle.amqp_endpoint_fitting.specs.Read.{IsRead}
use Rattle.amqp_endpoint_conversation.specs.Going.{Goes}
use Rattle.amqp_endpoint_conversation.proofs.Goings.{read-behind}
use Rattle.amqp_endpoint_attached.specs.Linked.{Linked}
use Rattle.amqp_endpoint_attached.specs.Receiving.{CreditGiven, DrainAnswered, DrainWanted, GrantAnswered, drained}
use Rattle.amqp_endpoint_attached.specs.Receiving.{receiving, shown_flow}
use Rattle.amqp_endpoint_link_calls.specs.Calling.{DoneIn, gives_credit, wants_drain}
use Rattle.amqp_endpoint_link_calls.specs.Places.{LinkTalk}
use Rattle.amqp_endpoint_link_calls.proofs.Done.{changed, done-in}
use Rattle.amqp_endpoint_link_calls.proofs.Going.{same-goes, sent-goes}

-- the session is lent
module _ (old : LinkTalk) (number : ℕ) (handle : OutputHandle) (lent : Box Linked)
    (live : live_at old.sessions number ≡ Some lent) (before after : Linked) (out out_new : List SessionFrame) where
  pub granted-ok : before ≡ lent.value → (credit : ℕ) (result : Result ℕ EndpointError)
      → GrantAnswered before handle credit result out after out_new
      → IfOk result
      (λ left. DoneIn (gives_credit credit left) number handle old out (changed old number lent live after) out_new)
  granted-ok same credit (Ok left) answered =
      let g = subst (λ (s : Linked). CreditGiven s handle credit left out after out_new) same answered in
      done-in old number lent live (gives_credit credit left) handle after g.frames out out_new
      (record {
        number = g.number;
        receiver = g.receiver;
        frames = g.frames;
        attached = g.attached;
        in_range = g.in_range;
        was_left = g.was_left;
        sent = g.sent;
        added = refl;
      })
      g.added
  granted-ok same credit (Err e) answered = tt

  pub drained-ok : before ≡ lent.value → (result : Result ⊤ EndpointError)
      → DrainAnswered before handle result out after out_new
      → OnOk result (DoneIn wants_drain number handle old out (changed old number lent live after) out_new)
  drained-ok same (Ok done) answered =
      let d = subst (λ (s : Linked). DrainWanted s handle out after out_new) same answered in
      done-in old number lent live wants_drain handle after d.frames out out_new
      (record {
        number = d.number;
        receiver = d.receiver;
        frames = d.frames;
        attached = d.attached;
        sent = d.sent;
        added = refl;
      })
      d.added
  drained-ok same (Err e) answered = tt

-- its Flow has no properties, and fits
module _ (old new : LinkTalk) (number : ℕ) (handle : OutputHandle) (out out_new : List SessionFrame) where
  module _ (from : ℕ) (is : from ≡ length out) (reads : All IsRead (drop from out_new)) (limit : ℕ) where
    pub granted-goes : (credit : ℕ) (result : Result ℕ EndpointError)
        → IfOk result (λ left. DoneIn (gives_credit credit left) number handle old out new out_new)
        → OnErr result ((new ≡ old) × (out_new ≡ out)) → Goes limit old new out out_new
    granted-goes credit (Ok left) d kept =
        sent-goes limit number old new d.before d.after handle (receiving (d.did).number (d.did).receiver)
        (receiving (d.did).number (credited (d.did).receiver credit))
        (Flow (shown_flow handle (credited (d.did).receiver credit))) (d.did).frames out out_new d.stepped (d.did).sent
        refl (d.queued ∙ ap (λ (fs : List SessionFrame). out ++ fs) (d.did).added)
        (subst (All IsRead) (d.did).added (read-behind out out_new d.frames from is d.queued reads))
    granted-goes credit (Err e) d kept = same-goes old new out out_new kept.0 kept.1 limit

    pub drained-goes : (result : Result ⊤ EndpointError)
        → OnOk result (DoneIn wants_drain number handle old out new out_new)
        → OnErr result ((new ≡ old) × (out_new ≡ out)) → Goes limit old new out out_new
    drained-goes (Ok done) d kept =
        sent-goes limit number old new d.before d.after handle (receiving (d.did).number (d.did).receiver)
        (receiving (d.did).number (drained (d.did).receiver)) (Flow (shown_flow handle (drained (d.did).receiver)))
        (d.did).frames out out_new d.stepped (d.did).sent refl
        (d.queued ∙ ap (λ (fs : List SessionFrame). out ++ fs) (d.did).added)
        (subst (All IsRead) (d.did).added (read-behind out out_new d.frames from is d.queued reads))
    drained-goes (Err e) d kept = same-goes old new out out_new kept.0 kept.1 limit
