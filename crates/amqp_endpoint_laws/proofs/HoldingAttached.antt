-- What the links of a session hold behind a call by which one attaches.
use Rattle.std.proofs.Common.{ℕ, List, [], Option, Some, None, Ok, refl, subst}
use Rattle.amqp_session_types.specs.declared.handles.InputHandle.{InputHandle}
use Rattle.amqp_session_performatives.specs.declared.session_frame.SessionFrame.{SessionFrame}
use Rattle.amqp_link.specs.Ends.{with_handle}
use Rattle.amqp_link.specs.declared.end.End.{End}
use Rattle.amqp_endpoint_attached.specs.Linked.{Linked, LinksIn}
use Rattle.amqp_endpoint_attached.specs.Links.{with_number}
use Rattle.amqp_endpoint_link_calls.specs.Attaching.{AttachedBy}
use Rattle.amqp_endpoint_link_calls.specs.declared.placed.Placed.{Placed}
use Rattle.amqp_endpoint_laws.proofs.AttachedBehind.{allocates, goes, roomed}
use Rattle.amqp_endpoint_laws.proofs.Behind.{behind-rests}
use Rattle.amqp_endpoint_laws.proofs.HoldingEnds.{Comes, IsEmpty, empty-fresh, empty-handle, empty-sent, empty-takes}
use Rattle.amqp_endpoint_laws.proofs.HoldingInside.{Each, LeadsFirst, allocated-comes, allocated-leads, each-comes}
use Rattle.amqp_endpoint_laws.proofs.HoldingInside.{first-rests}
use Rattle.amqp_endpoint_laws.proofs.HoldingWaits.{IsUnattached, answer-waits}
use Rattle.amqp_endpoint_laws.proofs.LeadingStill.{own-waits}

module _ (before after : Linked) (limit : ℕ) (link : End) (placed : Placed) (frames : List SessionFrame) where
  pub attached-comes : (E : Type 0) → (E → IsEmpty link) → (input : Option InputHandle)
      → AttachedBy input before [] limit link placed after frames
      → Each (Comes E placed.link) before.session after.session
  attached-comes E empty None (a, told) =
      allocated-comes E placed.link before.session after.session placed.handle.0 (with_number placed.link a.attaching)
      None
      (empty-fresh E placed.link a.attaching
      (λ e.
      empty-sent (with_handle link placed.handle) a.attach.incomplete_unsettled a.attaching
      (empty-handle link placed.handle (empty e)) a.sends.sent))
      a.allocates
  attached-comes E empty (Some input) a =
      let s = a.answers in
      let e = s.exchanges in
      let h = (a.answered).handle in
      let sent : E → IsEmpty s.becomes = λ is.
      empty-sent (with_handle e.taken h) (s.attach).incomplete_unsettled s.becomes
      (empty-handle e.taken h
      (empty-takes link (s.asked).attach (Ok (e.takes).told) e.taken (empty is) (e.takes).takes))
      e.sent in
      subst (λ (t : LinksIn). Each (Comes E placed.link) t after.session)
      (roomed before after limit link placed frames input a)
      (each-comes E placed.link (a.ready).session (a.mid).session after.session
      (allocated-comes E placed.link (a.ready).session (a.mid).session placed.handle.0
      (with_number placed.link s.becomes) (Some input.0) (empty-fresh E placed.link s.becomes sent)
      (allocates before after limit link placed frames input a))
      (behind-rests a.frames a.mid after (goes before after limit link placed frames input a)))

  -- the peer's handles lead to it so
  pub attached-first : IsUnattached link → (input : Option InputHandle)
      → AttachedBy input before [] limit link placed after frames
      → LeadsFirst placed.handle.0 before.session after.session
  attached-first fresh None (a, told) =
      allocated-leads before.session after.session placed.handle.0 (with_number placed.link a.attaching) None
      a.allocates (λ k held is. refl)
      (λ k held is.
      absurd
      (own-waits placed.link link placed.handle a.attach.incomplete_unsettled a.attaching fresh a.sends.sent k held
      is))
  attached-first fresh (Some input) a =
      let s = a.answers in
      let e = s.exchanges in
      let first : LeadsFirst placed.handle.0 (record before.session { outgoing = (a.ready).session.outgoing })
      after.session =
      subst (λ (t : LinksIn). LeadsFirst placed.handle.0 t after.session)
      (roomed before after limit link placed frames input a)
      (first-rests placed.handle.0 (a.ready).session (a.mid).session after.session
      (allocated-leads (a.ready).session (a.mid).session placed.handle.0 (with_number placed.link s.becomes)
      (Some input.0) (allocates before after limit link placed frames input a)
      (λ k held is.
      absurd
      (answer-waits placed.link link (s.asked).attach (e.takes).told e.taken s.becomes (a.answered).handle
      (s.attach).incomplete_unsettled fresh (e.takes).takes e.sent k held is))
      (λ k held is. refl))
      (behind-rests a.frames a.mid after (goes before after limit link placed frames input a))) in
      record {
        vacant = first.vacant;
        others = first.others;
        keeps = first.keeps;
        input = first.input;
        there = first.there;
        leads = first.leads;
        waits = first.waits;
      }
