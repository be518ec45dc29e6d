use Rattle.std.proofs.Common.{[], ◌∷◌, ◌++◌, Result, refl, ap, subst, ◌∙◌}
use Rattle.std.specs.Prelude.{IfOk}
use Rattle.amqp_session_performatives.specs.declared.attach.Attach.{Attach}
use Rattle.amqp_session_performatives.specs.declared.session_frame.SessionFrame.{SessionFrame}
use Rattle.amqp_endpoint_attached.specs.Attaching.{SendsIn}
use Rattle.amqp_endpoint_attached.specs.Links.{Announces, offered}
use Rattle.amqp_endpoint_attached.specs.declared.refusal.AttachRefusal.{AttachRefusal}
use Rattle.amqp_endpoint_attached.proofs.Handing.{attached}
use Rattle.amqp_endpoint_attached.proofs.attaching.attach.Goals as goal

pub returns-clause-ok : goal.returns-clause-ok
returns-clause-ok c =
    let old = c.args.session.now in
    let made = c.in_ok-handle.ensures.ok in
    let room = c.prepare-made.new.out.items in
    attached old (record { session = c.send_in.new.session; asked = old.asked }) c.allocate.new.session
    c.args.out.now.items room c.push_back_reserved.new.self.items c.args.limit c.args.number c.args.link
    c.in_ok-handle.handle c.in_ok-handle.attach
    (subst (λ (r : Result Attach AttachRefusal). IfOk r (λ (a : Attach). Announces c.args.limit c.args.link
    (offered old.session) a)) made.0 c.prepare-made.ensures.ok)
    made.1
    (subst (λ (a : Attach). SendsIn c.allocate.new.session c.in_ok-handle.handle a.incomplete_unsettled
    c.send_in.new.session) c.deref.ensures c.send_in.ensures)
    refl c.prepare-made.ensures.kept
    (c.push_back_reserved.ensures.items ∙ ap (λ (f : SessionFrame). room ++ f ∷ []) c.attach_frame.ensures)
