use Rattle.std.proofs.Common.{◌≡◌, None, sym, subst, ◌∙◌}
use Rattle.amqp_session_core.specs.State.{reached}
use Rattle.amqp_endpoint_attached.specs.Linked.{Linked}
use Rattle.std.specs.Prelude.{Some}
use Rattle.amqp_endpoint_link_hearing.proofs.Transferred.{here, lives, none-there, own-there}
use Rattle.amqp_endpoint_link_hearing.proofs.handing.own_handle.Goals as goal

pub unreachable-requires : goal.unreachable-requires
unreachable-requires c = absurd (lives c.args.talk.now c.args.session c.args.handle.0 c.in_default.ensures c.requires)

pub unreachable-requires-in_default-link_by_input_handle : goal.unreachable-requires-in_default-link_by_input_handle
unreachable-requires-in_default-link_by_input_handle c =
    absurd
    (none-there c.args.talk.now c.args.session c.args.handle.0 c.in-Some.session.now c.in-Some.ensures
    (subst (λ (s : Linked). None ≡ reached s.session c.args.handle.0) c.deref.ensures
    c.in_default-link_by_input_handle.ensures)
    c.requires)

pub returns-clause-reaches : goal.returns-clause-reaches
returns-clause-reaches c =
    here c.args.talk.now c.args.session c.args.handle.0 c.in-Some.session.now c.in-Some.ensures
    ∙ sym
    (subst (λ (s : Linked). Some c.in-Some-link_by_input_handle.handle.0 ≡ reached s.session c.args.handle.0)
    c.deref.ensures c.in-Some-link_by_input_handle.ensures)

pub returns-clause-there : goal.returns-clause-there
returns-clause-there c =
    own-there c.args.talk.now c.args.session c.args.handle.0 c.in-Some.session.now c.in-Some.ensures
    c.in-Some-link_by_input_handle.handle
    (subst (λ (s : Linked). Some c.in-Some-link_by_input_handle.handle.0 ≡ reached s.session c.args.handle.0)
    c.deref.ensures c.in-Some-link_by_input_handle.ensures)
