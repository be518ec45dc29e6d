use Rattle.std.proofs.Common.{false, ap, ◌∙◌}
use Rattle.std.specs.Prelude.{IsSome}
use Rattle.amqp_session_core.specs.State.{link_at}
use Rattle.amqp_link_base.specs.State.{after_send_attach}
use Rattle.amqp_link.specs.Ends.{state_of}
use Rattle.amqp_link.specs.Preparing.{IsFor, carried_out}
use Rattle.amqp_link.specs.declared.end.End.{End}
use Rattle.amqp_endpoint_links.specs.declared.numbered.Numbered.{Numbered}
use Rattle.amqp_endpoint_attached.specs.Answering.{left_to_do, said_by}
use Rattle.amqp_endpoint_attached.specs.Linked.{Linked, gives}
use Rattle.amqp_endpoint_attached.specs.Links.{with_number}
use Rattle.amqp_endpoint_attached.specs.declared.answering.Answered.{Answered}
use Rattle.amqp_endpoint_attached.proofs.Handing.{answered, is_there}
use Rattle.amqp_endpoint_attached.proofs.Owned.{given_by, if_some}
use Rattle.amqp_endpoint_attached.proofs.Taking.{planned}
use Rattle.amqp_endpoint_attached.proofs.answering.answer.Goals as goal

pub hand_out-requires-clause-there : goal.hand_out-requires-clause-there
hand_out-requires-clause-there c =
    is_there gives c.args.session.now.session c.allocate.new.session.session c.in-Ok.handle.0
    (with_number c.args.number c.args.link) c.args.input.0 c.in-Ok.ensures.ok.0

pub hand_out-requires-clause-made : goal.hand_out-requires-clause-made
hand_out-requires-clause-made c =
    let taken = c.requires.taken in
    if_some (λ (n : Numbered End). IsFor n.link c.args.ready.taken)
    (link_at c.allocate.new.session.session c.in-Ok.handle.0) (with_number c.args.number c.args.link)
    (given_by gives c.args.session.now.session c.allocate.new.session.session c.in-Ok.handle.0
    (with_number c.args.number c.args.link) c.args.input.0 c.in-Ok.ensures.ok.0)
    (planned c.args.link taken.asked.attach c.args.ready.taken c.requires.at_rest taken.planned).made

pub hand_out-requires-clause-allows : goal.hand_out-requires-clause-allows
hand_out-requires-clause-allows c =
    let taken = c.requires.taken in
    if_some
    (λ (n : Numbered End). IsSome (after_send_attach (state_of (carried_out n.link c.args.ready.taken)) false))
    (link_at c.allocate.new.session.session c.in-Ok.handle.0) (with_number c.args.number c.args.link)
    (given_by gives c.args.session.now.session c.allocate.new.session.session c.in-Ok.handle.0
    (with_number c.args.number c.args.link) c.args.input.0 c.in-Ok.ensures.ok.0)
    (planned c.args.link taken.asked.attach c.args.ready.taken c.requires.at_rest taken.planned).allows

pub returns-in-Ok-clause-ok : goal.returns-in-Ok-clause-ok
returns-in-Ok-clause-ok c = λ limit prepared.
    answered c.args.session.now (record { session = c.hand_out.new.session; asked = c.allocate.new.session.asked })
    c.allocate.new.session.session c.args.out.now.items c.hand_out.new.out.items limit c.args.number c.args.link
    c.args.input c.in-Ok.handle c.args.ready c.hand_out.result c.requires.at_rest prepared c.in-Ok.ensures.ok.0
    (ap (λ (s : Linked). record { session = c.hand_out.new.session; asked = s.asked }) c.in-Ok.ensures.ok.1)
    c.hand_out.ensures.says

pub returns-in-Ok-clause-left : goal.returns-in-Ok-clause-left
returns-in-Ok-clause-left c =
    let says = c.hand_out.ensures.says in
    ap (λ (a : Answered). left_to_do a) says.told
    ∙ ap (said_by c.args.ready.attach.incomplete_unsettled) (says.takes).takes.left
