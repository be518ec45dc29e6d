use Rattle.std.proofs.Common.{rules, List, ◌++◌, refl, sym, ap, subst, ◌∙◌}
use Rattle.std.specs.Prelude.{option_to_list}
use Rattle.amqp_session_performatives.specs.declared.session_frame.SessionFrame.{SessionFrame}
use Rattle.amqp_endpoint_conversation.specs.Going.{Goes}
use Rattle.amqp_endpoint_link_hearing.proofs.Arrivals.{goes-at-once, hands-flow}
use Rattle.amqp_endpoint_link_hearing.proofs.at_once.hear_at_once.Goals as goal

pub returns-in_default-clause-goes : goal.returns-in_default-clause-goes
returns-in_default-clause-goes c limit least =
    subst (λ (o : List SessionFrame). Goes limit c.args.talk.now c.takes_at_once.new.self c.args.out.now.items o)
    (sym c.reserve.ensures.items) (c.takes_at_once.ensures.goes limit c.args.out.now.items)

pub returns-clause-heard : goal.returns-clause-heard
returns-clause-heard c =
    hands-flow c.args.talk.now c.args.channel c.args.transfer.now c.args.payload.now c.args.given.now c.in-Some.session
    c.in-Some.taken c.takes_at_once.new.self c.in-Some.ensures.step c.flow_of.result c.flow_of.ensures (search rules)
    c.number_of.result _ c.number_of.ensures refl c.args.out.now.items c.hand_out.new.out.items
    (c.hand_out.ensures.handed
    ∙ ap (λ (o : List SessionFrame). o ++ option_to_list c.flow_of.result) c.reserve.ensures.items)

pub returns-clause-goes : goal.returns-clause-goes
returns-clause-goes c limit least =
    goes-at-once c.args.talk.now c.args.channel c.args.transfer.now c.args.payload.now c.args.given.now c.in-Some.session
    c.in-Some.taken c.takes_at_once.new.self c.in-Some.ensures.step limit least c.flow_of.result c.flow_of.ensures
    c.hand_out.ensures.read c.args.out.now.items c.hand_out.new.out.items
    (c.hand_out.ensures.handed
    ∙ ap (λ (o : List SessionFrame). o ++ option_to_list c.flow_of.result) c.reserve.ensures.items)
    (c.takes_at_once.ensures.goes limit c.args.out.now.items)
