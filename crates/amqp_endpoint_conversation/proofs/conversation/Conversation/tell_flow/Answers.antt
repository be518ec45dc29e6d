use Rattle.std.proofs.Common.{refl, sym}
use Rattle.amqp_endpoint_conversation.proofs.Hearings.{tells_due, tells_none}
use Rattle.amqp_endpoint_conversation.proofs.conversation.Conversation.tell_flow.Goals as goal

pub returns-in-Some-maybe_outgoing_session_flow-clause-told :
    goal.returns-in-Some-maybe_outgoing_session_flow-clause-told
returns-in-Some-maybe_outgoing_session_flow-clause-told g c =
    let told = c.in-Some-maybe_outgoing_session_flow.ensures.some in
    tells_due g.R.LinkRelay.gives c.args.self.now c.args.out.now.items c.args.number c.in-Some.session.now
    (sym c.in-Some.ensures.value) c.maybe_outgoing_session_flow.new.self c.push_back_reserved.new.self.items
    c.deref_mut.result.now c.deref_mut.ensures.value c.in-Some-maybe_outgoing_session_flow.frame told.0 told.1
    c.push_back_reserved.ensures.items

pub returns-in_default-maybe_outgoing_session_flow-clause-told :
    goal.returns-in_default-maybe_outgoing_session_flow-clause-told
returns-in_default-maybe_outgoing_session_flow-clause-told g c =
    let told = c.in_default-maybe_outgoing_session_flow.ensures.none in
    tells_none g.R.LinkRelay.gives c.args.self.now c.args.out.now.items c.args.number c.in-Some.session.now
    (sym c.in-Some.ensures.value) c.maybe_outgoing_session_flow.new.self c.args.out.now.items c.deref_mut.result.now
    c.deref_mut.ensures.value told.0 told.1 (refl {a = c.args.out.now.items})
