use Rattle.std.proofs.Common.{[], ◌∷◌, append-nil, refl, sym}
use Rattle.amqp_endpoint_link_hearing.proofs.Dispositions.{tells-on}
use Rattle.amqp_endpoint_link_hearing.proofs.settled.tell_settled.Goals as goal

pub returns : goal.returns
returns c state out =
    tells-on (c.args.delivery.now ∷ []) state [] c.args.talk.now c.args.session c.in-Some.session.now
    c.in-Some.ensures.value c.deref_mut.result.now c.tell_reached_one.new.session c.tell_reached_one.new.session
    c.deref_mut.ensures.value out out c.args.events.now.items c.tell_reached_one.new.events.items
    c.tell_reached_one.ensures.behind refl refl (sym (append-nil out)) c.tell_reached_one.ensures.told
