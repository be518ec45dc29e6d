use Rattle.std.proofs.Common.{ℕ, sym, subst}
use Rattle.amqp_endpoint_attached.proofs.Taking.{planned}
use Rattle.amqp_endpoint_messages.specs.GoingOn.{HasPlaceBehind}
use Rattle.amqp_endpoint_messages.specs.MadeReady.{HasPlaceToClose, IsClosing}
use Rattle.amqp_endpoint_messages.specs.declared.giving_up.Closing.{Closing}
use Rattle.amqp_endpoint_link_calls.proofs.AskedAnswered.{answer-ready}
use Rattle.amqp_endpoint_link_calls.proofs.placing.make_answer.Goals as goal

pub make_ready-requires : goal.make_ready-requires
make_ready-requires c =
    let p = c.in_ok-prepared.ensures.ok in
    (planned c.args.coming.now.link p.asked.attach c.in_ok-prepared.prepared.taken c.requires.at_rest p.is.planned).made

pub make_behind-requires-clause-place : goal.make_behind-requires-clause-place
make_behind-requires-clause-place c =
    subst (λ (k : Closing). HasPlaceToClose c.args.live.now k) (sym c.in_ok-ready.ensures.ready.closing)
    c.in_ok-closing.ensures.place

pub make_behind-requires-clause-behind : goal.make_behind-requires-clause-behind
make_behind-requires-clause-behind c =
    subst (λ (k : Closing). HasPlaceBehind c.args.live.now k.handle c.in_ok-ready.ready.on)
    (sym c.in_ok-ready.ensures.ready.closing) c.in_ok-ready.ensures.behind

pub returns-clause-ok : goal.returns-clause-ok
returns-clause-ok c =
    answer-ready c.args.limit c.args.live.now c.make_behind.new.live c.args.coming.now.link c.args.input
    c.args.coming.now.session c.in_ok-prepared.prepared c.in_ok-handle.handle c.in_ok-closing.closing
    c.in_ok-ready.ready c.in_ok-behind.behind _ _ c.in_ok-prepared.ensures.ok c.in_ok-handle.ensures.ok.0
    c.handle_is_short.ensures
    (subst
    (λ (n : ℕ).
    IsClosing c.args.live.now c.args.coming.now.session c.in_ok-handle.handle n c.in_ok-closing.closing)
    c.open_count.ensures c.in_ok-closing.ensures)
    c.in_ok-behind.ensures.made c.in_ok-ready.ensures.ready
    c.in_ok-ready.ensures.tagged c.in_ok-behind.ensures.room
