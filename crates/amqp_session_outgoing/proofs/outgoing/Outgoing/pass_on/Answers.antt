use Rattle.std.proofs.Common.{◌≡◌, ◌-◌, ◌∙◌, ℕ, ◌<◌, ◌≤◌, ◌^◌, [], length, arith, rules, sym, ap, subst}
use Rattle.amqp_session_outgoing.specs.Queues.{Lists}
use Rattle.amqp_session_outgoing.specs.State.{State, window_left}
use Rattle.amqp_session_outgoing.specs.Fields.{state_of}
use Rattle.amqp_session_outgoing.proofs.Passing.{passes-batch}
use Rattle.amqp_session_outgoing.proofs.outgoing.Outgoing.pass_on.Goals as goal

pub returns-clause-run : goal.returns-clause-run
returns-clause-run g c =
    let empty = subst (λ (s : State _ _). s.queues ≡ []) (sym c.self.view_is) c.requires.empty in
    let window = subst (λ (s : State _ _). length c.args.batch.now.items ≤ window_left s) (sym c.self.view_is) c.requires.window in
    let small : c.self.inside.window_width < 2 ^ 32 = search rules in
    let turn = ap (λ (l : Lists _ _). l.queues) c.use_room.ensures in
    let count : c.len-count.result ≡ length c.args.batch.now.items = omega arith in
    let less = ap (λ (l : Lists _ _). l.room) c.use_room.ensures ∙ ap (λ (n : ℕ). c.self.inside.turns.room - n) count in
    rw (← c.self.view_is) (passes-batch (state_of c.self.inside) (c.args.handle).0 c.args.batch.now.items c.args.out.now.items c.make_room.new.out.items _ c.send_all.new.next c.send_all.new.next_delivery
    c.make_room.new.unsettled.table c.send_all.new.unsettled.table (c.use_room.new.self).queues (c.use_room.new.self).room
    empty c.requires.some window small c.make_room.ensures.out c.make_room.ensures.table turn less c.send_all.ensures.run)
