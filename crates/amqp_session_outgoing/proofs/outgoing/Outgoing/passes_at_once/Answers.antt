use Rattle.std.proofs.Common.{◌≡◌, ◌+◌, ◌-◌, ◌≤◌, ◌%◌, ◌^◌, [], rules, sym, ap, subst, refl, ◌∙◌}
use Rattle.amqp_session_outgoing.specs.Fields.{state_of}
use Rattle.amqp_session_outgoing.specs.History.{IsFree}
use Rattle.amqp_session_outgoing.specs.PassesAtOnce.{part_by}
use Rattle.amqp_session_outgoing.specs.Queues.{Lists}
use Rattle.amqp_session_outgoing.specs.State.{State, registered, window_left}
use Rattle.amqp_session_outgoing.specs.Table.{Table}
use Rattle.amqp_session_outgoing.proofs.Alone.{passes_at_once}
use Rattle.amqp_session_outgoing.proofs.outgoing.Outgoing.passes_at_once.Goals as goal

pub returns : goal.returns
returns g c =
    let empty : (c.args.self.now).queues ≡ [] = search rules in
    let fits : 1 ≤ window_left c.args.self.now = search rules in
    let free : IsFree c.args.self.now 0 = search rules in
    let table : c.register.new.unsettled.table ≡ registered c.self.inside.unsettled.table
    c.self.inside.next_delivery_number c.args.handle (part_by c.args.tag) = search rules in
    let becomes =
    ap (λ (l : Lists _ _).
    record (state_of c.self.inside) {
      next_outgoing_id = (c.self.inside.next_outgoing_id + 1) % 2 ^ 32;
      next_delivery_number = (c.self.inside.next_delivery_number + 1) % 2 ^ 32;
      unsettled = c.register.new.unsettled.table;
      queues = l.queues;
      room = l.room;
    }) c.use_room.ensures
    ∙ ap (λ (t : Table).
    record (state_of c.self.inside) {
      next_outgoing_id = (c.self.inside.next_outgoing_id + 1) % 2 ^ 32;
      next_delivery_number = (c.self.inside.next_delivery_number + 1) % 2 ^ 32;
      unsettled = t;
      queues = c.self.inside.turns.queues;
      room = c.self.inside.turns.room - 1;
    }) table in
    rw (← c.self.view_is)
    (passes_at_once (state_of c.self.inside) _ c.args.handle c.args.tag c.self.inside.next_delivery_number
    (subst (λ (s : State _ _). s.queues ≡ []) (sym c.self.view_is) empty)
    (subst (λ (s : State _ _). 1 ≤ window_left s) (sym c.self.view_is) fits)
    (subst (λ (s : State _ _). IsFree s 0) (sym c.self.view_is) free) refl becomes)
