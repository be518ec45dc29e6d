use Rattle.std.proofs.Common.{arith, refl}
use Rattle.amqp_endpoint_attached.specs.Linked.{end_at}
use Rattle.amqp_endpoint_messages.specs.GivingUp.{planned_at}
use Rattle.amqp_endpoint_messages.proofs.Planned.{all-bare}
use Rattle.amqp_endpoint_messages.proofs.going_on.make_attach_ready.Goals as goal

pub returns-clause-ready : goal.returns-clause-ready
returns-clause-ready c =
    record { closing = refl; giving = c.in_ok-giving.ensures; on = refl }

pub returns-clause-sends : goal.returns-clause-sends
returns-clause-sends c =
    let sends = c.in_ok-make_room_for.ensures.sends in
    record {
      room = sends.room;
      spare = omega (arith, sends.spare);
      place = sends.place;
      behind = sends.behind;
    }

pub returns-clause-bare : goal.returns-clause-bare
returns-clause-bare c =
    all-bare c.args.limit c.args.closing.handle
    (planned_at (end_at c.args.session.now c.args.closing.handle) c.args.attach.now)
    c.in_ok-giving.giving.batches.items c.in_ok-giving.giving.all_fit c.in_ok-giving.ensures
