use Rattle.std.proofs.Common.{rules, ◌≡◌, ◌+◌, ap, arith, refl}
use Rattle.amqp_session_outgoing.specs.State as sending
use Rattle.amqp_session_core.specs.declared.batch.BehindFrame.{BehindFrame}
use Rattle.amqp_session_core.specs.declared.batch.TransferFrame.{TransferFrame}
use Rattle.amqp_endpoint_messages.proofs.Handed.{place-serves}
use Rattle.amqp_endpoint_messages.proofs.KeptTaken.{behind-still}
use Rattle.amqp_endpoint_messages.proofs.going_on.make_room_for.Goals as goal

pub returns-clause-sends : goal.returns-clause-sends
returns-clause-sends c =
    let all : c.in_ok-all.all ≡ c.len-count.result + c.count_on.result = search rules in
    record {
      room = omega (
        arith,
        all,
        c.in_ok-make_room_to_send.ensures.room,
        c.len-count.ensures,
        c.count_on.ensures,
        c.args.ready.now.giving.batches.ok.0,
      );
      spare = omega (arith, c.in_ok-make_room_to_send.ensures.spare);
      place =
          record {
            some = c.requires.place.some;
            serves =
                place-serves c.args.session.now.session c.make_room_to_send.new.session c.args.ready.now.closing.handle.0
                c.args.ready.now.closing.place c.in_ok-make_room_to_send.ensures.made c.requires.place.serves;
          };
      behind =
          behind-still c.args.session.now (record c.args.session.now { session = c.make_room_to_send.new.session })
          c.args.ready.now.closing.handle c.args.ready.now.on
          (ap (λ (o : sending.State TransferFrame BehindFrame). o.queues)
          c.in_ok-make_room_to_send.ensures.made.reserves.0)
          c.requires.behind;
    }

pub returns-clause-made : goal.returns-clause-made
returns-clause-made c = record { made = c.in_ok-make_room_to_send.ensures.made; rest = refl }
