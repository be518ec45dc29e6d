use Rattle.std.proofs.Common.{arith, refl}
use Rattle.amqp_endpoint_messages.proofs.Handed.{place-serves}
use Rattle.amqp_endpoint_messages.proofs.sending_on.make_flow_ready.Goals as goal

pub returns-clause-sends : goal.returns-clause-sends
returns-clause-sends c =
    record {
      room = omega (arith, c.in_ok-make_room_to_send.ensures.room, c.in_ok-sending.ensures.ready.count);
      spare = omega (arith, c.in_ok-make_room_to_send.ensures.spare);
      place =
          record {
            some = c.requires.place.some;
            serves =
                place-serves c.args.session.now.session c.make_room_to_send.new.session c.args.closing.handle.0
                c.args.closing.place c.in_ok-make_room_to_send.ensures.made c.requires.place.serves;
          };
    }

pub returns-clause-made : goal.returns-clause-made
returns-clause-made c = record { made = c.in_ok-make_room_to_send.ensures.made; rest = refl }
