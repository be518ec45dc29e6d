use Rattle.std.proofs.Common.{refl, ◌∙◌}
use Rattle.amqp_endpoint_link_calls.proofs.placing.make_behind.Goals as goal

pub returns-clause-room : goal.returns-clause-room
returns-clause-room c =
    record {
      is = refl;
      sends = c.in_ok-make_room_for.ensures.sends;
      tells = c.in_ok-make_room_to_tell.ensures.room;
      none = c.make_room_to_tell.ensures.same ∙ c.new-events.ensures.items;
    }
