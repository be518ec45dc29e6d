-- What a contract sees of the fields.
use Rattle.std.specs.Prelude.{◌≡◌, ◌⊎◌, ◌+◌, ◌*◌, ◌<◌, ◌≤◌, [], vec_capacity}
use Rattle.amqp_session_outgoing.specs.Queues.{held_in}
use Rattle.amqp_session_core.specs.State.{State}
use Rattle.amqp_session_core.specs.declared.session.Session.TheInside as session

module _ {R : Type 0} where
  abbrev pub state_of : session.Inside R → State R
  state_of s =
      record {
        local_state = s.local_state;
        incoming_channel = s.incoming_channel;
        fields = s.fields;
        taken = s.taken;
        handle_max = s.handle_max;
        links = s.links.slots;
        offered = s.links.vacant_key;
        routes = s.routes;
        outgoing = s.outgoing;
        received = s.received.table;
      }

  -- nothing is half handed out, there is room for all that may leave, and less than half of the own window is used up
  pub record IsSound (s : session.Inside R) : Type 0 where
    pub empty : s.sent.items ≡ []
    pub room : held_in (s.outgoing).queues + (s.outgoing).room ≤ vec_capacity s.sent
    pub open_window : (s.taken ≡ 0) ⊎ (2 * s.taken < s.fields.incoming_window)
