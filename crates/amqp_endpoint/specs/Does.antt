-- What the sessions of an endpoint do, with their links.
use Rattle.std.specs.Prelude.{◌≡◌}
use Rattle.amqp_endpoint_tables.specs.LinkState as names
use Rattle.amqp_endpoint_tables.specs.State.{fresh}
use Rattle.amqp_endpoint_model.specs.Relay.{Relations}
use Rattle.amqp_endpoint_conversation.specs.Going.{NoneLive, Within}
use Rattle.amqp_endpoint_linking.specs.Ending.{Finishes, Leaves}
use Rattle.amqp_endpoint.specs.declared.linked.LinkedSessions.{LinkedSessions}
use Rattle.amqp_endpoint.specs.Calling.{BarsCall, Calls}
use Rattle.amqp_endpoint.specs.Counting.{Counted, CountsStay}
use Rattle.amqp_endpoint.specs.Hearing.{Hears, Refuses}

abbrev pub linked : Relations LinkedSessions
linked =
    record {
      fresh = λ connection first window. record {
        talk = record {
          sessions = fresh connection;
          first_transfer_number = first;
          incoming_window = window;
        };
        links = names.fresh;
        sent = 0;
        given = 0;
      };
      connection = λ s. s.talk.sessions.connection;
      moved = λ s connection. record s {
        talk = record s.talk { sessions = record s.talk.sessions { connection = connection } };
      };
      takes = λ s limit channel it frames events new.
          Hears s.talk s.links s.given limit (record { 0 = channel }) it frames events new.talk new.links new.given
          × (new.sent ≡ s.sent);
      refuses = λ s limit channel it e new.
          Refuses s.talk s.links s.given limit (record { 0 = channel }) it e new.talk new.links × CountsStay s new;
      calls = λ s limit call answer frames new. Calls s limit call answer frames new × Counted call s new;
      bars = λ s limit call e. BarsCall s limit call e;
      within = λ limit s. Within limit s.talk;
      idle = λ s. NoneLive s.talk;
      closes = λ s new. Leaves s.talk s.links new.talk new.links × CountsStay s new;
      finishes = λ s new. Finishes s.talk s.links new.talk new.links × CountsStay s new;
    }
