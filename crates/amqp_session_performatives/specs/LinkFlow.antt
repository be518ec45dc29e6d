-- The state of a link, as a flow tells it: part 2, 2.6.7 and 2.7.4.
use Rattle.std.specs.Prelude.{Option, Some}
use Rattle.serde_amqp_item.specs.Canon.{◌>>=◌}
use Rattle.amqp_session_performatives.specs.declared.flow.Flow.{Flow}
use Rattle.amqp_session_performatives.specs.declared.link_flow.LinkFlow.{LinkFlow}

-- a flow without its session's fields; one without a handle tells no link's state
abbrev pub link_flow : Flow → Option LinkFlow
link_flow f =
    f.handle >>= λ h. Some (record {
      handle = h;
      delivery_count = f.delivery_count;
      link_credit = f.link_credit;
      available = f.available;
      drain = f.drain;
      echo = f.echo;
      properties = f.properties;
    })
