use Rattle.std.proofs.Common.{ap}
use Rattle.amqp_session_types.specs.declared.error.Error.{Error}
use Rattle.amqp_endpoint_messages.specs.declared.giving_up.Closing.{Closing}
use Rattle.amqp_endpoint_messages.proofs.giving_up.make_closing.Goals as goal

pub returns-in-Ok : goal.returns-in-Ok
returns-in-Ok c =
    let closing : Error → Closing = λ why.
    record {
      session = c.args.number;
      handle = c.args.handle;
      count = c.args.count;
      why = why;
      place = c.in-Ok.place;
    } in
    record { is = ap closing c.in_ok-why.ensures; place = record { some = c.in-Ok.ensures.more; serves = c.in-Ok.ensures.room } }
