use Rattle.amqp_endpoint_messages.proofs.CutOn.{cuts-none, cuts-on}
use Rattle.amqp_endpoint_messages.proofs.sending_on.transfers_of.Goals as goal

pub returns-in-Ok : goal.returns-in-Ok
returns-in-Ok c =
    cuts-on c.args.limit c.args.handle c.ranges.limit.fits c.args.ready c.on_handle-first.result c.in-Ok.batch
    c.requires c.on_handle-first.ensures c.in-Ok.ensures.ok

pub returns-in-Err-NoRoom : goal.returns-in-Err-NoRoom
returns-in-Err-NoRoom c =
    cuts-none c.args.limit c.args.handle c.args.ready c.on_handle-first.result c.in-Err-NoRoom.field-0
    c.on_handle-first.ensures c.in-Err-NoRoom.field-0-is c.in-Err-NoRoom.ensures.only
