use Rattle.amqp_endpoint_messages.proofs.Transfers.{is_cut}
use Rattle.amqp_endpoint_messages.proofs.cutting.cut.Goals as goal

pub returns-clause-ok : goal.returns-clause-ok
returns-clause-ok c =
    is_cut c.args.limit c.args.handle c.args.ready c.on_handle.result c.in_ok-batch.batch c.on_handle.ensures
    c.in_ok-batch.ensures
