use Rattle.amqp_endpoint_link_hearing.specs.Reached.{recounted}
use Rattle.amqp_endpoint_link_hearing.proofs.Messages.{changes-goes}
use Rattle.amqp_endpoint_link_hearing.proofs.transferring.close_for.Goals as goal

pub returns-in_default-clause-goes : goal.returns-in_default-clause-goes
returns-in_default-clause-goes c limit least =
    changes-goes (recounted c.args.counts) c.own_handle-handle.result c.args.talk.now c.args.session
    c.set_counts.new.talk c.args.out.now.items limit c.set_counts.ensures
