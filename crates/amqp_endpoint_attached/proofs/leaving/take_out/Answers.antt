use Rattle.amqp_endpoint_attached.proofs.Taken.{taken_out, stays_in}
use Rattle.amqp_endpoint_attached.proofs.leaving.take_out.Goals as goal

pub returns-in-Ok : goal.returns-in-Ok
returns-in-Ok c =
    taken_out c.args.session.now c.args.handle c.in-Ok.link c.deallocate_link.new.self c.in-Ok.ensures

pub returns : goal.returns
returns c =
    stays_in c.args.session.now c.args.handle c.in-Err.field-0 c.deallocate_link.new.self c.in-Err.ensures
