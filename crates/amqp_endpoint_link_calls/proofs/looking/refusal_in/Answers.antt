use Rattle.amqp_endpoint_link_calls.proofs.Looked.{finds-none, finds-tested, is-met}
use Rattle.amqp_endpoint_link_calls.proofs.looking.refusal_in.Goals as goal

pub test_asked-requires : goal.test_asked-requires
test_asked-requires c =
    is-met c.args.live.now.asked c.args.settings.now.name c.args.role c.met_by-input.result c.met_by-input.ensures

pub returns-in-Ok : goal.returns-in-Ok
returns-in-Ok c =
    finds-tested c.args.live.now c.args.settings.now c.args.role c.met_by-input.result c.test_asked.result
    c.met_by-input.ensures c.in-Ok.ensures.ok.1 c.test_asked.ensures

pub returns-in-Err : goal.returns-in-Err
returns-in-Err c =
    finds-none c.args.live.now c.args.settings.now c.args.role c.met_by-input.result c.in-Err.refusal
    c.met_by-input.ensures c.in-Err.ensures.err.0 c.in-Err.ensures.err.1
