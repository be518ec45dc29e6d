use Rattle.std.proofs.Common.{◌++◌, Ok}
use Rattle.amqp_link_base.specs.Attach.{source_tests_of_receiver, count_tests, target_tests_of_receiver}
use Rattle.amqp_link_base.proofs.Joining.{judged_on}
use Rattle.amqp_link_base.proofs.verify.verify_attach_as_receiver.Goals as goal

pub returns : goal.returns
returns c =
    let source = source_tests_of_receiver c.args.source.now c.args.attach.now.source in
    let count = count_tests c.args.attach.now.initial_delivery_count in
    let target = target_tests_of_receiver c.args.target.now c.args.attach.now.target in
    judged_on (source ++ count) target tt c.verify_target_as_receiver.result
    (judged_on source count tt (Ok tt) c.in_ok-verify_source_as_receiver.ensures c.in_ok-verify_count.ensures)
    c.verify_target_as_receiver.ensures
