use Rattle.std.proofs.Common.{◌++◌, Ok}
use Rattle.amqp_link_base.specs.Attach.{source_tests_of_sender, target_tests_of_sender, mode_tests}
use Rattle.amqp_link_base.proofs.Joining.{goes_on}
use Rattle.amqp_link_base.proofs.verify.verify_attach_as_sender.Goals as goal

pub returns : goal.returns
returns c =
    let source = source_tests_of_sender c.args.source.now c.args.attach.now.source in
    let target = target_tests_of_sender c.args.target.now c.args.attach.now.target in
    let modes = mode_tests c.args.snd_settle_mode c.args.attach.now.snd_settle_mode in
    goes_on (source ++ target) modes tt c.verify_mode.result
    (goes_on source target tt (Ok tt) c.in_ok-verify_source_as_sender.ensures c.in_ok-verify_target_as_sender.ensures)
    c.verify_mode.ensures
