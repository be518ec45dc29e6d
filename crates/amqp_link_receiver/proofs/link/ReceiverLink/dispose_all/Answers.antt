use Rattle.amqp_link_receiver.proofs.Prepared.{as-prepared}
use Rattle.amqp_link_receiver.specs.DisposingAll.{named_all}
use Rattle.amqp_link_receiver.proofs.link.ReceiverLink.dispose_all.Goals as goal

pub returns-clause-ok : goal.returns-clause-ok
returns-clause-ok c =
    as-prepared (named_all c.args.self.now c.args.tags.now) c.args.self.now c.commit_dispose_all.new.self c.args.state
    c.args.settled c.in_ok-prepared.prepared c.commit_dispose_all.result.items c.in_ok-prepared.ensures.ok
    c.commit_dispose_all.ensures.told c.commit_dispose_all.ensures.link
