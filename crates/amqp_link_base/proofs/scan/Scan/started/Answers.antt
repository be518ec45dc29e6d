use Rattle.std.proofs.Common.{sym, arith}
use Rattle.amqp_link_base.proofs.Scanning.{started-last, not-started}
use Rattle.amqp_link_base.proofs.scan.Scan.started.Goals as goal

pub returns-then-self-number-clause-value : goal.returns-then-self-number-clause-value
returns-then-self-number-clause-value c = λ xs now. sym (started-last c.args.self.now xs c.args.number now c.if-self-number.true)

pub returns-clause-value : goal.returns-clause-value
returns-clause-value c = λ xs now. sym (not-started c.args.self.now xs c.args.number now (omega arith))
