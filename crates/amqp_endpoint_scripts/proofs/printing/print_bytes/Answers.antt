use Rattle.std.proofs.Common.{rules, sym}
use Rattle.amqp_endpoint_scripts.proofs.printing.print_bytes.Goals as goal

pub returns : goal.returns
returns c = rw (sym c.in_ok-word.ensures) (search rules)
