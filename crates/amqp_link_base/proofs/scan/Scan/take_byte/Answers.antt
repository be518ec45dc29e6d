use Rattle.std.proofs.Common.{refl, sym, ◌∙◌}
use Rattle.amqp_link_base.proofs.Scanning.{scanned-start, scanned-goes}
use Rattle.amqp_link_base.proofs.scan.Scan.take_byte.Goals as goal

pub returns-then-starts-clause-scanned : goal.returns-then-starts-clause-scanned
returns-then-starts-clause-scanned c = λ xs old. scanned-start _ _ xs c.args.byte old (sym c.starts_with-starts.ensures ∙ c.if-starts.true) refl refl refl c.then-self.ensures

pub returns-else-starts-clause-scanned : goal.returns-else-starts-clause-scanned
returns-else-starts-clause-scanned c = λ xs old. scanned-goes _ _ xs c.args.byte old (sym c.starts_with-starts.ensures ∙ c.if-starts.false) refl refl refl c.then-self.ensures
