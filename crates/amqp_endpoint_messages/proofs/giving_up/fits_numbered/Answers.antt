use Rattle.std.proofs.Common.{ℕ, Option, sym, ap}
use Rattle.amqp_session_performatives.specs.declared.transfer.Transfer.{Transfer}
use Rattle.amqp_endpoint_messages.proofs.AbortsFit.{transfer-tested}
use Rattle.amqp_endpoint_messages.proofs.giving_up.fits_numbered.Goals as goal

pub returns-clause-same : goal.returns-clause-same
returns-clause-same c =
    ap
    (λ (o : Option ℕ).
    let t : Transfer = record c.args.transfer.now { delivery_id = o } in t)
    (sym c.requires)

pub returns-clause-fits : goal.returns-clause-fits
returns-clause-fits c =
    transfer-tested c.args.limit c.args.transfer.now c.fits_text-fits.result c.ranges.limit.fits
    c.fits_text-fits.ensures
