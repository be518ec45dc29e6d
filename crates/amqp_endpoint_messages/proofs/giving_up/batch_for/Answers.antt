use Rattle.std.proofs.Common.{ap}
use Rattle.amqp_session_performatives.specs.declared.transfer.Transfer.{Transfer}
use Rattle.amqp_endpoint_messages.proofs.Planned.{not-taken, taken}
use Rattle.amqp_endpoint_messages.proofs.giving_up.batch_for.Goals as goal

pub fits_numbered-requires : goal.fits_numbered-requires
fits_numbered-requires c = ap (λ (t : Transfer). t.delivery_id) c.in_ok-first.ensures

pub returns-then-not-fits_numbered : goal.returns-then-not-fits_numbered
returns-then-not-fits_numbered c =
    not-taken c.args.limit c.args.handle c.args.abort.now c.in_ok-first.first c.fits_numbered.result
    c.in_ok-first.ensures c.fits_numbered.ensures.fits c.if-not-fits_numbered.true

pub returns : goal.returns
returns c =
    taken c.args.limit c.args.handle c.args.abort.now c.in_ok-first.first c.fits_numbered.new.transfer
    c.in_ok-batch.batch c.fits_numbered.result c.in_ok-first.ensures c.fits_numbered.ensures.same
    c.fits_numbered.ensures.fits c.if-not-fits_numbered.false c.in_ok-batch.ensures
