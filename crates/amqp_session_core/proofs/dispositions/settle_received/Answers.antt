use Rattle.std.proofs.Common.{ap, sym, ◌∙◌, get_or}
use Rattle.std.specs.FinMap as tables
use Rattle.amqp_session_outgoing.specs.Table.{Table, Deliveries}
use Rattle.amqp_session_core.proofs.Settling.{without-next}
use Rattle.amqp_session_core.proofs.dispositions.settle_received.Goals as goal

pub loop-number-preserved : goal.loop-number-preserved
loop-number-preserved c =
    let i = c.loop-number.number-index in
    let n = get_or c.args.numbers.now i 0 in
    c.settle.ensures
    ∙ ap (λ (d : Deliveries). record d { table = tables.remove d.table n }) c.loop-number.invariant
    ∙ ap (λ (t : Table). record c.args.received.now { table = t }) (sym (without-next (c.args.received.now).table c.args.numbers.now i c.loop-number-test.true))
