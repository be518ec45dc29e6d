use Rattle.std.proofs.Common.{ap, sym, ◌∙◌, get_or}
use Rattle.std.specs.FinMap as tables
use Rattle.amqp_session_outgoing.specs.Table.{Table}
use Rattle.amqp_session_outgoing.specs.State as sending
use Rattle.amqp_session_core.specs.declared.batch.TransferFrame.{TransferFrame}
use Rattle.amqp_session_core.specs.declared.batch.BehindFrame.{BehindFrame}
use Rattle.amqp_session_core.proofs.Settling.{without-next}
use Rattle.amqp_session_core.proofs.dispositions.settle_sent.Goals as goal

pub loop-number-preserved : goal.loop-number-preserved
loop-number-preserved c =
    let i = c.loop-number.number-index in
    let n = get_or c.args.numbers.now i 0 in
    c.settle.ensures
    ∙ ap (λ (s : sending.State TransferFrame BehindFrame). record s { unsettled = tables.remove s.unsettled n }) c.loop-number.invariant
    ∙ ap (λ (t : Table). record c.args.outgoing.now { unsettled = t }) (sym (without-next (c.args.outgoing.now).unsettled c.args.numbers.now i c.loop-number-test.true))
