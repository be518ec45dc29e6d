use Rattle.std.proofs.Common.{◌≡◌, ℕ, All, refl, sym, ap, subst, ◌∙◌}
use Rattle.std.proofs.lemmas.List.Elements.{All-same}
use Rattle.amqp_session_outgoing.specs.Range.{range_of}
use Rattle.amqp_session_outgoing.specs.Table.{Table, IsUnsettled}
use Rattle.amqp_session_core.specs.Inside.{state_of}
use Rattle.amqp_session_core.specs.State.{State}
use Rattle.amqp_session_core.specs.Steps.{table_of}
use Rattle.amqp_session_core.proofs.Settling.{table-is, touched-unsettled}
use Rattle.amqp_session_core.proofs.session.Session.touched.Goals as goal

pub tell_touched-requires-clause-there : goal.tell_touched-requires-clause-there
tell_touched-requires-clause-there g c =
    let d = c.args.disposition.now in
    let table : Table = table_of d.role c.args.self.now in
    let same : c.deliveries_of-deliveries.result.now.table ≡ table =
    c.deliveries_of-deliveries.ensures
    ∙ table-is d.role (state_of c.self.inside) c.self.inside.received refl
    ∙ ap (λ (s : State _). table_of d.role s) c.self.view_is in
    subst (λ (t : Table). All (λ n. IsUnsettled t n) c.deref.result.now) (sym same)
    (All-same (λ (n : ℕ). IsUnsettled table n) c.deref.result.now c.in_ok-numbers.numbers.items c.deref.ensures.value
    (touched-unsettled (range_of d.first d.last) table c.in_ok-numbers.numbers.items c.in_ok-numbers.ensures))
