use Rattle.std.proofs.Common.{◌≡◌, Some, sym, subst, arith, rules, nat_eq}
use Rattle.std.specs.Prelude.{slice_get}
use Rattle.std.specs.Map.{lookup}
use Rattle.amqp_session_outgoing.specs.Table.{Deliveries, IsUnsettled}
use Rattle.amqp_session_outgoing.specs.Touched.{number_at}
use Rattle.amqp_session_outgoing.proofs.Tables.{unsettled-at}
use Rattle.amqp_session_outgoing.proofs.Gathering.{sound-more, complete-more, complete-each}
use Rattle.amqp_session_outgoing.proofs.unsettled.Unsettled.distances.Goals as goal

pub loop-i-preserved : goal.loop-i-preserved
loop-i-preserved c =
    let at : slice_get c.self.inside.deliveries.entries c.loop-i.i ≡ Some ((c.unwrap.result.0).now, (c.unwrap.result.1).now) = search rules in
    let value : lookup (nat_eq (c.unwrap.result.0).now) c.self.inside.deliveries.entries ≡ Some (c.unwrap.result.1).now = search rules in
    let here : IsUnsettled (c.args.self.now).table (c.unwrap.result.0).now =
    subst (λ (d : Deliveries). IsUnsettled d.table (c.unwrap.result.0).now) c.self.view_is (unsettled-at c.self.inside.deliveries.entries (c.unwrap.result.0).now (c.unwrap.result.1).now value) in
    record {
      ordered = c.in_ok-note.ensures.ordered c.loop-i.invariant.ordered;
      sound = sound-more (c.args.self.now).table c.args.first c.args.count (c.unwrap.result.0).now c.loop-i.distances c.note.new.distances (search rules) c.in_ok-note.ensures.fits here c.in_ok-note.ensures.ok c.loop-i.invariant.sound;
      complete = complete-more c.self.inside.deliveries.entries c.args.first c.args.count c.loop-i.i (c.unwrap.result.0).now (c.unwrap.result.1).now c.loop-i.distances c.note.new.distances at c.in_ok-note.ensures.ok c.loop-i.invariant.complete;
    }

pub returns-clause-each : goal.returns-clause-each
returns-clause-each c = λ d. (
  c.loop-i.invariant.sound d,
  λ is. complete-each c.self.inside.deliveries.entries c.args.first c.args.count c.loop-i.i c.loop-i.distances (search rules) (search rules) (omega arith) c.loop-i.invariant.complete d
      (is.0, subst (λ (x : Deliveries). IsUnsettled x.table (number_at c.args.first d)) (sym c.self.view_is) is.1),
)
