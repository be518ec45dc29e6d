use Rattle.std.proofs.Common.{refl, sym, ap, ◌∙◌, rules}
use Rattle.std.specs.FinMap as map
use Rattle.amqp_session_outgoing.specs.Table.{Table, Deliveries}
use Rattle.amqp_session_outgoing.specs.Touched.{number_at}
use Rattle.amqp_session_outgoing.proofs.Lacking.{outside-none, settled-more}
use Rattle.amqp_session_outgoing.proofs.unsettled.Unsettled.settle_each.Goals as goal

pub loop-distance-init : goal.loop-distance-init
loop-distance-init c = record {
  end = refl;
  left = ap (λ (table : Table). record { table = table; room = (c.args.self.now).room }) (sym (outside-none (c.args.range).first (c.args.self.now).table));
}

pub loop-distance-preserved : goal.loop-distance-preserved
loop-distance-preserved c =
    let taken = settled-more (c.args.range).first c.loop-distance.distance (c.args.self.now).table (search rules) (search rules) in
    record {
      end = refl;
      left =
          c.settle.ensures
          ∙ ap (λ (d : Deliveries). record { table = map.remove d.table (number_at (c.args.range).first c.loop-distance.distance); room = d.room }) c.loop-distance.invariant.left
          ∙ ap (λ (table : Table). record { table = table; room = (c.args.self.now).room }) taken;
    }
