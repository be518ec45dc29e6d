use Rattle.std.proofs.Common.{None, refl, ap}
use Rattle.serde_amqp_de.specs.Reads.{at_of, Reading}
use Rattle.serde_amqp_de.specs.Open.{a_map}
use Rattle.serde_amqp_de.proofs.Opened.{begun_map, opened}
use Rattle.serde_amqp_de.proofs.deserializer.Deserializer.deserialize_map.Goals as goal

pub returns : goal.returns
returns g c =
    let k = c.args.self.now.element in
    let old = at_of g.R.Read.rest c.args.self.now in (
      (refl, λ w. refl, tt),
      record {
        failed = tt;
        same_reference = refl;
        begun = opened g.R.Read.rest a_map None k old c.map_head-head.result c.in_ok-left.left c.in_ok-left.end c.map_head-head.new.self c.bounded.new.self _
            (λ n size e. begun_map k old (at_of g.R.Read.rest c.map_head-head.new.self) n size (rw e at c.map_head-head.ensures.ok) (rw e at c.map_head-head.ensures.even)) c.in_ok-left.ensures.ok c.in_ok-left.ensures.same
            (ap (λ (d : Reading g.row.R.Denot). at_of g.R.Read.rest d) c.set_element.ensures) refl refl c.element-outer.ensures (ap (λ (d : Reading g.row.R.Denot). d.element) c.set_element.ensures);
        even = rw c.in_ok-left.ensures.ok.1 at c.map_head-head.ensures.even;
        refused = tt;
        named = tt;
      },
    )
