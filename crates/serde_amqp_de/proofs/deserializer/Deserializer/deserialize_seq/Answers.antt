use Rattle.std.proofs.Common.{None, refl, ap}
use Rattle.serde_amqp_de.specs.Reads.{at_of, Reading}
use Rattle.serde_amqp_de.specs.Open.{a_list}
use Rattle.serde_amqp_de.proofs.Opened.{begun_list, opened}
use Rattle.serde_amqp_de.proofs.deserializer.Deserializer.deserialize_seq.Goals as goal

pub returns : goal.returns
returns g c =
    let k = c.args.self.now.element in
    let old = at_of g.R.Read.rest c.args.self.now in (
      (refl, λ w. refl, tt),
      record {
        failed = tt;
        same_reference = refl;
        begun = opened g.R.Read.rest a_list None k old c.list_head-head.result c.in_ok-left.left c.in_ok-left.end c.list_head-head.new.self c.bounded.new.self _
            (λ n size e. begun_list k old (at_of g.R.Read.rest c.list_head-head.new.self) n size (rw e at c.list_head-head.ensures.ok)) c.in_ok-left.ensures.ok c.in_ok-left.ensures.same
            (ap (λ (d : Reading g.row.R.Denot). at_of g.R.Read.rest d) c.set_element.ensures) refl refl c.element-outer.ensures (ap (λ (d : Reading g.row.R.Denot). d.element) c.set_element.ensures);
        refused = tt;
        named = tt;
      },
    )
