use Rattle.std.proofs.Common.{None, refl, ap}
use Rattle.serde_amqp_item.specs.Kind.{map_kind}
use Rattle.serde_amqp_item.specs.declared.error.Error.TheVariants.{InvalidLength}
use Rattle.serde_amqp_de.specs.Reads.{at_of, Reading}
use Rattle.serde_amqp_de.specs.Open.{a_map}
use Rattle.serde_amqp_de.proofs.Opened.{begun_map, opened, other_pairs}
use Rattle.serde_amqp_de.proofs.Naming.{names_count}
use Rattle.serde_amqp_de.proofs.deserializer.Deserializer.deserialize_enum.Goals as goal

pub returns : goal.returns
returns g c =
    let k = c.args.self.now.element in
    let old = at_of g.R.Read.rest c.args.self.now in (
      (refl, λ w. refl, tt),
      record {
        failed = tt;
        same_reference = refl;
        begun = opened g.R.Read.rest a_map None k old c.map_head-head.result c.in_ok-left.left c.in_ok-left.end c.map_head-head.new.self c.bounded.new.self _
            (λ n size e. begun_map k old (at_of g.R.Read.rest c.map_head-head.new.self) n size (rw e at c.map_head-head.ensures.ok) (rw e at c.map_head-head.ensures.even)) c.in_ok-left.ensures.ok c.in_ok-left.ensures.same
            (ap (λ (d : Reading g.row.R.Denot). at_of g.R.Read.rest d) c.set_element.ensures) refl refl c.element-outer.ensures (ap (λ (d : Reading g.row.R.Denot). d.element) c.set_element.ensures);
        left = c.if-left-ne2.false;
        refused = tt;
        named = tt;
      },
    )

pub returns-then-left-ne2 : goal.returns-then-left-ne2
returns-then-left-ne2 g c =
    let e = c.in_ok-left.ensures.ok in (
      (refl, λ w. tt, c.fail.ensures),
      record {
        failed = tt;
        same_reference = tt;
        begun = tt;
        left = tt;
        refused = other_pairs c.args.self.now.element (at_of g.R.Read.rest c.args.self.now) (at_of g.R.Read.rest c.map_head-head.new.self) c.in_ok-left.left e.0 (rw e.1 at c.map_head-head.ensures.ok) c.if-left-ne2.true (rw e.1 at c.map_head-head.ensures.even);
        named = names_count InvalidLength 2 _ map_kind _ _ c.if-left-ne2.true (rw e.1 at c.map_head-head.ensures.said);
      },
    )
