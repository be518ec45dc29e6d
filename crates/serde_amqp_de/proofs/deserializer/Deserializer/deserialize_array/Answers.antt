use Rattle.std.proofs.Common.{ℕ, Option, refl, sym, ap, subst}
use Rattle.serde_amqp_item.specs.Item.{array}
use Rattle.serde_amqp_de.specs.Reads.{Opens, at_of}
use Rattle.serde_amqp_de.specs.Open.{an_array}
use Rattle.serde_amqp_de.proofs.Opened.{begun_array, opened}
use Rattle.serde_amqp_de.proofs.deserializer.Deserializer.deserialize_array.Goals as goal

pub returns : goal.returns
returns g c =
    let k = c.args.self.now.element in
    let old = at_of g.R.Read.rest c.args.self.now in (
      (refl, λ w. refl, tt),
      record {
        failed = tt;
        same_reference = refl;
        begun = opened g.R.Read.rest an_array c.bounded.new.self.element k old c.array_head-head.result c.in_ok-left.left c.in_ok-left.end c.array_head-head.new.self c.bounded.new.self _
            (λ n size e. begun_array c.bounded.new.self.element k old (at_of g.R.Read.rest c.array_head-head.new.self) n size (subst (λ (i : Option ℕ). Opens array i k old (at_of g.R.Read.rest c.array_head-head.new.self) n size) (sym (ap (λ d. d.element) c.in_ok-left.ensures.same)) (rw e at c.array_head-head.ensures.ok))) c.in_ok-left.ensures.ok c.in_ok-left.ensures.same refl refl refl c.element-outer.ensures refl;
        refused = tt;
        named = tt;
      },
    )
