use Rattle.std.proofs.Common.{None, refl}
use Rattle.serde_amqp_de.specs.Reads.{at_of}
use Rattle.serde_amqp_de.specs.Open.{a_described_value}
use Rattle.serde_amqp_de.proofs.Opened.{begun_described, none_read}
use Rattle.serde_amqp_de.proofs.deserializer.Deserializer.deserialize_described.Goals as goal

pub returns-in-Ok : goal.returns-in-Ok
returns-in-Ok g c =
    let k = c.args.self.now.element in
    let old = at_of g.R.Read.rest c.args.self.now in
    let mid = at_of g.R.Read.rest c.described.new.self in (
      (refl, λ w. refl, tt),
      record {
        failed = tt;
        same_reference = refl;
        begun = none_read g.R.Read.rest a_described_value None k old mid 2 None _ (begun_described k old mid c.in-Ok.ensures.ok) refl refl refl c.element-outer.ensures c.in-Ok.ensures.element;
        left = refl;
        refused = tt;
        named = tt;
      },
    )
