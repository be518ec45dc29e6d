use Rattle.std.proofs.Common.{arith}
use Rattle.amqp_endpoint_tables.proofs.Naming.{moved-length, moved-named}
use Rattle.amqp_endpoint_tables.proofs.links.Links.rest.Goals as goal

pub invariant_of-self : goal.invariant_of-self
invariant_of-self g c =
    let old = c.self.inside.links.items in
    let new = c.put.new.links.items in (
      moved-named old new c.self.inside.numbers.entries c.args.number _ c.put.result c.put.ensures.put
          c.put.ensures.none c.self.invariant.0,
      omega (arith, c.put.ensures.room, c.self.invariant.1),
      c.self.invariant.2,
      omega (
        arith,
        moved-length old new c.args.number _ c.put.result c.put.ensures.put c.put.ensures.none,
        c.self.invariant.3,
      ),
    )
