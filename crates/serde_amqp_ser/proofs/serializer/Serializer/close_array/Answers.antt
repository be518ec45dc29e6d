use Rattle.std.proofs.Common.{◌≤◌, length, arith}
use Rattle.serde_amqp_item.proofs.Texts.{element_count-lt-length}
use Rattle.serde_amqp_ser.specs.Puts.{place_of}
use Rattle.serde_amqp_ser.proofs.Arrayed.{array_counted}
use Rattle.serde_amqp_ser.proofs.serializer.Serializer.close_array.Goals as goal

pub returns-clause-refused : goal.returns-clause-refused
returns-clause-refused g c = λ w xs content e f s n.
    let room : c.args.count ≤ length content = omega (arith, element_count-lt-length xs content e, n) in
    rw (array_counted (place_of c.args.self.now.element) xs content e) (rw (← n) at (c.close_counted.ensures.refused w content f s room))
