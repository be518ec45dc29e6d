use Rattle.std.proofs.lemmas.List.{take_all}
use Rattle.std.proofs.Common.{arith, take, ◌≡◌}
use Rattle.amqp_link_base.proofs.Scanning.{scanned-take}
use Rattle.amqp_link_base.proofs.scan.Scan.take.Goals as goal

pub loop-byte-preserved : goal.loop-byte-preserved
loop-byte-preserved c = record {
  size = omega arith;
  scanned = λ xs old. scanned-take c.args.self.now _ xs c.args.bytes.now c.loop-byte.byte-index c.loop-byte-test.true (c.take_byte.ensures.scanned _ (c.loop-byte.invariant.scanned xs old));
}

pub returns-clause-scanned : goal.returns-clause-scanned
returns-clause-scanned c = λ xs old.
    let e : take c.loop-byte.byte-index c.args.bytes.now ≡ c.args.bytes.now = take_all c.loop-byte.byte-index c.args.bytes.now (omega arith) in
    rw e at (c.loop-byte.invariant.scanned xs old)
