use Rattle.std.proofs.lemmas.List.{take_all}
use Rattle.std.proofs.Common.{arith, take, ◌≡◌}
use Rattle.amqp_link_base.proofs.Scanning.{scanned-take, started-within}
use Rattle.amqp_link_base.proofs.scan.Scan.seek.Goals as goal

pub returns-then-self-number-clause-found : goal.returns-then-self-number-clause-found
returns-then-self-number-clause-found c = λ xs rest old.
    started-within c.loop-byte.self xs c.args.bytes.now rest c.loop-byte.byte-index c.args.number (c.loop-byte.invariant.scanned xs old) c.if-self-number.true

pub loop-byte-preserved : goal.loop-byte-preserved
loop-byte-preserved c = record {
  before = omega arith;
  size = omega arith;
  scanned = λ xs old. scanned-take c.args.self.now _ xs c.args.bytes.now c.loop-byte.byte-index c.loop-byte-test.true (c.take_byte.ensures.scanned _ (c.loop-byte.invariant.scanned xs old));
}

pub returns-clause-scanned : goal.returns-clause-scanned
returns-clause-scanned c = λ xs old.
    let e : take c.loop-byte.byte-index c.args.bytes.now ≡ c.args.bytes.now = take_all c.loop-byte.byte-index c.args.bytes.now (omega arith) in
    rw e at (c.loop-byte.invariant.scanned xs old)
