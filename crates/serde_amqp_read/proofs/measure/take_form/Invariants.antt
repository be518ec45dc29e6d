use Rattle.std.proofs.Common.{◌+◌, ◌*◌, [], length}
use Rattle.serde_amqp_read.specs.Pending.{place_of, Moves}
use Rattle.serde_amqp_read.proofs.Pendings.{Knows}
use Rattle.serde_amqp_read.proofs.measure.take_form.Given as goal

-- the bytes are a strict form and more exactly where what is open is still to come
abbrev pub invariant-loop-frame : goal.invariant-loop-frame
invariant-loop-frame g l = record {
  knows : Knows (g.R.Read.rest l.fn.reader) (place_of g.R.Read.rest g.R.Read.consumed g.R.Read.ending g.R.Read.ahead l.reader l.bytes.items) l.stack.items;
  moved : Moves (place_of g.R.Read.rest g.R.Read.consumed g.R.Read.ending g.R.Read.ahead l.fn.reader []) (place_of g.R.Read.rest g.R.Read.consumed g.R.Read.ending g.R.Read.ahead l.reader l.bytes.items) l.bytes.items;
}

abbrev pub decreases-loop-frame : goal.decreases-loop-frame
decreases-loop-frame g l = 2 * length (g.R.Read.rest l.reader) + length l.stack.items
