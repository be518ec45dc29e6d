use Rattle.std.proofs.Common.{rules, ◌≡◌, ◌∙◌, ap, None}
use Rattle.serde_amqp_item.specs.Wire.{code_of}
use Rattle.serde_amqp_read.specs.Pending.{place_of}
use Rattle.serde_amqp_read.proofs.Entered.{entering, no_code}
use Rattle.serde_amqp_read.proofs.measure.take_code.Goals as goal
use Rattle.serde_amqp_read.proofs.measure.take_code.Goals.{in-Some, in-None+in_ok-byte-in-None}

pub returns-in-None-code_of-clause-refused : goal.returns-in-None-code_of-clause-refused
returns-in-None-code_of-clause-refused g c =
    let e : None ≡ code_of c.match-inherited.byte = search rules in
    elim c.match-inherited.branch [
      | in-Some w ↦ search (rules, entering)
      | in-None+in_ok-byte-in-None w ↦ rw w.in-None.is (no_code (place_of g.R.Read.rest g.R.Read.consumed g.R.Read.ending g.R.Read.ahead c.args.reader.now c.args.bytes.now.items) (place_of g.R.Read.rest g.R.Read.consumed g.R.Read.ending g.R.Read.ahead w.take_byte.new.reader w.take_byte.new.bytes.items) w.in_ok-byte-in-None.byte w.in_ok-byte-in-None.ensures.ok (e ∙ ap code_of w.byte-is))
    ]
