use Rattle.std.proofs.Common.{map, ◌∙◌}
use Rattle.serde_amqp_de.specs.Reads.{at_of}
use Rattle.serde_amqp_de.proofs.Heads.{carried, carried_ok, carried_on}
use Rattle.serde_amqp_de.proofs.Sequences.{single}
use Rattle.serde_amqp_types.proofs.Arrays.{one_took, one_refused}
use Rattle.serde_amqp_types.proofs.array.ArrayDeserialize.read.Goals as goal

pub returns-in_err-read_one-in_default : goal.returns-in_err-read_one-in_default
returns-in_err-read_one-in_default g c =
    let r = c.from_residual-in_err-read_one-in_default in
    let e = c.in_err-read_one-in_default.field-0.0 in
    let s = single c.args.de.now.element (at_of g.R.Read.rest c.args.de.now) (at_of g.R.Read.rest c.peek.new.self) c.in_ok-peek.field-0 c.in_ok-peek.ensures.ok c.in_ok-peek.ensures.same c.in_default.not-Null c.in_default.not-Array8 c.in_default.not-Array32 in
    let refused = rw c.in_ok-peek.ensures.element at c.in_err-read_one-in_default.ensures.refused in
    record {
      ok = carried_ok r.result e _ r.ensures.1;
      element = carried_on r.result e _ r.ensures.1;
      refused = carried g.R.Read.faulty r.result e _ _ r.ensures.1 (one_refused g.T.Deserialize.take c.args.de.now.element (at_of g.R.Read.rest c.args.de.now) (at_of g.R.Read.rest c.peek.new.self) s) refused;
    }

pub returns-in_ok-read_one-in_default : goal.returns-in_ok-read_one-in_default
returns-in_ok-read_one-in_default g c =
    let s = single c.args.de.now.element (at_of g.R.Read.rest c.args.de.now) (at_of g.R.Read.rest c.peek.new.self) c.in_ok-peek.field-0 c.in_ok-peek.ensures.ok c.in_ok-peek.ensures.same c.in_default.not-Null c.in_default.not-Array8 c.in_default.not-Array32 in
    let took = rw c.in_ok-peek.ensures.element at c.in_ok-read_one-in_default.ensures.ok in
    record {
      ok = rw c.from-in_default.ensures (one_took g.T.Deserialize.take c.args.de.now.element (at_of g.R.Read.rest c.args.de.now) (at_of g.R.Read.rest c.peek.new.self) (at_of g.R.Read.rest c.read_one.new.de) (map g.T.Deserialize.item c.in_ok-read_one-in_default.field-0.items) s took);
      element = c.in_ok-read_one-in_default.ensures.element ∙ c.in_ok-peek.ensures.element;
      refused = tt;
    }
