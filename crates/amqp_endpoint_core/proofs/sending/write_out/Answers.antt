use Rattle.std.proofs.Common.{Bool, subst}
use Rattle.amqp_endpoint_core.specs.Moves.{PullsNext}
use Rattle.amqp_endpoint_core.proofs.MoveLaws.{sends_kept, sends_pulled, sends_same, sends_written}
use Rattle.amqp_endpoint_core.proofs.sending.write_out.Goals as goal

pub returns-in_err-pull_next-clause-sends : goal.returns-in_err-pull_next-clause-sends
returns-in_err-pull_next-clause-sends g c =
    let s = c.loop-output in
    let (memory, same, bytes) = c.in_err-pull_next.ensures.err in
    sends_same (g.W.Write.contents c.args.writer.now) (g.W.Write.contents s.writer) c.args.endpoint.now s.endpoint
    c.pull_next.new.endpoint c.args.output.now.items s.output.items c.pull_next.new.output.items s.invariant.sends
    same bytes

pub loop-output-preserved : goal.loop-output-preserved
loop-output-preserved g c =
    let s = c.loop-output in
    let pulled = c.pull_next.new in
    let behind = c.write_held-in-loop-output.new in
    let P : Bool → Type 0 = λ some.
    PullsNext some s.endpoint s.output.items pulled.endpoint pulled.output.items in
    let some = subst P c.if-branch.true c.in_ok-pull_next.ensures.ok in
    let start = g.W.Write.contents c.args.writer.now in
    let before = g.W.Write.contents s.writer in
    record {
      sends =
          sends_written start before (g.W.Write.contents behind.writer) c.args.endpoint.now pulled.endpoint
          c.args.output.now.items pulled.output.items behind.output.items
          (sends_pulled start before c.args.endpoint.now s.endpoint pulled.endpoint c.args.output.now.items
          s.output.items pulled.output.items s.invariant.sends some)
          c.write_held-in-loop-output.ensures.writes;
      empty = c.in_ok-write_held-2.ensures.all;
    }

pub returns-in_err-write_held-2-clause-sends : goal.returns-in_err-write_held-2-clause-sends
returns-in_err-write_held-2-clause-sends g c =
    let s = c.loop-output in
    let pulled = c.pull_next.new in
    let behind = c.write_held-in-loop-output.new in
    let P : Bool → Type 0 = λ some.
    PullsNext some s.endpoint s.output.items pulled.endpoint pulled.output.items in
    let some = subst P c.if-branch.true c.in_ok-pull_next.ensures.ok in
    let start = g.W.Write.contents c.args.writer.now in
    let before = g.W.Write.contents s.writer in
    sends_written start before (g.W.Write.contents behind.writer) c.args.endpoint.now pulled.endpoint
    c.args.output.now.items pulled.output.items behind.output.items
    (sends_pulled start before c.args.endpoint.now s.endpoint pulled.endpoint c.args.output.now.items s.output.items
    pulled.output.items s.invariant.sends some)
    c.write_held-in-loop-output.ensures.writes

pub returns-in_err-flush-clause-sends : goal.returns-in_err-flush-clause-sends
returns-in_err-flush-clause-sends g c =
    let s = c.loop-output in
    let pulled = c.pull_next.new in
    let P : Bool → Type 0 = λ some.
    PullsNext some s.endpoint s.output.items pulled.endpoint pulled.output.items in
    let (none, same, bytes) = subst P c.if-branch.false c.in_ok-pull_next.ensures.ok in
    let start = g.W.Write.contents c.args.writer.now in
    let before = g.W.Write.contents s.writer in
    sends_kept start before (g.W.Write.contents c.flush.new.self) c.args.endpoint.now pulled.endpoint
    c.args.output.now.items pulled.output.items
    (sends_same start before c.args.endpoint.now s.endpoint pulled.endpoint c.args.output.now.items s.output.items
    pulled.output.items s.invariant.sends same bytes)
    c.flush.ensures.bytes

pub returns-clause-sends : goal.returns-clause-sends
returns-clause-sends g c =
    let s = c.loop-output in
    let pulled = c.pull_next.new in
    let P : Bool → Type 0 = λ some.
    PullsNext some s.endpoint s.output.items pulled.endpoint pulled.output.items in
    let (none, same, bytes) = subst P c.if-branch.false c.in_ok-pull_next.ensures.ok in
    let start = g.W.Write.contents c.args.writer.now in
    let before = g.W.Write.contents s.writer in
    sends_kept start before (g.W.Write.contents c.flush.new.self) c.args.endpoint.now pulled.endpoint
    c.args.output.now.items pulled.output.items
    (sends_same start before c.args.endpoint.now s.endpoint pulled.endpoint c.args.output.now.items s.output.items
    pulled.output.items s.invariant.sends same bytes)
    c.flush.ensures.bytes
