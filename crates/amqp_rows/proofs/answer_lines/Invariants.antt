use Rattle.std.proofs.Common.{◌+◌, ◌≤◌, map, drop}
use Rattle.amqp_rows.specs.Rows.{Answers, Tally, tally_of, nothing_told, LinesDone}
use Rattle.amqp_rows.proofs.answer_lines.Given as goal

abbrev pub invariant-loop-index : goal.invariant-loop-index
invariant-loop-index g l = goal.F-IsAlwaysCallable g l.answer
    × (l.report.held + l.report.differing ≤ l.index)
    × ((last : Tally) → LinesDone (Answers g.F.Fn l.answer) (l.index + 1) (map (λ t. t.now) (drop l.index l.lines)) (tally_of l.report) last → LinesDone (Answers g.F.Fn l.answer) 1 (map (λ t. t.now) l.lines) nothing_told last)
