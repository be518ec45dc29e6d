use Rattle.std.proofs.Common.{◌≡◌, ◌≤◌, ℕ, List, if◌then◌else◌, length, subst, ap, ◌∙◌, arith, Bor}
use Rattle.std.proofs.lemmas.List.Elements.{All-same}
use Rattle.amqp_session_outgoing.specs.Range.{range_of}
use Rattle.amqp_session_outgoing.specs.Table.{IsUnsettled}
use Rattle.amqp_session_core.specs.Disposing.{Walked}
use Rattle.amqp_session_core.specs.Echoes.{echo_of, runs_of}
use Rattle.amqp_session_core.specs.Steps.{table_of}
use Rattle.std.specs.Prelude.{map}
use Rattle.amqp_session_core.proofs.Running.{Runs}
use Rattle.amqp_session_core.proofs.Settling.{touched-unsettled}
use Rattle.amqp_session_core.proofs.Echoing.{disposition-taken, all-settled, echoed-settled}
use Rattle.amqp_session_core.proofs.Walking.{walked-bound}
use Rattle.amqp_session_core.proofs.session.Session.on_incoming_disposition.Goals.{then-disposition, else-disposition}
use Rattle.amqp_session_core.proofs.session.Session.on_incoming_disposition.Goals as goal

pub walk-requires-clause-there : goal.walk-requires-clause-there
walk-requires-clause-there g c =
    let d = c.args.disposition.now in
    let table = table_of d.role c.args.self.now in
    let numbers = c.args.room.numbers.items in
    All-same (λ (n : ℕ). IsUnsettled table n) c.deref.result.now numbers c.deref.ensures.value (touched-unsettled (range_of d.first d.last) table numbers c.requires.numbers)

pub gather_runs-requires-clause-room : goal.gather_runs-requires-clause-room
gather_runs-requires-clause-room g c =
    let bound : length c.walk.new.echoed.items ≤ length c.deref.result.now = walked-bound g.R.LinkRelay.gives.disposes c.args.disposition.now _ _ _ _ _ c.walk.ensures.walked in
    omega (
      arith,
      bound,
      ap (λ (xs : List ℕ). length xs) c.deref-2.ensures,
      ap (λ (xs : List ℕ). length xs)
          c.deref.ensures.value,
      c.requires.runs_room,
    )

pub returns : goal.returns
returns g c =
    let d = c.args.disposition.now in
    let old = c.args.self.now in
    let mid = c.walk.new.self in
    let numbers = c.args.room.numbers.items in
    let echoed = c.walk.new.echoed.items in
    let gives = g.R.LinkRelay.gives in
    let walked = subst (λ (ns : List ℕ). Walked gives.disposes d (table_of d.role old) ns old.links echoed mid.links) c.deref.ensures.value c.walk.ensures.walked in
    let runs : c.gather_runs.new.runs.items ≡ runs_of echoed = c.gather_runs.ensures
    ∙ ap (λ (xs : List ℕ). runs_of xs) c.deref-2.ensures in
    let settled : c.if-disposition.settled.now ≡ (if d.settled then numbers else echoed) =
    elim c.if-disposition.branch [
      | then-disposition w ↦ all-settled d.settled numbers echoed c.if-disposition.settled.now
          w.if-disposition.true (ap (λ (b : Bor (List ℕ)). b.now) w.settled-is ∙ w.as_slice-settled.ensures.value)
      | else-disposition w ↦ echoed-settled d.settled numbers echoed c.if-disposition.settled.now
          w.if-disposition.false (ap (λ (b : Bor (List ℕ)). b.now) w.settled-is
          ∙ w.as_slice-settled-else-disposition.ensures)
    ] in
    disposition-taken gives old mid c.settle.new.self d numbers echoed c.if-disposition.settled.now
    (map (echo_of d) c.gather_runs.new.runs.items) c.requires.numbers walked c.walk.ensures.rest settled
    c.settle.ensures
    (ap (λ (rs : Runs). map (echo_of d) rs) runs)
