use Rattle.std.proofs.Common.{◌++◌, List, ℕ, Bool, ap, sym, ◌∙◌, subst, refl}
use Rattle.std.proofs.lemmas.List.{append-nil}
use Rattle.std.specs.Global.{Vec}
use Rattle.amqp_session_frames.specs.Cutting.{joined}
use Rattle.amqp_endpoint_core.specs.WorldSaid.{texts}
use Rattle.amqp_endpoint_core.specs.WorldStep.{Drains}
use Rattle.amqp_endpoint_core.specs.Pulling.{PullsNext}
use Rattle.amqp_endpoint_core.proofs.Pullings.{Drains-next}
use Rattle.amqp_endpoint_core.proofs.carrying.drain.Goals as goal

pub loop-init : goal.loop-init
loop-init g c =
    let from = c.args.from.now in
    let stream = c.args.stream.now.items in
    let P : List (Vec ℕ) → Type 0 = λ xs. Drains from (texts xs) from in
    record {
      drains = subst P (sym c.requires) refl;
      stream = sym (append-nil stream) ∙ ap (λ xs. stream ++ joined (texts xs)) (sym c.requires);
    }

pub loop-preserved : goal.loop-preserved
loop-preserved g c =
    let s = c.loop in
    let new = c.pull_next.new in
    let P : Bool → Type 0 = λ b.
    PullsNext b s.from s.stream.items (texts s.pulled.items) new.from new.stream.items (texts new.pulled.items) in
    let (drains, stream) = Drains-next c.args.from.now c.args.stream.now.items (texts s.pulled.items) s.from
    s.stream.items new.from new.stream.items (texts new.pulled.items) s.invariant.drains s.invariant.stream
    (subst P c.if-branch.true c.in_ok-pull_next.ensures.ok) in
    record { drains = drains; stream = stream }
