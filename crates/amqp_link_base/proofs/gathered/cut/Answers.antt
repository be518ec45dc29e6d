use Rattle.std.proofs.Common.{◌<◌, ℕ, List, take, ap, ◌∙◌, arith, length, length-append, get_or}
use Rattle.std.specs.List.{concat}
use Rattle.amqp_link_base.proofs.Pieces.{cut-here, concat-take}
use Rattle.amqp_link_base.proofs.gathered.cut.Goals as goal

pub returns-then-left-len-clause-bytes : goal.returns-then-left-len-clause-bytes
returns-then-left-len-clause-bytes c =
    let pieces : List (List ℕ) = c.loop-i.pieces.items in
    let within : c.loop-i.i < length pieces = omega arith in
    ap (λ (l : List (List ℕ)). concat l) c.truncate-then-left-len.ensures.items
    ∙ cut-here pieces c.loop-i.i c.loop-i.left c.index.result.now c.index_mut-piece.result.now c.truncate.new.self within c.index.ensures c.index_mut-piece.ensures.value (omega arith) c.truncate.ensures
    ∙ ap (λ (k : ℕ). take k (concat pieces)) c.loop-i.invariant.left ∙ ap (λ (l : List (List ℕ)). take c.args.n (concat l)) c.loop-i.invariant.same

pub loop-i-preserved : goal.loop-i-preserved
loop-i-preserved c =
    let pieces : List (List ℕ) = c.loop-i.pieces.items in
    let within : c.loop-i.i < length pieces = omega arith in
    let more = concat-take pieces c.loop-i.i c.index.result.now within in
    record {
      same = c.loop-i.invariant.same;
      end = c.loop-i.invariant.end;
      room = c.loop-i.invariant.room;
      left = omega (arith, ap (λ (l : List ℕ). length l) more, length-append (concat (take c.loop-i.i pieces)) (get_or pieces c.loop-i.i c.index.result.now), ap (λ (l : List ℕ). length l) c.index.ensures);
    }
