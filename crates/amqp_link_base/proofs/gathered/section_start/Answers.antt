use Rattle.std.proofs.Common.{◌≡◌, ◌+◌, ◌≤◌, ℕ, List, ◌++◌, take, drop, ap, sym, ◌∙◌, arith, length, length-append, subst}
use Rattle.std.proofs.lemmas.List.{take_all}
use Rattle.std.specs.List.{concat}
use Rattle.std.specs.Prelude.{IfSome}
use Rattle.amqp_link_base.specs.Scans.{Scanned}
use Rattle.amqp_link_base.specs.Starts.{start_of}
use Rattle.amqp_link_base.proofs.Pieces.{concat-take, concat-parts, front-short}
use Rattle.amqp_link_base.proofs.gathered.section_start.Goals as goal

pub seek-requires-clause-short : goal.seek-requires-clause-short
seek-requires-clause-short c =
    let i : ℕ = c.loop-piece.piece-index in
    let more : concat (take i c.args.pieces.now) ++ c.deref.result.now ≡ concat (take (i + 1) c.args.pieces.now) =
    ap (λ (l : List ℕ). concat (take i c.args.pieces.now) ++ l) (c.deref.ensures ∙ c.piece-item.is) ∙ sym (concat-take c.args.pieces.now i c.piece-item.result c.loop-piece-test.true) in
    let short : length (concat (take (i + 1) c.args.pieces.now)) ≤ length (concat c.args.pieces.now) = front-short c.args.pieces.now (i + 1) in
    omega (arith, ap (λ (l : List ℕ). length l) more, length-append (concat (take i c.args.pieces.now)) c.deref.result.now, c.loop-piece.invariant.scanned.size)

pub returns-in-Some-clause-value : goal.returns-in-Some-clause-value
returns-in-Some-clause-value c =
    let i : ℕ = c.loop-piece.piece-index in
    let more : concat (take i c.args.pieces.now) ++ c.deref.result.now ≡ concat (take (i + 1) c.args.pieces.now) =
    ap (λ (l : List ℕ). concat (take i c.args.pieces.now) ++ l) (c.deref.ensures ∙ c.piece-item.is) ∙ sym (concat-take c.args.pieces.now i c.piece-item.result c.loop-piece-test.true) in
    let rest : List ℕ = concat (drop (i + 1) c.args.pieces.now) in
    let all : (concat (take i c.args.pieces.now) ++ c.deref.result.now) ++ rest ≡ concat c.args.pieces.now =
    ap (λ (l : List ℕ). l ++ rest) more ∙ concat-parts c.args.pieces.now (i + 1) in
    sym (c.in-Some.ensures.found (concat (take i c.args.pieces.now)) rest c.loop-piece.invariant.scanned) ∙ ap (λ (l : List ℕ). start_of l c.args.number) all

pub returns-in-Some-clause-within : goal.returns-in-Some-clause-within
returns-in-Some-clause-within c =
    let i : ℕ = c.loop-piece.piece-index in
    let more : concat (take i c.args.pieces.now) ++ c.deref.result.now ≡ concat (take (i + 1) c.args.pieces.now) =
    ap (λ (l : List ℕ). concat (take i c.args.pieces.now) ++ l) (c.deref.ensures ∙ c.piece-item.is) ∙ sym (concat-take c.args.pieces.now i c.piece-item.result c.loop-piece-test.true) in
    let short : length (concat (take (i + 1) c.args.pieces.now)) ≤ length (concat c.args.pieces.now) = front-short c.args.pieces.now (i + 1) in
    omega (arith, ap (λ (l : List ℕ). length l) more, length-append (concat (take i c.args.pieces.now)) c.deref.result.now, c.loop-piece.invariant.scanned.size, c.in-Some.ensures.within)

pub loop-piece-preserved : goal.loop-piece-preserved
loop-piece-preserved c =
    let i : ℕ = c.loop-piece.piece-index in
    let more : concat (take i c.args.pieces.now) ++ c.deref.result.now ≡ concat (take (i + 1) c.args.pieces.now) =
    ap (λ (l : List ℕ). concat (take i c.args.pieces.now) ++ l) (c.deref.ensures ∙ c.piece-item.is) ∙ sym (concat-take c.args.pieces.now i c.piece-item.result c.loop-piece-test.true) in
    let P : List ℕ → Type 0 = λ l. Scanned c.seek.new.self l in
    record {
      before = c.in_default.ensures.before;
      scanned = subst P more (c.in_default.ensures.scanned (concat (take i c.args.pieces.now)) c.loop-piece.invariant.scanned);
    }

pub returns-clause-within : goal.returns-clause-within
returns-clause-within c =
    let all : take c.loop-piece.piece-index c.args.pieces.now ≡ c.args.pieces.now = take_all c.loop-piece.piece-index c.args.pieces.now (omega arith) in
    let size : c.loop-piece.scan.size ≡ length (concat c.args.pieces.now) = c.loop-piece.invariant.scanned.size ∙ ap (λ (l : List (List ℕ)). length (concat l)) all in
    let P : ℕ → Type 0 = λ n. IfSome c.started.result (λ start. start ≤ n) in
    subst P size c.started.ensures.within
