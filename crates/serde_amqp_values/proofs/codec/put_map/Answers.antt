use Rattle.std.proofs.Common.{◌≡◌, ◌++◌, ◌∷◌, [], length, sym, ◌∙◌, ap, subst, append_assoc, append-nil}
use Rattle.std.proofs.lemmas.List.{length-map}
use Rattle.std.proofs.lemmas.Result.{on_ok_weaker, err_from_is_err_and}
use Rattle.serde_amqp_ser.specs.Puts.{state_of}
use Rattle.serde_amqp_item.specs.Entries.{pair_items}
use Rattle.serde_amqp_ser.specs.Open.{IsOpen, in_turn}
use Rattle.serde_amqp_ser.proofs.Grown.{keeps_then}
use Rattle.serde_amqp_ser.proofs.Begun.{open_keeps, pair_items_more, pair_items_split}
use Rattle.serde_amqp_values.proofs.Ordered.{is_map}
use Rattle.serde_amqp_values.proofs.codec.put_map.Goals as goal

pub loop-key-preserved : goal.loop-key-preserved
loop-key-preserved g c =
    let done = c.loop-key.invariant.0 in
    let left = c.next.new.self in
    let all : c.args.pairs.now ≡ done ++ (c.in-Some.key.now, c.in-Some.value.now) ∷ left = c.loop-key.invariant.1 ∙ ap (λ ps. done ++ ps) c.in-Some.ensures.steps in
    let more = pair_items_more g.K.Serialize.item g.V.Serialize.item done (c.in-Some.key.now, c.in-Some.value.now) in (
      done ++ (c.in-Some.key.now, c.in-Some.value.now) ∷ [],
      all ∙ sym (append_assoc done ((c.in-Some.key.now, c.in-Some.value.now) ∷ []) left),
      rw more (c.in_ok-serialize_pair.ensures.ok (g.W.Sink.written c.args.s.now.writer) (pair_items g.K.Serialize.item g.V.Serialize.item done) c.loop-key.invariant.2),
    )

pub returns-in_err-serialize_pair-clause-kept : goal.returns-in_err-serialize_pair-clause-kept
returns-in_err-serialize_pair-clause-kept g c =
    keeps_then _ _ _ (open_keeps g.W.Sink.begins (g.W.Sink.written c.args.s.now.writer) _ (state_of g.W.Sink.written c.loop-key.s) c.loop-key.invariant.2) c.in_err-serialize_pair.ensures.kept

pub returns-in_err-serialize_pair-clause-refused : goal.returns-in_err-serialize_pair-clause-refused
returns-in_err-serialize_pair-clause-refused g c =
    let p = err_from_is_err_and c.from_residual.result c.from_residual.ensures.1 in
    let done = c.loop-key.invariant.0 in
    let left = c.next.new.self in
    let all : c.args.pairs.now ≡ done ++ (c.in-Some.key.now, c.in-Some.value.now) ∷ left = c.loop-key.invariant.1 ∙ ap (λ ps. done ++ ps) c.in-Some.ensures.steps in
    let split = pair_items_split g.K.Serialize.item g.V.Serialize.item c.args.pairs.now done left (c.in-Some.key.now, c.in-Some.value.now) all in
    let map = is_map g.K.PartialEq.eq g.met.K.Eq.laws g.K.Serialize.item g.V.Serialize.item c.args.pairs.now c.len-count.ensures.apart in
    rw (p.1, p.2, map, split) (c.in_err-serialize_pair.ensures.refused (g.W.Sink.written c.args.s.now.writer) (pair_items g.K.Serialize.item g.V.Serialize.item done) (pair_items g.K.Serialize.item g.V.Serialize.item left) (state_of g.W.Sink.written c.args.s.now) c.loop-key.invariant.2)

pub returns-clause-ok : goal.returns-clause-ok
returns-clause-ok g c =
    let done = c.loop-key.invariant.0 in
    let whole : done ≡ c.args.pairs.now = sym (c.loop-key.invariant.1 ∙ (ap (λ ps. done ++ ps) c.in-None.ensures.steps.0 ∙ append-nil done)) in
    let o = subst (λ ps. IsOpen g.W.Sink.begins (g.W.Sink.written c.args.s.now.writer) (in_turn (pair_items g.K.Serialize.item g.V.Serialize.item ps)) (state_of g.W.Sink.written c.loop-key.s)) whole c.loop-key.invariant.2 in
    let count : length (pair_items g.K.Serialize.item g.V.Serialize.item c.args.pairs.now) ≡ c.len-count.result = length-map c.args.pairs.now _ ∙ sym c.len-count.ensures.value in
    let map = is_map g.K.PartialEq.eq g.met.K.Eq.laws g.K.Serialize.item g.V.Serialize.item c.args.pairs.now c.len-count.ensures.apart in
    rw map (on_ok_weaker c.end_map.result (λ f. f (state_of g.W.Sink.written c.args.s.now) (pair_items g.K.Serialize.item g.V.Serialize.item c.args.pairs.now) c.begin_compound-opened.ensures.mark o count) c.end_map.ensures.ok)

pub returns-clause-kept : goal.returns-clause-kept
returns-clause-kept g c =
    c.end_map.ensures.kept c.args.s.now _ c.begin_compound-opened.ensures.mark c.loop-key.invariant.2

pub returns-clause-refused : goal.returns-clause-refused
returns-clause-refused g c =
    let done = c.loop-key.invariant.0 in
    let whole : done ≡ c.args.pairs.now = sym (c.loop-key.invariant.1 ∙ (ap (λ ps. done ++ ps) c.in-None.ensures.steps.0 ∙ append-nil done)) in
    let o = subst (λ ps. IsOpen g.W.Sink.begins (g.W.Sink.written c.args.s.now.writer) (in_turn (pair_items g.K.Serialize.item g.V.Serialize.item ps)) (state_of g.W.Sink.written c.loop-key.s)) whole c.loop-key.invariant.2 in
    let count : length (pair_items g.K.Serialize.item g.V.Serialize.item c.args.pairs.now) ≡ c.len-count.result = length-map c.args.pairs.now _ ∙ sym c.len-count.ensures.value in
    let map = is_map g.K.PartialEq.eq g.met.K.Eq.laws g.K.Serialize.item g.V.Serialize.item c.args.pairs.now c.len-count.ensures.apart in
    rw map (c.end_map.ensures.refused (state_of g.W.Sink.written c.args.s.now) (pair_items g.K.Serialize.item g.V.Serialize.item c.args.pairs.now) c.begin_compound-opened.ensures.mark o count)
