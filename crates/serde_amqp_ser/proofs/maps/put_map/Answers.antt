use Rattle.std.proofs.Common.{◌≡◌, ◌++◌, ◌∷◌, [], length, sym, ◌∙◌, ap, subst, append_assoc, append-nil, OnOk, Some}
use Rattle.std.proofs.lemmas.List.{length-map}
use Rattle.std.proofs.lemmas.Result.{on_ok_weaker, err_from_is_err_and}
use Rattle.serde_amqp_ser.specs.Puts.{serialized, OnlyWhere, state_of}
use Rattle.serde_amqp_item.specs.Entries.{pair_items, map_item}
use Rattle.serde_amqp_ser.specs.Open.{IsOpen, in_turn}
use Rattle.serde_amqp_ser.proofs.Grown.{keeps_then}
use Rattle.serde_amqp_ser.proofs.Begun.{open_keeps, pair_items_more, pair_items_split}
use Rattle.serde_amqp_item.proofs.Placing.{sorted_stays}
use Rattle.serde_amqp_ser.proofs.maps.put_map.Goals as goal

pub loop-key-init : goal.loop-key-init
loop-key-init g c = ([], cc, c.begin_compound-opened.ensures.open)

pub loop-key-preserved : goal.loop-key-preserved
loop-key-preserved g c =
    let done = c.loop-key.invariant.0 in
    let left = c.next.new.self in
    let all : c.args.pairs.now.entries ≡ done ++ (c.in-Some.key.now, c.in-Some.value.now) ∷ left = c.loop-key.invariant.1 ∙ ap (λ es. done ++ es) c.in-Some.ensures.steps in
    let more = pair_items_more g.K.Serialize.item g.V.Serialize.item done (c.in-Some.key.now, c.in-Some.value.now) in (
      done ++ (c.in-Some.key.now, c.in-Some.value.now) ∷ [],
      all ∙ sym (append_assoc done ((c.in-Some.key.now, c.in-Some.value.now) ∷ []) left),
      rw more (c.in_ok-put_pair.ensures.ok (g.W.Sink.written c.args.s.now.writer) (pair_items g.K.Serialize.item g.V.Serialize.item done) c.loop-key.invariant.2),
    )

pub returns-in_err-put_pair-clause-kept : goal.returns-in_err-put_pair-clause-kept
returns-in_err-put_pair-clause-kept g c =
    keeps_then _ _ _ (open_keeps g.W.Sink.begins (g.W.Sink.written c.args.s.now.writer) _ (state_of g.W.Sink.written c.loop-key.s) c.loop-key.invariant.2) c.in_err-put_pair.ensures.kept

pub returns-in_err-put_pair-clause-refused : goal.returns-in_err-put_pair-clause-refused
returns-in_err-put_pair-clause-refused g c =
    let p = err_from_is_err_and c.from_residual.result c.from_residual.ensures.1 in
    let done = c.loop-key.invariant.0 in
    let left = c.next.new.self in
    let all : c.args.pairs.now.entries ≡ done ++ (c.in-Some.key.now, c.in-Some.value.now) ∷ left = c.loop-key.invariant.1 ∙ ap (λ es. done ++ es) c.in-Some.ensures.steps in
    let split = pair_items_split g.K.Serialize.item g.V.Serialize.item c.args.pairs.now.entries done left (c.in-Some.key.now, c.in-Some.value.now) all in
    let stays = sorted_stays g.K.Ord.cmp g.met.K.Ord.total c.args.pairs.now.entries c.iter-key-items.ensures.ordered in
    subst (λ es. OnlyWhere c.from_residual.result (serialized (state_of g.W.Sink.written c.args.s.now) (map_item g.K.Serialize.item g.V.Serialize.item es))) (sym stays) (
    rw (p.1, p.2, split) (c.in_err-put_pair.ensures.refused (g.W.Sink.written c.args.s.now.writer) (pair_items g.K.Serialize.item g.V.Serialize.item done) (pair_items g.K.Serialize.item g.V.Serialize.item left) (state_of g.W.Sink.written c.args.s.now) c.loop-key.invariant.2)
    )

pub returns-clause-ok : goal.returns-clause-ok
returns-clause-ok g c =
    let done = c.loop-key.invariant.0 in
    let whole : done ≡ c.args.pairs.now.entries = sym (c.loop-key.invariant.1 ∙ (ap (λ es. done ++ es) c.in-None.ensures.steps.0 ∙ append-nil done)) in
    let o = subst (λ es. IsOpen g.W.Sink.begins (g.W.Sink.written c.args.s.now.writer) (in_turn (pair_items g.K.Serialize.item g.V.Serialize.item es)) (state_of g.W.Sink.written c.loop-key.s)) whole c.loop-key.invariant.2 in
    let count : length (pair_items g.K.Serialize.item g.V.Serialize.item c.args.pairs.now.entries) ≡ c.len.result = length-map c.args.pairs.now.entries _ ∙ sym c.len.ensures.len in
    let stays = sorted_stays g.K.Ord.cmp g.met.K.Ord.total c.args.pairs.now.entries c.iter-key-items.ensures.ordered in
    subst (λ es. OnOk c.put_map_head.result (serialized (state_of g.W.Sink.written c.args.s.now) (map_item g.K.Serialize.item g.V.Serialize.item es) ≡ Some (state_of g.W.Sink.written c.put_map_head.new.self))) (sym stays) (on_ok_weaker c.put_map_head.result (λ f. f (state_of g.W.Sink.written c.args.s.now) (pair_items g.K.Serialize.item g.V.Serialize.item c.args.pairs.now.entries) c.begin_compound-opened.ensures.mark o count) c.put_map_head.ensures.ok)

pub returns-clause-kept : goal.returns-clause-kept
returns-clause-kept g c =
    c.put_map_head.ensures.kept (state_of g.W.Sink.written c.args.s.now) _ c.begin_compound-opened.ensures.mark c.loop-key.invariant.2

pub returns-clause-refused : goal.returns-clause-refused
returns-clause-refused g c =
    let done = c.loop-key.invariant.0 in
    let whole : done ≡ c.args.pairs.now.entries = sym (c.loop-key.invariant.1 ∙ (ap (λ es. done ++ es) c.in-None.ensures.steps.0 ∙ append-nil done)) in
    let o = subst (λ es. IsOpen g.W.Sink.begins (g.W.Sink.written c.args.s.now.writer) (in_turn (pair_items g.K.Serialize.item g.V.Serialize.item es)) (state_of g.W.Sink.written c.loop-key.s)) whole c.loop-key.invariant.2 in
    let count : length (pair_items g.K.Serialize.item g.V.Serialize.item c.args.pairs.now.entries) ≡ c.len.result = length-map c.args.pairs.now.entries _ ∙ sym c.len.ensures.len in
    let stays = sorted_stays g.K.Ord.cmp g.met.K.Ord.total c.args.pairs.now.entries c.iter-key-items.ensures.ordered in
    subst (λ es. OnlyWhere c.put_map_head.result (serialized (state_of g.W.Sink.written c.args.s.now) (map_item g.K.Serialize.item g.V.Serialize.item es))) (sym stays) (c.put_map_head.ensures.refused (state_of g.W.Sink.written c.args.s.now) (pair_items g.K.Serialize.item g.V.Serialize.item c.args.pairs.now.entries) c.begin_compound-opened.ensures.mark o count)
