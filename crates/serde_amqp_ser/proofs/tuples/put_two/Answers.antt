use Rattle.std.proofs.Common.{[], ◌∷◌, Err, refl}
use Rattle.std.proofs.lemmas.Result.{on_ok_weaker, err_from_is_err_and}
use Rattle.serde_amqp_ser.specs.Puts.{state_of}
use Rattle.serde_amqp_ser.proofs.Grown.{keeps_then}
use Rattle.serde_amqp_ser.proofs.Listed.{only_where}
use Rattle.serde_amqp_ser.proofs.Begun.{open_more, open_keeps, item_stuck}
use Rattle.serde_amqp_ser.proofs.tuples.put_two.Goals as goal

pub returns-in_err-serialize-clause-kept : goal.returns-in_err-serialize-clause-kept
returns-in_err-serialize-clause-kept g c =
    let o0 = c.begin_compound-opened.ensures.open in
    keeps_then _ _ _ (open_keeps g.W.Sink.begins (g.W.Sink.written c.args.s.now.writer) [] (state_of g.W.Sink.written c.begin_compound-opened.new.self) o0) c.in_err-serialize.ensures.kept

pub returns-in_err-serialize-clause-refused : goal.returns-in_err-serialize-clause-refused
returns-in_err-serialize-clause-refused g c =
    let o0 = c.begin_compound-opened.ensures.open in
    let p = err_from_is_err_and c.from_residual.result c.from_residual.ensures.1 in
    let stuck = item_stuck g.W.Sink.begins (g.W.Sink.written c.args.s.now.writer) [] ((g.B.Serialize.item c.args.parts.now.1) ∷ []) (g.A.Serialize.item c.args.parts.now.0) (state_of g.W.Sink.written c.begin_compound-opened.new.self) (state_of g.W.Sink.written c.args.s.now) o0 in
    rw (p.1, p.2) (only_where {X = Unit {0}} (Err c.in_err-serialize.field-0.0) _ _ stuck c.in_err-serialize.ensures.refused)

pub returns-in_err-serialize-2-clause-kept : goal.returns-in_err-serialize-2-clause-kept
returns-in_err-serialize-2-clause-kept g c =
    let o0 = c.begin_compound-opened.ensures.open in
    let o1 = open_more g.W.Sink.begins (g.W.Sink.written c.args.s.now.writer) [] (g.A.Serialize.item c.args.parts.now.0) (state_of g.W.Sink.written c.begin_compound-opened.new.self) (state_of g.W.Sink.written c.serialize.new.s) o0 c.in_ok-serialize.ensures.ok in
    keeps_then _ _ _ (open_keeps g.W.Sink.begins (g.W.Sink.written c.args.s.now.writer) ((g.A.Serialize.item c.args.parts.now.0) ∷ []) (state_of g.W.Sink.written c.serialize.new.s) o1) c.in_err-serialize-2.ensures.kept

pub returns-in_err-serialize-2-clause-refused : goal.returns-in_err-serialize-2-clause-refused
returns-in_err-serialize-2-clause-refused g c =
    let o0 = c.begin_compound-opened.ensures.open in
    let o1 = open_more g.W.Sink.begins (g.W.Sink.written c.args.s.now.writer) [] (g.A.Serialize.item c.args.parts.now.0) (state_of g.W.Sink.written c.begin_compound-opened.new.self) (state_of g.W.Sink.written c.serialize.new.s) o0 c.in_ok-serialize.ensures.ok in
    let p = err_from_is_err_and c.from_residual-in_err-serialize-2.result c.from_residual-in_err-serialize-2.ensures.1 in
    let stuck = item_stuck g.W.Sink.begins (g.W.Sink.written c.args.s.now.writer) ((g.A.Serialize.item c.args.parts.now.0) ∷ []) [] (g.B.Serialize.item c.args.parts.now.1) (state_of g.W.Sink.written c.serialize.new.s) (state_of g.W.Sink.written c.args.s.now) o1 in
    rw (p.1, p.2) (only_where {X = Unit {0}} (Err c.in_err-serialize-2.field-0.0) _ _ stuck c.in_err-serialize-2.ensures.refused)

pub returns-clause-ok : goal.returns-clause-ok
returns-clause-ok g c =
    let o0 = c.begin_compound-opened.ensures.open in
    let o1 = open_more g.W.Sink.begins (g.W.Sink.written c.args.s.now.writer) [] (g.A.Serialize.item c.args.parts.now.0) (state_of g.W.Sink.written c.begin_compound-opened.new.self) (state_of g.W.Sink.written c.serialize.new.s) o0 c.in_ok-serialize.ensures.ok in
    let o2 = open_more g.W.Sink.begins (g.W.Sink.written c.args.s.now.writer) ((g.A.Serialize.item c.args.parts.now.0) ∷ []) (g.B.Serialize.item c.args.parts.now.1) (state_of g.W.Sink.written c.serialize.new.s) (state_of g.W.Sink.written c.serialize-2.new.s) o1 c.in_ok-serialize-2.ensures.ok in
    on_ok_weaker c.put_list_head.result (λ f. f (state_of g.W.Sink.written c.args.s.now) ((g.A.Serialize.item c.args.parts.now.0) ∷ (g.B.Serialize.item c.args.parts.now.1) ∷ []) c.begin_compound-opened.ensures.mark o2 refl) c.put_list_head.ensures.ok

pub returns-clause-kept : goal.returns-clause-kept
returns-clause-kept g c =
    let o0 = c.begin_compound-opened.ensures.open in
    let o1 = open_more g.W.Sink.begins (g.W.Sink.written c.args.s.now.writer) [] (g.A.Serialize.item c.args.parts.now.0) (state_of g.W.Sink.written c.begin_compound-opened.new.self) (state_of g.W.Sink.written c.serialize.new.s) o0 c.in_ok-serialize.ensures.ok in
    let o2 = open_more g.W.Sink.begins (g.W.Sink.written c.args.s.now.writer) ((g.A.Serialize.item c.args.parts.now.0) ∷ []) (g.B.Serialize.item c.args.parts.now.1) (state_of g.W.Sink.written c.serialize.new.s) (state_of g.W.Sink.written c.serialize-2.new.s) o1 c.in_ok-serialize-2.ensures.ok in
    c.put_list_head.ensures.kept (state_of g.W.Sink.written c.args.s.now) ((g.A.Serialize.item c.args.parts.now.0) ∷ (g.B.Serialize.item c.args.parts.now.1) ∷ []) c.begin_compound-opened.ensures.mark o2

pub returns-clause-refused : goal.returns-clause-refused
returns-clause-refused g c =
    let o0 = c.begin_compound-opened.ensures.open in
    let o1 = open_more g.W.Sink.begins (g.W.Sink.written c.args.s.now.writer) [] (g.A.Serialize.item c.args.parts.now.0) (state_of g.W.Sink.written c.begin_compound-opened.new.self) (state_of g.W.Sink.written c.serialize.new.s) o0 c.in_ok-serialize.ensures.ok in
    let o2 = open_more g.W.Sink.begins (g.W.Sink.written c.args.s.now.writer) ((g.A.Serialize.item c.args.parts.now.0) ∷ []) (g.B.Serialize.item c.args.parts.now.1) (state_of g.W.Sink.written c.serialize.new.s) (state_of g.W.Sink.written c.serialize-2.new.s) o1 c.in_ok-serialize-2.ensures.ok in
    c.put_list_head.ensures.refused (state_of g.W.Sink.written c.args.s.now) ((g.A.Serialize.item c.args.parts.now.0) ∷ (g.B.Serialize.item c.args.parts.now.1) ∷ []) c.begin_compound-opened.ensures.mark o2 refl
