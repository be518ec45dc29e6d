use Rattle.std.proofs.Common.{sym, ◌∙◌, ℕ, Err}
use Rattle.std.proofs.lemmas.Result.{err_from_is_err_and}
use Rattle.serde_amqp_item.specs.Item.{items_of}
use Rattle.serde_amqp_item.specs.Record.{trimmed}
use Rattle.serde_amqp_ser.specs.Puts.{state_of}
use Rattle.serde_amqp_ser.proofs.Listed.{only_where}
use Rattle.serde_amqp_ser.proofs.Fronts.{listed_others_stuck}
use Rattle.serde_amqp_ser.proofs.record.Tuple2Fields.put.Goals as goal

pub returns-in_err-others-clause-refused : goal.returns-in_err-others-clause-refused
returns-in_err-others-clause-refused g c =
    let p = err_from_is_err_and c.from_residual-in_err-others.result c.from_residual-in_err-others.ensures.1 in
    let some = sym c.is_null.ensures ∙ c.if-is_null.false in
    let stuck = listed_others_stuck (g.H.Serialize.item c.args.self.now.0) (items_of (trimmed (g.T.Fields.items c.args.self.now.1))) (state_of g.W.Sink.written c.args.s.now) (state_of g.W.Sink.written c.serialize.new.s) c.requires c.in_ok-serialize.ensures.ok in
    rw (p.1, p.2, some) (only_where {X = ℕ} (Err c.in_err-others.field-0.0) _ _ stuck c.in_err-others.ensures.refused)
