use Rattle.std.proofs.Common.{◌∙◌}
use Rattle.serde_amqp_ser.specs.Puts.{state_of}
use Rattle.serde_amqp_ser.proofs.struct_serializer.StructSerializer.end.Goals as goal

pub returns-in_default-clause-ok : goal.returns-in_default-clause-ok
returns-in_default-clause-ok g c = λ s code fields h. c.in_default.ensures.ok s code fields c.args.self.outer h

pub returns-clause-err : goal.returns-clause-err
returns-clause-err g c = λ s code fields h.
    c.take_back.ensures.back s h.mark (c.close_struct.ensures.kept (state_of g.W.Sink.written s) code fields c.args.self.outer h)

pub returns-clause-refused : goal.returns-clause-refused
returns-clause-refused g c = λ s code fields h n.
    c.in-Err.ensures.refused s code fields c.args.self.outer h (λ e. n (c.take_back.ensures.error ∙ e))
