use Rattle.serde_amqp_ser.specs.Puts.{state_of}
use Rattle.serde_amqp_ser.proofs.variant_serializer.VariantSerializer.end.Goals as goal

pub returns-clause-err : goal.returns-clause-err
returns-clause-err g c = λ s index xs h.
    c.take_back.ensures.back s h.mark (c.close_variant.ensures.kept (state_of g.W.Sink.written s) index xs h)
