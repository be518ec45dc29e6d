use Rattle.serde_amqp_ser.specs.Puts.{state_of}
use Rattle.serde_amqp_ser.proofs.Grown.{keeps_state}
use Rattle.serde_amqp_ser.proofs.serializer.Serializer.end_list.Goals as goal

pub returns-in-Ok-clause-kept : goal.returns-in-Ok-clause-kept
returns-in-Ok-clause-kept g c = λ s xs m o. c.put_list_head.ensures.kept (state_of g.W.Sink.written s) xs m o

pub returns-in-Err-clause-err : goal.returns-in-Err-clause-err
returns-in-Err-clause-err g c = λ s xs m o.
    c.take_back.ensures.back s m (c.put_list_head.ensures.kept (state_of g.W.Sink.written s) xs m o)

pub returns-in-Err-clause-kept : goal.returns-in-Err-clause-kept
returns-in-Err-clause-kept g c = λ s xs m o.
    keeps_state _ _ _ _ (c.take_back.ensures.back s m (c.put_list_head.ensures.kept (state_of g.W.Sink.written s) xs m o))
