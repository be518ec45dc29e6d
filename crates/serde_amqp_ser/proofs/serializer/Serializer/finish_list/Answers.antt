use Rattle.serde_amqp_ser.specs.Puts.{state_of}
use Rattle.serde_amqp_ser.proofs.serializer.Serializer.finish_list.Goals as goal

pub returns-in-Err-clause-err : goal.returns-in-Err-clause-err
returns-in-Err-clause-err g c = λ s xs h.
    c.take_back.ensures.back s h.mark (c.close_list_content.ensures.kept (state_of g.W.Sink.written s) xs h)
