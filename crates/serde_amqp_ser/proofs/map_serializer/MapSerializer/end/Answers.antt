use Rattle.std.proofs.lemmas.Result.{on_err_weaker}
use Rattle.serde_amqp_ser.specs.Puts.{state_of}
use Rattle.serde_amqp_ser.specs.Content.{turns}
use Rattle.serde_amqp_ser.proofs.Held.{holds_keeps}
use Rattle.serde_amqp_ser.proofs.map_serializer.MapSerializer.end.Goals as goal

pub returns-then-keyed-clause-err : goal.returns-then-keyed-clause-err
returns-then-keyed-clause-err g c = λ s ps key h.
    c.take_back.ensures.back s h.items.mark (holds_keeps g.W.Sink.begins (state_of g.W.Sink.written s) (turns ps key) _ _ h.items)

pub returns-clause-err : goal.returns-clause-err
returns-clause-err g c =
    on_err_weaker c.finish_map.result (λ f s ps key h. f s (turns ps key) h.items) c.finish_map.ensures.err
