use Rattle.serde_amqp_ser.proofs.Grown.{keeps_then, keeps_once}
use Rattle.serde_amqp_ser.proofs.serializer.Serializer.put_descriptor.Goals as goal

pub returns-in-False-clause-kept : goal.returns-in-False-clause-kept
returns-in-False-clause-kept g c =
    rw (← c.self.view_is) (keeps_then _ _ _ (keeps_once _ _ _ c.in_ok-put.ensures.ok) c.serialize_u64.ensures.kept)
