use Rattle.serde_amqp_ser.proofs.Grown.{keeps_once, keeps_then}
use Rattle.serde_amqp_types.proofs.described.put_described.Goals as goal

pub returns-in_err-serialize-clause-kept : goal.returns-in_err-serialize-clause-kept
returns-in_err-serialize-clause-kept g c = keeps_then _ _ _ (keeps_once _ _ _ c.in_ok-put.ensures.ok) c.serialize.ensures.kept

pub returns-in-False-clause-kept : goal.returns-in-False-clause-kept
returns-in-False-clause-kept g c = keeps_then _ _ _ (keeps_then _ _ _ (keeps_once _ _ _ c.in_ok-put.ensures.ok) c.serialize.ensures.kept) c.serialize-in-False.ensures.kept
