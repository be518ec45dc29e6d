use Rattle.serde_amqp_ser.proofs.Grown.{keeps_then, keeps_state}
use Rattle.serde_amqp_ser.proofs.serializer.Serializer.begin_variant.Goals as goal

pub returns-in-Err-clause-err : goal.returns-in-Err-clause-err
returns-in-Err-clause-err g c =
    c.take_back.ensures.back c.args.self.now c.begin_compound-opened.ensures.mark (keeps_then _ _ _ c.begin_compound-opened.ensures.kept c.serialize_u32.ensures.kept)

pub returns-in-Err-clause-kept : goal.returns-in-Err-clause-kept
returns-in-Err-clause-kept g c =
    keeps_state _ _ _ _ (c.take_back.ensures.back c.args.self.now c.begin_compound-opened.ensures.mark (keeps_then _ _ _ c.begin_compound-opened.ensures.kept c.serialize_u32.ensures.kept))
