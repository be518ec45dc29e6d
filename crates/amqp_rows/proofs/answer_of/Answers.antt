use Rattle.amqp_rows.proofs.Done.{answered}
use Rattle.amqp_rows.proofs.answer_of.Goals as goal

pub returns : goal.returns
returns g c = answered g.F.Fn _ _ _ c.answer.ensures
