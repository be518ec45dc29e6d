use Rattle.amqp_rows.proofs.Done.{text_done, no_text_done}
use Rattle.amqp_rows.proofs.answer_text.Goals as goal

pub returns-in-Ok-clause-done : goal.returns-in-Ok-clause-done
returns-in-Ok-clause-done g c = text_done _ _ _ _ _ _ _ _ c.in-Ok.ensures.cases.1 c.in-Ok.ensures.cases.0 c.parse.ensures c.answer_line.ensures.done

pub returns-in-Err-clause-done : goal.returns-in-Err-clause-done
returns-in-Err-clause-done g c = no_text_done _ _ _ _ _ _ c.in-Err.ensures.cases.0 c.print.ensures
