use Rattle.amqp_rows.proofs.Done.{plain_done, row_done}
use Rattle.amqp_rows.proofs.answer_line.Goals as goal

pub returns-in_ok-text-in-Plain-clause-done : goal.returns-in_ok-text-in-Plain-clause-done
returns-in_ok-text-in-Plain-clause-done g c = plain_done _ _ _ _ _ _ _ _ _ c.in-Plain.is c.in_ok-text-in-Plain.ensures c.as_str.ensures.value c.print.ensures

pub returns-in_ok-text-in-Row-clause-done : goal.returns-in_ok-text-in-Row-clause-done
returns-in_ok-text-in-Row-clause-done g c = row_done _ _ _ _ _ _ _ _ _ _ c.in-Row.is c.in_ok-text-in-Row.ensures c.as_str-in-Row.ensures.value c.judge.ensures
