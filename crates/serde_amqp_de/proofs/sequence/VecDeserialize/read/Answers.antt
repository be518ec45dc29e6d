use Rattle.serde_amqp_de.proofs.Heads.{carried, no_head_refuses}
use Rattle.serde_amqp_de.proofs.Sequences.{array_sequence, no_array8_sequence, no_array32_sequence, list_sequence, no_list_sequence}
use Rattle.serde_amqp_de.proofs.sequence.VecDeserialize.read.Goals as goal

pub returns-in_err-peek-clause-refused : goal.returns-in_err-peek-clause-refused
returns-in_err-peek-clause-refused g c = carried g.R.Read.faulty _ c.in_err-peek.field-0.0 _ _ c.from_residual.ensures.1 (no_head_refuses _ _ _) c.in_err-peek.ensures.refused

pub returns-in_err-read_array-in-Array8-clause-refused :
    goal.returns-in_err-read_array-in-Array8-clause-refused
returns-in_err-read_array-in-Array8-clause-refused g c = carried g.R.Read.faulty _ c.in_err-read_array-in-Array8.field-0.0 _ _ c.from_residual-in_err-read_array-in-Array8.ensures.1 (no_array8_sequence g.T.Deserialize.take _ _ _ (rw c.in-Array8.is at c.in_ok-peek.ensures.ok) c.in_ok-peek.ensures.same) (rw c.in_ok-peek.ensures.element at c.in_err-read_array-in-Array8.ensures.refused)

pub returns-in_ok-read_array-in-Array8-clause-ok : goal.returns-in_ok-read_array-in-Array8-clause-ok
returns-in_ok-read_array-in-Array8-clause-ok g c = array_sequence g.T.Deserialize.take _ _ _ _ _ c.in_ok-peek.ensures.same (rw c.in_ok-peek.ensures.element at c.in_ok-read_array-in-Array8.ensures.ok)

pub returns-in_err-read_array-in-Array32-clause-refused :
    goal.returns-in_err-read_array-in-Array32-clause-refused
returns-in_err-read_array-in-Array32-clause-refused g c = carried g.R.Read.faulty _ c.in_err-read_array-in-Array32.field-0.0 _ _ c.from_residual-in_err-read_array-in-Array32.ensures.1 (no_array32_sequence g.T.Deserialize.take _ _ _ (rw c.in-Array32.is at c.in_ok-peek.ensures.ok) c.in_ok-peek.ensures.same) (rw c.in_ok-peek.ensures.element at c.in_err-read_array-in-Array32.ensures.refused)

pub returns-in_ok-read_array-in-Array32-clause-ok :
    goal.returns-in_ok-read_array-in-Array32-clause-ok
returns-in_ok-read_array-in-Array32-clause-ok g c = array_sequence g.T.Deserialize.take _ _ _ _ _ c.in_ok-peek.ensures.same (rw c.in_ok-peek.ensures.element at c.in_ok-read_array-in-Array32.ensures.ok)

pub returns-in_err-read_list-in_default-clause-refused :
    goal.returns-in_err-read_list-in_default-clause-refused
returns-in_err-read_list-in_default-clause-refused g c = carried g.R.Read.faulty _ c.in_err-read_list-in_default.field-0.0 _ _ c.from_residual-in_err-read_list-in_default.ensures.1 (no_list_sequence g.T.Deserialize.take _ _ _ _ c.in_ok-peek.ensures.ok c.in_default.not-Array8 c.in_default.not-Array32 c.in_ok-peek.ensures.same) (rw c.in_ok-peek.ensures.element at c.in_err-read_list-in_default.ensures.refused)

pub returns-in_ok-read_list-in_default-clause-ok : goal.returns-in_ok-read_list-in_default-clause-ok
returns-in_ok-read_list-in_default-clause-ok g c = list_sequence g.T.Deserialize.take _ _ _ _ _ c.in_ok-peek.ensures.same (rw c.in_ok-peek.ensures.element at c.in_ok-read_list-in_default.ensures.ok)
