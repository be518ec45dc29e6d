use Rattle.amqp_endpoint_laws.proofs.HeldKept.{done-agree, run-agrees}
use Rattle.amqp_endpoint_laws.proofs.laws.links_of_sessions_are_held.Goals as goal

pub returns-clause-by_deeds : goal.returns-clause-by_deeds
returns-clause-by_deeds c = λ sessions end settings deeds link session handle new done stands.
    (done-agree sessions settings new deeds end done).stands link session handle stands

pub returns-clause-by_calls : goal.returns-clause-by_calls
returns-clause-by_calls c = λ sessions settings calls told end link session handle new run stands.
    (run-agrees sessions settings new calls told end run).stands link session handle stands
