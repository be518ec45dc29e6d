use Rattle.amqp_endpoint_laws.proofs.HeldKept.{done-agree, held-number, run-agrees}
use Rattle.amqp_endpoint_laws.proofs.laws.held_links_stand_in_their_sessions.Goals as goal

pub returns-clause-by_deeds : goal.returns-clause-by_deeds
returns-clause-by_deeds c = λ sessions end settings deeds link session handle new done held.
    held-number end (done-agree sessions settings new deeds end done) link session handle held

pub returns-clause-by_calls : goal.returns-clause-by_calls
returns-clause-by_calls c = λ sessions settings calls told end link session handle new run held.
    held-number end.sessions (run-agrees sessions settings new calls told end run) link session handle held
