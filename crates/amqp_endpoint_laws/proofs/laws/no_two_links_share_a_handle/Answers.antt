use Rattle.amqp_endpoint_laws.proofs.HeldKept.{done-agree, one-held, run-agrees}
use Rattle.amqp_endpoint_laws.proofs.laws.no_two_links_share_a_handle.Goals as goal

pub returns-clause-by_deeds : goal.returns-clause-by_deeds
returns-clause-by_deeds c = λ sessions end settings deeds m n session handle new done first second.
    one-held end (done-agree sessions settings new deeds end done) m n session handle first second

pub returns-clause-by_calls : goal.returns-clause-by_calls
returns-clause-by_calls c = λ sessions settings calls told end m n session handle new run first second.
    one-held end.sessions (run-agrees sessions settings new calls told end run) m n session handle first second
