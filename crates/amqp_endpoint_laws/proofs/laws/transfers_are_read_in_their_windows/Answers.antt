use Rattle.amqp_endpoint_laws.proofs.Judged.{run-judged, windows-read}
use Rattle.amqp_endpoint_laws.proofs.laws.transfers_are_read_in_their_windows.Goals as goal

pub returns-clause-by_deeds : goal.returns-clause-by_deeds
returns-clause-by_deeds c = λ sessions start end settings before later number new done d t none.
    windows-read sessions start settings before later new done t none end number d

pub returns-clause-by_calls : goal.returns-clause-by_calls
returns-clause-by_calls c = λ sessions settings calls told end new run up.
    run-judged sessions settings calls told end new run up
