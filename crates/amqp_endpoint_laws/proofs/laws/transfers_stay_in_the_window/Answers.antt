use Rattle.amqp_endpoint_laws.proofs.PassedKept.{some-passes}
use Rattle.amqp_endpoint_laws.proofs.PassedWindows.{window-kept}
use Rattle.amqp_endpoint_laws.proofs.laws.transfers_stay_in_the_window.Goals as goal

pub returns-clause-kept : goal.returns-clause-kept
returns-clause-kept c = λ sessions end settings deeds number passings new p.
    window-kept sessions end settings deeds number passings new p

pub returns-clause-some : goal.returns-clause-some
returns-clause-some c = λ old new deeds number d. some-passes deeds number old new d
