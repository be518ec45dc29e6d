use Rattle.amqp_endpoint_fitting.proofs.Asked.{heard-gives, heard-waits}
use Rattle.amqp_endpoint_fitting.proofs.Due.{due}
use Rattle.amqp_endpoint_fitting.proofs.laws.what_is_heard_keeps_fitting.Goals as goal

pub returns-clause-waits : goal.returns-clause-waits
returns-clause-waits g c = λ limit old new out out_new said told hears replies waits.
    let kept =
    heard-waits g.R.LinkRelay.gives (((old.session).fields).channel).0 limit replies old new out out_new said told hears
    in
    (kept.0, record { each = kept.1 waits.each })

pub returns-clause-leaves : goal.returns-clause-leaves
returns-clause-leaves g c = λ limit old new out out_new frames said told hears replies waits least is read.
    heard-gives g.R.LinkRelay.gives limit replies said told old new out out_new frames least hears waits.each is read

pub returns-clause-due : goal.returns-clause-due
returns-clause-due g c = λ limit old new out out_new said told flow hears least is read.
    due g.R.LinkRelay.gives limit old new out out_new said told flow least hears is read
