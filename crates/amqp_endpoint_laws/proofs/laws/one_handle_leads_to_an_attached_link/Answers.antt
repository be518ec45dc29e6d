use Rattle.std.proofs.Common.{◌++◌}
use Rattle.amqp_endpoint_laws.proofs.Runs.{is-done}
use Rattle.amqp_endpoint.specs.Does.{linked}
use Rattle.amqp_endpoint_laws.proofs.LeadingAlone.{leads-alone, leads-on, some-leads}
use Rattle.amqp_endpoint_laws.proofs.laws.one_handle_leads_to_an_attached_link.Goals as goal

pub returns-clause-by_deeds : goal.returns-clause-by_deeds
returns-clause-by_deeds c = λ sessions end settings deeds link session own held m n new done r first other.
    leads-alone sessions end settings deeds link session own held m n new done r first other

pub returns-clause-by_calls : goal.returns-clause-by_calls
returns-clause-by_calls c = λ sessions settings calls told end link session own held m n new run r first other.
    let d = is-done linked sessions settings calls told end run in
    leads-alone sessions end.sessions settings (d.before ++ d.since) link session own held m n new d.are_done r first
    other

pub returns-clause-some : goal.returns-clause-some
returns-clause-some c = λ sessions end settings deeds link session own held new done r.
    some-leads end
    (record { sessions = sessions; settings = settings; deeds = deeds; fresh = new; done = done })
    link session own held r

pub returns-clause-stays : goal.returns-clause-stays
returns-clause-stays c = λ old new deed link session own held later theirs d r q leads.
    leads-on deed old new d link session own held later theirs r q leads
