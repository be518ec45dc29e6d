use Rattle.amqp_endpoint_laws.proofs.LifeRuns.{handed-all, handed-called, reach-all}
use Rattle.amqp_endpoint_laws.proofs.laws.all_that_is_handed_out.Goals as goal

pub returns-clause-says : goal.returns-clause-says
returns-clause-says c = λ sessions end settings deeds link session own pieces new never reach none.
    handed-all c.links_given_back_go_on.ensures.back c.links_given_back_go_on.ensures.left
    c.links_given_back_go_on.ensures.finished sessions settings link new end deeds session own pieces never reach none

pub returns-clause-some : goal.returns-clause-some
returns-clause-some c = λ sessions end settings deeds link new never done.
    reach-all c.links_given_back_go_on.ensures.back c.links_given_back_go_on.ensures.left
    c.links_given_back_go_on.ensures.finished sessions settings link new end deeds never done

pub returns-clause-by_calls : goal.returns-clause-by_calls
returns-clause-by_calls c = λ sessions settings calls told end link new run never.
    handed-called c.links_given_back_go_on.ensures.back c.links_given_back_go_on.ensures.left
    c.links_given_back_go_on.ensures.finished sessions settings link new calls told end run never
