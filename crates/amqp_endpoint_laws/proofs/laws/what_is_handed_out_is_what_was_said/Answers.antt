use Rattle.amqp_endpoint_laws.proofs.HandedRuns.{handed-so}
use Rattle.amqp_endpoint_laws.proofs.LeadingAlone.{reach-alone}
use Rattle.amqp_endpoint_laws.proofs.laws.what_is_handed_out_is_what_was_said.Goals as goal

pub returns-clause-as_said : goal.returns-clause-as_said
returns-clause-as_said c = λ sessions start end settings before since link session own held pieces new done r reach
    none.
    handed-so c.links_given_back_go_on.ensures.back c.links_given_back_go_on.ensures.left
    c.links_given_back_go_on.ensures.finished sessions start end settings before since link session own held pieces new
    done r reach none

pub returns-clause-on_a_handle : goal.returns-clause-on_a_handle
returns-clause-on_a_handle c = λ sessions start end settings before since link session own held theirs passings new done
    r p.
    reach-alone sessions start end settings before since link session own held theirs passings new done r p
