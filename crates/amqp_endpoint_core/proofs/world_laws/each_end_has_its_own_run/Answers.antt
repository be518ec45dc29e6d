use Rattle.amqp_endpoint_core.proofs.EndLaws.{end_run}
use Rattle.amqp_endpoint_core.proofs.world_laws.each_end_has_its_own_run.Goals as goal

pub returns : goal.returns
returns g c = λ end old new steps told run. end_run g.S.SessionRelay.does end old steps told new run
