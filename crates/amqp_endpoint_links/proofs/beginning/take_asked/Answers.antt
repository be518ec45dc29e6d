use Rattle.amqp_endpoint_links.proofs.Beginnings.{on-ok}
use Rattle.amqp_endpoint_links.proofs.beginning.take_asked.Goals as goal

pub returns-clause-step : goal.returns-clause-step
returns-clause-step g c =
    on-ok c.take_flow.result (λ told. record { mid = c.take_begin.new.session; begun = c.in_ok-take_begin.ensures.step; told = told }) c.take_flow.ensures
