use Rattle.amqp_endpoint_model.proofs.JudgeLaws.{judge_limit-one, judge_limit-some}
use Rattle.amqp_endpoint_model.proofs.laws.judge_says_one_limit.Goals as goal

pub returns-clause-one : goal.returns-clause-one
returns-clause-one c = judge_limit-one

pub returns-clause-some : goal.returns-clause-some
returns-clause-some c = judge_limit-some
