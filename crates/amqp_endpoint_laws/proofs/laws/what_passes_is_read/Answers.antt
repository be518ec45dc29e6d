use Rattle.amqp_endpoint_laws.specs.Reading.{nothing_read}
use Rattle.amqp_endpoint_laws.specs.Seen.{wired_by}
use Rattle.amqp_endpoint_laws.proofs.Judged.{ones-read, passes-read}
use Rattle.amqp_endpoint_laws.proofs.Paired.{ones-answer}
use Rattle.amqp_endpoint_laws.proofs.laws.what_passes_is_read.Goals as goal

pub returns-clause-passes : goal.returns-clause-passes
returns-clause-passes c = λ sessions start end settings before later number passings new done t none p.
    passes-read sessions start settings before later new done t none end number passings p

pub returns-clause-each : goal.returns-clause-each
returns-clause-each c = λ sessions start end settings before later new done d t none.
    ones-read sessions start settings before later new done t none end d

pub returns-clause-answers : goal.returns-clause-answers
returns-clause-answers c = λ sessions start end settings before later new done d t none.
    ones-answer (wired_by later) nothing_read (ones-read sessions start settings before later new done t none end d)
