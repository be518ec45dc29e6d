use Rattle.amqp_endpoint_conversation.proofs.Calls.{changed-goes, changed-rests}
use Rattle.amqp_endpoint_conversation.proofs.laws.a_session_changed_goes_on.Goals as goal

pub returns-clause-goes : goal.returns-clause-goes
returns-clause-goes g c =
    λ limit number old new before after steps frames out stepped history plain sends ends hand reads.
    changed-goes g.R.LinkRelay.gives limit number old new before after steps frames out stepped history plain sends ends
    hand reads

pub returns-clause-rests : goal.returns-clause-rests
returns-clause-rests g c = λ number old new before after out out_new stepped.
    changed-rests number old new before after out out_new stepped
