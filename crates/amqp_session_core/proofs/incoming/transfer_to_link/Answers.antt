use Rattle.std.proofs.Common.{rules, sym, ◌∙◌}
use Rattle.amqp_session_core.proofs.Taking.{unreached}
use Rattle.amqp_session_core.proofs.incoming.transfer_to_link.Goals as goal

pub returns-in-None-clause-step : goal.returns-in-None-clause-step
returns-in-None-clause-step g c = unreached g.R.LinkRelay.gives.transfers c.args.links.now.slots c.args.place c.in_ok-handle.handle c.args.transfer c.args.payload c.in_ok-handle.was (sym c.get_mut.follows ∙ search rules)
