use Rattle.amqp_link_unsettled.proofs.Places.{past-neither, past-one-way, past-onward}
use Rattle.amqp_link_unsettled.proofs.laws.places_are_ordered.Goals as goal

pub returns-clause-same : goal.returns-clause-same
returns-clause-same c = past-neither c.args.first c.args.second c.args.third

pub returns-clause-one_way : goal.returns-clause-one_way
returns-clause-one_way c = past-one-way c.args.first c.args.second c.args.third

pub returns-clause-onward : goal.returns-clause-onward
returns-clause-onward c = past-onward c.args.first c.args.second c.args.third
