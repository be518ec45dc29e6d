use Rattle.std.proofs.Common.{None, refl, sym}
use Rattle.amqp_endpoint_conversation.proofs.OneSettled.{goes, rests, settled_on_channel}
use Rattle.amqp_endpoint_conversation.proofs.conversation.Conversation.settles_at_once.Goals as goal

pub returns-clause-step : goal.returns-clause-step
returns-clause-step g c =
    settled_on_channel g.R.LinkRelay.gives c.args.self.now c.live_settles.new.self c.in-Some.number
    c.args.disposition.now c.args.channel c.in-Some-live_settles.settled (sym c.in-Some.ensures)
    c.in-Some-live_settles.ensures

pub returns-clause-goes : goal.returns-clause-goes
returns-clause-goes g c =
    goes g.R.LinkRelay.gives c.args.self.now c.live_settles.new.self c.in-Some.number c.args.disposition.now
    c.live_settles.result c.live_settles.ensures

pub returns-clause-rests : goal.returns-clause-rests
returns-clause-rests g c =
    rests g.R.LinkRelay.gives c.args.self.now c.live_settles.new.self c.in-Some.number c.args.disposition.now
    c.live_settles.result c.live_settles.ensures

pub returns-in_default-clause-goes : goal.returns-in_default-clause-goes
returns-in_default-clause-goes g c =
    goes g.R.LinkRelay.gives c.args.self.now c.args.self.now 0 c.args.disposition.now None refl

pub returns-in_default-clause-rests : goal.returns-in_default-clause-rests
returns-in_default-clause-rests g c =
    rests g.R.LinkRelay.gives c.args.self.now c.args.self.now 0 c.args.disposition.now None refl

pub returns-in_default-live_settles-clause-goes : goal.returns-in_default-live_settles-clause-goes
returns-in_default-live_settles-clause-goes g c =
    goes g.R.LinkRelay.gives c.args.self.now c.live_settles.new.self c.in-Some.number c.args.disposition.now
    c.live_settles.result c.live_settles.ensures

pub returns-in_default-live_settles-clause-rests : goal.returns-in_default-live_settles-clause-rests
returns-in_default-live_settles-clause-rests g c =
    rests g.R.LinkRelay.gives c.args.self.now c.live_settles.new.self c.in-Some.number c.args.disposition.now
    c.live_settles.result c.live_settles.ensures
