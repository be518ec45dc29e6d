use Rattle.std.proofs.Common.{None, refl, sym}
use Rattle.amqp_endpoint_conversation.proofs.AtOnce.{goes, rests, taken_on_channel}
use Rattle.amqp_endpoint_conversation.proofs.conversation.Conversation.takes_at_once.Goals as goal

pub returns-clause-step : goal.returns-clause-step
returns-clause-step g c =
    taken_on_channel g.R.LinkRelay.gives g.R.LinkRelay.tells g.R.LinkRelay.names c.args.self.now
    c.live_takes.new.self c.in-Some.number c.args.transfer.now c.args.payload.now c.args.message c.args.channel
    c.in-Some-live_takes.taken (sym c.in-Some.ensures) c.in-Some-live_takes.ensures

pub returns-clause-goes : goal.returns-clause-goes
returns-clause-goes g c =
    goes g.R.LinkRelay.gives g.R.LinkRelay.tells g.R.LinkRelay.names c.args.self.now c.live_takes.new.self
    c.in-Some.number c.args.transfer.now c.args.payload.now c.args.message c.live_takes.result c.live_takes.ensures

pub returns-clause-rests : goal.returns-clause-rests
returns-clause-rests g c =
    rests g.R.LinkRelay.gives g.R.LinkRelay.tells g.R.LinkRelay.names c.args.self.now c.live_takes.new.self
    c.in-Some.number c.args.transfer.now c.args.payload.now c.args.message c.live_takes.result c.live_takes.ensures

pub returns-in_default-clause-goes : goal.returns-in_default-clause-goes
returns-in_default-clause-goes g c =
    goes g.R.LinkRelay.gives g.R.LinkRelay.tells g.R.LinkRelay.names c.args.self.now c.args.self.now 0
    c.args.transfer.now c.args.payload.now c.args.message None refl

pub returns-in_default-clause-rests : goal.returns-in_default-clause-rests
returns-in_default-clause-rests g c =
    rests g.R.LinkRelay.gives g.R.LinkRelay.tells g.R.LinkRelay.names c.args.self.now c.args.self.now 0
    c.args.transfer.now c.args.payload.now c.args.message None refl

pub returns-in_default-live_takes-clause-goes : goal.returns-in_default-live_takes-clause-goes
returns-in_default-live_takes-clause-goes g c =
    goes g.R.LinkRelay.gives g.R.LinkRelay.tells g.R.LinkRelay.names c.args.self.now c.live_takes.new.self
    c.in-Some.number c.args.transfer.now c.args.payload.now c.args.message c.live_takes.result c.live_takes.ensures

pub returns-in_default-live_takes-clause-rests : goal.returns-in_default-live_takes-clause-rests
returns-in_default-live_takes-clause-rests g c =
    rests g.R.LinkRelay.gives g.R.LinkRelay.tells g.R.LinkRelay.names c.args.self.now c.live_takes.new.self
    c.in-Some.number c.args.transfer.now c.args.payload.now c.args.message c.live_takes.result c.live_takes.ensures
