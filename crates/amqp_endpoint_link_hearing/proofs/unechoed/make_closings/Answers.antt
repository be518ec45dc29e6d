use Rattle.std.proofs.Common.{All, Bool, ap, subst, sym}
use Rattle.std.specs.Prelude.{IfOk}
use Rattle.std.proofs.lemmas.List.Elements.{All-nil}
use Rattle.amqp_endpoint_link_hearing.specs.Unechoed.{AreFor, IsMade, handles_in}
use Rattle.amqp_endpoint_link_hearing.proofs.unechoed.make_closings.Goals as goal

pub returns-then-fits-clause-handles : goal.returns-then-fits-clause-handles
returns-then-fits-clause-handles c =
    subst (λ (b : Bool). AreFor b c.args.reached.now (handles_in c.new.result.items)) (sym c.if-fits.true)
    (ap handles_in c.new.ensures.items)

pub returns-then-fits-clause-made : goal.returns-then-fits-clause-made
returns-then-fits-clause-made c =
    subst (All (IsMade c.args.session.now)) (sym c.new.ensures.items) (All-nil (IsMade c.args.session.now))

pub returns-clause-handles : goal.returns-clause-handles
returns-clause-handles c =
    subst
    (λ (b : Bool). IfOk c.make_each.result (λ closings. AreFor b c.args.reached.now (handles_in closings.items)))
    (sym c.if-fits.false) c.make_each.ensures.handles
