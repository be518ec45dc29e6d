use Rattle.std.proofs.Common.{Option, refl, subst}
use Rattle.amqp_session_core.specs.Batch.{Transfers}
use Rattle.amqp_endpoint_messages.specs.MadeReady.{IsPlanned}
use Rattle.amqp_endpoint_messages.proofs.Planned.{none-left, none-more, none-yet, one-more}
use Rattle.amqp_endpoint_messages.proofs.giving_up.make_giving_up.Goals as goal

pub loop-abort-init : goal.loop-abort-init
loop-abort-init c =
    record {
      these =
          none-yet c.args.limit c.args.handle c.args.aborts.now c.new-batches.result.items c.new-batches.ensures.items;
      whether = refl;
    }

pub loop-abort-preserved : goal.loop-abort-preserved
loop-abort-preserved c =
    let more =
    one-more c.args.limit c.args.handle c.args.aborts.now c.loop-abort.rest.now c.in-Some.others.now
    c.in-Some.abort.now c.loop-abort.batches.items c.push_back.new.self.items c.in-Some-planned.batch
    c.in-Some.ensures.cases.0
    (subst (λ (o : Option Transfers). IsPlanned c.args.limit c.args.handle c.in-Some.abort.now o) c.in-Some-planned.is
    c.in_ok-planned.ensures)
    c.in_ok-push_back.ensures.items c.loop-abort.invariant.these c.loop-abort.invariant.whether in
    record { these = more.0; whether = more.1 }

pub returns-in_default-planned : goal.returns-in_default-planned
returns-in_default-planned c =
    none-more c.args.limit c.args.handle c.args.aborts.now c.loop-abort.rest.now c.in-Some.others.now
    c.in-Some.abort.now c.loop-abort.batches.items c.ranges.limit.fits c.in-Some.ensures.cases.0
    (subst (λ (o : Option Transfers). IsPlanned c.args.limit c.args.handle c.in-Some.abort.now o)
    c.in_default-planned.is c.in_ok-planned.ensures)
    c.loop-abort.invariant.these c.loop-abort.invariant.whether

pub returns : goal.returns
returns c =
    none-left c.args.limit c.args.handle c.args.aborts.now c.loop-abort.rest.now c.loop-abort.batches.items
    c.ranges.limit.fits c.in_default.ensures.cases c.loop-abort.invariant.these c.loop-abort.invariant.whether
