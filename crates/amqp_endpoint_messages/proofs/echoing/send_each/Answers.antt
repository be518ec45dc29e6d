use Rattle.std.proofs.Common.{◌≡◌, IsSome, arith, sym, ap, subst, ◌∙◌, true}
use Rattle.std.specs.Prelude.{Option}
use Rattle.std.proofs.lemmas.List.{at_drop_more}
use Rattle.amqp_session_core.proofs.Copying.{copies-before, copies-left, copy-used}
use Rattle.amqp_session_states.specs.declared.delivery_state.DeliveryState.{DeliveryState}
use Rattle.amqp_endpoint_messages.specs.Echoing.{each_fits}
use Rattle.amqp_endpoint_messages.proofs.Goings.{barred-next, frames-next, sends-next}
use Rattle.amqp_endpoint_messages.proofs.echoing.send_each.Goals as goal

pub send_or_bar-requires-clause-fit : goal.send_or_bar-requires-clause-fit
send_or_bar-requires-clause-fit g c fit =
    let state = c.args._state.now in
    let old = c.loop-run.copies.items in
    let left = c.pop.new.self.items in
    let some : IsSome c.pop.result =
    c.pop.ensures.variant.1
    (omega (arith, c.loop-run.copies.ok.0, c.loop-run.invariant.enough, c.loop-run-test.true)) in
    subst (λ (s : Option DeliveryState). each_fits c.args.limit s ≡ true)
    (sym
    (copy-used state old left c.pop.result c.pop.ensures.items c.loop-run.invariant.each c.flatten-state.result some
    c.flatten-state.ensures))
    (c.requires.fit fit)

pub send_or_bar-requires-clause-room : goal.send_or_bar-requires-clause-room
send_or_bar-requires-clause-room g c wide =
    omega (arith, c.loop-run.invariant.room wide, c.loop-run-test.true)

pub loop-run-preserved : goal.loop-run-preserved
loop-run-preserved g c =
    let state = c.args._state.now in
    let runs = c.args.runs.now in
    let i = c.loop-run.run-index in
    let old = c.loop-run.copies.items in
    let left = c.pop.new.self.items in
    let used = c.flatten-state.result in
    let some : IsSome c.pop.result =
    c.pop.ensures.variant.1
    (omega (arith, c.loop-run.copies.ok.0, c.loop-run.invariant.enough, c.loop-run-test.true)) in
    let same : used ≡ state =
    copy-used state old left c.pop.result c.pop.ensures.items c.loop-run.invariant.each used some
    c.flatten-state.ensures in
    let next = at_drop_more (λ l. l) runs i (0, 0) c.loop-run-test.true in
    record {
      sent = λ new later.
          c.loop-run.invariant.sent new
          (sends-next c.args.limit state used same _ _ _ next g.R.LinkRelay.gives c.loop-run.session
          c.send_or_bar.new.session new c.send_or_bar.ensures.sent later);
      fields = c.send_or_bar.ensures.fields ∙ c.loop-run.invariant.fields;
      added =
          frames-next c.args.limit state used same _ _ _ next c.args.session.now.fields c.loop-run.session.fields
          c.loop-run.out.items c.send_or_bar.new.out.items _ c.send_or_bar.ensures.added c.loop-run.invariant.fields
          c.loop-run.invariant.added;
      barred =
          barred-next c.args.limit state used same _ _ _ next c.loop-run.bars.items c.send_or_bar.new.bars.items _
          c.send_or_bar.ensures.barred c.loop-run.invariant.barred;
      none = λ fit. c.send_or_bar.ensures.none fit ∙ c.loop-run.invariant.none fit;
      each = copies-left state old left c.pop.result c.pop.ensures.items c.loop-run.invariant.each;
      enough = omega (
        arith,
        c.loop-run.invariant.enough,
        copies-before state old left c.pop.result c.pop.ensures.items c.loop-run.invariant.each some,
      );
      room = λ wide.
          omega (
            arith,
            c.loop-run.invariant.room wide,
            c.send_or_bar.ensures.barred_len,
            c.send_or_bar.ensures.barred_capacity,
          );
      spare = omega (
        arith,
        c.loop-run.invariant.spare,
        c.send_or_bar.ensures.len,
        c.send_or_bar.ensures.capacity,
      );
      few = omega (
        arith,
        c.loop-run.invariant.few,
        c.send_or_bar.ensures.len,
      );
      capacity = c.send_or_bar.ensures.capacity ∙ c.loop-run.invariant.capacity;
    }
