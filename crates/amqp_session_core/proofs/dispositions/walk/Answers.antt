use Rattle.std.proofs.Common.{arith, ◌≡◌, ◌+◌, ◌∷◌, [], ℕ, get_or, ap, ◌∙◌, ◌++◌, IsSome, option_copied}
use Rattle.smallvec.specs.SmallVec.{SmallVec, small_vec_len}
use Rattle.amqp_session_core.proofs.Walking.{walked-next, one_if, one-more, one-longer, no-more, rest-stays}
use Rattle.amqp_session_core.proofs.Copying.{copies-left, copies-before, copy-used}
use Rattle.amqp_session_core.proofs.dispositions.walk.Goals.{then-reach_one, else-reach_one}
use Rattle.amqp_session_core.proofs.dispositions.walk.Goals as goal

pub loop-number-preserved : goal.loop-number-preserved
loop-number-preserved g c =
    let d = c.args.disposition.now in
    let i = c.loop-number.number-index in
    let ns = c.args.numbers.now in
    let n = get_or ns i 0 in
    let echoed = c.loop-number.echoed.items in
    let more = c.if-reach_one.echoed.items in
    let some : IsSome c.pop.result = c.pop.ensures.variant.1 (omega arith) in
    let fewer : small_vec_len c.loop-number.states ≡ small_vec_len c.pop.new.self + 1 = copies-before d.state
    c.loop-number.states.items c.pop.new.self.items c.pop.result c.pop.ensures.items
    c.loop-number.invariant.each some in
    let state : c.flatten-state.result ≡ d.state = copy-used d.state c.loop-number.states.items c.pop.new.self.items c.pop.result c.pop.ensures.items c.loop-number.invariant.each c.flatten-state.result some c.flatten-state.ensures in
    let each = copies-left d.state c.loop-number.states.items c.pop.new.self.items c.pop.result c.pop.ensures.items c.loop-number.invariant.each in
    let rest = rest-stays c.args.links.now c.loop-number.links c.reach_one.new.links c.loop-number.invariant.rest c.reach_one.ensures.rest in
    let next = λ (pushed : more ≡ echoed ++ one_if c.reach_one.result n).
    walked-next g.R.LinkRelay.gives.disposes d (c.args.deliveries.now).table ns i (c.args.links.now).slots c.loop-number.links.slots c.reach_one.new.links.slots echoed more (option_copied c.get.result) c.flatten-state.result c.reach_one.result
    c.loop-number-test.true c.requires.there c.get.ensures state pushed c.loop-number.invariant.walked c.reach_one.ensures.step in
    elim c.if-reach_one.branch [
      | then-reach_one w ↦
          let pushed : more ≡ echoed ++ n ∷ [] = ap (λ (v : SmallVec ℕ). v.items) w.echoed-is
          ∙ w.push_reserved.ensures.items in
          let longer : small_vec_len c.if-reach_one.echoed ≡ small_vec_len c.loop-number.echoed + 1 =
          one-longer n echoed more pushed in
          record {
            walked = next (one-more c.reach_one.result n echoed more w.if-reach_one.true pushed);
            rest = rest;
            each = each;
            enough = omega (arith, fewer);
            count = omega (arith, longer);
            room = ap (λ (v : SmallVec ℕ). v.capacity) w.echoed-is ∙ w.push_reserved.ensures.capacity
                ∙ c.loop-number.invariant.room;
          }
      | else-reach_one w ↦
          let same : small_vec_len c.if-reach_one.echoed ≡ small_vec_len c.loop-number.echoed = ap
          (λ (v : SmallVec ℕ). small_vec_len v) w.echoed-is in
          record {
            walked = next (no-more c.reach_one.result n echoed more w.if-reach_one.false
                (ap (λ (v : SmallVec ℕ). v.items) w.echoed-is));
            rest = rest;
            each = each;
            enough = omega (arith, fewer);
            count = omega (arith, same);
            room = ap (λ (v : SmallVec ℕ). v.capacity) w.echoed-is ∙ c.loop-number.invariant.room;
          }
    ]
