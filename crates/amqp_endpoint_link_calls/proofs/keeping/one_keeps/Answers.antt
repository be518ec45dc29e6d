use Rattle.std.proofs.Common.{◌≡◌, ◌<◌, ℕ, false, arith, length, sym, subst, add-one, ◌∙◌}
use Rattle.amqp_endpoint_link_calls.specs.Keeping.{one_keeps}
use Rattle.amqp_endpoint_link_calls.proofs.Kept.{none-kept, one-kept}
use Rattle.amqp_endpoint_link_calls.proofs.keeping.one_keeps.Goals as goal

pub returns-then-keeps_at : goal.returns-then-keeps_at
returns-then-keeps_at c =
    let below : c.loop-number.number < length c.args.links.now.links = omega arith in
    one-kept c.args.talk.now c.args.links.now c.args.message c.loop-number.number
    (length c.args.links.now.links) (sym c.keeps_at.ensures ∙ c.if-keeps_at.true) below

pub loop-number-preserved : goal.loop-number-preserved
loop-number-preserved c =
    record {
      end = c.loop-number.invariant.end;
      none =
          subst (λ (n : ℕ). one_keeps c.args.talk.now c.args.links.now n c.args.message ≡ false)
          (sym (add-one c.loop-number.number))
          (none-kept c.args.talk.now c.args.links.now c.args.message c.loop-number.number
          (sym c.if-keeps_at.false ∙ c.keeps_at.ensures) c.loop-number.invariant.none);
    }

pub returns : goal.returns
returns c =
    let all : c.loop-number.number ≡ length c.args.links.now.links = omega arith in
    sym
    (subst (λ (n : ℕ). one_keeps c.args.talk.now c.args.links.now n c.args.message ≡ false) all
    c.loop-number.invariant.none)
