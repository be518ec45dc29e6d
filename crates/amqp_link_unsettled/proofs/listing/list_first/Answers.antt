use Rattle.std.proofs.Common.{◌≡◌, ◌∙◌, ℕ, ◌<◌, ◌/◌, true, true≢false, length, take, ap, subst, sym, rules, arith}
use Rattle.amqp_session_performatives.specs.declared.attach.Attach.{Attach}
use Rattle.amqp_link_unsettled.specs.Listing.{or_null, or_empty, with_first, FitsFrame}
use Rattle.amqp_link_unsettled.proofs.Halving.{more-halves, none-passes}
use Rattle.amqp_link_unsettled.proofs.Shortening.{half-listed}
use Rattle.amqp_link_unsettled.proofs.listing.list_first.Goals as goal

pub returns-then-count-eq0-clause-none : goal.returns-then-count-eq0-clause-none
returns-then-count-eq0-clause-none c _ =
    let Passes : ℕ → Type 0 = λ n. FitsFrame c.args.limit (with_first c.args.attach.now c.args.list n) in
    let fails : Passes c.loop-limit.count → ⊥ =
    λ p. true≢false (sym (c.fits_frame.ensures.1 (subst (λ (a : Attach). FitsFrame c.args.limit a) (sym c.loop-limit.invariant.now) p)) ∙ c.if-fits_frame.false) in
    let zero : c.loop-limit.count ≡ 0 = search rules in
    let before = c.loop-limit.invariant.halved in
    none-passes Passes (length c.args.list) before.0 (sym before.1 ∙ zero) (λ p. fails (subst Passes (sym zero) p)) before.2

pub loop-limit-preserved : goal.loop-limit-preserved
loop-limit-preserved c =
    let Passes : ℕ → Type 0 = λ n. FitsFrame c.args.limit (with_first c.args.attach.now c.args.list n) in
    let fails : Passes c.loop-limit.count → ⊥ =
    λ p. true≢false (sym (c.fits_frame.ensures.1 (subst (λ (a : Attach). FitsFrame c.args.limit a) (sym c.loop-limit.invariant.now) p)) ∙ c.if-fits_frame.false) in
    let some : 0 < c.loop-limit.count = search rules in
    record {
      within = omega (arith, c.loop-limit.invariant.within);
      now =
          c.shorten.ensures
          ∙ ap (λ (a : Attach). record a { unsettled = or_null (take (c.loop-limit.count / 2) (or_empty a.unsettled)); incomplete_unsettled = true }) c.loop-limit.invariant.now
          ∙ half-listed c.args.attach.now c.args.list c.loop-limit.count some c.loop-limit.invariant.within;
      halved = more-halves Passes (length c.args.list) c.loop-limit.count fails c.loop-limit.invariant.halved;
    }
