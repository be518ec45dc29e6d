use Rattle.std.proofs.Common.{◌+◌, ℕ, List, Vec, true≢false, refl, sym, ap, subst, ◌∙◌}
use Rattle.amqp_session_outgoing.specs.Touched.{Touches}
use Rattle.amqp_session_outgoing.proofs.Walking.{walked-none, walked-more, walked-past}
use Rattle.amqp_session_outgoing.proofs.unsettled.Unsettled.walked.Goals.{then-contains+in_ok-push, else-contains}
use Rattle.amqp_session_outgoing.proofs.unsettled.Unsettled.walked.Goals as goal

pub loop-distance-init : goal.loop-distance-init
loop-distance-init c = record {
  end = refl;
  walked = subst (λ (xs : List ℕ). Touches (record { first = (c.args.range).first; count = 0 }) (c.args.self.now).table xs) (sym c.new-numbers.ensures.items) (walked-none (c.args.range).first (c.args.self.now).table);
}

pub loop-distance-preserved : goal.loop-distance-preserved
loop-distance-preserved c = record {
  end = refl;
  walked =
      elim c.if-contains.branch [
        | then-contains+in_ok-push w ↦
            subst (λ (xs : List ℕ). Touches (record { first = (c.args.range).first; count = c.loop-distance.distance + 1 }) (c.args.self.now).table xs)
            (sym (ap (λ (v : Vec ℕ _). v.items) w.numbers-is ∙ w.in_ok-push.ensures.items))
            (walked-more (c.args.range).first c.loop-distance.distance (c.args.self.now).table c.loop-distance.numbers.items (c.contains.ensures.0 w.if-contains.true) c.loop-distance.invariant.walked)
        | else-contains w ↦
            subst (λ (xs : List ℕ). Touches (record { first = (c.args.range).first; count = c.loop-distance.distance + 1 }) (c.args.self.now).table xs)
            (sym (ap (λ (v : Vec ℕ _). v.items) w.numbers-is))
            (walked-past (c.args.range).first c.loop-distance.distance (c.args.self.now).table c.loop-distance.numbers.items (λ u. true≢false (sym (c.contains.ensures.1 u) ∙ w.if-contains.false)) c.loop-distance.invariant.walked)
      ];
}
