use Rattle.std.proofs.Common.{◌≡◌, ap}
use Rattle.std.specs.List.{AllZip}
use Rattle.amqp_session_types.proofs.Clones.{option_cloned, pairs_cloned}
use Rattle.amqp_session_states.proofs.modified.ModifiedClone.clone.Goals as goal

pub returns : goal.returns
returns c = record {
  cases = ap (λ x. record c.args.self.now { message_annotations = x }) (option_cloned (AllZip (λ p q. (q.0 ≡ p.0) × (q.1 ≡ p.1))) pairs_cloned c.args.self.now.message_annotations c.in_ok-clone.field-0 c.in_ok-clone.ensures.cases);
}
