use Rattle.std.proofs.Common.{◌+◌, ℕ, List, ◌++◌, length, map, reverse, refl, ap, ◌∙◌}
use Rattle.std.proofs.lemmas.List.{length-reverse}
use Rattle.std.specs.Map.{keys_of}
use Rattle.std.specs.VecDeque.{deque_len}
use Rattle.amqp_link_unsettled.specs.Entries.{Kept}
use Rattle.amqp_link_unsettled.specs.declared.open.Open.{Open}
use Rattle.amqp_link_unsettled.specs.declared.resolution.Resolution.TheVariants.{Failed}
use Rattle.amqp_link_unsettled.proofs.Failing.{failing-none}
use Rattle.amqp_link_unsettled.proofs.messages.fail_all.Goals as goal

pub loop-tag-init : goal.loop-tag-init
loop-tag-init c =
    record {
      handed =
          ap (λ (k : Kept Open). c.args.resolved.now.items ++ map (λ (tag : List ℕ). (tag, Failed c.args.failure)) (reverse (keys_of k.entries))) c.reverse.ensures
          ∙ failing-none (λ (tag : List ℕ). (tag, Failed c.args.failure)) c.args.resolved.now.items c.args.unsettled.now.entries;
      room = ap (λ (k : Kept Open). k.room) c.reverse.ensures;
      capacity = refl;
      count = ap (λ (k : Kept Open). deque_len c.args.resolved.now + length k.entries) c.reverse.ensures ∙ ap (λ n. deque_len c.args.resolved.now + n) (length-reverse c.args.unsettled.now.entries);
    }
