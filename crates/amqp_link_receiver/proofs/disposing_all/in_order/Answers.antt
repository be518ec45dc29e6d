use Rattle.std.proofs.Common.{rules, List, subst}
use Rattle.std.specs.List.Sorted.{IsPermutation}
use Rattle.std.proofs.lemmas.List.Sorted.{IsNonDecreasingBy-from_sort_by_key}
use Rattle.amqp_link_receiver.specs.declared.disposable.Disposable.{Disposable}
use Rattle.amqp_link_receiver.proofs.disposing_all.in_order.Goals as goal

pub returns : goal.returns
returns c =
    let P : List Disposable → Type 0 = λ l. IsPermutation l c.sort_unstable_by_key.new.self.items in
    record {
      same = subst P c.in_ok-deliveries.ensures c.sort_unstable_by_key.ensures.permutation;
      rising = IsNonDecreasingBy-from_sort_by_key (λ (d : Disposable). d.number) _ c.sort_unstable_by_key.ensures.sorted
          (λ a r q k. search rules);
    }
