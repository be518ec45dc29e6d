use Rattle.std.proofs.Common.{◌≡◌, ◌∙◌, Some, subst}
use Rattle.std.proofs.lemmas.Result.{on_ok_weaker}
use Rattle.serde_amqp_item.specs.Item.{list, items_of}
use Rattle.serde_amqp_ser.specs.Puts.{State, serialized, state_of, OnlyWhere}
use Rattle.serde_amqp_ser.proofs.Listed.{item_count-items_of}
use Rattle.serde_amqp_ser.proofs.Begun.{mark_at}
use Rattle.serde_amqp_ser.proofs.serializer.Serializer.put_list_head.Goals as goal

pub returns-clause-ok : goal.returns-clause-ok
returns-clause-ok g c = rw (← c.self.view_is) (
    on_ok_weaker c.close_list.result
    (λ f s xs m o n. subst (λ (t : State). serialized t (list (items_of xs)) ≡ Some (state_of g.W.Sink.written c.close_list.new.self)) (mark_at s c.args.opened m) (f s.written (items_of xs) o.items m.start (item_count-items_of xs ∙ n)))
    c.close_list.ensures.ok
    )

pub returns-clause-refused : goal.returns-clause-refused
returns-clause-refused g c = rw (← c.self.view_is) λ s xs m o n.
    subst (λ (t : State). OnlyWhere c.close_list.result (serialized t (list (items_of xs)))) (mark_at s c.args.opened m) (c.close_list.ensures.refused s.written (items_of xs) o.items m.start (item_count-items_of xs ∙ n))
