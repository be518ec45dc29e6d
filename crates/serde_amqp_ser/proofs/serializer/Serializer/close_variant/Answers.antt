use Rattle.std.proofs.Common.{[], ◌∷◌, refl}
use Rattle.std.proofs.lemmas.Result.{on_ok_weaker}
use Rattle.serde_amqp_item.specs.Item.{scalar, uint, list, items_of}
use Rattle.serde_amqp_ser.specs.Puts.{state_of}
use Rattle.serde_amqp_ser.specs.Open.{in_turn}
use Rattle.serde_amqp_ser.proofs.Grown.{keeps_then}
use Rattle.serde_amqp_ser.proofs.Begun.{open_keeps}
use Rattle.serde_amqp_ser.proofs.Composed.{variant_open}
use Rattle.serde_amqp_ser.proofs.serializer.Serializer.close_variant.Goals as goal

pub returns-in_err-close_list_content-clause-kept : goal.returns-in_err-close_list_content-clause-kept
returns-in_err-close_list_content-clause-kept g c = λ s index xs h.
    keeps_then _ _ _ (open_keeps g.W.Sink.begins s.written (scalar (uint index) ∷ []) h.start h.key) (c.in_err-close_list_content.ensures.kept h.start xs h.items)

pub returns-clause-ok : goal.returns-clause-ok
returns-clause-ok g c =
    on_ok_weaker c.put_map_head.result
    (λ f s index xs h.
    let whole = variant_open g.W.Sink.begins s.written index xs h.start (state_of g.W.Sink.written c.close_list_content.new.self) h.key (c.in_ok-close_list_content.ensures.ok h.start xs h.items) in
    f s ((scalar (uint index), list (items_of xs)) ∷ []) h.mark whole refl)
    c.put_map_head.ensures.ok

pub returns-clause-kept : goal.returns-clause-kept
returns-clause-kept g c = λ s index xs h.
    let whole = variant_open g.W.Sink.begins s.written index xs h.start (state_of g.W.Sink.written c.close_list_content.new.self) h.key (c.in_ok-close_list_content.ensures.ok h.start xs h.items) in
    c.put_map_head.ensures.kept s (in_turn ((scalar (uint index), list (items_of xs)) ∷ [])) h.mark whole

pub returns-clause-refused : goal.returns-clause-refused
returns-clause-refused g c = λ s index xs h.
    let whole = variant_open g.W.Sink.begins s.written index xs h.start (state_of g.W.Sink.written c.close_list_content.new.self) h.key (c.in_ok-close_list_content.ensures.ok h.start xs h.items) in
    c.put_map_head.ensures.refused s ((scalar (uint index), list (items_of xs)) ∷ []) h.mark whole refl
