use Rattle.std.proofs.Common.{◌≡◌, [], ◌∷◌, map, Some, subst}
use Rattle.serde_amqp_item.specs.Item.{items_of}
use Rattle.serde_amqp_ser.specs.Puts.{listed, state_of}
use Rattle.amqp_link_message.proofs.Listing.{listed_one, listed_both}
use Rattle.amqp_link_message.proofs.several.put_several.Goals as goal

pub returns-clause-ok : goal.returns-clause-ok
returns-clause-ok g c =
    let first = listed_one (g.S.Serialize.item c.args.sections.now.first) (state_of g.W.Sink.written c.args.s.now) (state_of g.W.Sink.written c.serialize.new.s) c.requires c.in_ok-serialize.ensures.ok in
    let others = subst (λ xs. listed (g.W.Sink.written c.serialize.new.s.writer) (items_of (map g.S.Serialize.item xs)) ≡ Some (g.W.Sink.written c.put_all.new.s.writer)) c.as_slice.ensures.value c.in_ok-put_all.ensures.ok in
    listed_both (g.W.Sink.written c.args.s.now.writer) (g.W.Sink.written c.serialize.new.s.writer) (g.W.Sink.written c.put_all.new.s.writer) (g.S.Serialize.item c.args.sections.now.first ∷ []) (map g.S.Serialize.item c.args.sections.now.others.items) first others
