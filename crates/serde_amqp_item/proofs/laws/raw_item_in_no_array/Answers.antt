use Rattle.serde_amqp_item.proofs.laws.raw_item_in_no_array.Goals as goal

pub returns : goal.returns
returns c = λ text bytes d h. h.3
