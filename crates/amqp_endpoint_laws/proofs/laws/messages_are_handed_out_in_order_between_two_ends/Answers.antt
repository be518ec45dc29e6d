use Rattle.std.proofs.Common.{List, ap, map, sym, ◌++◌, ◌∙◌}
use Rattle.amqp_endpoint_laws.specs.Reading.{nothing_read}
use Rattle.amqp_endpoint_laws.specs.Attachments.{uses}
use Rattle.amqp_endpoint_laws.specs.Handed.{Handed}
use Rattle.amqp_endpoint_laws.specs.Passed.{came_in, sent_in}
use Rattle.amqp_endpoint_laws.specs.Seen.{passing_in}
use Rattle.amqp_endpoint_laws.specs.Taken.{message_handed}
use Rattle.amqp_endpoint_laws.proofs.Paired.{paired}
use Rattle.amqp_endpoint_laws.proofs.TakenJoining.{joined}
use Rattle.amqp_endpoint_laws.proofs.laws.messages_are_handed_out_in_order_between_two_ends.Goals as goal

pub returns : goal.returns
returns c = λ here there channel others ours theirs more s session link own name handed waiting old new deeds begins
    begun order out said none.
    let (left, is) = paired here there channel others ours theirs more begins begun order in
    let (rest, all) =
    joined name (uses name out.earlier) link own (sent_in (passing_in here nothing_read ours)) waiting old
    deeds new (came_in (passing_in there nothing_read theirs)) left said is in
    (rest, all ∙ ap (λ (hs : List Handed). map message_handed hs ++ rest) (sym (out.says none)))
