-- What is noted of an unsettled message that has come whole.
use Rattle.std.specs.Prelude.{ℕ, Option, None, Some}
use Rattle.amqp_link_receiver.specs.declared.entry.Entry.{Entry}
use Rattle.amqp_link_receiver.specs.declared.entry.Entry.TheVariants.{Half, Whole}
use Rattle.amqp_link_receiver.specs.declared.entry.Note.{Note}
use Rattle.amqp_link_receiver.specs.declared.entry.Note.TheVariants.{Named, Told, Numbered}
use Rattle.amqp_link_receiver.specs.declared.entry.WholeMessage.{WholeMessage}

abbrev pub message_noted : WholeMessage → Note → WholeMessage
message_noted m (Named message) = record m { message = Some message }
message_noted m (Told state) = record m { state = Some state }
message_noted m (Numbered attachment number mode) =
    record m { number = number; attachment = attachment; rcv_settle_mode = mode }

-- of a delivery whose message hasn't come whole nothing is noted
abbrev pub noted_of : Entry → Note → Entry
noted_of (Whole m) note = Whole (message_noted m note)
noted_of (Half kept) note = Half kept

-- the number that its owner gave a message
abbrev pub entry_number : Entry → Option ℕ
entry_number (Whole m) = m.message
entry_number (Half kept) = None
