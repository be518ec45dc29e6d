-- The performatives: part 2, 2.7.
use Rattle.std.specs.Prelude.{ℕ, List, [], ◌∷◌, Option}
use Rattle.serde_amqp_item.specs.Item.{Item}
use Rattle.serde_amqp_values.specs.Choice.{Row, choice_taken}
use Rattle.amqp_session_performatives.specs.Open.{open_name, open_item, open_takes}
use Rattle.amqp_session_performatives.specs.Begin.{begin_name, begin_item, begin_takes}
use Rattle.amqp_session_performatives.specs.Attach.{attach_name, attach_item, attach_takes}
use Rattle.amqp_session_performatives.specs.Flow.{flow_name, flow_item, flow_takes}
use Rattle.amqp_session_performatives.specs.Transfer.{transfer_name, transfer_item, transfer_takes}
use Rattle.amqp_session_performatives.specs.Disposition.{disposition_name, disposition_item, disposition_takes}
use Rattle.amqp_session_performatives.specs.Detach.{detach_name, detach_item, detach_takes}
use Rattle.amqp_session_performatives.specs.End.{end_name, end_item, end_takes}
use Rattle.amqp_session_performatives.specs.Close.{close_name, close_item, close_takes}
use Rattle.amqp_session_performatives.specs.declared.performative.Performative.{Performative}
use Rattle.amqp_session_performatives.specs.declared.performative.Performative.TheVariants.{Open, Begin, Attach, Flow}
use Rattle.amqp_session_performatives.specs.declared.performative.Performative.TheVariants.{Transfer, Disposition}
use Rattle.amqp_session_performatives.specs.declared.performative.Performative.TheVariants.{Detach, End, Close}

abbrev pub performative_item : Performative → Item
performative_item (Open x) = open_item x
performative_item (Begin x) = begin_item x
performative_item (Attach x) = attach_item x
performative_item (Flow x) = flow_item x
performative_item (Transfer x) = transfer_item x
performative_item (Disposition x) = disposition_item x
performative_item (Detach x) = detach_item x
performative_item (End x) = end_item x
performative_item (Close x) = close_item x

-- the codes and names of the performatives, and which items their fields take
abbrev pub performative_table : List Row
performative_table =
    record { code = 0x10; name = open_name; takes = open_takes }
    ∷ record { code = 0x11; name = begin_name; takes = begin_takes }
    ∷ record { code = 0x12; name = attach_name; takes = attach_takes }
    ∷ record { code = 0x13; name = flow_name; takes = flow_takes }
    ∷ record { code = 0x14; name = transfer_name; takes = transfer_takes }
    ∷ record { code = 0x15; name = disposition_name; takes = disposition_takes }
    ∷ record { code = 0x16; name = detach_name; takes = detach_takes }
    ∷ record { code = 0x17; name = end_name; takes = end_takes }
    ∷ record { code = 0x18; name = close_name; takes = close_takes }
    ∷ []

-- the items that are read as a performative, and the item of that performative
abbrev pub performative_taken : Item → Option Item
performative_taken = choice_taken performative_table
