use Rattle.std.proofs.Common.{ap}
use Rattle.amqp_link_unsettled.specs.Entries.{Kept}
use Rattle.amqp_link_receiver.specs.declared.entry.Entry.{Entry}
use Rattle.amqp_link_receiver.proofs.Entering.{renumbers}
use Rattle.amqp_link_receiver.proofs.noting.renumber.Goals as goal

pub returns : goal.returns
returns c =
    renumbers c.args.unsettled.now.entries c.note_where_kept.new.self.entries c.args.tag.now c.args.attachment
    c.args.number c.args.rcv_settle_mode
    (ap (λ (k : Kept Entry). k.entries) c.note_where_kept.ensures)
