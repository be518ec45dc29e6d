use Rattle.std.specs.Str.{bytes_eq}
use Rattle.std.proofs.Common.{◌∙◌, Some}
use Rattle.indexmap.proofs.CallerLemmas.{insert_entry-new}
use Rattle.amqp_link_unsettled.proofs.map.push.Goals as goal

pub returns-clause-entries : goal.returns-clause-entries
returns-clause-entries g c =
    c.in-Ok.ensures.entries
    ∙ insert_entry-new bytes_eq c.args.slots.now c.args.tag (record { below = c.args.below; kept = Some c.args.message }) c.requires.absent
