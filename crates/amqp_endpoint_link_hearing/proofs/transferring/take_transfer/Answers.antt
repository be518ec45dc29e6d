use Rattle.std.proofs.Common.{inl, inr, refl, ◌∙◌}
use Rattle.amqp_endpoint_links.specs.declared.hearing.LinkPerformative.TheVariants as said
use Rattle.amqp_endpoint_conversation.proofs.Goings.{goes-on, rests-on}
use Rattle.amqp_endpoint_link_hearing.proofs.Plain.{answers-plain}
use Rattle.amqp_endpoint_link_hearing.proofs.Refusals.{bars, fails, heard-kept, kept}
use Rattle.amqp_endpoint_link_hearing.proofs.Transfers.{numbered-for, stands-for, transfer-fails, transfer-taken}
use Rattle.amqp_endpoint_link_hearing.proofs.Transfers.{transfer-unclosed}
use Rattle.amqp_endpoint_link_hearing.proofs.transferring.take_transfer.Goals as goal

pub transfer_heard-requires-clause-stands : goal.transfer_heard-requires-clause-stands
transfer_heard-requires-clause-stands c =
    stands-for c.args.talk.now c.args.channel c.args.out.now.items c.args.transfer c.args.payload
    c.in-Ok.heard c.transfer_of-took.result c.transfer_of-took.ensures c.hear.new.talk c.hear.new.out.items
    c.in-Ok.ensures.step

pub transfer_heard-requires-clause-left : goal.transfer_heard-requires-clause-left
transfer_heard-requires-clause-left c =
    numbered-for c.args.talk.now c.args.channel c.args.out.now.items c.args.transfer c.args.payload
    c.args.given.now c.requires.left c.in-Ok.heard c.transfer_of-took.result c.transfer_of-took.ensures
    c.hear.new.talk c.hear.new.out.items c.in-Ok.ensures.step

pub returns-in-Ok-transfer_heard-clause-ok : goal.returns-in-Ok-transfer_heard-clause-ok
returns-in-Ok-transfer_heard-clause-ok c =
    transfer-taken c.args.talk.now c.args.channel c.args.out.now.items c.args.transfer c.args.payload
    c.in-Ok.heard c.transfer_of-took.result c.transfer_of-took.ensures c.args.given.now c.transfer_heard.new.given
    c.hear.new.talk c.hear.new.out.items
    c.args.links.now c.args.links.now c.transfer_heard.new.talk c.args.events.now.items
    c.transfer_heard.new.events.items c.transfer_heard.new.out.items
    (heard-kept c.args.talk.now (said.Transfer c.args.transfer c.args.payload) c.args.out.now.items c.hear.new.talk
    c.hear.new.out.items refl c.args.channel c.in-Ok.heard c.in-Ok.ensures.step)
    refl c.in-Ok.ensures.step c.in-Ok-transfer_heard.ensures.ok

pub returns-in-Ok-transfer_heard-clause-goes : goal.returns-in-Ok-transfer_heard-clause-goes
returns-in-Ok-transfer_heard-clause-goes c limit least =
    goes-on limit c.args.talk.now c.hear.new.talk c.transfer_heard.new.talk c.args.out.now.items c.hear.new.out.items
    c.transfer_heard.new.out.items (c.hear.ensures.goes limit answers-plain)
    (c.transfer_heard.ensures.goes limit least)

pub returns-in-Ok-transfer_heard-clause-rests : goal.returns-in-Ok-transfer_heard-clause-rests
returns-in-Ok-transfer_heard-clause-rests c =
    rests-on c.args.talk.now c.hear.new.talk c.transfer_heard.new.talk c.args.out.now.items c.hear.new.out.items
    c.transfer_heard.new.out.items c.hear.ensures.rests c.transfer_heard.ensures.rests

pub returns-in-Err-transfer_heard-clause-err : goal.returns-in-Err-transfer_heard-clause-err
returns-in-Err-transfer_heard-clause-err c =
    transfer-unclosed c.args.talk.now c.args.channel c.args.out.now.items c.args.transfer c.args.payload
    c.args.counts c.requires.counts c.in-Ok.heard c.transfer_of-took.result c.transfer_of-took.ensures c.args.given.now
    c.hear.new.talk c.hear.new.out.items c.in-Err-transfer_heard.error c.transfer_heard.new.talk
    (heard-kept c.args.talk.now (said.Transfer c.args.transfer c.args.payload) c.args.out.now.items c.hear.new.talk
    c.hear.new.out.items refl c.args.channel c.in-Ok.heard c.in-Ok.ensures.step)
    c.in-Ok.ensures.step c.in-Err-transfer_heard.ensures.err

pub returns-in-Err-transfer_heard-clause-kept : goal.returns-in-Err-transfer_heard-clause-kept
returns-in-Err-transfer_heard-clause-kept c = (
  refl,
  c.in-Err-transfer_heard.ensures.kept.0,
  c.in-Err-transfer_heard.ensures.kept.1
      ∙ (heard-kept c.args.talk.now (said.Transfer c.args.transfer c.args.payload) c.args.out.now.items c.hear.new.talk
      c.hear.new.out.items refl c.args.channel c.in-Ok.heard c.in-Ok.ensures.step),
  c.in-Err-transfer_heard.ensures.kept.2,
)

pub returns-in-Err-transfer_heard-clause-goes : goal.returns-in-Err-transfer_heard-clause-goes
returns-in-Err-transfer_heard-clause-goes c limit least =
    goes-on limit c.args.talk.now c.hear.new.talk c.transfer_heard.new.talk c.args.out.now.items c.hear.new.out.items
    c.transfer_heard.new.out.items (c.hear.ensures.goes limit answers-plain)
    (c.transfer_heard.ensures.goes limit least)

pub returns-in-Err-transfer_heard-clause-rests : goal.returns-in-Err-transfer_heard-clause-rests
returns-in-Err-transfer_heard-clause-rests c =
    rests-on c.args.talk.now c.hear.new.talk c.transfer_heard.new.talk c.args.out.now.items c.hear.new.out.items
    c.transfer_heard.new.out.items c.hear.ensures.rests c.transfer_heard.ensures.rests

pub returns-in-Ok-refuse-clause-ok : goal.returns-in-Ok-refuse-clause-ok
returns-in-Ok-refuse-clause-ok c =
    transfer-fails c.args.talk.now c.args.channel c.args.out.now.items c.args.transfer c.args.payload
    c.args.given.now c.args.links.now c.refuse.new.links c.hear.new.talk c.args.events.now.items
    c.refuse.new.events.items c.hear.new.out.items
    (fails c.args.talk.now c.args.channel (said.Transfer c.args.transfer c.args.payload) c.args.out.now.items
    c.hear.new.talk c.hear.new.out.items (c.hear.ensures.goes 0 answers-plain) c.args.links.now
    c.refuse.new.links c.args.events.now.items c.refuse.new.events.items c.in-Err.refusal c.in-Err.ensures.step
    c.in-Ok-refuse.ensures)

pub returns-in-Ok-refuse-clause-goes : goal.returns-in-Ok-refuse-clause-goes
returns-in-Ok-refuse-clause-goes c limit least = c.hear.ensures.goes limit answers-plain

pub returns-in-Err-refuse-clause-err : goal.returns-in-Err-refuse-clause-err
returns-in-Err-refuse-clause-err c =
    let (why, is) =
    bars c.args.talk.now c.args.channel (said.Transfer c.args.transfer c.args.payload) c.args.out.now.items
    c.hear.new.talk c.hear.new.out.items (c.hear.ensures.goes 0 answers-plain) c.args.links.now
    c.refuse.new.links c.args.events.now.items c.refuse.new.events.items c.in-Err.refusal
    c.in-Err-refuse.error c.in-Err.ensures.step c.in-Err-refuse.ensures in (why, inr (inl (inl is)))

pub returns-in-Err-refuse-clause-kept : goal.returns-in-Err-refuse-clause-kept
returns-in-Err-refuse-clause-kept c =
    let (same, unsent, untold) =
    kept c.args.talk.now c.args.channel (said.Transfer c.args.transfer c.args.payload) c.args.out.now.items
    c.hear.new.talk c.hear.new.out.items (c.hear.ensures.goes 0 answers-plain) c.args.links.now
    c.refuse.new.links c.args.events.now.items c.refuse.new.events.items c.in-Err.refusal
    c.in-Err-refuse.error refl c.in-Err.ensures.step c.in-Err-refuse.ensures in (same, refl, unsent, untold)

pub returns-in-Err-refuse-clause-goes : goal.returns-in-Err-refuse-clause-goes
returns-in-Err-refuse-clause-goes c limit least = c.hear.ensures.goes limit answers-plain
