use Rattle.std.proofs.Common.{inl, refl}
use Rattle.amqp_endpoint_links.specs.declared.hearing.LinkPerformative.TheVariants as said
use Rattle.amqp_endpoint_conversation.proofs.Goings.{goes-on, rests-on}
use Rattle.amqp_endpoint_link_hearing.proofs.Dispositions.{disposition-fails, disposition-taken, stands-for}
use Rattle.amqp_endpoint_link_hearing.proofs.Plain.{answers-plain}
use Rattle.amqp_endpoint_link_hearing.proofs.Refusals.{bars, fails, heard-kept, kept}
use Rattle.amqp_endpoint_link_hearing.proofs.disposing.take_disposition.Goals as goal

pub disposition_heard-requires-clause-stands : goal.disposition_heard-requires-clause-stands
disposition_heard-requires-clause-stands c =
    stands-for c.args.limit c.args.talk.now c.args.channel c.args.out.now.items c.args.disposition c.in-Ok.heard
    c.runs_of-took.result c.runs_of-took.ensures c.args.ready c.hear.new.talk c.hear.new.out.items c.requires.ready
    c.in-Ok.ensures.step

pub returns-in-Ok-clause-ok : goal.returns-in-Ok-clause-ok
returns-in-Ok-clause-ok c =
    disposition-taken c.args.limit c.args.talk.now c.args.channel c.args.out.now.items c.args.disposition c.in-Ok.heard
    c.runs_of-took.result c.runs_of-took.ensures c.args.ready c.hear.new.talk c.hear.new.out.items c.args.links.now
    c.args.links.now c.disposition_heard.new.talk c.args.events.now.items c.disposition_heard.new.events.items
    c.disposition_heard.new.out.items refl
    (heard-kept c.args.talk.now (said.Disposition c.args.disposition) c.args.out.now.items c.hear.new.talk
    c.hear.new.out.items refl c.args.channel c.in-Ok.heard c.in-Ok.ensures.step)
    c.requires.ready c.in-Ok.ensures.step c.disposition_heard.ensures.done

pub returns-in-Ok-clause-goes : goal.returns-in-Ok-clause-goes
returns-in-Ok-clause-goes c least =
    goes-on c.args.limit c.args.talk.now c.hear.new.talk c.disposition_heard.new.talk c.args.out.now.items
    c.hear.new.out.items c.disposition_heard.new.out.items (c.hear.ensures.goes c.args.limit answers-plain)
    (c.disposition_heard.ensures.goes least)

pub returns-in-Ok-clause-waits : goal.returns-in-Ok-clause-waits
returns-in-Ok-clause-waits c most least within =
    c.disposition_heard.ensures.waits most least ((c.hear.ensures.goes most answers-plain).waits within)

pub returns-in-Ok-clause-rests : goal.returns-in-Ok-clause-rests
returns-in-Ok-clause-rests c =
    rests-on c.args.talk.now c.hear.new.talk c.disposition_heard.new.talk c.args.out.now.items c.hear.new.out.items
    c.disposition_heard.new.out.items c.hear.ensures.rests c.disposition_heard.ensures.rests

pub returns-in-Ok-refuse-clause-ok : goal.returns-in-Ok-refuse-clause-ok
returns-in-Ok-refuse-clause-ok c =
    disposition-fails c.args.limit c.args.talk.now c.args.channel c.args.out.now.items c.args.disposition
    c.args.links.now c.refuse.new.links c.hear.new.talk c.args.events.now.items c.refuse.new.events.items
    c.hear.new.out.items
    (fails c.args.talk.now c.args.channel (said.Disposition c.args.disposition) c.args.out.now.items c.hear.new.talk
    c.hear.new.out.items (c.hear.ensures.goes 0 answers-plain) c.args.links.now c.refuse.new.links
    c.args.events.now.items c.refuse.new.events.items c.in-Err.refusal c.in-Err.ensures.step c.in-Ok-refuse.ensures)

pub returns-in-Ok-refuse-clause-goes : goal.returns-in-Ok-refuse-clause-goes
returns-in-Ok-refuse-clause-goes c least = c.hear.ensures.goes c.args.limit answers-plain

pub returns-in-Ok-refuse-clause-waits : goal.returns-in-Ok-refuse-clause-waits
returns-in-Ok-refuse-clause-waits c most least within = (c.hear.ensures.goes most answers-plain).waits within

pub returns-clause-err : goal.returns-clause-err
returns-clause-err c =
    let (why, is) =
    bars c.args.talk.now c.args.channel (said.Disposition c.args.disposition) c.args.out.now.items c.hear.new.talk
    c.hear.new.out.items (c.hear.ensures.goes 0 answers-plain) c.args.links.now c.refuse.new.links
    c.args.events.now.items c.refuse.new.events.items c.in-Err.refusal c.in-Err-refuse.error c.in-Err.ensures.step
    c.in-Err-refuse.ensures in (why, inl is)

pub returns-clause-kept : goal.returns-clause-kept
returns-clause-kept c =
    kept c.args.talk.now c.args.channel (said.Disposition c.args.disposition) c.args.out.now.items c.hear.new.talk
    c.hear.new.out.items (c.hear.ensures.goes 0 answers-plain) c.args.links.now c.refuse.new.links
    c.args.events.now.items c.refuse.new.events.items c.in-Err.refusal c.in-Err-refuse.error refl
    c.in-Err.ensures.step c.in-Err-refuse.ensures

pub returns-clause-goes : goal.returns-clause-goes
returns-clause-goes c least = c.hear.ensures.goes c.args.limit answers-plain

pub returns-clause-waits : goal.returns-clause-waits
returns-clause-waits c most least within = (c.hear.ensures.goes most answers-plain).waits within
