use Rattle.std.proofs.Common.{inl, refl}
use Rattle.amqp_endpoint_links.specs.declared.hearing.LinkPerformative.TheVariants as said
use Rattle.amqp_endpoint_conversation.proofs.Goings.{goes-on, rests-on}
use Rattle.amqp_endpoint_link_hearing.proofs.Detaches.{detach-fails, detach-taken, stands-for}
use Rattle.amqp_endpoint_link_hearing.proofs.Plain.{answers-plain}
use Rattle.amqp_endpoint_link_hearing.proofs.Refusals.{bars, fails, heard-kept, kept}
use Rattle.amqp_endpoint_link_hearing.proofs.detaching.take_detach.Goals as goal

pub detach_heard-requires-clause-stands : goal.detach_heard-requires-clause-stands
detach_heard-requires-clause-stands c =
    stands-for c.args.limit c.args.talk.now c.args.channel c.args.out.now.items c.args.detach c.in-Ok.heard
    c.detach_of-took.result c.detach_of-took.ensures c.args.ready c.hear.new.talk c.hear.new.out.items
    c.requires.ready c.in-Ok.ensures.step

pub returns-in-Ok-clause-rests : goal.returns-in-Ok-clause-rests
returns-in-Ok-clause-rests c =
    rests-on c.args.talk.now c.hear.new.talk c.detach_heard.new.talk c.args.out.now.items c.hear.new.out.items
    c.detach_heard.new.out.items c.hear.ensures.rests c.detach_heard.ensures.rests

pub returns-in-Ok-clause-ok : goal.returns-in-Ok-clause-ok
returns-in-Ok-clause-ok c =
    detach-taken c.args.limit c.args.talk.now c.args.channel c.args.out.now.items c.args.detach c.in-Ok.heard
    c.detach_of-took.result c.detach_of-took.ensures c.args.ready c.hear.new.talk c.hear.new.out.items c.args.links.now
    c.detach_heard.new.links c.detach_heard.new.talk c.args.events.now.items c.detach_heard.new.events.items
    c.detach_heard.new.out.items
    (heard-kept c.args.talk.now (said.Detach c.args.detach) c.args.out.now.items c.hear.new.talk
    c.hear.new.out.items refl c.args.channel c.in-Ok.heard c.in-Ok.ensures.step)
    c.requires.ready c.in-Ok.ensures.step c.detach_heard.ensures.leaves

pub returns-in-Ok-clause-goes : goal.returns-in-Ok-clause-goes
returns-in-Ok-clause-goes c least =
    goes-on c.args.limit c.args.talk.now c.hear.new.talk c.detach_heard.new.talk c.args.out.now.items
    c.hear.new.out.items c.detach_heard.new.out.items (c.hear.ensures.goes c.args.limit answers-plain)
    (c.detach_heard.ensures.goes least)

pub returns-in-Ok-refuse-clause-ok : goal.returns-in-Ok-refuse-clause-ok
returns-in-Ok-refuse-clause-ok c =
    detach-fails c.args.limit c.args.talk.now c.args.channel c.args.out.now.items c.args.detach c.args.links.now
    c.refuse.new.links c.hear.new.talk c.args.events.now.items c.refuse.new.events.items c.hear.new.out.items
    (fails c.args.talk.now c.args.channel (said.Detach c.args.detach) c.args.out.now.items c.hear.new.talk
    c.hear.new.out.items (c.hear.ensures.goes 0 answers-plain) c.args.links.now c.refuse.new.links
    c.args.events.now.items c.refuse.new.events.items c.in-Err.refusal c.in-Err.ensures.step
    c.in-Ok-refuse.ensures)

pub returns-in-Ok-refuse-clause-goes : goal.returns-in-Ok-refuse-clause-goes
returns-in-Ok-refuse-clause-goes c least = c.hear.ensures.goes c.args.limit answers-plain

pub returns-clause-err : goal.returns-clause-err
returns-clause-err c =
    let (why, is) =
    bars c.args.talk.now c.args.channel (said.Detach c.args.detach) c.args.out.now.items c.hear.new.talk
    c.hear.new.out.items (c.hear.ensures.goes 0 answers-plain) c.args.links.now c.refuse.new.links
    c.args.events.now.items c.refuse.new.events.items c.in-Err.refusal c.in-Err-refuse.error c.in-Err.ensures.step
    c.in-Err-refuse.ensures in (why, inl is)

pub returns-clause-kept : goal.returns-clause-kept
returns-clause-kept c =
    kept c.args.talk.now c.args.channel (said.Detach c.args.detach) c.args.out.now.items c.hear.new.talk
    c.hear.new.out.items (c.hear.ensures.goes 0 answers-plain) c.args.links.now c.refuse.new.links
    c.args.events.now.items c.refuse.new.events.items c.in-Err.refusal c.in-Err-refuse.error refl
    c.in-Err.ensures.step c.in-Err-refuse.ensures

pub returns-clause-goes : goal.returns-clause-goes
returns-clause-goes c least = c.hear.ensures.goes c.args.limit answers-plain
