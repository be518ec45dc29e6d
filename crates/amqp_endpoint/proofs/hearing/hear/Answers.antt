use Rattle.std.proofs.Common.{◌≡◌, refl}
use Rattle.amqp_session_frames.specs.declared.frame.FrameBody.TheVariants as body
use Rattle.amqp_endpoint_linking.specs.Hearing.{HearsBegin, TakesEnd}
use Rattle.amqp_endpoint_link_hearing.specs.Attaching.{HearsAttach}
use Rattle.amqp_endpoint_link_hearing.specs.Detaching.{HearsDetach}
use Rattle.amqp_endpoint_link_hearing.specs.Disposing.{HearsDisposition}
use Rattle.amqp_endpoint_link_hearing.specs.Flowing.{HearsFlow}
use Rattle.amqp_endpoint_link_hearing.specs.Transferring.{HearsTransfer}
use Rattle.amqp_endpoint.proofs.Heard.{hears-if, kept-so, refuses-if}
use Rattle.amqp_endpoint.proofs.hearing.hear.Goals as goal

pub returns-in-Begin-clause-ok : goal.returns-in-Begin-clause-ok
returns-in-Begin-clause-ok c =
    let call = c.hear_begin in
    hears-if c.args.talk.now call.new.talk c.args.links.now call.new.links c.args.given.now c.args.given.now
    c.args.limit c.args.channel c.args.body (body.Begin c.in-Begin.begin) c.args.out.now.items call.new.out.items
    c.args.events.now.items call.new.events.items
    (λ frames events. HearsBegin c.args.talk.now c.args.links.now c.args.channel c.in-Begin.begin frames events
    call.new.talk call.new.links) (λ frames events h. (h, refl)) c.in-Begin.is call.result call.ensures.ok

pub returns-in-Begin-clause-err : goal.returns-in-Begin-clause-err
returns-in-Begin-clause-err c =
    let call = c.hear_begin in
    refuses-if c.args.talk.now call.new.talk c.args.links.now call.new.links c.args.given.now c.args.given.now
    c.args.limit c.args.channel c.args.body (body.Begin c.in-Begin.begin)
    ((call.new.links ≡ c.args.links.now) × (call.new.out.items ≡ c.args.out.now.items)
    × (call.new.events.items ≡ c.args.events.now.items))
    (λ kept. kept.0) c.in-Begin.is call.result call.ensures.err call.ensures.kept

pub returns-in-Begin-clause-kept : goal.returns-in-Begin-clause-kept
returns-in-Begin-clause-kept c =
    let call = c.hear_begin in
    kept-so
    ((call.new.links ≡ c.args.links.now) × (call.new.out.items ≡ c.args.out.now.items)
    × (call.new.events.items ≡ c.args.events.now.items))
    ((call.new.links ≡ c.args.links.now) × (c.args.given.now ≡ c.args.given.now)
    × (call.new.out.items ≡ c.args.out.now.items) × (call.new.events.items ≡ c.args.events.now.items))
    (λ kept. (kept.0, refl, kept.1, kept.2)) call.result call.ensures.kept

pub returns-in-Begin-clause-goes : goal.returns-in-Begin-clause-goes
returns-in-Begin-clause-goes c = λ least. c.hear_begin.ensures.goes c.args.limit

pub returns-in-Attach-clause-ok : goal.returns-in-Attach-clause-ok
returns-in-Attach-clause-ok c =
    let call = c.hear_attach in
    hears-if c.args.talk.now call.new.talk c.args.links.now call.new.links c.args.given.now c.args.given.now
    c.args.limit c.args.channel c.args.body (body.Attach c.in-Attach.attach) c.args.out.now.items call.new.out.items
    c.args.events.now.items call.new.events.items
    (λ frames events. HearsAttach c.args.talk.now c.args.links.now c.args.limit c.args.channel c.in-Attach.attach frames
    events call.new.talk call.new.links) (λ frames events h. (h, refl)) c.in-Attach.is call.result call.ensures.ok

pub returns-in-Attach-clause-err : goal.returns-in-Attach-clause-err
returns-in-Attach-clause-err c =
    let call = c.hear_attach in
    refuses-if c.args.talk.now call.new.talk c.args.links.now call.new.links c.args.given.now c.args.given.now
    c.args.limit c.args.channel c.args.body (body.Attach c.in-Attach.attach)
    ((call.new.links ≡ c.args.links.now) × (call.new.out.items ≡ c.args.out.now.items)
    × (call.new.events.items ≡ c.args.events.now.items))
    (λ kept. kept.0) c.in-Attach.is call.result call.ensures.err call.ensures.kept

pub returns-in-Attach-clause-kept : goal.returns-in-Attach-clause-kept
returns-in-Attach-clause-kept c =
    let call = c.hear_attach in
    kept-so
    ((call.new.links ≡ c.args.links.now) × (call.new.out.items ≡ c.args.out.now.items)
    × (call.new.events.items ≡ c.args.events.now.items))
    ((call.new.links ≡ c.args.links.now) × (c.args.given.now ≡ c.args.given.now)
    × (call.new.out.items ≡ c.args.out.now.items) × (call.new.events.items ≡ c.args.events.now.items))
    (λ kept. (kept.0, refl, kept.1, kept.2)) call.result call.ensures.kept

pub returns-in-Attach-clause-goes : goal.returns-in-Attach-clause-goes
returns-in-Attach-clause-goes c = c.hear_attach.ensures.goes

pub returns-in-Flow-clause-ok : goal.returns-in-Flow-clause-ok
returns-in-Flow-clause-ok c =
    let call = c.hear_flow in
    hears-if c.args.talk.now call.new.talk c.args.links.now call.new.links c.args.given.now c.args.given.now
    c.args.limit c.args.channel c.args.body (body.Flow c.in-Flow.flow) c.args.out.now.items call.new.out.items
    c.args.events.now.items call.new.events.items
    (λ frames events. HearsFlow c.args.talk.now c.args.links.now c.args.limit c.args.channel c.in-Flow.flow frames
    events call.new.talk call.new.links) (λ frames events h. (h, refl)) c.in-Flow.is call.result call.ensures.ok

pub returns-in-Flow-clause-err : goal.returns-in-Flow-clause-err
returns-in-Flow-clause-err c =
    let call = c.hear_flow in
    refuses-if c.args.talk.now call.new.talk c.args.links.now call.new.links c.args.given.now c.args.given.now
    c.args.limit c.args.channel c.args.body (body.Flow c.in-Flow.flow)
    ((call.new.links ≡ c.args.links.now) × (call.new.out.items ≡ c.args.out.now.items)
    × (call.new.events.items ≡ c.args.events.now.items))
    (λ kept. kept.0) c.in-Flow.is call.result call.ensures.err call.ensures.kept

pub returns-in-Flow-clause-kept : goal.returns-in-Flow-clause-kept
returns-in-Flow-clause-kept c =
    let call = c.hear_flow in
    kept-so
    ((call.new.links ≡ c.args.links.now) × (call.new.out.items ≡ c.args.out.now.items)
    × (call.new.events.items ≡ c.args.events.now.items))
    ((call.new.links ≡ c.args.links.now) × (c.args.given.now ≡ c.args.given.now)
    × (call.new.out.items ≡ c.args.out.now.items) × (call.new.events.items ≡ c.args.events.now.items))
    (λ kept. (kept.0, refl, kept.1, kept.2)) call.result call.ensures.kept

pub returns-in-Flow-clause-goes : goal.returns-in-Flow-clause-goes
returns-in-Flow-clause-goes c = c.hear_flow.ensures.goes

pub returns-in-Transfer-clause-ok : goal.returns-in-Transfer-clause-ok
returns-in-Transfer-clause-ok c =
    let call = c.hear_transfer in
    hears-if c.args.talk.now call.new.talk c.args.links.now call.new.links c.args.given.now call.new.given
    c.args.limit c.args.channel c.args.body (body.Transfer c.in-Transfer.performative c.in-Transfer.payload)
    c.args.out.now.items call.new.out.items c.args.events.now.items call.new.events.items
    (λ frames events. HearsTransfer c.args.talk.now c.args.links.now c.args.given.now c.args.channel
    c.in-Transfer.performative c.in-Transfer.payload frames events call.new.talk call.new.links call.new.given)
    (λ frames events h. h) c.in-Transfer.is call.result call.ensures.ok

pub returns-in-Transfer-clause-err : goal.returns-in-Transfer-clause-err
returns-in-Transfer-clause-err c =
    let call = c.hear_transfer in
    refuses-if c.args.talk.now call.new.talk c.args.links.now call.new.links c.args.given.now call.new.given
    c.args.limit c.args.channel c.args.body (body.Transfer c.in-Transfer.performative c.in-Transfer.payload)
    ((call.new.links ≡ c.args.links.now) × (call.new.given ≡ c.args.given.now)
    × (call.new.out.items ≡ c.args.out.now.items) × (call.new.events.items ≡ c.args.events.now.items))
    (λ kept. kept.0) c.in-Transfer.is call.result call.ensures.err call.ensures.kept

pub returns-in-Transfer-clause-goes : goal.returns-in-Transfer-clause-goes
returns-in-Transfer-clause-goes c = c.hear_transfer.ensures.goes c.args.limit

pub returns-in-Disposition-clause-ok : goal.returns-in-Disposition-clause-ok
returns-in-Disposition-clause-ok c =
    let call = c.hear_disposition in
    hears-if c.args.talk.now call.new.talk c.args.links.now call.new.links c.args.given.now c.args.given.now
    c.args.limit c.args.channel c.args.body (body.Disposition c.in-Disposition.disposition) c.args.out.now.items
    call.new.out.items c.args.events.now.items call.new.events.items
    (λ frames events. HearsDisposition c.args.talk.now c.args.links.now c.args.limit c.args.channel
    c.in-Disposition.disposition frames events call.new.talk call.new.links)
    (λ frames events h. (h, refl)) c.in-Disposition.is call.result call.ensures.ok

pub returns-in-Disposition-clause-err : goal.returns-in-Disposition-clause-err
returns-in-Disposition-clause-err c =
    let call = c.hear_disposition in
    refuses-if c.args.talk.now call.new.talk c.args.links.now call.new.links c.args.given.now c.args.given.now
    c.args.limit c.args.channel c.args.body (body.Disposition c.in-Disposition.disposition)
    ((call.new.links ≡ c.args.links.now) × (call.new.out.items ≡ c.args.out.now.items)
    × (call.new.events.items ≡ c.args.events.now.items))
    (λ kept. kept.0) c.in-Disposition.is call.result call.ensures.err call.ensures.kept

pub returns-in-Disposition-clause-kept : goal.returns-in-Disposition-clause-kept
returns-in-Disposition-clause-kept c =
    let call = c.hear_disposition in
    kept-so
    ((call.new.links ≡ c.args.links.now) × (call.new.out.items ≡ c.args.out.now.items)
    × (call.new.events.items ≡ c.args.events.now.items))
    ((call.new.links ≡ c.args.links.now) × (c.args.given.now ≡ c.args.given.now)
    × (call.new.out.items ≡ c.args.out.now.items) × (call.new.events.items ≡ c.args.events.now.items))
    (λ kept. (kept.0, refl, kept.1, kept.2)) call.result call.ensures.kept

pub returns-in-Disposition-clause-goes : goal.returns-in-Disposition-clause-goes
returns-in-Disposition-clause-goes c = c.hear_disposition.ensures.goes

pub returns-in-Detach-clause-ok : goal.returns-in-Detach-clause-ok
returns-in-Detach-clause-ok c =
    let call = c.hear_detach in
    hears-if c.args.talk.now call.new.talk c.args.links.now call.new.links c.args.given.now c.args.given.now
    c.args.limit c.args.channel c.args.body (body.Detach c.in-Detach.detach) c.args.out.now.items call.new.out.items
    c.args.events.now.items call.new.events.items
    (λ frames events. HearsDetach c.args.talk.now c.args.links.now c.args.limit c.args.channel c.in-Detach.detach frames
    events call.new.talk call.new.links) (λ frames events h. (h, refl)) c.in-Detach.is call.result call.ensures.ok

pub returns-in-Detach-clause-err : goal.returns-in-Detach-clause-err
returns-in-Detach-clause-err c =
    let call = c.hear_detach in
    refuses-if c.args.talk.now call.new.talk c.args.links.now call.new.links c.args.given.now c.args.given.now
    c.args.limit c.args.channel c.args.body (body.Detach c.in-Detach.detach)
    ((call.new.links ≡ c.args.links.now) × (call.new.out.items ≡ c.args.out.now.items)
    × (call.new.events.items ≡ c.args.events.now.items))
    (λ kept. kept.0) c.in-Detach.is call.result call.ensures.err call.ensures.kept

pub returns-in-Detach-clause-kept : goal.returns-in-Detach-clause-kept
returns-in-Detach-clause-kept c =
    let call = c.hear_detach in
    kept-so
    ((call.new.links ≡ c.args.links.now) × (call.new.out.items ≡ c.args.out.now.items)
    × (call.new.events.items ≡ c.args.events.now.items))
    ((call.new.links ≡ c.args.links.now) × (c.args.given.now ≡ c.args.given.now)
    × (call.new.out.items ≡ c.args.out.now.items) × (call.new.events.items ≡ c.args.events.now.items))
    (λ kept. (kept.0, refl, kept.1, kept.2)) call.result call.ensures.kept

pub returns-in-Detach-clause-goes : goal.returns-in-Detach-clause-goes
returns-in-Detach-clause-goes c = c.hear_detach.ensures.goes

pub returns-in-End-clause-ok : goal.returns-in-End-clause-ok
returns-in-End-clause-ok c =
    let call = c.hear_end in
    hears-if c.args.talk.now call.new.talk c.args.links.now call.new.links c.args.given.now c.args.given.now
    c.args.limit c.args.channel c.args.body (body.End c.in-End.end) c.args.out.now.items call.new.out.items
    c.args.events.now.items call.new.events.items
    (λ frames events. TakesEnd c.args.talk.now c.args.links.now c.args.channel c.in-End.end frames events call.new.talk
    call.new.links) (λ frames events h. (h, refl)) c.in-End.is call.result call.ensures.ok

pub returns-in-End-clause-err : goal.returns-in-End-clause-err
returns-in-End-clause-err c =
    let call = c.hear_end in
    refuses-if c.args.talk.now call.new.talk c.args.links.now call.new.links c.args.given.now c.args.given.now
    c.args.limit c.args.channel c.args.body (body.End c.in-End.end)
    ((call.new.talk ≡ c.args.talk.now) × (call.new.links ≡ c.args.links.now)
    × (call.new.out.items ≡ c.args.out.now.items) × (call.new.events.items ≡ c.args.events.now.items))
    (λ kept. kept.1) c.in-End.is call.result call.ensures.err call.ensures.kept

pub returns-in-End-clause-kept : goal.returns-in-End-clause-kept
returns-in-End-clause-kept c =
    let call = c.hear_end in
    kept-so
    ((call.new.talk ≡ c.args.talk.now) × (call.new.links ≡ c.args.links.now)
    × (call.new.out.items ≡ c.args.out.now.items) × (call.new.events.items ≡ c.args.events.now.items))
    ((call.new.links ≡ c.args.links.now) × (c.args.given.now ≡ c.args.given.now)
    × (call.new.out.items ≡ c.args.out.now.items) × (call.new.events.items ≡ c.args.events.now.items))
    (λ kept. (kept.1, refl, kept.2, kept.3)) call.result call.ensures.kept

pub returns-in-End-clause-goes : goal.returns-in-End-clause-goes
returns-in-End-clause-goes c = λ least. c.hear_end.ensures.goes c.args.limit
