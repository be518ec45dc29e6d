use Rattle.std.proofs.Common.{◌≡◌, List, IfErr, OnErr, OnOk, sym, subst, ◌∙◌}
use Rattle.amqp_session_performatives.specs.declared.session_frame.SessionFrame.{SessionFrame}
use Rattle.amqp_endpoint_links.specs.declared.hearing.LinkPerformative.TheVariants as said
use Rattle.amqp_endpoint_conversation.specs.Going.{Goes, Rests, Within}
use Rattle.amqp_endpoint_model.specs.Relay.{IsSessionFault}
use Rattle.amqp_endpoint_model.specs.declared.error.EndpointError.{EndpointError}
use Rattle.amqp_endpoint_model.specs.declared.event.Event.{Event}
use Rattle.amqp_endpoint_linking.specs.Handed.{Tells}
use Rattle.amqp_endpoint_linking.specs.Linking.{Talk}
use Rattle.amqp_endpoint_link_hearing.specs.Disposing.{HearsDisposition}
use Rattle.amqp_endpoint_link_hearing.specs.Saying.{RefusesSaid}
use Rattle.amqp_endpoint_link_hearing.proofs.disposing.hear_disposition.Goals as goal

pub returns-then-hear_settled-clause-ok : goal.returns-then-hear_settled-clause-ok
returns-then-hear_settled-clause-ok c =
    subst
    (λ (told : List Event).
    Tells (λ (frames : List SessionFrame) (events : List Event).
    HearsDisposition c.args.talk.now c.args.links.now c.args.limit c.args.channel c.args.disposition frames events
    c.hear_settled.new.talk c.args.links.now) c.args.out.now.items told c.args.out.now.items
    c.hear_settled.new.events.items)
    c.reserve.ensures.items
    (c.hear_settled.ensures.hears c.if-hear_settled.true c.args.limit c.args.links.now c.args.out.now.items)

pub returns-then-hear_settled-clause-goes : goal.returns-then-hear_settled-clause-goes
returns-then-hear_settled-clause-goes c least = c.hear_settled.ensures.goes c.args.limit c.args.out.now.items

pub returns-then-hear_settled-clause-rests : goal.returns-then-hear_settled-clause-rests
returns-then-hear_settled-clause-rests c = c.hear_settled.ensures.rests c.args.out.now.items

pub returns-then-hear_settled-clause-waits : goal.returns-then-hear_settled-clause-waits
returns-then-hear_settled-clause-waits c most least within =
    (c.hear_settled.ensures.goes most c.args.out.now.items).waits within

pub returns-clause-ok : goal.returns-clause-ok
returns-clause-ok c =
    let same = c.hear_settled.ensures.none c.if-hear_settled.false in
    subst
    (λ (t : Talk).
    OnOk c.hear_any.result
    (Tells (λ (frames : List SessionFrame) (events : List Event).
    HearsDisposition t c.args.links.now c.args.limit c.args.channel c.args.disposition frames events
    c.hear_any.new.talk c.hear_any.new.links) c.args.out.now.items c.args.events.now.items
    c.hear_any.new.out.items c.hear_any.new.events.items))
    same.0
    (subst
    (λ (told : List Event).
    OnOk c.hear_any.result
    (Tells (λ (frames : List SessionFrame) (events : List Event).
    HearsDisposition c.hear_settled.new.talk c.args.links.now c.args.limit c.args.channel c.args.disposition frames
    events c.hear_any.new.talk c.hear_any.new.links) c.args.out.now.items told c.hear_any.new.out.items
    c.hear_any.new.events.items))
    (same.1 ∙ c.reserve.ensures.items) c.hear_any.ensures.ok)

pub returns-clause-err : goal.returns-clause-err
returns-clause-err c =
    let same = c.hear_settled.ensures.none c.if-hear_settled.false in
    subst
    (λ (t : Talk).
    IfErr c.hear_any.result (λ (e : EndpointError).
    IsSessionFault e
    × RefusesSaid t c.args.channel (said.Disposition c.args.disposition) e c.hear_any.new.talk))
    same.0 c.hear_any.ensures.err

pub returns-clause-kept : goal.returns-clause-kept
returns-clause-kept c =
    let same = c.hear_settled.ensures.none c.if-hear_settled.false in
    subst
    (λ (told : List Event).
    OnErr c.hear_any.result ((c.hear_any.new.links ≡ c.args.links.now)
    × (c.hear_any.new.out.items ≡ c.args.out.now.items)
    × (c.hear_any.new.events.items ≡ told)))
    (same.1 ∙ c.reserve.ensures.items) c.hear_any.ensures.kept

pub returns-clause-goes : goal.returns-clause-goes
returns-clause-goes c least =
    let same = c.hear_settled.ensures.none c.if-hear_settled.false in
    subst (λ (t : Talk). Goes c.args.limit t c.hear_any.new.talk c.args.out.now.items c.hear_any.new.out.items) same.0
    (c.hear_any.ensures.goes least)

pub returns-clause-waits : goal.returns-clause-waits
returns-clause-waits c most least within =
    let same = c.hear_settled.ensures.none c.if-hear_settled.false in
    c.hear_any.ensures.waits most least (subst (λ (t : Talk). Within most t) (sym same.0) within)

pub returns-clause-rests : goal.returns-clause-rests
returns-clause-rests c =
    let same = c.hear_settled.ensures.none c.if-hear_settled.false in
    subst (λ (t : Talk). Rests t c.hear_any.new.talk c.args.out.now.items c.hear_any.new.out.items) same.0
    c.hear_any.ensures.rests
