use Rattle.std.proofs.Common.{ℕ, ap, refl, subst, ◌∙◌}
use Rattle.amqp_endpoint_links.specs.declared.asking.NamedLink.TheVariants.{Waiting}
use Rattle.amqp_endpoint_attached.specs.Linked.{Linked, end_at}
use Rattle.amqp_endpoint_messages.specs.All.{open_count}
use Rattle.amqp_endpoint_messages.specs.MadeReady.{IsClosing}
use Rattle.amqp_endpoint_link_hearing.proofs.AttachReadied.{closes-on, unlived, unreached}
use Rattle.amqp_endpoint_link_hearing.proofs.attaching.closing_in.Goals as goal

pub returns-in_default : goal.returns-in_default
returns-in_default c = unreached c.args.talk.now c.args.channel (Waiting c.args.handle) c.in_default.ensures

pub returns-in_default-live : goal.returns-in_default-live
returns-in_default-live c =
    unlived c.args.talk.now c.args.channel (Waiting c.args.handle) c.in-Some.number c.in-Some.ensures
    c.in_default-live.ensures

pub returns-in-Ok : goal.returns-in-Ok
returns-in-Ok c =
    let lent = c.in-Some-live.session.now in
    closes-on c.args.talk.now c.args.channel (Waiting c.args.handle) c.in-Some.number lent c.args.handle
    c.in-Ok.closing refl c.in-Some.ensures c.in-Some-live.ensures
    (subst
    (λ (s : Linked). IsClosing s c.in-Some.number c.args.handle (open_count (end_at lent.value c.args.handle))
    c.in-Ok.closing)
    c.deref-2.ensures
    (subst (λ (n : ℕ). IsClosing c.deref-2.result.now c.in-Some.number c.args.handle n c.in-Ok.closing)
    (c.open_in-count.ensures ∙ ap (λ (s : Linked). open_count (end_at s c.args.handle)) c.deref.ensures)
    c.in-Ok.ensures))
