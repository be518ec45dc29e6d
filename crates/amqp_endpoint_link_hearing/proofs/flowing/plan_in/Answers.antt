use Rattle.std.proofs.Common.{◌≡◌, ◌<◌, ℕ, List, [], ap, arith, length, subst, sym}
use Rattle.std.proofs.lemmas.Bool.Decides.{nat_tests}
use Rattle.std.proofs.lemmas.List.{nil_from_length}
use Rattle.amqp_link_sender.specs.declared.sending_on.PreparedSendOn.{PreparedSendOn}
use Rattle.amqp_endpoint_link_hearing.specs.Flowing.{IsDeepClosing}
use Rattle.amqp_endpoint_link_hearing.proofs.FlowReadied.{lets-go-on, none-on, unlinked, unnamed}
use Rattle.amqp_endpoint_link_hearing.proofs.flowing.plan_in.Goals as goal

pub returns-in_default : goal.returns-in_default
returns-in_default c = unnamed c.args.session.now c.args.number c.args.said (sym c.in_default.ensures)

pub returns-in_default-link : goal.returns-in_default-link
returns-in_default-link c =
    unlinked c.args.session.now c.args.number c.args.said c.in-Some.handle (sym c.in-Some.ensures)
    (sym c.in_default-link.ensures)

pub returns-then-is_empty : goal.returns-then-is_empty
returns-then-is_empty c =
    let none : length c.in_ok-ons.ons.items ≡ 0 =
    grind (arith, nat_tests, c.is_empty.ensures, c.if-is_empty.true) in
    none-on c.args.session.now c.args.number c.args.said c.in-Some.handle (sym c.in-Some.ensures)
    c.in-Some-link.link.now (sym c.in-Some-link.ensures)
    (subst (λ (ons : List PreparedSendOn). ons ≡ []) c.in_ok-ons.ensures
    (nil_from_length c.in_ok-ons.ons.items none))

pub returns : goal.returns
returns c =
    let some : 0 < length c.in_ok-ons.ons.items =
    grind (arith, nat_tests, c.is_empty.ensures, c.if-is_empty.false) in
    lets-go-on c.args.session.now c.args.number c.args.said c.in-Some.handle (sym c.in-Some.ensures)
    c.in-Some-link.link.now (sym c.in-Some-link.ensures)
    (record { ons = c.in_ok-ons.ons; closing = c.in_ok-closing.closing })
    c.in_ok-ons.ensures
    (λ none. absurd (omega (arith, some, ap (λ (ons : List PreparedSendOn). length ons) none)))
    (subst
    (λ (count : ℕ). IsDeepClosing c.args.session.now c.args.number c.in-Some.handle count c.in_ok-closing.closing)
    c.open_count.ensures c.in_ok-closing.ensures)
