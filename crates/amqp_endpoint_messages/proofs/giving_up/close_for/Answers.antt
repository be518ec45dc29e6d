use Rattle.std.proofs.Common.{◌≡◌, None, Option, true, false, ap, arith, sym, ◌∙◌}
use Rattle.std.specs.Prelude.{is_some}
use Rattle.amqp_link.specs.declared.end.End.{End}
use Rattle.amqp_endpoint_attached.proofs.There.{none_there}
use Rattle.amqp_endpoint_messages.proofs.Attached.{closed-for, no-copies}
use Rattle.amqp_endpoint_messages.proofs.giving_up.close_for.Goals as goal

pub unreachable-requires : goal.unreachable-requires
unreachable-requires c =
    let clash : false ≡ true =
    ap (λ (o : Option End). is_some o)
    (sym (none_there c.args.session.now.session c.args.closing.handle c.in_default.ensures))
    ∙ c.requires.there in absurd cc

pub push_reserved-requires : goal.push_reserved-requires
push_reserved-requires c = omega (arith, c.requires.tells)

pub tell_first-requires : goal.tell_first-requires
tell_first-requires c =
    omega (arith, c.requires.tells, c.push_reserved.ensures.len, c.push_reserved.ensures.capacity)

pub returns : goal.returns
returns c =
    closed-for c.args.closing.session c.args.error c.args.closing.count c.args.closing.handle c.args.closing.why c.in-Some.there.now
    c.args.session.now c.close_where.new.session c.tell_first.new.session c.args.out.now.items
    c.close_where.new.out.items c.args.events.now.items c.push_reserved.new.self.items c.tell_first.new.events.items
    c.in-Some.ensures c.close_where.ensures c.push_reserved.ensures.items c.tell_first.ensures.tells
    (c.tell_first.ensures.told None (no-copies c.args.closing.count _ c.new.ensures.items))
