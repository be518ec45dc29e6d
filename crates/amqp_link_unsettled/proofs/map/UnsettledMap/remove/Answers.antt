use Rattle.std.proofs.Common.{◌≡◌, ap, arith, rules, length, List, Option, Some, None, ℕ}
use Rattle.std.specs.Map.{lookup}
use Rattle.std.specs.Option.{option_to_list}
use Rattle.std.specs.Str.{bytes_eq}
use Rattle.amqp_link_unsettled.specs.Rising.{standing}
use Rattle.amqp_link_unsettled.proofs.Live.{removed-count}
use Rattle.amqp_link_unsettled.proofs.map.UnsettledMap.remove.Goals as goal

pub invariant_of-self : goal.invariant_of-self
invariant_of-self g c =
    let before = standing c.self.inside.slots.entries in
    let found : lookup (bytes_eq c.args.tag.now) before ≡ None = search rules in
    let count = ap (λ (xs : List (List ℕ × _)). length xs) c.take_out.ensures.others in (
      omega (arith, removed-count (bytes_eq c.args.tag.now) before, ap (λ (o : Option _). length (option_to_list o)) found, count, c.self.invariant.0),
      omega (arith, c.self.invariant.1, c.take_out.ensures.room),
      c.take_out.ensures.order c.self.inside.bound c.self.invariant.2,
    )

pub invariant_of-self-2 : goal.invariant_of-self-2
invariant_of-self-2 g c =
    let before = standing c.self.inside.slots.entries in
    let found : lookup (bytes_eq c.args.tag.now) before ≡ Some c.in_ok-message.message = search rules in
    let count = ap (λ (xs : List (List ℕ × _)). length xs) c.take_out.ensures.others in
    let swept = ap (λ (xs : List (List ℕ × _)). length xs) c.sweep_where_due.ensures.entries in (
      omega (arith, removed-count (bytes_eq c.args.tag.now) before, ap (λ (o : Option _). length (option_to_list o)) found, count, swept, c.self.invariant.0),
      omega (arith, c.self.invariant.1, c.take_out.ensures.room, c.sweep_where_due.ensures.room),
      c.sweep_where_due.ensures.order c.self.inside.bound (c.take_out.ensures.order c.self.inside.bound c.self.invariant.2),
    )
