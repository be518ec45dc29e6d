use Rattle.std.proofs.Common.{◌≡◌, ◌∙◌, ℕ, List, [], ◌∷◌, ◌++◌, None, append_assoc, ap, sym, rules}
use Rattle.std.specs.Map.{lookup}
use Rattle.std.specs.Str.{bytes_eq}
use Rattle.amqp_link_unsettled.specs.Listing.{Entries}
use Rattle.amqp_link_unsettled.proofs.Adding.{tag-is-new, listed-more}
use Rattle.amqp_link_unsettled.proofs.map.UnsettledMap.list.Goals as goal

pub add-requires : goal.add-requires
add-requires g c =
    let before = c.loop-tag.invariant in
    let step : c.loop-tag.tag-iterator ≡ (c.in-Some.tag.now, c.in-Some.message.now) ∷ c.next.new.self = search rules in
    ap (λ (es : Entries). lookup (bytes_eq c.in-Some.tag.now) es) before.4
    ∙ tag-is-new g.M.Listed.listed c.args.self.now.entries before.2 c.next.new.self c.in-Some.tag.now c.in-Some.message.now c.iter-tag-items.ensures.apart
    (before.3 ∙ ap (λ (xs : List (List ℕ × g.row.M.Denot)). before.2 ++ xs) step)

pub loop-tag-preserved : goal.loop-tag-preserved
loop-tag-preserved g c =
    let before = c.loop-tag.invariant in
    let step : c.loop-tag.tag-iterator ≡ (c.in-Some.tag.now, c.in-Some.message.now) ∷ c.next.new.self = search rules in (
      tt,
      tt,
      before.2 ++ (c.in-Some.tag.now, c.in-Some.message.now) ∷ [],
      before.3
          ∙ ap (λ (xs : List (List ℕ × g.row.M.Denot)). before.2 ++ xs) step
          ∙ sym (append_assoc before.2 ((c.in-Some.tag.now, c.in-Some.message.now) ∷ []) c.next.new.self),
      c.in_ok-add.ensures
          ∙ ap (λ (es : Entries). es ++ (c.in-Some.tag.now, g.M.Listed.listed c.in-Some.message.now) ∷ []) before.4
          ∙ sym (listed-more g.M.Listed.listed before.2 c.in-Some.tag.now c.in-Some.message.now),
    )
