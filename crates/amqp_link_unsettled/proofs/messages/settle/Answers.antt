use Rattle.std.proofs.Common.{◌≡◌, ℕ, List, [], ◌∷◌, ◌++◌, Some, sym, ap, ◌∙◌, arith, length}
use Rattle.std.specs.Map.{lookup}
use Rattle.std.specs.Str.{bytes_eq}
use Rattle.amqp_link_unsettled.specs.Entries.{Kept}
use Rattle.amqp_link_unsettled.specs.declared.open.Open.{Open}
use Rattle.amqp_link_unsettled.proofs.Tagging.{tagged-lookup, length-remove_open}
use Rattle.amqp_link_unsettled.proofs.messages.settle.Goals as goal

pub returns-clause-resolved : goal.returns-clause-resolved
returns-clause-resolved c =
    let found : lookup (bytes_eq c.args.tag.now) c.args.unsettled.now.entries ≡ Some c.unwrap.result = sym c.remove.ensures.value ∙ c.unwrap.ensures in
    c.push_back_reserved.ensures.items
    ∙ ap (λ (t : List ℕ). c.args.resolved.now.items ++ (t, c.args.resolution) ∷ [])
    (c.into_tag-tag.ensures ∙ tagged-lookup c.args.tag.now c.args.unsettled.now.entries c.unwrap.result c.requires.tagged found)

pub returns-clause-len : goal.returns-clause-len
returns-clause-len c =
    omega (arith, length-remove_open c.args.tag.now c.args.unsettled.now.entries c.requires.open, c.push_back_reserved.ensures.len, ap (λ (k : Kept Open). length k.entries) c.remove.ensures.others)
