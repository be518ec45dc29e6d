use Rattle.std.proofs.Common.{sym, ap, ◌∙◌, ◌≡◌, subst, Option, Some, IfSome, nat_eq, slice_index_or, swap_remove, arith}
use Rattle.std.proofs.lemmas.Option.{slice_get-get_or}
use Rattle.indexmap.proofs.MapLemmas.{Found-position}
use Rattle.amqp_endpoint_tables.proofs.Beside.{found-at, gone-beside}
use Rattle.amqp_endpoint_tables.proofs.numbered.take_at.Goals as goal

pub returns-clause-value : goal.returns-clause-value
returns-clause-value g c =
    let ps = c.args.places.now.entries in
    let xs = c.args.live.now.items in
    let found = Found-position (nat_eq c.args.number) ps c.args.index c.requires.index in
    found-at ps xs c.requires.long c.args.number c.args.index c.requires.index
    ∙ slice_get-get_or xs c.args.index c.swap_remove.result (omega (arith, found.within, c.requires.long))
    ∙ ap (λ (x : _). Some x) (sym c.swap_remove.ensures.value)

pub returns-clause-gone : goal.returns-clause-gone
returns-clause-gone g c =
    let ps = c.args.places.now.entries in
    let xs = c.args.live.now.items in
    let qs = c.swap_remove_index.new.self.entries in
    let found = Found-position (nat_eq c.args.number) ps c.args.index c.requires.index in
    let at = slice_get-get_or ps c.args.index (0, tt) found.within in
    gone-beside c.args.number ps qs xs c.swap_remove.new.self.items c.args.index (slice_index_or ps c.args.index (0, tt))
    c.swap_remove.result c.requires.long c.requires.unique c.requires.index at
    (slice_get-get_or xs c.args.index c.swap_remove.result (omega (arith, found.within, c.requires.long))
    ∙ ap (λ (x : _). Some x) (sym c.swap_remove.ensures.value))
    (omega (arith, found.within))
    (subst (λ (o : Option _). IfSome o (λ p. qs ≡ swap_remove ps c.args.index p)) (c.swap_remove_index.ensures.entry ∙ at)
    c.swap_remove_index.ensures.entries)
    c.swap_remove.ensures.items
