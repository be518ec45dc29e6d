use Rattle.std.proofs.Common.{◌≡◌, ℕ, ◌++◌, List}
use Rattle.amqp_link_unsettled.specs.Listing.{entries_listed}
use Rattle.amqp_link_unsettled.proofs.map.UnsettledMap.list.Given as goal

abbrev pub invariant-loop-tag : goal.invariant-loop-tag
invariant-loop-tag g l =
    (goal.iterator-loop-tag g).can_next l.tag-iterator
    × (goal.iterator-loop-tag g).is_finite l.tag-iterator
    × (done : List (List ℕ × g.row.M.Denot)) × (l.fn.self.entries ≡ done ++ l.tag-iterator) × (l.list ≡ entries_listed g.M.Listed.listed done)
