-- What a link's end is once a `&mut` to it has ended.
use Rattle.std.specs.Borrow.{Lends, Fml, MutBor}
use Rattle.amqp_link.specs.contracts.end.End as end
use Rattle.amqp_link.specs.contracts.end.LinkEnd as link
use Rattle.amqp_link.specs.declared.end.End.{End}

module _ (s : MutBor End) where
  -- it is the last one behind r
  abbrev pub lends_end : MutBor End → Fml
  lends_end r = Lends link.the_row end.the_row s r (λ e. e)
