-- What an endpoint's links end as, where one that is at rest is lent to be changed.
use Rattle.std.specs.Prelude.{ℕ, Option}
use Rattle.std.specs.Borrow.{LendsIf, Fml, RattleType, MutBor}
use Rattle.amqp_endpoint_tables.specs.declared.link_place.LinkPlace.TheVariants.{AtRest}
use Rattle.amqp_endpoint_tables.specs.LinkState.{State, put}
use Rattle.amqp_endpoint_tables.specs.contracts.links.Links.{the_row}

module _ (L : RattleType) (s : MutBor (State L.Denot)) where
  -- once the borrow r ends, the link with this number is what was written through r
  abbrev pub lends_at_rest : ℕ → Option (MutBor L.Denot) → Fml
  lends_at_rest number r = LendsIf (the_row L) L s r (λ link. put s.now number (AtRest link)) s.now
