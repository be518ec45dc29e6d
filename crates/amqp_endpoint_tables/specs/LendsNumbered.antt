-- What stands by numbers, where one of it is lent to be changed.
use Rattle.std.specs.Prelude.{ℕ, Option}
use Rattle.std.specs.Borrow.{Lends, LendsIf, Fml, RattleType, MutBor}
use Rattle.amqp_endpoint_tables.specs.Spread.{Slots, with_slot}
use Rattle.amqp_endpoint_tables.specs.contracts.numbered.Numbered.{the_row}

module _ (X : RattleType) (s : MutBor (Slots X.Denot)) where
  -- once the borrow r ends, what was written through r lives at the number
  abbrev pub lends_slot : ℕ → Option (MutBor X.Denot) → Fml
  lends_slot number r = LendsIf (the_row X) X s r (with_slot s.now number) s.now

  -- the same where something lives there
  abbrev pub lends_living : ℕ → MutBor X.Denot → Fml
  lends_living number r = Lends (the_row X) X s r (with_slot s.now number)
