-- What a session ends as, where a link of it is lent to be changed.
use Rattle.std.specs.Prelude.{ℕ, Option, Some, slice_set}
use Rattle.std.specs.Borrow.{LendsIf, Fml, RattleType, MutBor}
use Rattle.amqp_session_core.specs.State.{State}
use Rattle.amqp_session_core.specs.contracts.session.Session.{the_row}

module _ (R : RattleType) (s : MutBor (State R.Denot)) (handle : ℕ) where
  -- once the borrow r ends, the link with this own handle is what was written through r, and without a link the session
  -- stays as it is
  abbrev pub lends_link : Option (MutBor R.Denot) → Fml
  lends_link r =
      LendsIf (the_row R) R s r (λ link. record s.now { links = slice_set (s.now).links handle (Some link) }) s.now
