-- What sessions end as, where a part of them is lent to be changed.
use Rattle.std.specs.Prelude.{ℕ, Option, Some, None, List, slice_index_or, slice_set, false}
use Rattle.std.specs.Borrow.{Lends, LendsIf, Fml, RattleType, MutBor}
use Rattle.amqp_session_frames.specs.contracts.connection.Connection.{the_row as connection_row}
use Rattle.amqp_session_frames.specs.State as channels
use Rattle.amqp_endpoint_tables.specs.declared.place.Place.{Place}
use Rattle.amqp_endpoint_tables.specs.declared.place.Place.TheVariants.{Over}
use Rattle.amqp_endpoint_tables.specs.declared.place.PeerEnd.TheVariants.{Missing}
use Rattle.amqp_endpoint_tables.specs.State.{State, with_asked, with_live}
use Rattle.amqp_endpoint_tables.specs.contracts.sessions.Sessions.{the_row}

module _ {A S : Type 0} where
  -- the sessions with another one at this number, where one has begun there
  abbrev pub set_live : State A S → ℕ → S → State A S
  set_live s number live =
      record s {
        places = slice_set s.places number (with_live (slice_index_or s.places number (Over Missing false)) live);
      }

  -- the same where one is asked for
  abbrev pub set_asked : State A S → ℕ → A → State A S
  set_asked s number asked =
      record s {
        places = slice_set s.places number (with_asked (slice_index_or s.places number (Over Missing false)) asked);
      }

module _ (A S : RattleType) (s : MutBor (State A.Denot S.Denot)) where
  -- once the borrow r ends, the connection is what was written through r
  abbrev pub lends_connection : MutBor channels.State → Fml
  lends_connection r = Lends (the_row A S) connection_row s r (λ c. record s.now { connection = c })

  -- once the borrow r ends, the session with this number is what was written through r
  abbrev pub lends_live : ℕ → Option (MutBor S.Denot) → Fml
  lends_live number r = LendsIf (the_row A S) S s r (set_live s.now number) s.now

  abbrev pub lends_asked : ℕ → Option (MutBor A.Denot) → Fml
  lends_asked number r = LendsIf (the_row A S) A s r (set_asked s.now number) s.now
