-- What a sending link is once a `&mut` to a part of it has ended.
use Rattle.std.specs.Borrow.{Lends, Fml, RattleType, MutBor}
use Rattle.std.specs.contracts.option.Option as option
use Rattle.amqp_session_types.specs.contracts.handles.OutputHandle as handle
use Rattle.amqp_link_base.specs.Lends.{properties_row}
use Rattle.amqp_link_sender.specs.contracts.link.SenderLink.{the_row}
use Rattle.amqp_link_sender.specs.Sending.{Sending}

-- the own handle, as the logic holds it
abbrev pub handle_row : RattleType
handle_row = option.the_row handle.the_row

module _ (s : MutBor Sending) where
  -- the properties are the last ones behind r, and all else stays
  abbrev pub lends_properties : MutBor properties_row.Denot → Fml
  lends_properties r =
      Lends the_row properties_row s r (λ p. record s.now { flow = record (s.now).flow { properties = p } })

  -- so is the own handle
  abbrev pub lends_handle : MutBor handle_row.Denot → Fml
  lends_handle r = Lends the_row handle_row s r (λ h. record s.now { base = record (s.now).base { output_handle = h } })
