-- What a link's end holds once a `&mut` to its properties has ended.
use Rattle.std.specs.Borrow.{Lends, Fml, RattleType, MutBor}
use Rattle.std.specs.Hash as fed
use Rattle.std.specs.Str.{bytes_eq}
use Rattle.std.specs.contracts.option.Option as option
use Rattle.serde_amqp_types.specs.contracts.symbol.Symbol as symbol
use Rattle.serde_amqp_values.specs.contracts.raw_value.RawValue as raw
use Rattle.serde_amqp_values.specs.Lends.{map_row}
use Rattle.amqp_session_types.specs.contracts.boxed.Boxed as boxed
use Rattle.amqp_link_base.specs.declared.inner.LinkFlowStateInner.{LinkFlowStateInner}
use Rattle.amqp_link_base.specs.contracts.flow_state.LinkFlowState.{the_row}

-- the properties' type, as the logic holds it
abbrev pub properties_row : RattleType
properties_row =
    option.the_row (boxed.the_row (map_row symbol.the_row raw.the_row (record { eq = bytes_eq; hash_input = fed.str })))

module _ (R : RattleType) (s : MutBor LinkFlowStateInner) where
  -- the properties are the last ones behind r, and all else stays
  abbrev pub lends_properties : MutBor properties_row.Denot → Fml
  lends_properties r = Lends (the_row R) properties_row s r (λ p. record s.now { properties = p })
