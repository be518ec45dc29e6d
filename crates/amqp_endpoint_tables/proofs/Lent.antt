-- A link at rest that is lent.
use Rattle.std.proofs.Common.{◌≡◌, ℕ, Option, Some, None, sym, ap, slice_get, slice_set, slice_index_or}
use Rattle.std.proofs.lemmas.Option.{get_or_from_slice_get}
use Rattle.amqp_endpoint_tables.specs.declared.link_place.LinkPlace.TheVariants.{AtRest}
use Rattle.amqp_endpoint_tables.specs.declared.link_place.Named.{Named}
use Rattle.amqp_endpoint_tables.specs.LinkState.{State, moved, put}

module _ {L : Type 0} (s : State L) (n : ℕ) (link : Named L) (here : slice_get s.links n ≡ Some (Some link)) where
  pub lent_slot : Some link ≡ slice_index_or s.links n (Some link)
  lent_slot = sym (get_or_from_slice_get s.links n (Some link) (Some link) here)

  pub lent_rest : (w : L)
      → record s { links = slice_set s.links n (Some (record link { place = AtRest w })) } ≡ put s n (AtRest w)
  lent_rest w =
      ap (λ (o : Option (Named L)). record s { links = slice_set s.links n (moved o (AtRest w)) })
      (sym (get_or_from_slice_get s.links n (Some link) None here))
