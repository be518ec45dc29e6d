-- The link with an own handle, before and behind a change of its owner.
use Rattle.std.proofs.Common.{◌≡◌, ℕ, zero, suc, List, [], ◌∷◌, Option, Some, None, IsSome, refl, sym, ap, ◌<◌, length, arith}
use Rattle.std.proofs.lemmas.List.{get_or-set_same}
use Rattle.std.specs.Prelude.{is_some, option_map, slice_index_or, slice_set}
use Rattle.amqp_session_types.specs.declared.handles.OutputHandle.{OutputHandle}
use Rattle.amqp_session_core.specs.State.{State, link_at}
use Rattle.amqp_link.specs.declared.end.End.{End}
use Rattle.amqp_endpoint_links.specs.declared.numbered.Numbered.{Numbered}
use Rattle.amqp_endpoint_attached.specs.Linked.{LinksIn, end_in}

-- where a link stands, the list reaches
pub reaches_to : {R : Type 0} → (links : List (Option R)) (i : ℕ) (r : R) → slice_index_or links i None ≡ Some r
    → i < length links
reaches_to [] i r e = absurd cc
reaches_to (l ∷ links) zero r e = omega arith
reaches_to (l ∷ links) (suc i) r e = let h : i < length links = reaches_to links i r e in omega arith

-- another in its place is there then
pub replaced : {R : Type 0} → (s : State R) (handle : ℕ) (before after : R) → Some before ≡ link_at s handle
    → link_at (record s { links = slice_set s.links handle (Some after) }) handle ≡ Some after
replaced s handle before after there =
    get_or-set_same s.links handle (Some after) None (reaches_to s.links handle before (sym there))

pub replaced_there : {R : Type 0} → (s : State R) (handle : ℕ) (before after : R) → Some before ≡ link_at s handle
    → IsSome (link_at (record s { links = slice_set s.links handle (Some after) }) handle)
replaced_there s handle before after there = ap (λ (o : Option _). is_some o) (replaced s handle before after there)

-- the end that a link with its number is
pub end_there : (s : LinksIn) (handle : OutputHandle) (n : Numbered End) → Some n ≡ link_at s handle.0
    → end_in s handle ≡ Some n.link
end_there s handle n there = ap (λ (o : Option (Numbered End)). option_map (λ (m : Numbered End). m.link) o) (sym there)

pub none_there : (s : LinksIn) (handle : OutputHandle) → None ≡ link_at s handle.0 → end_in s handle ≡ None
none_there s handle there = ap (λ (o : Option (Numbered End)). option_map (λ (m : Numbered End). m.link) o) (sym there)

-- there is one where an end is
pub is_there_in : (s : LinksIn) (handle : OutputHandle) → IsSome (end_in s handle) → IsSome (link_at s handle.0)
is_there_in s handle there = by (link_at s handle.0) there
  where
    by : (o : Option (Numbered End)) → IsSome (option_map (λ (m : Numbered End). m.link) o) → IsSome o
    by None e = e
    by (Some n) e = refl
