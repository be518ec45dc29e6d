-- Pairs compared: by their keys first, and then by their values.
use Rattle.std.specs.Prelude.{Bool, ◌&&◌, ◌++◌, Option}
use Rattle.std.specs.Hash.{HashWrites}
use Rattle.std.specs.Ordering.{ordering_then, partial_ordering_then}
use Rattle.std.specs.declared.cmp.Ordering.{Ordering}

module _ {K V : Type 0} where
  -- the keys are equal, and so are the values
  abbrev pub same_pair : (K → K → Bool) → (V → V → Bool) → K × V → K × V → Bool
  same_pair same_key same_value p q = same_key p.0 q.0 && same_value p.1 q.1

  abbrev pub pair_order : (K → K → Ordering) → (V → V → Ordering) → K × V → K × V → Ordering
  pair_order by_key by_value p q = ordering_then (by_key p.0 q.0) (by_value p.1 q.1)

  abbrev pub partial_pair_order : (K → K → Option Ordering) → (V → V → Option Ordering) → K × V → K × V
      → Option Ordering
  partial_pair_order by_key by_value p q = partial_ordering_then (by_key p.0 q.0) (by_value p.1 q.1)

  -- what a pair feeds a hasher
  abbrev pub pair_fed : (K → HashWrites) → (V → HashWrites) → K × V → HashWrites
  pair_fed key_fed value_fed p = key_fed p.0 ++ value_fed p.1
