-- What an `OrderedMap` holds once a `&mut` into it has ended.
use Rattle.std.specs.Prelude.{List, Bool, Option}
use Rattle.std.specs.Borrow.{Fml, GName, RattleType, MutBor, Lends, LendsIf, follows}
use Rattle.std.specs.Hash.BuildHasherDefault.{initial_hasher}
use Rattle.std.specs.HashMap.Lent.{HashMembers}
use Rattle.std.specs.Map.{set_value}
use Rattle.std.specs.contracts.alloc.Global as global
use Rattle.std.specs.contracts.hash.FoldHasher as fold_hasher
use Rattle.std.specs.contracts.hash.BuildHasherDefault as build_hasher
use Rattle.std.specs.contracts.impls.GlobalAllocator.TheImpl as heap
use Rattle.std.specs.contracts.prelude.FoldHasherHasher.TheImpl as folds
use Rattle.indexmap.specs.contracts.map.IndexMap as index_map
use Rattle.serde_amqp_values.specs.contracts.map.OrderedMap.{the_row}

module _ (K V : RattleType) (key : HashMembers K.Denot) where
  -- the map's type, as the logic holds it
  abbrev pub map_row : RattleType
  map_row = the_row K V (record { eq = key.eq }) (record { hash_input = key.hash_input })

  -- the type of the `IndexMap` inside
  abbrev pub inner_row : RattleType
  inner_row =
      index_map.the_row K V (build_hasher.the_row fold_hasher.the_row) global.the_row fold_hasher.the_row
      (record { eq = key.eq }) (record { hash_input = key.hash_input }) (record { build_hasher = initial_hasher })
      folds.ghosts heap.ghosts

  module _ (m : MutBor (List (K.Denot × V.Denot))) where
    -- the map has the pairs of the last `IndexMap` behind r
    abbrev pub lends_inner : MutBor inner_row.Denot → Fml
    lends_inner r = Lends map_row inner_row m r (λ n. n.entries)

    -- the key that passes the test has the last value behind r, and at `None` the map stays as it is
    abbrev pub lends_value : (K.Denot → Bool) → Option (MutBor V.Denot) → Fml
    lends_value test r = LendsIf map_row V m r (λ w. set_value test m.now w) m.now

    -- the map has the pairs of the last `IndexMap` behind the reference with this name
    abbrev pub lends_inner_to : GName → Fml
    lends_inner_to r = follows map_row inner_row m.ghost_name r (λ n. n.entries)
