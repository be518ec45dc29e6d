-- What the iterator of `drain` gives.
use Rattle.std.specs.Iterator.Runs.{YieldsInOrder, YieldsInReverse}
use Rattle.std.specs.declared.alloc.Global.{Global}
use Rattle.std.specs.declared.hash.BuildHasherDefault.{BuildHasherDefault}
use Rattle.std.specs.declared.hash.FoldHasher.{FoldHasher}
use Rattle.indexmap.specs.Drain.{drain_rest, DrainSteps, DrainStepsBack}
use Rattle.indexmap.specs.declared.map.drain.Drain.{Drain}

-- the iterator over an `OrderedMap`
abbrev pub MapDrain : Type 0 → Type 0 → Type 0
MapDrain K V = Drain K V (BuildHasherDefault FoldHasher) Global FoldHasher

module _ (K V : Type 0) where
  -- each run of `next` gives the pairs that are still to come, in order
  abbrev pub DrainsInOrder : Type 0
  DrainsInOrder = YieldsInOrder {S = MapDrain K V} DrainSteps drain_rest

  -- each run of `next_back` gives them from the last on
  abbrev pub DrainsInReverse : Type 0
  DrainsInReverse = YieldsInReverse {S = MapDrain K V} DrainStepsBack drain_rest
