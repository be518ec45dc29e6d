-- A reader of std that is in memory, with the bytes that were fetched from it and not yet taken.
use Rattle.std.specs.Prelude.{ℕ, List, [], ◌++◌, Bool, true, false, Option, Some, None}
use Rattle.std_io.specs.declared.io.kind.ErrorKind.{ErrorKind}
use Rattle.std_io.specs.declared.io.kind.ErrorKind.TheVariants.{UnexpectedEof, Other}
use Rattle.serde_amqp_item.specs.declared.error.Error.{Error}
use Rattle.serde_amqp_item.specs.declared.error.Error.TheVariants.{Io}

pub record Fetching : Type 0 where
  pub failed : Bool
  -- the bytes that were fetched and not yet taken
  pub fetched : List ℕ
  -- the bytes of the inner reader, which stand behind them
  pub behind : List ℕ
  -- the kind of the error that the inner reader answers behind its bytes; none where they just end
  pub fault : Option ErrorKind
  -- how many bytes were taken
  pub consumed : ℕ

-- none once the reader has failed
abbrev pub unless_failed : Bool → List ℕ → List ℕ
unless_failed true bytes = []
unless_failed false bytes = bytes

-- none once the reader has failed
abbrev pub fault_unless_failed : Bool → Option ErrorKind → Option ErrorKind
fault_unless_failed true fault = None
fault_unless_failed false fault = fault

abbrev pub left_of : Fetching → List ℕ
left_of f = f.fetched ++ f.behind

-- what an end of the bytes is told as, and what an error of the inner reader is: its kind, but another
-- where that is the kind that says where the bytes end
abbrev pub told_as : Option ErrorKind → Error
told_as None = Io UnexpectedEof
told_as (Some UnexpectedEof) = Io Other
told_as (Some kind) = Io kind

-- a reader that has failed: nothing is left of it, and it just ends
abbrev pub broken : Fetching → Fetching
broken f = record { failed = true; fetched = []; behind = []; fault = None; consumed = f.consumed }
